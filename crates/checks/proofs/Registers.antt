-- A register searched among writes, and what that says of stale reads, of clashes and of message 7.
use mathlib.Core.Path.{◌≡◌, refl, sym, ap, ap₂, ◌∙◌}
use mathlib.Core.Bool.{Bool, true, false, cond}
use mathlib.Core.List.{List, [], ◌∷◌}
use mathlib.Core.Logic.{◌⊎◌, inl, inr}
use Prim.Native.Nat.{ℕ, ◌+◌, ◌-◌, ◌*◌, ◌≤◌, ◌<◌}
use native.Mathlib.Nat.{zero-add}
use native.Mathlib.Omega.{arith}
use lib.Dec.{eqb}
use Rattle.std.proofs.Common.{Option, Some, None, is_some}
use borrow.Author.Tests.{lt-ltb, le-ltb, eq-eqb, ne_eqb}
use Rattle.rules.specs.Tests.{both, either, any}
use Rattle.rules.specs.Stamps.{Access, Body}
use Rattle.rules.specs.Messages.{Found, nothing_found, write_of}
use Rattle.rules.specs.Check.{overwrites}
use Rattle.rules.specs.DayOrder.{stale, common}
use Rattle.rules.specs.Inner.Clashes.{clash}
use Rattle.rules.proofs.Logic.{cases, both_false, both_whole, either_none, either_false, eqb_sym}
use Rattle.rules.proofs.Lists.{none_any, any_append}
use Rattle.rules.proofs.Check.{overwrites_below}
use Rattle.rules.proofs.DayOrder.{overwrites_stale}
use Rattle.rows.specs.declared.row.RowFields.{RowFields}
use Rattle.rows.specs.Read.{access_at, accesses_at, body_at, row_of}
use Rattle.rows.specs.Inner.Rows.{BodyInside, body_part}
use Rattle.rows.proofs.Turns.{body_of_part}
use Rattle.checks.specs.Inner.RegisterWrites.{write_to, early, rewritten}
use Rattle.checks.proofs.LentParts.{accesses_turn, accesses_over, accesses_joined}

-- ---- searching

pub write_step : (a : Access) (more : List Access) (k : ℕ) → write_to (a ∷ more) k ≡ cond (eqb a.register k) (Some a.number) (write_to more k)
unfolding write_to
write_step a more k = refl

pub write_end : (k : ℕ) → write_to [] k ≡ None
unfolding write_to
write_end k = refl

there_step : (b : Bool) (v : ℕ) (w : Option ℕ) → is_some (cond b (Some v) w) ≡ either b (is_some w)
unfolding either
there_step true v w = refl
there_step false v w = refl

-- an access of its register is among these
pub among_found : (accs : List Access) (k : ℕ) → any (λ a. eqb k a.register) accs ≡ is_some (write_to accs k)
unfolding any write_to
among_found [] k = refl
among_found (a ∷ more) k = ap₂ either (eqb_sym k a.register) (among_found more k) ∙ sym (there_step (eqb a.register k) a.number (write_to more k))

-- i of n writes passed: the one at hand is of the register, or the search goes on
pub write_here : (s : List ℕ) (from n i k : ℕ) → i < n → (access_at s (9 * (from + i))).register ≡ k → write_to (accesses_at s (9 * (from + i)) (n - i)) k ≡ Some (access_at s (9 * (from + i))).number
write_here s from n i k l e = ap (λ (accs : List Access). write_to accs k) (accesses_turn s from n i l) ∙ write_step _ _ k ∙ rw (eq-eqb _ k e)

pub write_behind : (s : List ℕ) (from n i k : ℕ) → i < n → ((access_at s (9 * (from + i))).register ≡ k → ⊥) → write_to (accesses_at s (9 * (from + i)) (n - i)) k ≡ write_to (accesses_at s (9 * (from + (i + 1))) (n - (i + 1))) k
write_behind s from n i k l d = ap (λ (accs : List Access). write_to accs k) (accesses_turn s from n i l) ∙ write_step _ _ k ∙ rw (ne_eqb _ k d)

pub write_over : (s : List ℕ) (at n i k : ℕ) → n ≤ i → write_to (accesses_at s at (n - i)) k ≡ None
write_over s at n i k l = ap (λ (accs : List Access). write_to accs k) (accesses_over s at n i l) ∙ write_end k

pub ruleset write_turns = (write_here, write_behind, write_over)

-- ---- a stale read

pub stale_step : (w : ℕ) (writes : List Access) (read : Access) (more : List Access) → stale w writes (read ∷ more) ≡ either (early w writes read) (stale w writes more)
unfolding stale any
stale_step w writes read more = refl

pub stale_end : (w : ℕ) (writes : List Access) → stale w writes [] ≡ false
unfolding stale any
stale_end w writes = refl

any_whole : (test : Access → Bool) (accs : List Access) → any (λ a. both (test a) true) accs ≡ any test accs
unfolding any
any_whole test [] = refl
any_whole test (a ∷ more) = ap₂ either (both_whole (test a)) (any_whole test more)

-- it is, if the version is below and the register is found
pub early_found : (w : ℕ) (writes : List Access) (read : Access) → read.number < w → early w writes read ≡ is_some (write_to writes read.register)
early_found w writes read l = rw (lt-ltb read.number w l) (any_whole (λ a. eqb read.register a.register) writes ∙ among_found writes read.register)

pub early_not : (w : ℕ) (writes : List Access) (read : Access) → w ≤ read.number → early w writes read ≡ false
early_not w writes read l = none_any _ writes (λ a m. rw (le-ltb read.number w l) (both_false (eqb read.register a.register)))

pub ruleset early_sides = (early_found, early_not)

-- ---- a register in common

pub common_step : (a : Access) (more writes : List Access) → common (a ∷ more) writes ≡ either (rewritten writes a) (common more writes)
unfolding common any
common_step a more writes = refl

pub common_end : (writes : List Access) → common [] writes ≡ false
unfolding common any
common_end writes = refl

-- accesses that stand one behind the other, as a body's reads and its writes do
pub common_parts : (s : List ℕ) (at n m : ℕ) (writes : List Access) → common (accesses_at s at (n + m)) writes ≡ either (common (accesses_at s at n) writes) (common (accesses_at s (at + 9 * n) m) writes)
unfolding common
common_parts s at n m writes = ap (λ (accs : List Access). common accs writes) (accesses_joined s at n m) ∙ any_append (rewritten writes) (accesses_at s at n) (accesses_at s (at + 9 * n) m)

-- ---- clashes by the stamps

overwrites_not : (w : ℕ) (writes : List Access) (s : ℕ) (reads : List Access) → s ≤ w → overwrites w writes s reads ≡ false
overwrites_not w writes s reads l = go (cases (overwrites w writes s reads))
  where
    go : (overwrites w writes s reads ≡ true) ⊎ (overwrites w writes s reads ≡ false) → overwrites w writes s reads ≡ false
    go (inl h) = let k = overwrites_below w writes s reads h in absurd (omega arith)
    go (inr h) = h

module _ (s : ℕ) (x : Body) (t : ℕ) (y : Body) where
  pub clash_below : t < s → clash s x t y ≡ stale t y.writes x.reads
  unfolding clash
  clash_below l = rw (overwrites_not s x.writes t y.reads (omega arith)) (either_none _) ∙ overwrites_stale t y.writes x.reads s l

  pub clash_above : s < t → clash s x t y ≡ stale s x.writes y.reads
  unfolding clash either
  clash_above l = rw (overwrites_not t y.writes s x.reads (omega arith)) (overwrites_stale s x.writes y.reads t l)

  pub clash_level : s ≡ t → clash s x t y ≡ false
  unfolding clash
  clash_level e = either_false (overwrites_not t y.writes s x.reads (omega arith)) (overwrites_not s x.writes t y.reads (omega arith))

pub ruleset clash_sides = (clash_below, clash_above, clash_level, lt-ltb, le-ltb)

-- ---- message 7

-- the write that is found, with its transaction's stamp
abbrev pub written_at : ℕ → Option ℕ → Found
written_at stamp (Some v) = record { version = stamp; value = v }
written_at stamp None = nothing_found

pub written_as : (stamp : ℕ) (writes : List Access) (k : ℕ) → write_of stamp writes k ≡ written_at stamp (write_to writes k)
unfolding write_of write_to
written_as stamp [] k = refl
written_as stamp (a ∷ more) k = go (eqb a.register k) (written_as stamp more k)
  where
    go : (b : Bool) → write_of stamp more k ≡ written_at stamp (write_to more k) → cond b (record { version = stamp; value = a.number }) (write_of stamp more k) ≡ written_at stamp (cond b (Some a.number) (write_to more k))
    go true e = refl
    go false e = e

-- the writes of a row are those in the part where its body lies
pub writes_in : (s : List ℕ) (f : RowFields) → BodyInside s f → (row_of s f).body.writes ≡ accesses_at (body_part s f) (9 * f.reads) f.writes
unfolding row_of body_at
writes_in s f h = sym (rw zero-add at (ap (λ (x : Body). x.writes) (body_of_part s f h)))

pub written_in : (s : List ℕ) (f : RowFields) (k : ℕ) → BodyInside s f → write_of f.stamp (row_of s f).body.writes k ≡ written_at f.stamp (write_to (accesses_at (body_part s f) (9 * f.reads) f.writes) k)
written_in s f k h = written_as f.stamp _ k ∙ ap (λ (ws : List Access). written_at f.stamp (write_to ws k)) (writes_in s f h)

-- What the rows say, with one more row; and that all of them together say what the check says.
use mathlib.Core.Path.{◌≡◌, refl, sym, ap, ◌∙◌}
use mathlib.Core.Bool.{Bool, true, false, cond, ◌||◌}
use mathlib.Core.List.{List, [], ◌∷◌, ◌++◌}
use mathlib.Core.Logic.{◌⊎◌, inl, inr}
use Prim.Native.Nat.{ℕ, zero, suc, ◌+◌, ◌-◌, ◌*◌, ◌≤◌, ◌<◌}
use native.Mathlib.Nat.{zero-add}
use native.Mathlib.Omega.{arith}
use lib.Dec.{eqb, ltb, leb}
use borrow.Author.Tests.{lt-ltb, le-ltb, eqb-true, lt-leb}
use Rattle.rules.specs.Tests.{both, either, any, kept, those, greatest}
use Rattle.rules.specs.Stamps.{Body}
use Rattle.rules.specs.Tables.{Result.ABORT, Row, outcome_code, rising}
use Rattle.rules.specs.Check.{committed, prepared, accepted, Rule, overwrites, rule_a, rule_b, retry_stamp, check_by}
use Rattle.rules.specs.DayOrder.{stale, day_a, common, day_b}
use Rattle.rules.specs.Inner.Clashes.{clash}
use Rattle.rules.specs.Inner.Floor.{floor_of}
use Rattle.rules.specs.Messages as messages
use Rattle.rules.specs.Messages.{found, nothing_found, write_of}
use Rattle.rules.proofs.Logic.{impossible, cases, both_left, both_right, both_false, either_left, either_right, either_false}
use Rattle.rules.proofs.Lists.{any_append}
use Rattle.rules.proofs.Check.{overwrites_below, Counting}
use Rattle.rules.proofs.Floor.{Silent, floor_silent, abort_sure}
use Rattle.rows.specs.declared.row.RowFields.{RowFields}
use Rattle.rows.specs.Fields.{fields_at}
use Rattle.rows.specs.Read.{row_of, rows_at, accesses_at, body_at}
use Rattle.rows.specs.Inner.Places.{lower}
use Rattle.checks.specs.declared.pass.Seen.{Seen}
use Rattle.checks.specs.Inner.Passed.{seen_of, nothing_seen, raised, with_named, later, row_clashes, seen_with, PassedTo, PassedRows, answer_of, found_in}
use Rattle.checks.proofs.StateBytes.{committed_byte}
use Rattle.checks.proofs.Steps.{rows_step, rows_none, rows_behind}
use Rattle.checks.proofs.Registers.{common_parts}

-- ---- the check

-- a row is not both
committed_only : (r : Row) → committed r ≡ true → prepared r ≡ false
unfolding committed prepared
committed_only r h =
    let e : outcome_code r.outcome ≡ 3 = eqb-true _ _ h in
    rw (lt-leb (outcome_code r.outcome) 2 (omega arith)) (both_false _)

module _ (r : Row) (named : List Row) (A B C : Bool) where
  abbrev advice : List Row → ℕ
  advice rows = greatest (λ (q : Row). q.stamp) rows

  abbrev before : Seen
  before = record { advice = advice named; abort = A; retry = B; abstain = C }

  -- by whether the row is committed or prepared, and whether A and B hold of it
  one_more : (c p a b : Bool) → (c ≡ true → p ≡ false) →
      ◌≡◌ {A = Seen} (record { advice = advice (kept (both (either c p) b) r named); abort = either (both c a) A; retry = either (both c b) B; abstain = either (either (both p a) (both p b)) C })
      (cond (either c p) (with_named c r.stamp a b before) before)
  unfolding both either greatest raised with_named
  one_more true true a b only = impossible refl (only refl)
  one_more true false a true only = refl
  one_more true false a false only = refl
  one_more false true a true only = refl
  one_more false true a false only = refl
  one_more false false a b only = refl

module _ (A B : Rule) (s : ℕ) (x : Body) where
  pub seen_step : Counting A → Counting B → (r : Row) (rs : List Row) → seen_of A B s x (r ∷ rs) ≡ seen_with A B s x r (seen_of A B s x rs)
  unfolding seen_of seen_with any retry_stamp those accepted
  seen_step a-counts b-counts r rs =
      rw (a-counts committed s x r, b-counts committed s x r, a-counts prepared s x r, b-counts prepared s x r, b-counts accepted s x r)
      (one_more r (those (B accepted s x) rs) (any (A committed s x) rs) (any (B committed s x) rs) (any (λ q. either (A prepared s x q) (B prepared s x q)) rs) (committed r) (prepared r) (A (λ q. true) s x r)
      (B (λ q. true) s x r)
      (committed_only r))

  pub seen_none : seen_of A B s x [] ≡ nothing_seen
  unfolding seen_of any retry_stamp those greatest
  seen_none = refl

  pub answer_check : (rows : List Row) → answer_of (seen_of A B s x rows) ≡ check_by A B rows s x
  unfolding answer_of seen_of check_by
  answer_check rows = refl

-- ---- the rules of each check, of one row

-- "or" as the code has it
pub or_either : (a b : Bool) → (a || b) ≡ either a b
unfolding either
or_either true b = refl
or_either false b = refl

none_named : (t : ℕ) (seen : Seen) (is_committed : Bool) → with_named is_committed t false false seen ≡ seen
unfolding with_named raised both either
none_named t seen true = refl
none_named t seen false = refl

-- the merge's: a row that clashes is A's below the stamp and B's above it
module _ (s : ℕ) (x : Body) (r : Row) (seen : Seen) where
  abbrev by_a : Bool
  by_a = overwrites r.stamp r.body.writes s x.reads

  abbrev by_b : Bool
  by_b = overwrites s x.writes r.stamp r.body.reads

  clash_named : seen_with rule_a rule_b s x r seen ≡ cond (accepted r) (with_named (committed r) r.stamp by_a by_b seen) seen
  unfolding seen_with rule_a rule_b both
  clash_named = refl

  -- which of them holds is told by the stamps
  told_by : either by_a by_b ≡ true → (by_a ≡ ltb r.stamp s) × (by_b ≡ ltb s r.stamp)
  told_by h = go (cases by_a) (cases by_b)
    where
      below : by_a ≡ true → r.stamp < s
      below = overwrites_below r.stamp r.body.writes s x.reads

      above : by_b ≡ true → s < r.stamp
      above = overwrites_below s x.writes r.stamp r.body.reads

      go : (by_a ≡ true) ⊎ (by_a ≡ false) → (by_b ≡ true) ⊎ (by_b ≡ false) → (by_a ≡ ltb r.stamp s) × (by_b ≡ ltb s r.stamp)
      go (inl a) (inl b) = let l = below a in let g = above b in absurd (omega arith)
      go (inl a) (inr b) = let l = below a in (a ∙ sym (lt-ltb _ _ l), b ∙ sym (le-ltb s r.stamp (omega arith)))
      go (inr a) (inl b) = let g = above b in (a ∙ sym (le-ltb r.stamp s (omega arith)), b ∙ sym (lt-ltb _ _ g))
      go (inr a) (inr b) = impossible h (either_false a b)

  pub seen_clash : row_clashes s x r ≡ true → seen_with rule_a rule_b s x r seen ≡ with_named (committed r) r.stamp (ltb r.stamp s) (ltb s r.stamp) seen
  unfolding clash
  seen_clash h = let (a, b) = told_by (both_right _ _ h) in clash_named ∙ rw (both_left _ _ h, a, b)

  pub seen_clear : row_clashes s x r ≡ false → seen_with rule_a rule_b s x r seen ≡ seen
  unfolding clash both
  seen_clear h = clash_named ∙ go (cases (accepted r))
    where
      go : (accepted r ≡ true) ⊎ (accepted r ≡ false) → cond (accepted r) (with_named (committed r) r.stamp by_a by_b seen) seen ≡ seen
      go (inr e) = rw e
      go (inl e) =
          let n : either by_a by_b ≡ false = rw e at h in
          rw (e, either_left by_a by_b n, either_right by_a by_b n) (none_named r.stamp seen (committed r))

pub ruleset clash_says = (seen_clash, seen_clear, committed_byte)

-- that of messages 1: what a row accesses, its reads and its writes, is asked at once
pub later_above : (s : ℕ) (x : Body) (t : ℕ) (y : Body) → s < t → later s x t y ≡ common (y.reads ++ y.writes) x.writes
unfolding later both common
later_above s x t y l = rw (lt-ltb s t l) (sym (any_append _ y.reads y.writes))

pub later_not : (s : ℕ) (x : Body) (t : ℕ) (y : Body) → t ≤ s → later s x t y ≡ false
unfolding later both
later_not s x t y l = rw (le-ltb s t l)

pub ruleset later_sides = (later_above, later_not)

-- as a row has its body in the lent bytes: its reads and its writes stand one behind the other
pub later_lent : (s : ℕ) (body : List ℕ) (reads writes t : ℕ) (held : List ℕ) (n m : ℕ) → both (ltb s t) (common (accesses_at held 0 (n + m)) (accesses_at body (9 * reads) writes)) ≡ later s (body_at body 0 reads writes) t (body_at held 0 n m)
unfolding later body_at
later_lent s body reads writes t held n m =
    let e : 0 + 9 * reads ≡ 9 * reads = zero-add (9 * reads) in
    rw e (ap (both (ltb s t)) (common_parts held 0 n m (accesses_at body (9 * reads) writes)))

module _ (image : List ℕ) (f : RowFields) (s : ℕ) (x : Body) (seen : Seen) where
  day_named : seen_with day_a day_b s x (row_of image f) seen ≡ cond (accepted (row_of image f)) (with_named (committed (row_of image f)) f.stamp (stale f.stamp (row_of image f).body.writes x.reads) (later s x f.stamp (row_of image f).body) seen) seen
  unfolding seen_with day_a day_b later both row_of
  day_named = refl

  pub day_accepted : accepted (row_of image f) ≡ true → with_named (eqb f.outcome 3) f.stamp (stale f.stamp (row_of image f).body.writes x.reads) (later s x f.stamp (row_of image f).body) seen ≡ seen_with day_a day_b s x (row_of image f) seen
  day_accepted e = rw (← committed_byte image f) (sym (day_named ∙ rw e))

  pub day_neither : accepted (row_of image f) ≡ true → (stale f.stamp (row_of image f).body.writes x.reads || later s x f.stamp (row_of image f).body) ≡ false → seen ≡ seen_with day_a day_b s x (row_of image f) seen
  day_neither e h =
      let a = stale f.stamp (row_of image f).body.writes x.reads in
      let b = later s x f.stamp (row_of image f).body in
      let n : either a b ≡ false = sym (or_either a b) ∙ h in
      sym (none_named f.stamp seen (eqb f.outcome 3)) ∙ rw (either_left a b n, either_right a b n) at (day_accepted e)

  pub day_passed : accepted (row_of image f) ≡ false → seen ≡ seen_with day_a day_b s x (row_of image f) seen
  day_passed e = sym (day_named ∙ rw e)

pub ruleset day_says = (day_accepted, day_neither, day_passed)

-- ---- a pass over all rows, from the last to the first

-- before the first one none was passed
pub passed_none : (step : Seen → ℕ → Seen → Type 0) (n : ℕ) (seen : Seen) → seen ≡ nothing_seen → PassedTo step n (n - n) seen
unfolding PassedTo
passed_none step n seen e = let k : n - n ≡ 0 = omega arith in rw k e

-- one more row was passed
pub passed_more : (step : Seen → ℕ → Seen → Type 0) (n i : ℕ) (seen next : Seen) → 0 < i → i ≤ n → PassedTo step n (n - i) seen → step seen (i - 1) next → PassedTo step n (n - (i - 1)) next
unfolding PassedTo
passed_more step n i seen next l h p q =
    let k : n - (i - 1) ≡ suc (n - i) = omega arith in
    let e : n - suc (n - i) ≡ i - 1 = omega arith in
    rw k (seen, p, rw e q)

-- a row that was passed where A has spoken
pub passed_sure : (step : Seen → ℕ → Seen → Type 0) (silent n i : ℕ) (seen next : Seen) → 0 < i → i ≤ n → PassedTo step n (n - i) seen → step seen (i - 1) next → next.abort ≡ true → PassedRows step silent n next
passed_sure step silent n i seen next l h p q sure = (n - (i - 1), omega arith, passed_more step n i seen next l h p q, inr sure)

module _ (A B : Rule) (a-counts : Counting A) (b-counts : Counting B) (image : List ℕ) (begin n s : ℕ) (x : Body) where
  -- what the rows from i on say
  abbrev pub SeenFrom : ℕ → Seen → Type 0
  SeenFrom i seen = seen ≡ seen_of A B s x (rows_at image (begin + 24 * i) (n - i))

  -- nothing was passed
  pub pass_begins : SeenFrom n nothing_seen
  pass_begins = sym (ap (seen_of A B s x) (rows_none image _ n) ∙ seen_none A B s x)

  -- one more row
  pub pass_goes_on : (i : ℕ) (seen : Seen) → 0 < i → i ≤ n → SeenFrom i seen → SeenFrom (i - 1) (seen_with A B s x (row_of image (fields_at image (begin + 24 * (i - 1)))) seen)
  pass_goes_on i seen l h e = rw e (sym (ap (seen_of A B s x) (rows_step image begin n i l h) ∙ seen_step A B s x a-counts b-counts _ _))

  -- the rows that were not passed lie below the floor: those that were say all that there is to say
  pub pass_ends : Silent A → Silent B → rising 0 (rows_at image begin n) ≡ true → (i : ℕ) (seen : Seen) → i ≤ n → i ≤ lower (rows_at image begin n) (floor_of s x.reads) → SeenFrom i seen → answer_of seen ≡ check_by A B (rows_at image begin n) s x
  unfolding lower
  pass_ends silent-a silent-b rise i seen h below e =
      ap answer_of e ∙ answer_check A B s x _ ∙ sym (floor_silent A B s x silent-a silent-b 0 i (rows_at image begin n) rise below ∙ ap (λ (rows : List Row). check_by A B rows s x) (rows_behind image begin n i h))

  -- an ABORT is sure, whatever the rows before say
  pub pass_sure : (i : ℕ) (seen : Seen) → i ≤ n → seen.abort ≡ true → SeenFrom i seen → answer_of seen ≡ check_by A B (rows_at image begin n) s x
  unfolding answer_of seen_of
  pass_sure i seen h sure e =
      let fires : any (A committed s x) (rows_at image (begin + 24 * i) (n - i)) ≡ true = sym (ap (λ (q : Seen). q.abort) e) ∙ sure in
      let says : answer_of seen ≡ ABORT = rw sure in
      says ∙ sym (abort_sure A B s x i (rows_at image begin n) (rw (rows_behind image begin n i h) fires))

  -- so many rows were passed by steps, each of which takes one row into account
  passed_from : (step : Seen → ℕ → Seen → Type 0) → ((seen : Seen) (i : ℕ) (next : Seen) → i < n → step seen i next → next ≡ seen_with A B s x (row_of image (fields_at image (begin + 24 * i))) seen) → (k : ℕ) (seen : Seen) → k ≤ n → PassedTo step n k seen → SeenFrom (n - k) seen
  unfolding PassedTo
  passed_from step says zero seen l e = let m : n - 0 ≡ n = omega arith in rw (m, e) pass_begins
  passed_from step says (suc k) seen l (before, p, q) =
      let m : n - suc k ≡ n - k - 1 = omega arith in
      rw (m, rw m at (says before (n - suc k) seen (omega arith) q)) (pass_goes_on (n - k) before (omega arith) (omega arith) (passed_from step says k before (omega arith) p))

  -- and those that were not are silent, or A has spoken
  pub passed_says : Silent A → Silent B → rising 0 (rows_at image begin n) ≡ true → (step : Seen → ℕ → Seen → Type 0) (silent : ℕ) (seen : Seen) → silent ≡ lower (rows_at image begin n) (floor_of s x.reads) → PassedRows step silent n seen → ((seen : Seen) (i : ℕ) (next : Seen) → i < n → step seen i next → next ≡ seen_with A B s x (row_of image (fields_at image (begin + 24 * i))) seen) → answer_of seen ≡ check_by A B (rows_at image begin n) s x
  passed_says silent-a silent-b rise step silent seen e (k, l, p, inl below) says = pass_ends silent-a silent-b rise (n - k) seen (omega arith) (rw (← e) (omega arith)) (passed_from step says k seen l p)
  passed_says silent-a silent-b rise step silent seen e (k, l, p, inr sure) says = pass_sure (n - k) seen (omega arith) sure (passed_from step says k seen l p)

-- ---- message 7

pub found_step : (r : Row) (rs : List Row) (s k : ℕ) → found (r ∷ rs) s k ≡ messages.later (found_in r s k) (found rs s k)
unfolding found found_in
found_step r rs s k = refl

pub found_none : (s k : ℕ) → found [] s k ≡ nothing_found
unfolding found
found_none s k = refl

-- what a row gives, by its outcome byte
pub found_byte : (s : List ℕ) (f : RowFields) (stamp k : ℕ) → found_in (row_of s f) stamp k ≡ cond (both (eqb f.outcome 3) (leb f.stamp stamp)) (write_of f.stamp (row_of s f).body.writes k) nothing_found
unfolding found_in row_of
found_byte s f stamp k = rw (← committed_byte s f)

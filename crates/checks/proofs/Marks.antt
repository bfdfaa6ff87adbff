-- Registers marked one after the other, and what is not marked.
use mathlib.Core.Path.{◌≡◌, refl, sym, ap, ◌∙◌}
use mathlib.Core.Bool.{Bool, true, false}
use mathlib.Core.List.Memᴰ
use mathlib.Core.List.{List, [], ◌∷◌}
use mathlib.Core.Logic.{◌⊎◌, inl, inr}
use Prim.Native.Nat.{ℕ, ◌%◌, ◌<◌}
use lib.Dec.{eqb}
use lib.ListN.{length, get_or, set, length-set}
use lib.Seq.{get_or-set_same, get_or-set_other}
use borrow.Author.Tests.{eqb-true, eqb-false}
use Rattle.rules.specs.Tests.{any, either}
use Rattle.rules.specs.Stamps.{Access}
use Rattle.rules.specs.DayOrder.{stale}
use Rattle.rules.proofs.Logic.{same?, so_neither}
use Rattle.rules.proofs.Lists.{◌∈◌, any_none, any_some}
use Rattle.rules.proofs.DayOrder.{stale_at}
use Rattle.checks.specs.Inner.RegisterWrites.{Marked, any_marked}

-- ---- marking

-- of all, each is marked or among the rest
pub record MarkedTo (marks : List Bool) (rest all : List Access) : Type 0 where
  pub marks_of : length marks ≡ 64
  pub known : (a : Access) → a ∈ all → (get_or marks (a.register % 64) false ≡ true) ⊎ (a ∈ rest)

pub marks_begin : (marks : List Bool) (all : List Access) → length marks ≡ 64 → MarkedTo marks all all
marks_begin marks all l = record { marks_of = l; known = λ a m. inr m }

-- a mark that is set stays, and the one that is set now is
set_stays : (marks : List Bool) (i j : ℕ) → i < length marks → get_or marks j false ≡ true → get_or (set marks i true) j false ≡ true
set_stays marks i j l h = go (same? j i)
  where
    go : (j ≡ i) ⊎ (eqb j i ≡ false) → get_or (set marks i true) j false ≡ true
    go (inl e) = rw e (get_or-set_same marks i true false l)
    go (inr n) = get_or-set_other marks i j true false (eqb-false j i n) ∙ h

pub marks_go_on : (marks : List Bool) (b : Access) (rest all : List Access) → b.register % 64 < 64 → MarkedTo marks (b ∷ rest) all → MarkedTo (set marks (b.register % 64) true) rest all
marks_go_on marks b rest all inside m = record { marks_of = length-set marks (b.register % 64) true ∙ m.marks_of; known = λ a i. go a (m.known a i) }
  where
    here : b.register % 64 < length marks
    here = rw m.marks_of inside

    by : (a : Access) → a ∈ (b ∷ rest) → (get_or (set marks (b.register % 64) true) (a.register % 64) false ≡ true) ⊎ (a ∈ rest)
    by a (Memᴰ.head e) = inl (rw e (get_or-set_same marks (b.register % 64) true false here))
    by a (Memᴰ.tail i) = inr i

    go : (a : Access) → (get_or marks (a.register % 64) false ≡ true) ⊎ (a ∈ (b ∷ rest)) → (get_or (set marks (b.register % 64) true) (a.register % 64) false ≡ true) ⊎ (a ∈ rest)
    go a (inl h) = inl (set_stays marks (b.register % 64) (a.register % 64) here h)
    go a (inr i) = by a i

pub marks_end : (marks : List Bool) (all : List Access) → MarkedTo marks [] all → Marked marks all
marks_end marks all m a i = go (m.known a i)
  where
    go : (get_or marks (a.register % 64) false ≡ true) ⊎ (a ∈ []) → get_or marks (a.register % 64) false ≡ true
    go (inl h) = h
    go (inr n) = absurd (Memᴰ.not-nil n)

-- ---- looking up

pub marked_step : (marks : List Bool) (a : Access) (more : List Access) → any_marked marks (a ∷ more) ≡ either (get_or marks (a.register % 64) false) (any_marked marks more)
unfolding any_marked any
marked_step marks a more = refl

pub marked_end : (marks : List Bool) → any_marked marks [] ≡ false
unfolding any_marked any
marked_end marks = refl

-- ---- what is not marked is not there

-- one that is not marked is of none of these registers
pub unmarked_one : (marks : List Bool) (a : Access) (others : List Access) → Marked marks others → get_or marks (a.register % 64) false ≡ false → any (λ b. eqb a.register b.register) others ≡ false
unmarked_one marks a others marked n =
    so_neither _ _ (λ h. let (b, j, e) = any_some _ others h in sym n ∙ ap (λ (k : ℕ). get_or marks (k % 64) false) (eqb-true _ _ e) ∙ marked b j) refl

-- so a row of which no write is marked makes no read stale
pub unmarked_stale : (marks : List Bool) (writes reads : List Access) → Marked marks reads → any_marked marks writes ≡ false → (w : ℕ) → stale w writes reads ≡ false
unfolding any_marked
unmarked_stale marks writes reads marked none w =
    so_neither _ _ (λ h. let (read, j, (write, i, e, l)) = stale_at w writes reads h in sym (any_none _ writes none write i) ∙ ap (λ (k : ℕ). get_or marks (k % 64) false) (sym (eqb-true _ _ e)) ∙ marked read j) refl

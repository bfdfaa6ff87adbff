-- What makes tables wrong, put as the code asks for it: how many they are, then what each of them tells, then whether a box is among them twice.
use mathlib.Core.Path.{◌≡◌, refl, sym, ap, ◌∙◌}
use mathlib.Core.Bool.{Bool, true, false, not}
use mathlib.Core.List.{List, [], ◌∷◌}
use Prim.Native.Nat.{ℕ, ◌≤◌, ◌<◌}
use native.Mathlib.Omega.{arith}
use lib.Dec.{eqb}
use lib.ListN.{length}
use borrow.Author.Tests.{eqb-true, not-false}
use Rattle.rules.specs.Tests.{either, any, twice}
use Rattle.rules.specs.Groups.{f_of, quorum}
use Rattle.rules.specs.Tables.{Table, valley, normal_mode}
use Rattle.rules.specs.Merge.{group_of, are_wrong}
use Rattle.rules.proofs.Logic.{either_left, either_assoc, either_comm}
use Rattle.rules.proofs.Groups.{group_bounds}
use Rattle.table.specs.Headers.{header_at}
use Rattle.seek.proofs.HeldRows.{image_regular}
use Rattle.image_run.specs.Inner.WholeRuns.{tables_of, Images, unfit}
use Rattle.image_run.proofs.RunTurns.{Turn, turn, n_read}

-- one of two tests is passed by some table exactly if one of them is passed by some
any-either : (p q : Table → Bool) (Ts : List Table) → any (λ T. either (p T) (q T)) Ts ≡ either (any p Ts) (any q Ts)
unfolding any either
any-either p q [] = refl
any-either p q (T ∷ Ts) = go (p T) (q T) (any-either p q Ts)
  where
    go : (a b : Bool) → any (λ U. either (p U) (q U)) Ts ≡ either (any p Ts) (any q Ts) → either (either a b) (any (λ U. either (p U) (q U)) Ts) ≡ either (either a (any p Ts)) (either b (any q Ts))
    go true b e = refl
    go false true e = sym (either_comm (any p Ts) true)
    go false false e = e

unfit_parts : (n v : ℕ) (Ts : List Table) → any (unfit n v) Ts ≡ either (any (λ T. not (eqb T.n n)) Ts) (either (any (λ T. eqb T.mode normal_mode) Ts) (any (λ T. not (eqb T.promised v)) Ts))
unfit_parts n v Ts =
    any-either (λ T. not (eqb T.n n)) (λ T. either (eqb T.mode normal_mode) (not (eqb T.promised v))) Ts
    ∙ ap (either (any (λ T. not (eqb T.n n)) Ts)) (any-either (λ T. eqb T.mode normal_mode) (λ T. not (eqb T.promised v)) Ts)

wrong_parts : (v : ℕ) (Ts : List Table) → are_wrong v Ts ≡ either (not (eqb (length Ts) (quorum (f_of (group_of Ts))))) (either (any (unfit (group_of Ts) v) Ts) (twice (λ T. T.box) Ts))
unfolding are_wrong
wrong_parts v Ts =
    let others = either (any (λ T. eqb T.mode normal_mode) Ts) (any (λ T. not (eqb T.promised v)) Ts) in
    let group = any (λ T. not (eqb T.n (group_of Ts))) Ts in
    let boxes = twice (λ T. T.box) Ts in
    ap (either (not (eqb (length Ts) (quorum (f_of (group_of Ts))))))
    (ap (either group) (either_comm boxes others)
    ∙ sym (either_assoc group others boxes)
    ∙ ap (λ (b : Bool). either b boxes) (sym (unfit_parts (group_of Ts) v Ts)))

-- ---- a run that is not empty

module _ (s : List ℕ) (some : 0 < length s) (are : Images valley s) where
  t : Turn valley s 0
  t = turn s 0 some are

  pub first_room : 24 ≤ length s
  first_room = let w = t.within in let l = t.least in omega arith

  pub group_read : group_of (tables_of valley s) ≡ (header_at s).n
  group_read = ap group_of t.here ∙ n_read s

  pub group_some : 0 < (header_at s).n
  group_some = let b = (image_regular valley s t.has_image).0.box in rw (← n_read s) (omega arith)

  pub wrong_as : (v : ℕ) → are_wrong v (tables_of valley s) ≡ either (not (eqb (length (tables_of valley s)) (quorum (f_of (header_at s).n)))) (either (any (unfit (header_at s).n v) (tables_of valley s)) (twice (λ T. T.box) (tables_of valley s)))
  wrong_as v = rw (wrong_parts v (tables_of valley s), group_read)

  -- f+1 boxes of at most seven
  pub right_few : (v : ℕ) → are_wrong v (tables_of valley s) ≡ false → length (tables_of valley s) ≤ 4
  right_few v right =
      let e : length (tables_of valley s) ≡ quorum (f_of (header_at s).n) = eqb-true _ _ (not-false _ (either_left _ _ (sym (wrong_as v) ∙ right))) in
      let l : (header_at s).n ≤ 7 = rw (n_read s) at (group_bounds _ (image_regular valley s t.has_image).0.group).1 in
      omega arith

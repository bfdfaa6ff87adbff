-- A merge that is not refused: which tables it uses, and what they have.
use mathlib.Core.Path.{◌≡◌, refl}
use mathlib.Core.Bool.{true, false}
use mathlib.Core.Logic.{◌⊎◌, inl, inr}
use mathlib.Core.List.Memᴰ
use mathlib.Core.List.{List, [], ◌∷◌}
use mathlib.Core.Option.{none, some}
use Prim.Native.Nat.{ℕ, ◌≤◌}
use native.Mathlib.Omega.{arith}
use lib.Dec.{eqb}
use lib.ListN.{length}
use borrow.Author.Tests.{eqb-true, eq-eqb, ltb-false, not-false}
use Rattle.rules.specs.Tests.{some_pair, either, any, greatest}
use Rattle.rules.specs.Tables.{Outcome.done, Model, Table}
use Rattle.rules.specs.Numbers.{Number.full, Number.wrong_tables, Number.other_body, Number.contradiction}
use Rattle.rules.specs.Messages.{Check}
use Rattle.rules.specs.Merge.{used, stamps, rows_of, group_of, merged_table, are_wrong, merge_circumstances, merge_number, merge, two_bodies, contradictory}
use Rattle.rules.proofs.Logic.{impossible, cases, either_left, either_right}
use Rattle.rules.proofs.Lists.{◌∈◌, places, those_of, in_those, any_none}
use Rattle.rules.proofs.Numbers.{number_done}
use Rattle.rules.proofs.Stamps.{rows_nowhere}

-- ---- the tables that are used

-- only those of the greatest last normal view
pub used_newest : (Ts : List Table) (T : Table) → T ∈ used Ts → (T ∈ Ts) × (T.view ≡ greatest (λ U. U.view) Ts)
unfolding used
used_newest Ts T m = let (i, e) = those_of _ Ts T m in (i, eqb-true T.view (greatest (λ U. U.view) Ts) e)

-- and all of them
pub used_all : (Ts : List Table) (T : Table) → T ∈ Ts → T.view ≡ greatest (λ U. U.view) Ts → T ∈ used Ts
unfolding used
used_all Ts T m e = in_those _ Ts T m (eq-eqb T.view (greatest (λ U. U.view) Ts) e)

-- ---- not refused

-- what a merge that is not refused is
pub merge_is : (M : Model) (check : Check) (v : ℕ) (Ts : List Table) (U : Table) → merge M check v Ts ≡ some U → (merge_number M v Ts ≡ 0) × (U ≡ merged_table check v Ts)
unfolding merge
merge_is M check v Ts U h = go (cases (eqb (merge_number M v Ts) 0))
  where
    go : (eqb (merge_number M v Ts) 0 ≡ true) ⊎ (eqb (merge_number M v Ts) 0 ≡ false) → (merge_number M v Ts ≡ 0) × (U ≡ merged_table check v Ts)
    go (inl e) = let k : some (merged_table check v Ts) ≡ some U = rw e at h in (eqb-true (merge_number M v Ts) 0 e, cc)
    go (inr e) = let k : none ≡ some U = rw e at h in let z : ◌≡◌ {A = ℕ} 0 1 = cc in absurd (omega arith)

module _ (M : Model) (v : ℕ) (Ts : List Table) (done : merge_number M v Ts ≡ 0) where
  pub merge_right : are_wrong v Ts ≡ false
  unfolding merge_number merge_circumstances
  merge_right = number_done (merge_circumstances M v Ts) done wrong_tables (are_wrong v Ts) (search places depth 11) (search places)

  pub merge_one_body : (s : ℕ) → two_bodies (rows_of (used Ts) s) ≡ false
  unfolding merge_number merge_circumstances two_bodies some_pair any
  merge_one_body = rows_nowhere two_bodies refl (used Ts) (number_done (merge_circumstances M v Ts) done other_body _ (search places depth 11) (search places))

  pub merge_clear : (s : ℕ) → contradictory (rows_of (used Ts) s) ≡ false
  unfolding merge_number merge_circumstances contradictory some_pair any either
  merge_clear = rows_nowhere contradictory refl (used Ts) (number_done (merge_circumstances M v Ts) done contradiction _ (search places depth 11) (search places))

  pub merge_fits : length (stamps (used Ts)) ≤ M.row_limit
  unfolding merge_number merge_circumstances
  merge_fits = ltb-false _ _ (number_done (merge_circumstances M v Ts) done full _ (search places depth 11) (search places))

  -- there is a first table: of its group, and it promised v
  pub first_table : (T : Table) × (T ∈ Ts) × (group_of Ts ≡ T.n) × (T.promised ≡ v)
  unfolding are_wrong
  first_table = go Ts merge_right
    where
      go : (Us : List Table) → are_wrong v Us ≡ false → (T : Table) × (T ∈ Us) × (group_of Us ≡ T.n) × (T.promised ≡ v)
      go [] h = impossible refl (either_left _ _ h)
      go (T ∷ Us) h =
          let p = either_right _ _ (either_right _ _ (either_right _ _ (either_right _ _ h))) in
          (T, Memᴰ.head refl, refl, eqb-true T.promised v (not-false _ (any_none _ (T ∷ Us) p T (Memᴰ.head refl))))

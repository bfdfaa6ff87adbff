-- Tests of equality for rows and tables: what passes is equal.
use mathlib.Core.Path.{◌≡◌, refl, sym, ap, ap₂, ◌∙◌}
use mathlib.Core.Bool.{Bool, true, false, not, cond}
use mathlib.Core.List.{List, [], ◌∷◌}
use Prim.Native.Nat.{ℕ}
use lib.Dec.{eqb}
use borrow.Author.Tests.{eqb-true, eq-eqb}
use Rattle.rules.specs.Tests.{both}
use Rattle.rules.specs.Stamps.{same_body}
use Rattle.rules.specs.Tables.{Prepare, Verdict.commit, Verdict.abort, Outcome, Outcome.no_outcome, Outcome.noted, Outcome.done, prepare_code, prepare_retry, outcome_code, Row, Table}
use Rattle.rules.proofs.Logic.{impossible, both_left, both_right, both_true, not_false_of}
use Rattle.rules.proofs.Same.{same_body_lem}
use Rattle.history.proofs.Follow.Answering.{same_prepare_lem}

number_and : (m n : ℕ) (rest : Bool) → both (eqb m n) rest ≡ true → (m ≡ n) × (rest ≡ true)
number_and m n rest h = (eqb-true m n (both_left _ _ h), both_right (eqb m n) rest h)

unfoldable pub same_prepare : Prepare → Prepare → Bool
same_prepare p q = both (eqb (prepare_code p) (prepare_code q)) (eqb (prepare_retry p) (prepare_retry q))

prepare_equal : (p q : Prepare) → same_prepare p q ≡ true → p ≡ q
unfolding same_prepare
prepare_equal p q h = let (code, retry) = number_and (prepare_code p) (prepare_code q) _ h in same_prepare_lem p q code (eqb-true _ _ retry)

-- and equal ones pass
pub prepare_same : (p q : Prepare) → p ≡ q → not (same_prepare p q) ≡ false
unfolding same_prepare
prepare_same p q e = not_false_of _ (both_true (eq-eqb _ _ (ap prepare_code e)) (eq-eqb _ _ (ap prepare_retry e)))

-- an outcome is known by its code
coded : ℕ → Outcome
coded c = cond (eqb c 1) (noted commit) (cond (eqb c 2) (noted abort) (cond (eqb c 3) (done commit) (cond (eqb c 4) (done abort) no_outcome)))

coded_is : (o : Outcome) → coded (outcome_code o) ≡ o
unfolding coded
coded_is no_outcome = refl
coded_is (noted commit) = refl
coded_is (noted abort) = refl
coded_is (done commit) = refl
coded_is (done abort) = refl

outcome_equal : (o u : Outcome) → eqb (outcome_code o) (outcome_code u) ≡ true → o ≡ u
outcome_equal o u h = sym (coded_is o) ∙ ap coded (eqb-true _ _ h) ∙ coded_is u

unfoldable pub same_row : Row → Row → Bool
same_row r q =
    both (eqb r.stamp q.stamp)
    (both (same_body r.body q.body) (both (same_prepare r.prepare q.prepare) (eqb (outcome_code r.outcome) (outcome_code q.outcome))))

row_equal : (r q : Row) → same_row r q ≡ true → r ≡ q
unfolding same_row
row_equal r q h =
    let (stamp, a) = number_and r.stamp q.stamp _ h in
    let body = same_body_lem r.body q.body (both_left _ _ a) in
    let c = both_right (same_body r.body q.body) _ a in
    let prepare = prepare_equal r.prepare q.prepare (both_left _ _ c) in
    let outcome = outcome_equal r.outcome q.outcome (both_right _ _ c) in
    λ i. record { stamp = stamp i; body = body i; prepare = prepare i; outcome = outcome i }

unfoldable pub same_rows : List Row → List Row → Bool
same_rows [] [] = true
same_rows [] (q ∷ qs) = false
same_rows (r ∷ rs) [] = false
same_rows (r ∷ rs) (q ∷ qs) = both (same_row r q) (same_rows rs qs)

rows_equal : (rs qs : List Row) → same_rows rs qs ≡ true → rs ≡ qs
unfolding same_rows
rows_equal [] [] h = refl
rows_equal [] (q ∷ qs) h = impossible h refl
rows_equal (r ∷ rs) [] h = impossible h refl
rows_equal (r ∷ rs) (q ∷ qs) h = ap₂ ◌∷◌ (row_equal r q (both_left _ _ h)) (rows_equal rs qs (both_right _ _ h))

unfoldable pub same_table : Table → Table → Bool
same_table T U =
    both (eqb T.box U.box)
    (both (eqb T.n U.n)
    (both (eqb T.mode U.mode)
    (both (eqb T.view U.view) (both (eqb T.promised U.promised) (both (eqb T.start U.start) (same_rows T.rows U.rows))))))

pub table_equal : (T U : Table) → same_table T U ≡ true → T ≡ U
unfolding same_table
table_equal T U h =
    let (box, a) = number_and T.box U.box _ h in
    let (n, c) = number_and T.n U.n _ a in
    let (mode, d) = number_and T.mode U.mode _ c in
    let (view, e) = number_and T.view U.view _ d in
    let (promised, f) = number_and T.promised U.promised _ e in
    let (start, g) = number_and T.start U.start _ f in
    let rows = rows_equal T.rows U.rows g in
    λ i. record { box = box i; n = n i; mode = mode i; view = view i; promised = promised i; start = start i; rows = rows i }

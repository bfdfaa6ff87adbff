-- A merge is settled, whatever the tables are: no result is tentative, no outcome noted.
use mathlib.Core.Path.{◌≡◌, refl, sym}
use mathlib.Core.Bool.{true, false}
use mathlib.Core.Logic.{◌⊎◌, inl, inr}
use mathlib.Core.List.Memᴰ
use mathlib.Core.List.{List, [], ◌∷◌}
use Prim.Native.Nat.{ℕ}
use lib.Dec.{eqb, leb}
use Rattle.rules.specs.Tests.{either, every, those}
use Rattle.rules.specs.Tables.{Result, Result.OK, Result.ABORT, Result.ABSTAIN, Result.RETRY, Prepare.final, Verdict, Verdict.commit, Verdict.abort, Outcome, Outcome.no_outcome, Outcome.noted, Outcome.done, prepare_code, outcome_code, Row, Table}
use Rattle.rules.specs.Messages.{Check, with_prepare}
use Rattle.rules.specs.Circumstances.{settled}
use Rattle.rules.specs.Merge.{stamps, rows_of, merged_outcome, Standing, Standing.has_none, Standing.has_final, Standing.has_agreed, Standing.has_open, standing, unchecked_prepare, unchecked_row, unchecked_rows, among_agreed, among_open, to_check, is_settled, checked_at, checked_in_turn, merged_rows}
use Rattle.rules.proofs.Logic.{both_right, both_true}
use Rattle.rules.proofs.Lists.{◌∈◌, every_one, all_every}
use Rattle.rules.proofs.Rows.{changed_from}
use Rattle.rules.proofs.Standings.{NoneOrDone, outcome_cases}

-- ---- before any check

settled_prepare : (c : Standing) (o : Outcome) → either (eqb (prepare_code (unchecked_prepare c o)) 0) (leb 5 (prepare_code (unchecked_prepare c o))) ≡ true
unfolding either
settled_prepare has_none o = refl
settled_prepare (has_final OK) o = refl
settled_prepare (has_final ABORT) o = refl
settled_prepare (has_final ABSTAIN) o = refl
settled_prepare (has_final (RETRY s)) o = refl
settled_prepare (has_agreed OK) no_outcome = refl
settled_prepare (has_agreed OK) (noted v) = refl
settled_prepare (has_agreed OK) (done v) = refl
settled_prepare (has_agreed ABORT) o = refl
settled_prepare (has_agreed ABSTAIN) o = refl
settled_prepare (has_agreed (RETRY s)) o = refl
settled_prepare has_open no_outcome = refl
settled_prepare has_open (noted commit) = refl
settled_prepare has_open (noted abort) = refl
settled_prepare has_open (done commit) = refl
settled_prepare has_open (done abort) = refl

settled_outcome : (rs : List Row) → either (eqb (outcome_code (merged_outcome rs)) 0) (leb 3 (outcome_code (merged_outcome rs))) ≡ true
unfolding either
settled_outcome rs = go (outcome_cases rs)
  where
    verdict : (v : Verdict) → either (eqb (outcome_code (done v)) 0) (leb 3 (outcome_code (done v))) ≡ true
    verdict commit = refl
    verdict abort = refl

    go : NoneOrDone rs → either (eqb (outcome_code (merged_outcome rs)) 0) (leb 3 (outcome_code (merged_outcome rs))) ≡ true
    go (inl (e, h)) = rw e refl
    go (inr (v, e)) = rw e (verdict v)

unchecked_settled : (agreement : ℕ) (Ts : List Table) → every settled (unchecked_rows agreement Ts) ≡ true
unfolding unchecked_rows unchecked_row settled
unchecked_settled agreement Ts = all_every settled _ (λ r m. let (s, i, e) = Memᴰ.of_map (λ s. unchecked_row agreement s (rows_of Ts s)) (stamps Ts) m in rw (sym e) (row s))
  where
    row : (s : ℕ) → settled (unchecked_row agreement s (rows_of Ts s)) ≡ true
    row s = both_true (settled_prepare (standing agreement (rows_of Ts s)) (merged_outcome (rows_of Ts s))) (settled_outcome (rows_of Ts s))

-- ---- a check gives a final result

checked_settled : (r : Row) (q : Result) → settled r ≡ true → settled (with_prepare (final q) r) ≡ true
unfolding settled either
checked_settled r q h = both_true (go q) (both_right _ _ h)
  where
    go : (q : Result) → either (eqb (prepare_code (final q)) 0) (leb 5 (prepare_code (final q))) ≡ true
    go OK = refl
    go ABORT = refl
    go ABSTAIN = refl
    go (RETRY s) = refl

settled_at : (check : Check) (s : ℕ) (rows : List Row) → every settled rows ≡ true → every settled (checked_at check s rows) ≡ true
unfolding checked_at
settled_at check s rows h = all_every settled _ (λ q m. go q (changed_from s _ rows q m))
  where
    go : (q : Row) → (r : Row) × (r ∈ rows) × (((r.stamp ≡ s) × (q ≡ with_prepare (final (check (those is_settled rows) s r.body)) r)) ⊎ ((eqb r.stamp s ≡ false) × (q ≡ r))) → settled q ≡ true
    go q (r, i, inl (k, e)) = rw e (checked_settled r _ (every_one settled rows h r i))
    go q (r, i, inr (k, e)) = rw e (every_one settled rows h r i)

settled_in_turn : (check : Check) (ss : List ℕ) (rows : List Row) → every settled rows ≡ true → every settled (checked_in_turn check ss rows) ≡ true
unfolding checked_in_turn
settled_in_turn check [] rows h = h
settled_in_turn check (s ∷ ss) rows h = settled_in_turn check ss (checked_at check s rows) (settled_at check s rows h)

pub merged_settled : (check : Check) (agreement : ℕ) (Ts : List Table) → every settled (merged_rows check agreement Ts) ≡ true
unfolding merged_rows
merged_settled check agreement Ts =
    settled_in_turn check (to_check among_open agreement Ts) _ (settled_in_turn check (to_check among_agreed agreement Ts) _ (unchecked_settled agreement Ts))

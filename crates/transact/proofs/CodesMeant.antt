-- Bytes of rows against the results and verdicts that a message gives.
use mathlib.Core.Path.{◌≡◌, refl, ◌∙◌}
use mathlib.Core.Bool.{Bool, true, false, not, cond}
use Prim.Native.Nat.{ℕ, ◌+◌, ◌-◌, ◌≤◌, ◌<◌}
use native.Mathlib.Omega.{arith}
use lib.Dec.{eqb, ltb, leb}
use borrow.Author.Tests.{ne_eqb, leb-true, lt-ltb}
use Rattle.rules.specs.Tests.{both}
use Rattle.rules.specs.Tables.{Result, Result.OK, Result.ABORT, Result.ABSTAIN, Result.RETRY, Prepare, Prepare.no_prepare, Prepare.tentative, Prepare.final, Verdict, Verdict.commit, Verdict.abort, Outcome, Outcome.no_outcome, Outcome.noted, Outcome.done, result_code, result_retry, prepare_code, prepare_retry, outcome_code, verdict_code, same_result, result_by_rule, retry_by_rule}
use Rattle.rules.specs.Messages.{noted_as}
use Rattle.rules.specs.Circumstances.{unequal_final, opposite_outcome}
use Rattle.rules.proofs.Logic.{both_left, both_right}
use Rattle.rows.specs.Fields.{prepare_numbered, verdict_numbered, outcome_numbered, retry_by_code, result_numbered}
use Rattle.rows.proofs.Codes.{prepare_numbered_lem, outcome_numbered_lem, prepare_read, retry_of_code, outcome_read}
use Rattle.message.specs.Messages.{result_by_code, verdict_by_code}
use Rattle.message.proofs.KeepingRules.{result_coded}

-- ---- results

module _ (code retry : ℕ) (by_code : result_by_code code retry ≡ true) where
  pub result_range : (1 ≤ code) × (code ≤ 4) × (retry_by_code code retry ≡ true)
  unfolding result_by_code
  result_range = (leb-true _ _ (both_left _ _ by_code), leb-true _ _ (both_left _ _ (both_right _ _ by_code)), both_right _ _ (both_right _ _ by_code))

  pub result_numbered_lem : (result_code (result_numbered code retry) ≡ code) × (result_retry (result_numbered code retry) ≡ retry)
  result_numbered_lem = let c = result_coded code retry by_code in (c.same_code, c.same_retry)

-- the prepare byte of a final result
pub final_numbered : (r : Result) → prepare_numbered (result_code r + 4) (result_retry r) ≡ final r
final_numbered r = let e : result_code r + 4 ≡ 4 + result_code r = omega arith in rw e (prepare_read (final r))

pub retry_final : (r : Result) → result_by_rule r ≡ true → retry_by_code (result_code r + 4) (result_retry r) ≡ true
unfolding retry_by_rule
retry_final r by_rule = let e : result_code r + 4 ≡ 4 + result_code r = omega arith in rw e (retry_of_code (final r) ∙ by_rule)

-- a result other than a held final one, by the codes of both
pub unequal_by_codes : (r : Result) (p : Prepare) → unequal_final r p ≡ both (ltb 4 (prepare_code p)) (not (both (eqb (result_code r) (prepare_code p - 4)) (eqb (result_retry r) (prepare_retry p))))
unfolding both same_result
unequal_by_codes r no_prepare = refl
unequal_by_codes r (tentative OK) = refl
unequal_by_codes r (tentative ABORT) = refl
unequal_by_codes r (tentative ABSTAIN) = refl
unequal_by_codes r (tentative (RETRY s)) = refl
unequal_by_codes r (final OK) = refl
unequal_by_codes r (final ABORT) = refl
unequal_by_codes r (final ABSTAIN) = refl
unequal_by_codes r (final (RETRY s)) = refl

pub unequal_told : (prepare held : ℕ) (r : Result) → prepare ≤ 8 → retry_by_code prepare held ≡ true →
    unequal_final r (prepare_numbered prepare held) ≡ both (ltb 4 prepare) (not (both (eqb (result_code r) (prepare - 4)) (eqb (result_retry r) held)))
unequal_told prepare held r high by =
    let (x, y) = prepare_numbered_lem prepare held high by in
    unequal_by_codes r (prepare_numbered prepare held) ∙ rw (x, y)

-- ---- verdicts

module _ (code : ℕ) (by_code : verdict_by_code code ≡ true) where
  pub verdict_range : (1 ≤ code) × (code ≤ 2)
  unfolding verdict_by_code
  verdict_range = (leb-true _ _ (both_left _ _ by_code), leb-true _ _ (both_right _ _ by_code))

-- the outcome bytes of a verdict
pub noted_numbered : (v : Verdict) → outcome_numbered (verdict_code v) ≡ noted v
noted_numbered v = outcome_read (noted v)

pub done_numbered : (v : Verdict) → outcome_numbered (verdict_code v + 2) ≡ done v
done_numbered v = let e : verdict_code v + 2 ≡ 2 + verdict_code v = omega arith in rw e (outcome_read (done v))

-- an outcome other than a held one, by the codes of both
pub opposite_by_codes : (v : Verdict) (o : Outcome) → opposite_outcome v o ≡ both (not (eqb (outcome_code o) 0)) (both (not (eqb (outcome_code o) (verdict_code v))) (not (eqb (outcome_code o) (verdict_code v + 2))))
unfolding both
opposite_by_codes v no_outcome = refl
opposite_by_codes commit (noted commit) = refl
opposite_by_codes commit (noted abort) = refl
opposite_by_codes commit (done commit) = refl
opposite_by_codes commit (done abort) = refl
opposite_by_codes abort (noted commit) = refl
opposite_by_codes abort (noted abort) = refl
opposite_by_codes abort (done commit) = refl
opposite_by_codes abort (done abort) = refl

pub opposite_told : (outcome : ℕ) (v : Verdict) → outcome ≤ 4 →
    opposite_outcome v (outcome_numbered outcome) ≡ both (not (eqb outcome 0)) (both (not (eqb outcome (verdict_code v))) (not (eqb outcome (verdict_code v + 2))))
opposite_told outcome v high = opposite_by_codes v (outcome_numbered outcome) ∙ rw (outcome_numbered_lem outcome high)

pub positive : (x : ℕ) → (x ≡ 0 → ⊥) → ltb 0 x ≡ true
positive x n = lt-ltb 0 x (omega (arith, n))

-- ---- a verdict noted over an outcome

none_numbered : outcome_numbered 0 ≡ no_outcome
unfolding outcome_numbered
none_numbered = refl

pub noted_first : (outcome : ℕ) (v : Verdict) → outcome ≡ 0 → outcome_numbered (verdict_code v) ≡ noted_as v (outcome_numbered outcome)
noted_first outcome v e = noted_numbered v ∙ rw (e, none_numbered)

pub noted_stays : (outcome : ℕ) (v : Verdict) → (outcome ≡ 0 → ⊥) → outcome_numbered outcome ≡ noted_as v (outcome_numbered outcome)
unfolding outcome_numbered
noted_stays outcome v n = rw (ne_eqb _ _ n) (go (leb outcome 2))
  where
    go : (b : Bool) → cond b (noted (verdict_numbered outcome)) (done (verdict_numbered (outcome - 2))) ≡ noted_as v (cond b (noted (verdict_numbered outcome)) (done (verdict_numbered (outcome - 2))))
    go true = refl
    go false = refl

-- One stamp in a merge: its outcome, its standing, and what stands without a check.
use mathlib.Core.Path.{◌≡◌, refl, ap}
use mathlib.Core.Bool.{Bool, true, false}
use mathlib.Core.Logic.{◌⊎◌, inl, inr}
use mathlib.Core.List.{List}
use mathlib.Core.Option.{Option, none, some}
use Prim.Native.Nat.{ℕ, ◌+◌}
use native.Mathlib.Omega.{arith}
use lib.Dec.{eqb, ltb, leb}
use borrow.Author.Tests.{lt-ltb}
use Rattle.rules.specs.Tests.{both, either, any, those}
use Rattle.rules.specs.Tables.{Result, Result.OK, Result.ABORT, Result.ABSTAIN, Result.RETRY, Prepare, Prepare.no_prepare, Prepare.tentative, Prepare.final, Verdict, Verdict.commit, Verdict.abort, Outcome, Outcome.no_outcome, Outcome.noted, Outcome.done, result_code, prepare_code, verdict_code, outcome_code, something_held, Row}
use Rattle.rules.specs.Stamps.{Body}
use Rattle.rules.specs.Check.{committed, prepared, check}
use Rattle.rules.specs.Inner.Clashes.{accepted}
use Rattle.rules.specs.Merge.{holds_verdict, merged_outcome, final_result, final_of, tentative_result, is_agreed, if_agreed, agreed_of, holds_prepare, Standing, Standing.has_none, Standing.has_final, Standing.has_agreed, Standing.has_open, standing_from, standing, unchecked_prepare, is_settled}
use Rattle.rules.proofs.Logic.{none_some, impossible, cases}
use Rattle.rules.proofs.Lists.{◌∈◌, any_none, provided_some, first_from}
use Rattle.rules.proofs.Check.{check_those}
use Rattle.rules.proofs.Tables.{verdict_counts, result_counts}

-- ---- what stands without a check

-- without an outcome only a final OK is accepted without a check: an agreed OK alone is not enough
pub unchecked_ok : (c : Standing) → unchecked_prepare c no_outcome ≡ final OK → c ≡ has_final OK
unchecked_ok has_none e = let z : ◌≡◌ {A = ℕ} 0 1 = cc in absurd (omega arith)
unchecked_ok (has_final r) e = let q : r ≡ OK = cc in ap has_final q
unchecked_ok (has_agreed OK) e = let z : ◌≡◌ {A = ℕ} 0 1 = cc in absurd (omega arith)
unchecked_ok (has_agreed ABORT) e = let z : ◌≡◌ {A = ℕ} 0 1 = cc in absurd (omega arith)
unchecked_ok (has_agreed ABSTAIN) e = let z : ◌≡◌ {A = ℕ} 0 1 = cc in absurd (omega arith)
unchecked_ok (has_agreed (RETRY s)) e = let z : ◌≡◌ {A = ℕ} 0 1 = cc in absurd (omega arith)
unchecked_ok has_open e = let z : ◌≡◌ {A = ℕ} 0 1 = cc in absurd (omega arith)

pub is_final_lem : (p : Prepare) (r : Result) → final_result p ≡ some r → p ≡ final r
is_final_lem no_prepare r e = none_some e
is_final_lem (tentative q) r e = none_some e
is_final_lem (final q) r e = cc

-- ---- the outcome and the standing of a stamp's rows

no_verdict : (o : Outcome) → holds_verdict commit o ≡ false → holds_verdict abort o ≡ false → o ≡ no_outcome
no_verdict no_outcome p q = refl
no_verdict (noted commit) p q = impossible refl p
no_verdict (noted abort) p q = impossible refl q
no_verdict (done commit) p q = impossible refl p
no_verdict (done abort) p q = impossible refl q

module _ (rs : List Row) where
  -- none, and then no row holds one, or done
  abbrev pub NoneOrDone : Type 0
  NoneOrDone = ((merged_outcome rs ≡ no_outcome) × ((r : Row) → r ∈ rs → r.outcome ≡ no_outcome)) ⊎ ((v : Verdict) × (merged_outcome rs ≡ done v))

  pub outcome_cases : NoneOrDone
  unfolding merged_outcome
  outcome_cases = go (cases (any (λ r. holds_verdict commit r.outcome) rs)) (cases (any (λ r. holds_verdict abort r.outcome) rs))
    where
      go : (any (λ r. holds_verdict commit r.outcome) rs ≡ true) ⊎ (any (λ r. holds_verdict commit r.outcome) rs ≡ false) → (any (λ r. holds_verdict abort r.outcome) rs ≡ true) ⊎ (any (λ r. holds_verdict abort r.outcome) rs ≡ false) → NoneOrDone
      go (inl p) q = inr (commit, rw p refl)
      go (inr p) (inl q) = inr (abort, rw (p, q) refl)
      go (inr p) (inr q) = inl (rw (p, q) refl, λ r m. no_verdict r.outcome (any_none _ rs p r m) (any_none _ rs q r m))

  agreed_from : (agreement : ℕ) (p : Prepare) (r : Result) → if_agreed agreement rs (tentative_result p) ≡ some r → p ≡ tentative r
  agreed_from agreement no_prepare r e = none_some e
  agreed_from agreement (tentative q) r e = ap tentative (provided_some (is_agreed agreement rs q) q r e).1
  agreed_from agreement (final q) r e = none_some e

  no_prepare_lem : (p : Prepare) → holds_prepare p ≡ false → p ≡ no_prepare
  no_prepare_lem no_prepare e = refl
  no_prepare_lem (tentative r) e = impossible refl e
  no_prepare_lem (final r) e = impossible refl e

  -- what each standing says of the rows
  abbrev pub Says : Standing → Type 0
  Says has_none = (r : Row) → r ∈ rs → r.prepare ≡ no_prepare
  Says (has_final q) = (r : Row) × (r ∈ rs) × (r.prepare ≡ final q)
  Says (has_agreed q) = (r : Row) × (r ∈ rs) × (r.prepare ≡ tentative q)
  Says has_open = Unit {0}

  pub standing_says : (agreement : ℕ) → Says (standing agreement rs)
  unfolding standing final_of agreed_of
  standing_says agreement = go (final_of rs) refl (agreed_of agreement rs) refl (any (λ r. holds_prepare r.prepare) rs) refl
    where
      go : (f : Option Result) → final_of rs ≡ f → (a : Option Result) → agreed_of agreement rs ≡ a → (h : Bool) → any (λ r. holds_prepare r.prepare) rs ≡ h → Says (standing_from f a h)
      go (some q) ef a ea h eh = let (r, m, e) = first_from _ rs q ef in (r, m, is_final_lem r.prepare q e)
      go none ef (some q) ea h eh = let (r, m, e) = first_from _ rs q ea in (r, m, agreed_from agreement r.prepare q e)
      go none ef none ea true eh = tt
      go none ef none ea false eh = λ r m. no_prepare_lem r.prepare (any_none _ rs eh r m)

-- ---- an accepted row is settled, so that it does not matter whether a check sees the others

pub accepted_settled : (r : Row) → accepted r ≡ true → is_settled r ≡ true
unfolding accepted committed prepared is_settled something_held both either
accepted_settled r h = go r.prepare r.outcome h
  where
    go : (p : Prepare) (o : Outcome) → either (eqb (outcome_code o) 3) (both (either (eqb (prepare_code p) 1) (eqb (prepare_code p) 5)) (leb (outcome_code o) 2)) ≡ true → ltb 0 (prepare_code p + outcome_code o) ≡ true
    go p (noted v) e = lt-ltb 0 (prepare_code p + verdict_code v) (omega (arith, verdict_counts v))
    go p (done v) e = lt-ltb 0 (prepare_code p + outcome_code (done v)) (omega arith)
    go (tentative r) no_outcome e = lt-ltb 0 (result_code r + 0) (omega (arith, result_counts r))
    go (final r) no_outcome e = lt-ltb 0 (4 + result_code r + 0) (omega arith)
    go no_prepare no_outcome e = impossible e refl

pub check_settled : (rows : List Row) (s : ℕ) (x : Body) → check (those is_settled rows) s x ≡ check rows s x
check_settled = check_those is_settled accepted_settled

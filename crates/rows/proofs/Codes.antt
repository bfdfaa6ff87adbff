-- The codes of prepares and outcomes: each code is of one of them, and the rules in codes are the rules.
use mathlib.Core.Path.{◌≡◌, refl, sym, ap, ap₂, ◌∙◌}
use mathlib.Core.Bool.{true, false}
use mathlib.Core.Logic.{◌≢◌, ◌⊎◌, inl, inr}
use Prim.Native.Nat.{ℕ, suc, ◌+◌, ◌%◌, ◌≤◌, ◌<◌}
use native.Mathlib.Omega.{arith}
use lib.Dec.{eqb, leb}
use borrow.Author.Tests.{eqb-true, eqb-false, leb-true, le-leb, lt-ltb, ne_eqb}
use Rattle.rules.specs.Tests.{both, either}
use Rattle.rules.specs.Tables.{Result, Result.OK, Result.ABORT, Result.ABSTAIN, Result.RETRY, Prepare, Prepare.no_prepare, Prepare.tentative, Prepare.final, Verdict, Verdict.commit, Verdict.abort, Outcome, Outcome.no_outcome, Outcome.noted, Outcome.done, result_code, prepare_code, prepare_retry, verdict_code, outcome_code, result_by_rule, retry_by_rule, something_held}
use Rattle.rules.proofs.Logic.{impossible, cases, both_left, both_right, both_true, same?}
use Rattle.rows.specs.Fields.{result_numbered, prepare_numbered, verdict_numbered, outcome_numbered, retry_by_code}
use Rattle.rows.specs.Inner.FieldTests.{codes_by_rule, state_plain}

-- ---- what a code was made of is read from it

-- of a prepare, and that the rule of its retry stamp is the same in its code
prepare_coded : (p : Prepare) → (prepare_numbered (prepare_code p) (prepare_retry p) ≡ p) × (retry_by_code (prepare_code p) (prepare_retry p) ≡ retry_by_rule p)
unfolding prepare_numbered result_numbered retry_by_code retry_by_rule result_by_rule either
prepare_coded no_prepare = (refl, refl)
prepare_coded (tentative OK) = (refl, refl)
prepare_coded (tentative ABORT) = (refl, refl)
prepare_coded (tentative ABSTAIN) = (refl, refl)
prepare_coded (tentative (RETRY s)) = (refl, refl)
prepare_coded (final OK) = (refl, refl)
prepare_coded (final ABORT) = (refl, refl)
prepare_coded (final ABSTAIN) = (refl, refl)
prepare_coded (final (RETRY s)) = (refl, refl)

pub prepare_read : (p : Prepare) → prepare_numbered (prepare_code p) (prepare_retry p) ≡ p
prepare_read p = (prepare_coded p).0

pub retry_of_code : (p : Prepare) → retry_by_code (prepare_code p) (prepare_retry p) ≡ retry_by_rule p
retry_of_code p = (prepare_coded p).1

pub outcome_read : (o : Outcome) → outcome_numbered (outcome_code o) ≡ o
unfolding outcome_numbered verdict_numbered
outcome_read no_outcome = refl
outcome_read (noted commit) = refl
outcome_read (noted abort) = refl
outcome_read (done commit) = refl
outcome_read (done abort) = refl

-- ---- codes are small

result_code_limit : (r : Result) → result_code r ≤ 4
result_code_limit OK = omega arith
result_code_limit ABORT = omega arith
result_code_limit ABSTAIN = omega arith
result_code_limit (RETRY s) = omega arith

pub prepare_code_limit : (p : Prepare) → prepare_code p ≤ 8
prepare_code_limit no_prepare = omega arith
prepare_code_limit (tentative r) = omega (arith, result_code_limit r)
prepare_code_limit (final r) = omega (arith, result_code_limit r)

verdict_code_limit : (v : Verdict) → verdict_code v ≤ 2
verdict_code_limit commit = omega arith
verdict_code_limit abort = omega arith

pub outcome_code_limit : (o : Outcome) → outcome_code o ≤ 4
outcome_code_limit no_outcome = omega arith
outcome_code_limit (noted v) = omega (arith, verdict_code_limit v)
outcome_code_limit (done v) = omega (arith, verdict_code_limit v)

pub codes_of_lem : (p : Prepare) (o : Outcome) → codes_by_rule (prepare_code p) (outcome_code o) ≡ something_held p o
unfolding codes_by_rule something_held both
codes_of_lem p o = rw (le-leb _ _ (prepare_code_limit p), le-leb _ _ (outcome_code_limit o))

-- ---- a code by the rules is of a prepare, and of an outcome

-- what holds of n and of all below it holds below n + 1: so few numbers are gone through one by one
one_more : {P : ℕ → Type 0} (n : ℕ) → P n → ((c : ℕ) → c < n → P c) → (c : ℕ) → c < suc n → P c
one_more {P} n here below c l = go (same? c n)
  where
    go : (c ≡ n) ⊎ (eqb c n ≡ false) → P c
    go (inl e) = rw e here
    go (inr e) = let d : c ≢ n = eqb-false c n e in below c (omega arith)

abbrev PrepareOf : ℕ → ℕ → Type 0
PrepareOf q c = retry_by_code c q ≡ true → (p : Prepare) × (prepare_code p ≡ c) × (prepare_retry p ≡ q)

prepare_of_lem : (c q : ℕ) → c < 9 → PrepareOf q c
unfolding retry_by_code either
prepare_of_lem c q l =
    one_more {P = PrepareOf q} 8 (λ h. (final (RETRY q), refl, refl))
    (one_more {P = PrepareOf q} 7 (λ h. (final ABSTAIN, refl, sym (eqb-true q 0 h)))
    (one_more {P = PrepareOf q} 6 (λ h. (final ABORT, refl, sym (eqb-true q 0 h)))
    (one_more {P = PrepareOf q} 5 (λ h. (final OK, refl, sym (eqb-true q 0 h)))
    (one_more {P = PrepareOf q} 4 (λ h. (tentative (RETRY q), refl, refl))
    (one_more {P = PrepareOf q} 3 (λ h. (tentative ABSTAIN, refl, sym (eqb-true q 0 h)))
    (one_more {P = PrepareOf q} 2 (λ h. (tentative ABORT, refl, sym (eqb-true q 0 h)))
    (one_more {P = PrepareOf q} 1 (λ h. (tentative OK, refl, sym (eqb-true q 0 h)))
    (one_more {P = PrepareOf q} 0 (λ h. (no_prepare, refl, sym (eqb-true q 0 h))) (λ b z. absurd (omega arith))))))))))
    c
    l

abbrev OutcomeOf : ℕ → Type 0
OutcomeOf c = (o : Outcome) × (outcome_code o ≡ c)

outcome_of_lem : (c : ℕ) → c < 5 → OutcomeOf c
outcome_of_lem =
    one_more {P = OutcomeOf} 4 (done abort, refl)
    (one_more {P = OutcomeOf} 3 (done commit, refl)
    (one_more {P = OutcomeOf} 2 (noted abort, refl)
    (one_more {P = OutcomeOf} 1 (noted commit, refl)
    (one_more {P = OutcomeOf} 0 (no_outcome, refl) (λ b z. absurd (omega arith))))))

-- so what is read from codes has these codes
pub prepare_numbered_lem : (c q : ℕ) → c ≤ 8 → retry_by_code c q ≡ true → (prepare_code (prepare_numbered c q) ≡ c) × (prepare_retry (prepare_numbered c q) ≡ q)
prepare_numbered_lem c q l h =
    let (p, a, b) = prepare_of_lem c q (omega arith) h in
    let e : prepare_numbered c q ≡ p = sym (ap₂ prepare_numbered a b) ∙ prepare_read p in
    (ap prepare_code e ∙ a, ap prepare_retry e ∙ b)

pub outcome_numbered_lem : (o : ℕ) → o ≤ 4 → outcome_code (outcome_numbered o) ≡ o
outcome_numbered_lem o l =
    let (w, d) = outcome_of_lem o (omega arith) in
    let f : outcome_numbered o ≡ w = sym (ap outcome_numbered d) ∙ outcome_read w in
    ap outcome_code f ∙ d

-- and keeps the rules
pub record Coded (c q o : ℕ) : Type 0 where
  pub prepare : prepare_code (prepare_numbered c q) ≡ c
  pub retry : prepare_retry (prepare_numbered c q) ≡ q
  pub outcome : outcome_code (outcome_numbered o) ≡ o
  pub held : something_held (prepare_numbered c q) (outcome_numbered o) ≡ true
  pub by_rule : retry_by_rule (prepare_numbered c q) ≡ true

pub coded : (c q o : ℕ) → codes_by_rule c o ≡ true → retry_by_code c q ≡ true → Coded c q o
unfolding codes_by_rule
coded c q o k h =
    let (a, b) = prepare_numbered_lem c q (leb-true c 8 (both_left _ _ k)) h in
    let d = outcome_numbered_lem o (leb-true o 4 (both_left _ _ (both_right _ _ k))) in
    record {
      prepare = a;
      retry = b;
      outcome = d;
      held = sym (codes_of_lem (prepare_numbered c q) (outcome_numbered o)) ∙ ap₂ codes_by_rule a d ∙ k;
      by_rule = sym (retry_of_code (prepare_numbered c q)) ∙ ap₂ retry_by_code a b ∙ h;
    }

-- ---- a state that is plainly good keeps the rules

pub plain_state : (p q o : ℕ) → state_plain p q o ≡ true → both (codes_by_rule p o) (retry_by_code p q) ≡ true
unfolding state_plain codes_by_rule retry_by_code either
plain_state p q o h = go (cases (eqb (p % 4) 0)) (cases (eqb q 0))
  where
    go : (eqb (p % 4) 0 ≡ true) ⊎ (eqb (p % 4) 0 ≡ false) → (eqb q 0 ≡ true) ⊎ (eqb q 0 ≡ false) → both (codes_by_rule p o) (retry_by_code p q) ≡ true
    go (inl e) k = impossible h (rw e)
    go (inr e) (inr k) = impossible h (rw (e, k))
    go (inr e) (inl k) =
        let n : p % 4 ≢ 0 = eqb-false _ _ e in
        let b : both (leb p 7) (leb o 4) ≡ true = rw (e, k) at h in
        let l : p ≤ 7 = leb-true _ _ (both_left _ _ b) in
        let four : eqb p 4 ≡ false = ne_eqb p 4 (λ x. n (rw x)) in
        let eight : eqb p 8 ≡ false = ne_eqb p 8 (λ x. n (rw x)) in
        let some : 0 < p = omega arith in
        both_true (both_true (le-leb p 8 (omega arith)) (both_true (both_right _ _ b) (lt-ltb 0 (p + o) (omega arith)))) (rw (four, eight) k)

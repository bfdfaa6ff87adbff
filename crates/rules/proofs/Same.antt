-- The tests of equality: they hold exactly of equal values.
use mathlib.Core.Path.{◌≡◌, refl, ap, ap₂}
use mathlib.Core.Bool.{true, false, not}
use mathlib.Core.List.{List, [], ◌∷◌}
use Prim.Native.Nat.{ℕ}
use lib.Dec.{eqb}
use borrow.Author.Tests.{eqb-true, not-false}
use Rattle.rules.specs.Tests.{both}
use Rattle.rules.specs.Stamps.{Access, Body, same_accesses, same_body}
use Rattle.rules.specs.Tables.{Result, Result.OK, Result.ABORT, Result.ABSTAIN, Result.RETRY, Verdict, Verdict.commit, Verdict.abort, result_code, result_retry, verdict_code, same_result}
use Rattle.rules.proofs.Logic.{impossible, both_left, both_right, both_true, eqb_self}

-- ---- results: by code and retry stamp

pub same_result_lem : (r q : Result) → same_result r q ≡ true → r ≡ q
unfolding same_result both
same_result_lem OK OK h = refl
same_result_lem OK ABORT h = impossible h refl
same_result_lem OK ABSTAIN h = impossible h refl
same_result_lem OK (RETRY t) h = impossible h refl
same_result_lem ABORT OK h = impossible h refl
same_result_lem ABORT ABORT h = refl
same_result_lem ABORT ABSTAIN h = impossible h refl
same_result_lem ABORT (RETRY t) h = impossible h refl
same_result_lem ABSTAIN OK h = impossible h refl
same_result_lem ABSTAIN ABORT h = impossible h refl
same_result_lem ABSTAIN ABSTAIN h = refl
same_result_lem ABSTAIN (RETRY t) h = impossible h refl
same_result_lem (RETRY s) OK h = impossible h refl
same_result_lem (RETRY s) ABORT h = impossible h refl
same_result_lem (RETRY s) ABSTAIN h = impossible h refl
same_result_lem (RETRY s) (RETRY t) h = ap RETRY (eqb-true s t h)

pub result_same : (r : Result) → same_result r r ≡ true
unfolding same_result
result_same r = both_true (eqb_self (result_code r)) (eqb_self (result_retry r))

pub not_other_result : (r q : Result) → not (same_result r q) ≡ false → r ≡ q
not_other_result r q h = same_result_lem r q (not-false (same_result r q) h)

-- ---- verdicts

pub same_verdict : (v u : Verdict) → eqb (verdict_code v) (verdict_code u) ≡ true → v ≡ u
same_verdict commit commit h = refl
same_verdict commit abort h = impossible h refl
same_verdict abort commit h = impossible h refl
same_verdict abort abort h = refl

-- ---- bodies: access by access

pub same_accesses_lem : (more bs : List Access) → same_accesses more bs ≡ true → more ≡ bs
unfolding same_accesses
same_accesses_lem [] [] h = refl
same_accesses_lem [] (b ∷ bs) h = impossible h refl
same_accesses_lem (a ∷ more) [] h = impossible h refl
same_accesses_lem (a ∷ more) (b ∷ bs) h = ap₂ ◌∷◌ (both_equal (both_left _ _ h) (both_left _ _ (both_right _ _ h))) (same_accesses_lem more bs (both_right _ _ (both_right _ _ h)))
  where
    both_equal : eqb a.register b.register ≡ true → eqb a.number b.number ≡ true → a ≡ b
    both_equal p q =
        let r = eqb-true a.register b.register p in
        let n = eqb-true a.number b.number q in
        ap₂ (λ (x y : ℕ). record { register = x; number = y }) r n

accesses_same : (more : List Access) → same_accesses more more ≡ true
unfolding same_accesses
accesses_same [] = refl
accesses_same (a ∷ more) = both_true (eqb_self a.register) (both_true (eqb_self a.number) (accesses_same more))

pub same_body_lem : (x y : Body) → same_body x y ≡ true → x ≡ y
unfolding same_body
same_body_lem x y h =
    ap₂ (λ (r w : List Access). record { reads = r; writes = w }) (same_accesses_lem x.reads y.reads (both_left _ _ h)) (same_accesses_lem x.writes y.writes (both_right _ _ h))

pub body_same : (x : Body) → same_body x x ≡ true
unfolding same_body
body_same x = both_true (accesses_same x.reads) (accesses_same x.writes)

pub not_other_body : (x y : Body) → not (same_body x y) ≡ false → x ≡ y
not_other_body x y h = same_body_lem x y (not-false (same_body x y) h)

-- A row that is read from bytes is committed or prepared by its two bytes, whatever they are: a byte that is no code is read as one that doesn't count.
use mathlib.Core.Path.{◌≡◌, refl, sym, ap, ◌∙◌}
use mathlib.Core.Bool.{Bool, true, false, cond}
use mathlib.Core.List.{List}
use mathlib.Core.Logic.{◌⊎◌, inl, inr}
use Prim.Native.Nat.{ℕ, ◌-◌, ◌≤◌, ◌<◌}
use native.Mathlib.Omega.{arith}
use lib.Dec.{eqb, leb}
use borrow.Author.Tests.{leb-true, leb-false, eqb-true, lt-leb, ne_eqb, eq-eqb}
use Rattle.rules.specs.Tests.{either}
use Rattle.rules.specs.Tables.{Result, Result.OK, Result.ABORT, Result.ABSTAIN, Result.RETRY, Prepare, Prepare.tentative, Prepare.final, Outcome.done, Verdict.abort, result_code, prepare_code, outcome_code}
use Rattle.rules.specs.Check.{committed, prepared, accepted}
use Rattle.rules.proofs.Logic.{cases, same?, same_test, both_comm, either_none}
use Rattle.rows.specs.declared.row.RowFields.{RowFields}
use Rattle.rows.specs.Fields.{result_numbered, prepare_numbered, verdict_numbered, outcome_numbered}
use Rattle.rows.specs.Read.{row_of}
use Rattle.rows.proofs.Codes.{outcome_numbered_lem}
use Rattle.checks.specs.Inner.Passed.{accepted_bytes}

-- ---- outcomes

-- a byte above 4 is read as abort done
outcome_beyond : (c : ℕ) → 4 < c → outcome_code (outcome_numbered c) ≡ 4
unfolding outcome_numbered verdict_numbered
outcome_beyond c l =
    let e : outcome_numbered c ≡ done abort =
    rw (ne_eqb c 0 (λ z. absurd (omega arith)), lt-leb c 2 (omega arith), ne_eqb (c - 2) 1 (λ z. absurd (omega arith))) in
    ap outcome_code e

abbrev SameOutcome : ℕ → Type 0
SameOutcome c = (eqb (outcome_code (outcome_numbered c)) 3 ≡ eqb c 3) × (leb (outcome_code (outcome_numbered c)) 2 ≡ leb c 2)

same_outcome : (c : ℕ) → SameOutcome c
same_outcome c = go (cases (leb c 4))
  where
    go : (leb c 4 ≡ true) ⊎ (leb c 4 ≡ false) → SameOutcome c
    go (inl h) = let e = outcome_numbered_lem c (leb-true c 4 h) in (rw e, rw e)
    go (inr h) =
        let l : 4 < c = leb-false c 4 h in
        (rw (outcome_beyond c l, ne_eqb c 3 (λ z. absurd (omega arith))), rw (outcome_beyond c l, lt-leb c 2 (omega arith)))

-- ---- prepares

result_ok : (c q : ℕ) → eqb (result_code (result_numbered c q)) 1 ≡ eqb c 1
unfolding result_numbered
result_ok c q = go (eqb c 1) (eqb c 2) (eqb c 3)
  where
    go : (a b d : Bool) → eqb (result_code (cond a OK (cond b ABORT (cond d ABSTAIN (RETRY q))))) 1 ≡ a
    go true b d = refl
    go false true d = refl
    go false false true = refl
    go false false false = refl

-- "prepare byte 1 or 5"
abbrev one_or_five : ℕ → Bool
one_or_five c = either (eqb c 1) (eqb c 5)

tentative_ok : (r : Result) → one_or_five (prepare_code (tentative r)) ≡ eqb (result_code r) 1
unfolding either
tentative_ok OK = refl
tentative_ok ABORT = refl
tentative_ok ABSTAIN = refl
tentative_ok (RETRY s) = refl

final_ok : (r : Result) → one_or_five (prepare_code (final r)) ≡ eqb (result_code r) 1
unfolding either
final_ok OK = refl
final_ok ABORT = refl
final_ok ABSTAIN = refl
final_ok (RETRY s) = refl

five : (c : ℕ) → 4 < c → eqb (c - 4) 1 ≡ one_or_five c
unfolding either
five c l =
    rw (ne_eqb c 1 (λ y. absurd (omega arith)))
    (same_test
    (eqb (c - 4) 1)
    (eqb c 5)
    (λ h. let e : c - 4 ≡ 1 = eqb-true (c - 4) 1 h in eq-eqb c 5 (omega arith))
    (λ h. let e : c ≡ 5 = eqb-true c 5 h in eq-eqb (c - 4) 1 (omega arith)))

same_prepare_lem : (c q : ℕ) → one_or_five (prepare_code (prepare_numbered c q)) ≡ one_or_five c
unfolding prepare_numbered
same_prepare_lem c q = go (same? c 0) (cases (leb c 4))
  where
    go : (c ≡ 0) ⊎ (eqb c 0 ≡ false) → (leb c 4 ≡ true) ⊎ (leb c 4 ≡ false) → one_or_five (prepare_code (prepare_numbered c q)) ≡ one_or_five c
    go (inl z) h = rw z refl
    go (inr z) (inl h) =
        let l : c ≤ 4 = leb-true c 4 h in
        let e : prepare_numbered c q ≡ tentative (result_numbered c q) = rw (z, h) in
        ap (λ (p : Prepare). one_or_five (prepare_code p)) e
        ∙ tentative_ok (result_numbered c q)
        ∙ result_ok c q
        ∙ rw (ne_eqb c 5 (λ y. absurd (omega arith))) (sym (either_none (eqb c 1)))
    go (inr z) (inr h) =
        let l : 4 < c = leb-false c 4 h in
        let e : prepare_numbered c q ≡ final (result_numbered (c - 4) q) = rw (z, h) in
        ap (λ (p : Prepare). one_or_five (prepare_code p)) e
        ∙ final_ok (result_numbered (c - 4) q)
        ∙ result_ok (c - 4) q
        ∙ five c l

-- ---- rows

pub committed_byte : (s : List ℕ) (f : RowFields) → committed (row_of s f) ≡ eqb f.outcome 3
unfolding committed row_of
committed_byte s f = (same_outcome f.outcome).0

pub accepted_bytes_lem : (s : List ℕ) (f : RowFields) → accepted (row_of s f) ≡ accepted_bytes f.prepare f.outcome
unfolding accepted committed prepared accepted_bytes row_of
accepted_bytes_lem s f = rw ((same_outcome f.outcome).0, (same_outcome f.outcome).1, same_prepare_lem f.prepare f.retry, both_comm (one_or_five f.prepare) (leb f.outcome 2))

-- Rows by their bytes: which codes are of a settled row, and one turn of the loop over rows.
use mathlib.Core.Path.{◌≡◌, refl, sym, ap, ap₂, ◌∙◌}
use mathlib.Core.Bool.{Bool, true, false, cond}
use mathlib.Core.Logic.{◌≢◌, ◌⊎◌, inl, inr}
use mathlib.Core.List.{List}
use Prim.Native.Nat.{ℕ, suc, ◌+◌, ◌-◌, ◌*◌, ◌≤◌, ◌<◌}
use native.Mathlib.Omega.{arith}
use lib.Dec.{eqb, leb}
use borrow.Author.Tests.{eqb-true, eqb-false, leb-true, leb-false, ne_eqb, le-leb, lt-leb}
use Rattle.rules.specs.Tests.{both, either, every}
use Rattle.rules.specs.Tables.{Prepare.no_prepare, Prepare.tentative, Prepare.final, Outcome.no_outcome, Outcome.noted, Outcome.done, result_code, prepare_code, verdict_code, outcome_code}
use Rattle.rules.specs.Circumstances.{settled}
use Rattle.rules.proofs.Logic.{cases}
use Rattle.rules.proofs.Tables.{result_counts, verdict_counts}
use Rattle.rows.specs.declared.row.RowFields.{RowFields}
use Rattle.rows.specs.Fields.{fields_at, result_numbered, prepare_numbered, verdict_numbered, outcome_numbered}
use Rattle.rows.specs.Read.{row_of, rows_at}
use Rattle.rows.proofs.Codes.{prepare_code_limit, outcome_code_limit}

-- "prepare bytes 0 or 5 to 8, outcomes 0, 3 or 4": none, or late enough
abbrev settled_code : ℕ → ℕ → Bool
settled_code from code = either (eqb code 0) (leb from code)

early : (from code : ℕ) → 0 < code → code < from → settled_code from code ≡ false
unfolding either
early from code p l = rw (ne_eqb code 0 (omega arith), lt-leb from code l)

late : (from code : ℕ) → 0 < from → from ≤ code → settled_code from code ≡ true
unfolding either
late from code p l = rw (ne_eqb code 0 (omega arith), le-leb from code l)

-- a code is 0, an early one up to k, or a late one behind: what it stands for may have another code, but one on the same side
settled_alike : (k c small great : ℕ) → 0 < small → small ≤ k → 0 < great → settled_code (k + 1) (cond (eqb c 0) 0 (cond (leb c k) small (k + great))) ≡ settled_code (k + 1) c
settled_alike k c small great p l q = go (cases (eqb c 0)) (cases (leb c k))
  where
    go : (eqb c 0 ≡ true) ⊎ (eqb c 0 ≡ false) → (leb c k ≡ true) ⊎ (leb c k ≡ false) → settled_code (k + 1) (cond (eqb c 0) 0 (cond (leb c k) small (k + great))) ≡ settled_code (k + 1) c
    go (inl e) d = rw (e, eqb-true c 0 e)
    go (inr e) (inl d) =
        let n : c ≢ 0 = eqb-false c 0 e in
        let m : c ≤ k = leb-true c k d in
        let code : cond (eqb c 0) 0 (cond (leb c k) small (k + great)) ≡ small = rw (e, d) in
        rw code (early (k + 1) small p (omega arith) ∙ sym (early (k + 1) c (omega arith) (omega arith)))
    go (inr e) (inr d) =
        let m : k < c = leb-false c k d in
        let code : cond (eqb c 0) 0 (cond (leb c k) small (k + great)) ≡ k + great = rw (e, d) in
        rw code (late (k + 1) (k + great) (omega arith) (omega arith) ∙ sym (late (k + 1) c (omega arith) (omega arith)))

through : {A : Type 0} (f : A → ℕ) (b d : Bool) (x y z : A) → f (cond b x (cond d y z)) ≡ cond b (f x) (cond d (f y) (f z))
through f true d x y z = refl
through f false true x y z = refl
through f false false x y z = refl

-- whatever byte a code is, it is settled as what it stands for is: one past the last stands for the last
prepare_settled : (c q : ℕ) → settled_code 5 (prepare_code (prepare_numbered c q)) ≡ settled_code 5 c
unfolding prepare_numbered
prepare_settled c q =
    let r = result_numbered c q in
    let few : 4 + result_code r ≤ 8 = prepare_code_limit (final r) in
    ap (settled_code 5) (through prepare_code (eqb c 0) (leb c 4) no_prepare (tentative r) (final (result_numbered (c - 4) q)))
    ∙ settled_alike 4 c (result_code r) (result_code (result_numbered (c - 4) q)) (result_counts r) (omega arith) (result_counts (result_numbered (c - 4) q))

outcome_settled : (c : ℕ) → settled_code 3 (outcome_code (outcome_numbered c)) ≡ settled_code 3 c
unfolding outcome_numbered
outcome_settled c =
    let v = verdict_numbered c in
    let few : 2 + verdict_code v ≤ 4 = outcome_code_limit (done v) in
    ap (settled_code 3) (through outcome_code (eqb c 0) (leb c 2) no_outcome (noted v) (done (verdict_numbered (c - 2))))
    ∙ settled_alike 2 c (verdict_code v) (verdict_code (verdict_numbered (c - 2))) (verdict_counts v) (omega arith) (verdict_counts (verdict_numbered (c - 2)))

row_settled : (s : List ℕ) (f : RowFields) → settled (row_of s f) ≡ both (either (eqb f.prepare 0) (leb 5 f.prepare)) (either (eqb f.outcome 0) (leb 3 f.outcome))
unfolding settled row_of
row_settled s f = ap₂ both (prepare_settled f.prepare f.retry) (outcome_settled f.outcome)

-- ---- rows, i of them passed

pub settled_turn : (s : List ℕ) (begin n i : ℕ) → i < n →
    let f = fields_at s (begin + 24 * i) in
    every settled (rows_at s (begin + 24 * i) (n - i))
    ≡ both (both (either (eqb f.prepare 0) (leb 5 f.prepare)) (either (eqb f.outcome 0) (leb 3 f.outcome))) (every settled (rows_at s (begin + 24 * (i + 1)) (n - (i + 1))))
unfolding every rows_at
settled_turn s begin n i h =
    let e : n - i ≡ suc (n - (i + 1)) = omega arith in
    let p : begin + 24 * (i + 1) ≡ begin + 24 * i + 24 = omega arith in
    rw (e, p, row_settled)

module _ (s : List ℕ) (begin n i : ℕ) (f : RowFields) (ok : Bool) where
  -- a settled row leaves the answer to those behind it
  pub settled_next : i < n → f ≡ fields_at s (begin + 24 * i) → ok ≡ both (either (eqb f.prepare 0) (leb 5 f.prepare)) (either (eqb f.outcome 0) (leb 3 f.outcome)) → ok ≡ true → every settled (rows_at s (begin + 24 * i) (n - i)) ≡ every settled (rows_at s (begin + 24 * (i + 1)) (n - (i + 1)))
  unfolding both
  settled_next h e t k = settled_turn s begin n i h ∙ rw (← e, ← t, k)

  -- and another row is the answer
  pub unsettled : i < n → f ≡ fields_at s (begin + 24 * i) → ok ≡ both (either (eqb f.prepare 0) (leb 5 f.prepare)) (either (eqb f.outcome 0) (leb 3 f.outcome)) → ok ≡ false → every settled (rows_at s (begin + 24 * i) (n - i)) ≡ false
  unfolding both
  unsettled h e t k = settled_turn s begin n i h ∙ rw (← e, ← t, k)

pub settled_end : (s : List ℕ) (at n : ℕ) → n ≡ 0 → every settled (rows_at s at n) ≡ true
unfolding every rows_at
settled_end s at n e = rw e

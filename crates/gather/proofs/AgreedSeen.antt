-- The agreed result of one stamp, row by row.
use mathlib.Core.Path.{◌≡◌, refl, ap₂}
use mathlib.Core.Bool.{Bool, true, false, cond}
use mathlib.Core.List.{List, [], ◌∷◌}
use mathlib.Core.Option.{Option, none}
use Prim.Native.Nat.{ℕ, ◌+◌, ◌<◌, ◌≤◌}
use native.Mathlib.Omega.{arith}
use lib.Dec.{eqb, leb}
use borrow.Author.Tests.{ne_eqb}
use Rattle.rules.specs.Tests.{both, count, provided, or_else, first_of}
use Rattle.rules.specs.Tables.{Result, Result.OK, Result.ABORT, Result.ABSTAIN, Result.RETRY, Prepare, Prepare.no_prepare, Prepare.tentative, Prepare.final, Row, result_code, result_retry, prepare_code, prepare_retry, same_result}
use Rattle.rules.specs.Merge.{holds_tentative, is_agreed, tentative_result, if_agreed, agreed_of}
use Rattle.rules.proofs.Logic.{eqb_sym}
use Rattle.std.specs.Prelude as std
use Rattle.gather.specs.declared.results.HeldResult.{HeldResult}
use Rattle.gather.specs.Inner.Agreed.{is_tentative, agreed_as}

-- ---- a result by its codes

-- a row with this prepare byte and retry stamp
abbrev pub holds_codes : ℕ → ℕ → Row → Bool
holds_codes prepare retry r = both (eqb (prepare_code r.prepare) prepare) (eqb (prepare_retry r.prepare) retry)

-- it is a tentative result's, and enough rows hold it
abbrev pub is_enough : ℕ → List Row → ℕ → ℕ → Bool
is_enough agreement rs prepare retry = both (is_tentative prepare) (leb agreement (count (holds_codes prepare retry) rs))

result_least : (q : Result) → (0 < result_code q) × (result_code q ≤ 4)
result_least OK = (omega arith, omega arith)
result_least ABORT = (omega arith, omega arith)
result_least ABSTAIN = (omega arith, omega arith)
result_least (RETRY t) = (omega arith, omega arith)

-- no other prepare byte is a tentative one's
holds_codes_lem : (q : Result) (p : Prepare) → holds_tentative q p ≡ both (eqb (prepare_code p) (result_code q)) (eqb (prepare_retry p) (result_retry q))
unfolding same_result both
holds_codes_lem q no_prepare = let l = (result_least q).0 in let n : eqb 0 (result_code q) ≡ false = ne_eqb 0 (result_code q) (λ e. absurd (omega arith)) in rw n refl
holds_codes_lem q (tentative r) = ap₂ both (eqb_sym (result_code q) (result_code r)) (eqb_sym (result_retry q) (result_retry r))
holds_codes_lem q (final r) =
    let l = (result_least q).1 in
    let k = (result_least r).0 in
    let n : eqb (4 + result_code r) (result_code q) ≡ false = ne_eqb (4 + result_code r) (result_code q) (λ e. absurd (omega arith)) in
    rw n refl

votes_codes : (q : Result) (rs : List Row) → count (λ r. holds_tentative q r.prepare) rs ≡ count (holds_codes (result_code q) (result_retry q)) rs
unfolding count
votes_codes q [] = refl
votes_codes q (r ∷ rs) = rw (holds_codes_lem q r.prepare, votes_codes q rs) refl

tentative_code : (q : Result) → is_tentative (result_code q) ≡ true
unfolding both
tentative_code OK = refl
tentative_code ABORT = refl
tentative_code ABSTAIN = refl
tentative_code (RETRY t) = refl

final_code_lem : (q : Result) → is_tentative (4 + result_code q) ≡ false
unfolding both
final_code_lem OK = refl
final_code_lem ABORT = refl
final_code_lem ABSTAIN = refl
final_code_lem (RETRY t) = refl

-- ---- the first that enough rows hold

-- the first result of these rows that enough of all rows hold
abbrev pub agreed_of_these : ℕ → List Row → List Row → Option Result
agreed_of_these agreement all rs = first_of (λ r. if_agreed agreement all (tentative_result r.prepare)) rs

pub agreed_all : (agreement : ℕ) (rs : List Row) → agreed_of agreement rs ≡ agreed_of_these agreement rs rs
unfolding agreed_of
agreed_all agreement rs = refl

pub agreed_none : (agreement : ℕ) (all : List Row) → agreed_of_these agreement all [] ≡ none
unfolding first_of
agreed_none agreement all = refl

abbrev codes_of : ℕ → ℕ → std.Option HeldResult
codes_of prepare retry = std.Some (record { code = prepare; retry = retry })

one_agreed : (agreement : ℕ) (all : List Row) (p : Prepare) (rest : Option Result) → agreed_as (or_else (if_agreed agreement all (tentative_result p)) rest) ≡ cond (is_enough agreement all (prepare_code p) (prepare_retry p)) (codes_of (prepare_code p) (prepare_retry p)) (agreed_as rest)
unfolding is_agreed both
one_agreed agreement all no_prepare rest = refl
one_agreed agreement all (tentative q) rest = rw (votes_codes q all, tentative_code q) (go (leb agreement (count (holds_codes (result_code q) (result_retry q)) all)))
  where
    go : (b : Bool) → agreed_as (or_else (provided b q) rest) ≡ cond b (codes_of (result_code q) (result_retry q)) (agreed_as rest)
    go true = refl
    go false = refl
one_agreed agreement all (final q) rest = rw (final_code_lem q) refl

pub row_agreed : (agreement : ℕ) (all : List Row) (q : Row) (prepare retry : ℕ) (rs : List Row) → prepare_code q.prepare ≡ prepare → prepare_retry q.prepare ≡ retry → agreed_as (agreed_of_these agreement all (q ∷ rs)) ≡ cond (is_enough agreement all prepare retry) (codes_of prepare retry) (agreed_as (agreed_of_these agreement all rs))
unfolding first_of
row_agreed agreement all q prepare retry rs p t = rw (← p, ← t) (one_agreed agreement all q.prepare (agreed_of_these agreement all rs))

-- bytes that hold nothing say nothing
pub nothing_agreed : (agreement retry : ℕ) (all : List Row) → is_enough agreement all 0 retry ≡ false
unfolding both
nothing_agreed agreement retry all = refl

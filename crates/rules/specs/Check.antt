-- 01, 'The check', and what 02 mends in its rule B.
use Rattle.std.specs.Prelude.{Bool, cond, List, ℕ, eqb, ltb, leb}
use Rattle.rules.specs.Tests.{both, either, any, those, greatest}
use Rattle.rules.specs.Stamps.{Access, Body}
use Rattle.rules.specs.Tables.{Result, Result.OK, Result.ABORT, Result.ABSTAIN, Result.RETRY, prepare_code, outcome_code, Row}

-- "Committed: outcome 3."
unfoldable pub committed : Row → Bool
committed r = eqb (outcome_code r.outcome) 3

-- "Prepared: prepare byte 1 or 5 and outcome 0, 1 or 2."
unfoldable pub prepared : Row → Bool
prepared r = both (either (eqb (prepare_code r.prepare) 1) (eqb (prepare_code r.prepare) 5)) (leb (outcome_code r.outcome) 2)

-- either of them, as "committed and prepared readers" are in 02: A, B and C speak of no other row
unfoldable pub accepted : Row → Bool
accepted r = either (committed r) (prepared r)

-- a rule as A and B are: told which rows count, and T's stamp and body, it holds of a row or not
abbrev pub Rule : Type 0
Rule = (Row → Bool) → ℕ → Body → Row → Bool

-- a transaction at s read a register k at version v, another at w writes k, and "v < w < s"
unfoldable pub overwrites : ℕ → List Access → ℕ → List Access → Bool
overwrites w writes s reads = any (λ read. any (λ write. both (eqb read.register write.register) (both (ltb read.number w) (ltb w s))) writes) reads

-- "A. T read register k at version v and a committed write of k has stamp w, v < w < s", of one row
unfoldable pub rule_a : (Row → Bool) → ℕ → Body → Row → Bool
rule_a counts s x r = both (counts r) (overwrites r.stamp r.body.writes s x.reads)

-- "B. T writes k and a committed transaction at s' read k at v', v' < s < s'", of one row
unfoldable pub rule_b : (Row → Bool) → ℕ → Body → Row → Bool
rule_b counts s x r = both (counts r) (overwrites s x.writes r.stamp r.body.reads)

-- of a rule B "the greatest such s'", mended by 02: "it still fires only on a committed reader, but the stamp returned is the greatest among committed and prepared readers that meet the same inequality"
unfoldable pub retry_stamp : Rule → List Row → ℕ → Body → ℕ
retry_stamp B rows s x = greatest (λ r. r.stamp) (those (B accepted s x) rows)

-- "For transaction T at stamp s, in this order": A "ABORT", B "RETRY with the greatest such s'", "C. A or B holds with prepared for committed: ABSTAIN.", "D. Otherwise OK.", by any two rules A and B
unfoldable pub check_by : Rule → Rule → List Row → ℕ → Body → Result
check_by A B rows s x =
    cond (any (A committed s x) rows) ABORT
    (cond (any (B committed s x) rows) (RETRY (retry_stamp B rows s x)) (cond (any (λ r. either (A prepared s x r) (B prepared s x r)) rows) ABSTAIN OK))

-- the check by its rules A and B, which is the merge's
-- "Document 001 also refuses writes under later accepted writes; its footnote allows the relaxation taken here."
unfoldable pub check : List Row → ℕ → Body → Result
check = check_by rule_a rule_b

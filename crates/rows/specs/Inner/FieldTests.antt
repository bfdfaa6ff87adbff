-- The tests of a row's fields, in the order in which its bytes are tried.
use Rattle.std.specs.Prelude.{Bool, false, cond, ℕ, ◌+◌, ◌%◌, eqb, ltb, leb}
use Rattle.rules.specs.Tests.{both}
use Rattle.rules.specs.Stamps.{is_stamp, counts_by_rule}
use Rattle.rows.specs.declared.row.RowFields.{RowFields}
use Rattle.rows.specs.Fields.{retry_by_code}

-- "Not both zero."
unfoldable pub codes_by_rule : ℕ → ℕ → Bool
codes_by_rule prepare outcome = both (leb prepare 8) (both (leb outcome 4) (ltb 0 (prepare + outcome)))

-- a state that is plainly good: a prepare that is none of 0, 4 and 8, with no retry stamp, and an outcome
unfoldable pub state_plain : ℕ → ℕ → ℕ → Bool
state_plain prepare retry outcome = cond (eqb (prepare % 4) 0) false (cond (eqb retry 0) (both (leb prepare 7) (leb outcome 4)) false)

unfoldable pub fields_by_rule : RowFields → Bool
fields_by_rule f =
    both (both (is_stamp f.stamp) (counts_by_rule f.reads f.writes))
    (both (codes_by_rule f.prepare f.outcome) (retry_by_code f.prepare f.retry))

-- How many rows are compared for a message, by the row that it looks for: none before the search has begun.
use Rattle.std.specs.Prelude.{cond, ℕ}
use Rattle.rules.specs.Tables.{Table}
use Rattle.rules.specs.Circumstances.{is_changing, for_other_view}
use Rattle.rows.specs.Halving.{steps}

-- messages 2 and 4: 4, "changing", and 9, "other view", come before it
unfoldable pub compared_to_finalise : Table → ℕ → ℕ → ℕ
compared_to_finalise T s v = cond (is_changing T) 0 (cond (for_other_view T v) 0 (steps T.rows s))

-- messages 1 and 3: 4, "changing", comes before it
unfoldable pub compared_to_propose : Table → ℕ → ℕ
compared_to_propose T s = cond (is_changing T) 0 (steps T.rows s)

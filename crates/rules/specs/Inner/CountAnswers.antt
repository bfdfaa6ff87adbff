-- The count's answers taken apart: the paper's number, and the result.
use Rattle.std.proofs.Math.Option.{Option, none, some}
use Rattle.std.specs.Prelude.{ℕ}
use Rattle.rules.specs.Tables.{Result}
use Rattle.rules.specs.Count.{Counted, Counted.fast, Counted.slow, Counted.wait, Counted.refused}

-- the number
abbrev pub counted_number : Counted → ℕ
counted_number (fast r) = 0
counted_number (slow r) = 0
counted_number wait = 0
counted_number (refused k) = k

-- its result, by its code and retry stamp; none for wait and refusals
abbrev pub counted_result : Counted → Option Result
counted_result (fast r) = some r
counted_result (slow r) = some r
counted_result wait = none
counted_result (refused k) = none

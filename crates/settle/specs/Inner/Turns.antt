-- "Checks run over the merged table .., then agreed rows in rising stamp order, then open rows in rising order; a check sees only rows settled before it."
use Rattle.std.specs.Prelude.{Bool, true, false, not, cond, List, [], ◌∷◌, map, ℕ, ◌+◌}
use Rattle.rules.specs.Tests.{both, kept}
use Rattle.rules.specs.Stamps.{is_stamp}
use Rattle.rules.specs.Tables.{Prepare.final, Row}
use Rattle.rules.specs.Messages.{with_prepare}
use Rattle.rules.specs.Check.{check}
use Rattle.rules.specs.Merge.{is_settled, checked_in_turn}
use Rattle.settle.specs.declared.Turn.{Turn}
use Rattle.settle.specs.declared.Turn.TheVariants.{Agreed, Open}
use Rattle.settle.specs.Inner.Marks.{is_marked}

abbrev pub has_stamp : Row → Bool
has_stamp r = is_stamp r.stamp

-- "then agreed rows in rising stamp order, then open rows in rising order": whether a turn is that of the open ones
abbrev pub is_open : Turn → Bool
is_open Agreed = false
is_open Open = true

-- a row waits for a check, among the open ones or among the agreed ones; its mark says whether its stamp is agreed
unfoldable pub waits : Bool → Bool → Row → Bool
waits is_open agreed r = both (not (is_settled r)) (cond is_open (not agreed) agreed)

-- those that wait, the first row being at an index
unfoldable pub waiting : Bool → List ℕ → ℕ → List Row → List Row
waiting is_open marks i [] = []
waiting is_open marks i (r ∷ rs) = kept (waits is_open (is_marked marks i) r) r (waiting is_open marks (i + 1) rs)

-- a row with what the check over these rows says of it
abbrev pub checked_by : List Row → Row → Row
checked_by rows r = with_prepare (final (check rows r.stamp r.body)) r

-- the rows that wait, checked in their order
unfoldable pub checked_rows : Bool → List ℕ → List Row → List Row
checked_rows is_open marks rows = checked_in_turn check (map (λ (r : Row). r.stamp) (waiting is_open marks 0 rows)) rows

-- What was seen, with the rows that are left.
use mathlib.Core.Path.{◌≡◌}
use lib.ListN.{drop}
use Rattle.gather.specs.Inner.Gathered.{fields_from}
use Rattle.gather.specs.Inner.State.{none_seen, saw_fields}
use Rattle.gather.proofs.state.state_of.Given as goal

abbrev pub invariant-loop-row : goal.invariant-loop-row
invariant-loop-row l = saw_fields l.state (drop l.row-index l.fn.gathered.rows) ≡ saw_fields none_seen (fields_from l.fn.gathered.rows 0 4)

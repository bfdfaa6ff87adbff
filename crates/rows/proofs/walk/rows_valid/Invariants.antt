-- The rows passed kept the rules: the walk over the rest, after the last stamp and from the body that is due, gives the whole answer.
use mathlib.Core.Path.{◌≡◌}
use Prim.Native.Nat.{◌+◌, ◌-◌, ◌*◌, ◌≤◌}
use Rattle.rows.specs.Inner.Rows.{rows_by_rule_at}
use Rattle.rows.proofs.Walks.{rows_walk}
use Rattle.rows.proofs.walk.rows_valid.Given as goal

abbrev pub invariant-loop-i : goal.invariant-loop-i
invariant-loop-i l = (l.due ≤ l.end) × (rows_walk l.image (l.begin + 24 * l.i) (l.rows - l.i) l.last l.due l.end ≡ rows_by_rule_at l.image l.begin l.rows l.end)

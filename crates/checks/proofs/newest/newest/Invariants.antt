-- The rows from i on give nothing; the first that gives something gives what all give.
use mathlib.Core.Path.{◌≡◌}
use Prim.Native.Nat.{◌+◌, ◌-◌, ◌*◌}
use Rattle.rules.specs.Messages.{found, nothing_found}
use Rattle.rows.specs.Read.{rows_at}
use Rattle.checks.proofs.newest.newest.Given as goal

abbrev pub invariant-loop-i : goal.invariant-loop-i
invariant-loop-i l = found (rows_at l.rows.image.now (l.rows.begin + 24 * l.i) (l.rows.count - l.i)) l.stamp l.register ≡ nothing_found

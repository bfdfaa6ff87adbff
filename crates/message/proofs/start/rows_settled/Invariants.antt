-- The rows passed are settled: whether the rest are is the whole answer.
use mathlib.Core.Path.{◌≡◌}
use Prim.Native.Nat.{◌+◌, ◌-◌, ◌*◌}
use Rattle.rules.specs.Tests.{every}
use Rattle.rules.specs.Circumstances.{settled}
use Rattle.rows.specs.Read.{rows_at}
use Rattle.message.proofs.start.rows_settled.Given as goal

abbrev pub invariant-loop-i : goal.invariant-loop-i
invariant-loop-i l = every settled (rows_at l.image l.begin l.rows) ≡ every settled (rows_at l.image (l.begin + 24 * l.i) (l.rows - l.i))

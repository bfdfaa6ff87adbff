-- The rows from i on were passed.
use Prim.Native.Nat.{◌-◌}
use Rattle.checks.specs.Inner.Passed.{PassedTo}
use Rattle.checks.proofs.pass.passed.Given as goal

abbrev pub invariant-loop-i : goal.invariant-loop-i
invariant-loop-i g l = PassedTo (goal.F-post g l.with_row) l.rows (l.rows - l.i) l.seen

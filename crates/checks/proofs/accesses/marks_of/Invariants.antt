-- Each access was passed and is marked, or is among the rest.
use Prim.Native.Nat.{◌+◌, ◌-◌, ◌*◌}
use Rattle.rows.specs.Read.{accesses_at}
use Rattle.checks.specs.Inner.Lent.{listed}
use Rattle.checks.proofs.Marks.{MarkedTo}
use Rattle.checks.proofs.accesses.marks_of.Given as goal

abbrev pub invariant-loop-i : goal.invariant-loop-i
invariant-loop-i l = MarkedTo l.marks (accesses_at l.accesses.bytes.now (9 * (l.accesses.from + l.i)) (l.accesses.count - l.i)) (listed l.accesses)

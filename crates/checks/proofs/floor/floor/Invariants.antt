-- The floor of all reads is that of the rest, from the least number so far.
use mathlib.Core.Path.{◌≡◌}
use Prim.Native.Nat.{◌+◌, ◌-◌, ◌*◌}
use Rattle.rules.specs.Inner.Floor.{floor_of}
use Rattle.rows.specs.Read.{accesses_at}
use Rattle.checks.specs.Inner.Lent.{listed}
use Rattle.checks.proofs.floor.floor.Given as goal

abbrev pub invariant-loop-i : goal.invariant-loop-i
invariant-loop-i l = floor_of l.stamp (listed l.reads) ≡ floor_of l.least (accesses_at l.reads.bytes.now (9 * (l.reads.from + l.i)) (l.reads.count - l.i))

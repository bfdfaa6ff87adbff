-- The writes passed are of other registers: the search among the rest gives the whole answer.
use mathlib.Core.Path.{◌≡◌}
use Prim.Native.Nat.{◌+◌, ◌-◌, ◌*◌}
use Rattle.rows.specs.Read.{accesses_at}
use Rattle.checks.specs.Inner.Lent.{listed}
use Rattle.checks.specs.Inner.RegisterWrites.{write_to}
use Rattle.checks.proofs.accesses.write_to.Given as goal

abbrev pub invariant-loop-i : goal.invariant-loop-i
invariant-loop-i l = write_to (listed l.written) l.register ≡ write_to (accesses_at l.written.bytes.now (9 * (l.written.from + l.i)) (l.written.count - l.i)) l.register

-- The rows before the index are done; what is left gives what all give.
use Rattle.settle.specs.Inner.Turns.{is_open}
use Rattle.settle.proofs.CheckedInPlace.{Turn}
use Rattle.settle.proofs.check_rows.Given as goal

abbrev pub invariant-loop-i : goal.invariant-loop-i
invariant-loop-i l = Turn (is_open l.turn) l.marks l.rows l.initial.out l.out l.i

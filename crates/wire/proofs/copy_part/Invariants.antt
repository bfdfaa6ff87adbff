-- What is left: the bytes of src not yet copied, into their place. Copying those gives what copying all gave at the start.
use mathlib.Core.Path.{◌≡◌}
use Prim.Native.Nat.{◌+◌}
use lib.ListN.{drop}
use Rattle.wire.specs.Parts.{replaced}
use Rattle.wire.proofs.copy_part.Given as goal

abbrev pub invariant-loop-i : goal.invariant-loop-i
invariant-loop-i l = replaced l.dst (l.at + l.i) (drop l.i l.src) ≡ replaced l.fn.dst l.at l.src

-- What is left: the first bytes of the number, whose last ones are written. Writing those gives what writing all gave at the start.
use mathlib.Core.Path.{◌≡◌}
use Prim.Native.Nat.{◌^◌, ◌<◌}
use Rattle.wire.specs.Parts.{replaced}
use Rattle.wire.specs.Numbers.{bytes}
use Rattle.wire.proofs.put_number.Given as goal

abbrev pub invariant-loop-i : goal.invariant-loop-i
invariant-loop-i l = (l.rest < 256 ^ l.i) × (replaced l.s l.at (bytes l.i l.rest) ≡ replaced l.fn.s l.at (bytes l.width l.x))

-- The bytes passed are the number so far: x is the number in as many bytes from at, and is below 256 to the power of their count.
use mathlib.Core.Path.{◌≡◌}
use Prim.Native.Nat.{◌^◌, ◌<◌}
use Rattle.wire.specs.Numbers.{number_at}
use Rattle.wire.proofs.number_at.Given as goal

abbrev pub invariant-loop-b : goal.invariant-loop-b
invariant-loop-b l = (l.x ≡ number_at l.s l.at l.b-index) × (l.x < 256 ^ l.b-index)

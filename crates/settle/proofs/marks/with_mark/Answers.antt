-- The mark is not in the byte, so that the sum is a byte.
use Prim.Native.Nat.{◌+◌, ◌^◌, ◌<◌}
use native.Mathlib.Omega.{arith}
use Rattle.settle.proofs.MarkedRows.{byte_fits}
use Rattle.settle.proofs.marks.with_mark.Goals as goal

pub overflow_add-result : goal.overflow_add-result
overflow_add-result c =
    let fits : c.args.byte + 2 ^ c.args.place < 256 = byte_fits c.args.place c.args.byte c.requires.0 c.ranges.byte.fits c.requires.1 in
    omega (arith, fits)

-- A copy, the header over it and the zeros behind it are the buffer that holds the image taken.
use native.Mathlib.Nat.{zero-add, sub-zero}
use native.Mathlib.Omega.{arith}
use lib.Seq.{length-take-le}
use Rattle.std.proofs.Common.{rules}
use Rattle.wire.proofs.Numbers.{all_of}
use Rattle.table.specs.Headers.{header_at}
use Rattle.table.specs.Images.{format_one}
use Rattle.edit.proofs.Holding.{one_starts, one_end}
use Rattle.edit.proofs.Taken.{image_edited}
use Rattle.edit.proofs.take.take_image.Goals as goal

pub slice_bounds-copy_part-end : goal.slice_bounds-copy_part-end
slice_bounds-copy_part-end c = let t = c.args.image.now in rw c.read-taken.ensures (one_end t (all_of t (λ i. search rules)) c.requires.1)

pub copy_part-requires : goal.copy_part-requires
copy_part-requires c =
    let t = c.args.image.now in
    let n = length-take-le (header_at t).length t (one_end t (all_of t (λ i. search rules)) c.requires.1) in
    rw (sub-zero, c.read-taken.ensures, n, zero-add) c.requires.2

pub clear_given_up-requires : goal.clear_given_up-requires
clear_given_up-requires c =
    let s = c.args.table.now in
    let end = one_end s (all_of s (λ i. search rules)) c.requires.0 in
    rw c.read-own.ensures (omega arith)

pub returns : goal.returns
returns c =
    let s = c.args.table.now in
    let t = c.args.image.now in
    rw (c.clear_given_up.ensures, c.write.ensures, c.with_box.ensures, c.copy_part.ensures, sub-zero, c.read-taken.ensures, c.read-own.ensures)
    (image_edited format_one s t one_starts (all_of s (λ i. search rules)) (all_of t (λ i. search rules)) c.requires.0 c.requires.1)

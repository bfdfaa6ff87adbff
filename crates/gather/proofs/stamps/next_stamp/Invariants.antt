-- The least of the tables passed, with those that are left.
use Rattle.std.specs.Iterator.Adapters.{zip_first, zip_second}
use Rattle.std.specs.Slice.Iter.{iter_rest}
use Rattle.gather.proofs.LeastStamps.{LeastSoFar}
use Rattle.gather.proofs.stamps.next_stamp.Given as goal

abbrev pub invariant-loop-image : goal.invariant-loop-image
invariant-loop-image l =
    (goal.iterator-loop-image).can_next l.image-iterator × (goal.iterator-loop-image).is_finite l.image-iterator
    × LeastSoFar l.fn.cursors.newest l.fn.cursors.last l.fn.run (zip_first l.image-iterator).rest.now (iter_rest (zip_second l.image-iterator)) l.next

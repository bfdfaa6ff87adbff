-- No image that was passed holds the stamp.
use Rattle.std.specs.Iterator.Adapters.{zip_first, zip_second}
use Rattle.std.specs.Slice.Iter.{iter_rest}
use Rattle.gather.proofs.Gathered.{NotYet}
use Rattle.gather.proofs.held.first_of.Given as goal

abbrev pub invariant-loop-image : goal.invariant-loop-image
invariant-loop-image l =
    (goal.iterator-loop-image).can_next l.image-iterator × (goal.iterator-loop-image).is_finite l.image-iterator
    × NotYet l.fn.gathered.cursors.newest l.fn.gathered.cursors.last l.fn.run (zip_first l.image-iterator).rest.now (iter_rest (zip_second l.image-iterator))

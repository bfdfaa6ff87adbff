-- No image that was passed holds the stamp with another body.
use Rattle.std.specs.Iterator.Adapters.{zip_first, zip_second}
use Rattle.std.specs.Slice.Iter.{iter_rest}
use Rattle.rows.specs.Read.{body_at}
use Rattle.gather.proofs.Gathered.{NoOther}
use Rattle.gather.proofs.bodies.some_other.Given as goal

abbrev pub invariant-loop-image : goal.invariant-loop-image
invariant-loop-image l =
    let given = l.fn.given in
    (goal.iterator-loop-image).can_next l.image-iterator × (goal.iterator-loop-image).is_finite l.image-iterator
    × NoOther l.fn.gathered.cursors.newest l.fn.gathered.cursors.last (body_at l.fn.first given.offset given.reads given.writes) l.fn.run (zip_first l.image-iterator).rest.now (iter_rest (zip_second l.image-iterator))

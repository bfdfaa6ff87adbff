-- Each table's place is filled, and its cursor set behind the stamp, with those that are left.
use Rattle.std.specs.Iterator.Adapters.{enumerate_source, enumerate_count, zip_first, zip_second}
use Rattle.std.specs.Slice.Iter.{iter_rest}
use Rattle.gather.proofs.Gathered.{GatheredTo}
use Rattle.gather.proofs.held.gather.Given as goal

abbrev pub invariant-loop-k : goal.invariant-loop-k
invariant-loop-k l =
    let beside = enumerate_source l.k-iterator in
    (goal.iterator-loop-k).can_next l.k-iterator × (goal.iterator-loop-k).is_finite l.k-iterator
    × GatheredTo l.fn.cursors.newest l.fn.stamp l.fn.run (zip_first beside).rest.now (iter_rest (zip_second beside)) (enumerate_count l.k-iterator) l.rows l.places

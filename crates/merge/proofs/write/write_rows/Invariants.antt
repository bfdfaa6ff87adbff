-- The stamps below the next one were passed: the buffer holds their rows and bodies, and the marks say which are agreed.
use Rattle.merge.proofs.WritingRows.{Writing}
use Rattle.merge.proofs.write.write_rows.Given as goal

abbrev pub invariant-loop-gathered : goal.invariant-loop-gathered
invariant-loop-gathered l =
    (goal.iterator-loop-gathered).can_next l.gathered-iterator × (goal.iterator-loop-gathered).is_finite l.gathered-iterator
    × Writing l.run l.initial.out l.newest l.agreement l.rows l.gathered-iterator l.out l.end l.i l.marks

-- All stamps below the next one are seen.
use Rattle.decide.proofs.SurveySeen.{Seeing}
use Rattle.decide.proofs.survey.survey_stamps.Given as goal

abbrev pub invariant-loop-gathered : goal.invariant-loop-gathered
invariant-loop-gathered l =
    (goal.iterator-loop-gathered).can_next l.gathered-iterator × (goal.iterator-loop-gathered).is_finite l.gathered-iterator × Seeing l.run l.newest l.gathered-iterator l.seen

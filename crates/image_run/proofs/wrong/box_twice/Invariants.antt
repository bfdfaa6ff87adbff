-- The boxes passed are not among those behind them: those that are left decide.
use mathlib.Core.Path.{◌≡◌}
use Rattle.rules.specs.Tests.{twice}
use Rattle.rules.specs.Tables.{valley}
use Rattle.image_run.specs.Inner.WholeRuns.{tables_of}
use Rattle.image_run.proofs.wrong.box_twice.Given as goal

abbrev pub invariant-loop-image : goal.invariant-loop-image
invariant-loop-image l =
    (goal.iterator-loop-image).can_next l.images × (goal.iterator-loop-image).is_finite l.images
    × (twice (λ T. T.box) (tables_of valley l.images.rest.now) ≡ twice (λ T. T.box) (tables_of valley l.run))

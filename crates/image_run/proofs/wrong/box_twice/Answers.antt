-- The boxes passed are not among those behind them: those that are left decide.
use mathlib.Core.Path.{sym}
use Rattle.rules.specs.Tests.{either}
use Rattle.rules.specs.Tables.{valley}
use Rattle.image_run.proofs.RunTurns.{images_told}
use Rattle.image_run.proofs.NextImages.{next_twice}
use Rattle.image_run.proofs.wrong.box_twice.Goals as goal

pub has_box-requires : goal.has_box-requires
has_box-requires c = images_told valley _ c.next.new.self.whole

pub returns-then-has_box : goal.returns-then-has_box
unfolding either
returns-then-has_box c =
    let step = c.in-Some.ensures.steps in
    sym (rw c.if-has_box.true at (next_twice _ _ _ _ _ step.1 (rw step.0 at c.read-h.ensures) c.has_box.ensures c.loop-image.invariant.2))

pub loop-image-preserved : goal.loop-image-preserved
unfolding either
loop-image-preserved c =
    let step = c.in-Some.ensures.steps in
    (tt, tt, sym (rw c.if-has_box.false at (next_twice _ _ _ _ _ step.1 (rw step.0 at c.read-h.ensures) c.has_box.ensures c.loop-image.invariant.2)))

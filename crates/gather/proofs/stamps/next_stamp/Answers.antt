-- The least of the tables passed, with those that are left.
use mathlib.Core.Logic.{⊎_elim, inl, inr}
use native.Mathlib.Omega.{arith}
use Rattle.std.specs.Iterator.Adapters.{zip_first}
use Rattle.rules.specs.Tables.{valley}
use Rattle.image_run.proofs.RunTurns.{images_told}
use Rattle.gather.proofs.LeastStamps.{none_passed, at_cursor, one_passed, all_passed}
use Rattle.gather.proofs.stamps.next_stamp.Goals as goal

pub loop-image-init : goal.loop-image-init
loop-image-init c = ((tt, tt), tt, none_passed _ c.requires.0 c.requires.1 c.args.cursors c.requires.2 _ _ (grind arith) (grind arith))

pub stamp_above-requires : goal.stamp_above-requires
stamp_above-requires c =
    let step = c.in-Some.ensures.steps in
    rw step.0.0 (step.0.1.has_image, at_cursor _ _ _ _ _ _ _ _ step.0.1 (images_told valley _ (zip_first c.next.new.self).whole) step.1 c.loop-image.invariant.2)

pub loop-image-preserved : goal.loop-image-preserved
loop-image-preserved c =
    let step = c.in-Some.ensures.steps in
    ((tt, tt), tt, rw c.earlier-next.ensures (one_passed _ _ _ _ _ _ _ _ step.0.1 (images_told valley _ (zip_first c.next.new.self).whole) step.1 _ _ c.loop-image.invariant.2 (rw step.0.0 at c.stamp_above.ensures)))

pub returns : goal.returns
returns c = all_passed _ _ _ _ _ _ c.loop-image.invariant.2 (⊎_elim (λ w. inl w.1.0) (λ w. inr w.1.0) c.in-None.ensures.steps)

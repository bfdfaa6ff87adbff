-- No image that was passed holds the stamp.
use mathlib.Core.Logic.{⊎_elim, inl, inr}
use native.Mathlib.Omega.{arith}
use Rattle.wire.proofs.Numbers.{all_of}
use Rattle.gather.proofs.Gathered.{none_yet, held_first, still_not, row_here, part_begins, one_is_held}
use Rattle.gather.proofs.held.first_of.Goals as goal

pub loop-image-init : goal.loop-image-init
loop-image-init c = ((tt, tt), tt, none_yet _ c.requires.1 (all_of c.args.run.now (λ i. (c.type_inv.run i).fits)) c.args.gathered.now c.requires.2 _ _ (grind arith) (grind arith) c.requires.3)

pub overflow_sub-result : goal.overflow_sub-result
overflow_sub-result c = rw c.in-Some.ensures.steps.0.0 (part_begins _ _ c.loop-image.invariant.2.part).0

pub returns-then-row-ne0 : goal.returns-then-row-ne0
returns-then-row-ne0 c =
    let step = c.in-Some.ensures.steps in
    let yet = c.loop-image.invariant.2 in
    rw (step.0.0, (part_begins _ _ yet.part).1) (omega arith, held_first _ _ _ _ step.0.1 _ _ _ step.1 _ yet c.if-row-ne0.true, row_here _ _ _ _ step.0.1 _ _ _ step.1 yet.beside)

pub loop-image-preserved : goal.loop-image-preserved
loop-image-preserved c =
    let step = c.in-Some.ensures.steps in
    ((tt, tt), tt, still_not _ _ _ _ step.0.1 _ _ _ step.1 _ c.loop-image.invariant.2 c.if-row-ne0.false)

pub returns : goal.returns
returns c = absurd (one_is_held _ _ _ _ _ c.loop-image.invariant.2 (⊎_elim (λ w. inl w.1.0) (λ w. inr w.1.0) c.in-None.ensures.steps))

-- No image that was passed holds the stamp with another body.
use mathlib.Core.Path.{sym, ◌∙◌}
use mathlib.Core.Logic.{⊎_elim, inl, inr}
use native.Mathlib.Omega.{arith}
use Rattle.wire.proofs.Numbers.{all_of}
use Rattle.gather.proofs.OneRow.{gathered_body, other_gathered}
use Rattle.gather.proofs.Gathered.{none_other, row_here, still_none, one_other, no_other_left}
use Rattle.gather.proofs.bodies.some_other.Goals as goal

pub loop-image-init : goal.loop-image-init
loop-image-init c = ((tt, tt), tt, none_other _ c.requires.1 (all_of c.args.run.now (λ i. (c.type_inv.run i).fits)) c.args.gathered.now c.requires.2 _ _ (grind arith) (grind arith) _)

pub is_other-requires : goal.is_other-requires
is_other-requires c =
    let step = c.in-Some.ensures.steps in
    let g = c.args.gathered.now.cursors in
    let none = c.loop-image.invariant.2 in
    rw step.0.0 (gathered_body _ g.newest g.last none.bytes step.0.1.has_image _ (row_here _ _ _ _ step.0.1 _ _ _ step.1 none.beside), c.requires.3)

pub returns-then-is_other : goal.returns-then-is_other
returns-then-is_other c =
    let step = c.in-Some.ensures.steps in
    let g = c.args.gathered.now.cursors in
    let none = c.loop-image.invariant.2 in
    let told = rw step.0.0 at c.is_other.ensures ∙ other_gathered _ g.newest g.last none.bytes step.0.1.has_image _ (row_here _ _ _ _ step.0.1 _ _ _ step.1 none.beside) _ in
    one_other _ _ _ _ step.0.1 _ _ _ step.1 _ _ none (sym told ∙ c.if-is_other.true)

pub loop-image-preserved : goal.loop-image-preserved
loop-image-preserved c =
    let step = c.in-Some.ensures.steps in
    let g = c.args.gathered.now.cursors in
    let none = c.loop-image.invariant.2 in
    let told = rw step.0.0 at c.is_other.ensures ∙ other_gathered _ g.newest g.last none.bytes step.0.1.has_image _ (row_here _ _ _ _ step.0.1 _ _ _ step.1 none.beside) _ in
    ((tt, tt), tt, still_none _ _ _ _ step.0.1 _ _ _ step.1 _ _ none (sym told ∙ c.if-is_other.false))

pub returns : goal.returns
returns c = no_other_left _ _ _ _ _ _ c.loop-image.invariant.2 (⊎_elim (λ w. inl w.1.0) (λ w. inr w.1.0) c.in-None.ensures.steps)

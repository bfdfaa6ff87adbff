-- Each table's place is filled, and its cursor set behind the stamp, with those that are left.
use mathlib.Core.Path.{◌≡◌, refl}
use mathlib.Core.Logic.{⊎_elim, inl, inr}
use native.Mathlib.Omega.{arith}
use Rattle.wire.proofs.Numbers.{all_of}
use Rattle.std.specs.Iterator.Adapters.{enumerate_source, zip_first}
use lib.ListN.{length}
use Prim.Native.Nat.{◌≤◌}
use Rattle.rules.specs.Tables.{Table, valley}
use Rattle.table.specs.Images.{format_one}
use Rattle.table.specs.Parse.{table_at}
use Rattle.seek.proofs.HeldRows.{image_regular}
use Rattle.gather.specs.Inner.Cursors.{cursor_in}
use Rattle.gather.proofs.Cursors.{cursor_most}
use Rattle.gather.proofs.Gathered.{none_gathered, cursors_next, cursor_here, one_gathered, few_left, all_gathered}
use Rattle.gather.proofs.held.gather.Goals as goal

pub loop-k-init : goal.loop-k-init
loop-k-init c =
    let few = c.requires.images.1 in
    let begun = none_gathered _ few (all_of c.args.run.now (λ i. (c.type_inv.run i).fits)) c.requires.images.0 c.args.cursors c.requires.images.2 c.args.stamp c.requires.stamp_value.0 c.requires.stamp_value.1 _ _ (grind arith) (grind arith) _ (grind arith) in
    (((tt, tt), tt, inl (few_left _ _ _ begun.few)), tt, rw c.no_row-rows.ensures begun)

pub row_under-row-requires : goal.row_under-row-requires
row_under-row-requires c =
    let step = c.in-Some.ensures.steps in
    let above = (cursors_next c.args.run.now c.requires.images.1 c.requires.images.0 c.args.cursors c.requires.images.2 c.args.stamp c.requires.stamp_value.0 c.requires.stamp_value.1).1 in
    (rw (← step.0.0.0) at step.0.0.1.has_image, rw (← step.0.0.0) at (cursor_here _ _ _ _ _ step.0.0.1 _ _ _ step.0.1 _ _ _ c.loop-k.invariant.2), above, c.requires.stamp_value.1)

pub place_behind-requires : goal.place_behind-requires
place_behind-requires c =
    let step = c.in-Some.ensures.steps in
    let T : Table = table_at format_one (zip_first (enumerate_source c.loop-k.k-iterator)).rest.now in
    let e : c.in-Some.index.now ≡ cursor_in c.args.cursors.newest c.args.stamp T = cursor_here _ _ _ _ _ step.0.0.1 _ _ _ step.0.1 _ _ _ c.loop-k.invariant.2 in
    let most : cursor_in c.args.cursors.newest c.args.stamp T ≤ length T.rows = cursor_most c.args.cursors.newest c.args.stamp T in
    let few = (image_regular valley _ step.0.0.1.has_image).1 in
    omega arith

pub loop-k-preserved : goal.loop-k-preserved
loop-k-preserved c =
    let step = c.in-Some.ensures.steps in
    let row = rw step.0.0.0 at c.row_under-row.ensures in
    let on = one_gathered _ _ _ _ _ step.0.0.1 _ _ _ step.0.1 _ _ _ c.loop-k.invariant.2 _ _ row c.place_behind.ensures in
    (((tt, tt), tt, inl (rw step.2 (few_left _ _ _ on.few))), tt, rw (step.2, step.1) on)

pub returns : goal.returns
returns c =
    let all = all_gathered _ _ _ _ _ _ _ _ c.loop-k.invariant.2 (⊎_elim (λ w. inl w.1.0) (λ w. inr w.1.0) c.in-None.ensures.steps.0) in
    rw (all.0, all.1) refl

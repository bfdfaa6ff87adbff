-- Test by test; then the part of the run that was laid is what is merged.
use mathlib.Core.Bool.{false}
use mathlib.Core.Path.{◌≡◌, sym, ◌∙◌}
use native.Mathlib.Omega.{arith}
use lib.Seq.{length-take-le}
use Rattle.rules.specs.Tables.{valley}
use Rattle.boxes.specs.Inner.OneBuffer.{no_run_room}
use Rattle.boxes.proofs.NamedTables.{crowded, room, roomy, together_crowded, together_small, together_bad, together_merged, laid_within, laid_part}
use Rattle.boxes.proofs.together.merge_boxes.Goals as goal
use Rattle.boxes.proofs.together.merge_boxes.Goals.{then-run-boxes-via-then-run-boxes, then-run-boxes-via-else-run-boxes+then-out-lt-VALLEY_BUFFER}

pub returns-then-run-boxes : goal.returns-then-run-boxes
returns-then-run-boxes c =
    let a = c.args in
    elim c.then-run-boxes.branch [
      | then-run-boxes-via-then-run-boxes w ↦
          let (number, (after, merged)) = together_crowded valley a.tables.now a.boxes.now a.view a.run.now a.out.now (crowded valley (omega arith) a.boxes.now a.run.now w.if-run-boxes.true) in
          record { value = number; run_after = after; out_after = merged }
      | then-run-boxes-via-else-run-boxes+then-out-lt-VALLEY_BUFFER w ↦
          let (number, (after, merged)) = together_small valley a.tables.now a.boxes.now a.view a.run.now a.out.now (roomy valley (omega arith) _ _ w.if-run-boxes.false) w.if-out-lt-VALLEY_BUFFER.true in
          record { value = number; run_after = after; out_after = merged }
    ]

pub returns-then-not-all_whole : goal.returns-then-not-all_whole
returns-then-not-all_whole c =
    let fits : (let a = c.args in no_run_room valley a.boxes.now a.run.now ≡ false) = roomy valley (omega arith) _ _ c.if-run-boxes.false in
    let a = c.args in
    let (number, (after, merged)) = together_bad valley a.tables.now a.boxes.now a.view a.run.now a.out.now fits c.if-out-lt-VALLEY_BUFFER.false (sym c.all_whole.ensures ∙ c.if-not-all_whole.true) in record { value = number; run_after = after; out_after = merged }

pub lay_images-end-requires : goal.lay_images-end-requires
lay_images-end-requires c = let a = c.args in (sym c.all_whole.ensures ∙ c.if-not-all_whole.false, room valley (omega arith) a.boxes.now a.run.now c.if-run-boxes.false)

pub slice_bounds-merge-end : goal.slice_bounds-merge-end
slice_bounds-merge-end c = let laid = c.lay_images-end in rw laid.ensures.value (laid_within _ _ _ laid.ensures.run_after)

pub slice_bounds-merge-end-2 : goal.slice_bounds-merge-end-2
slice_bounds-merge-end-2 c = let laid = c.lay_images-end in sym (length-take-le _ _ (rw laid.ensures.value (laid_within _ _ _ laid.ensures.run_after)))

pub returns : goal.returns
returns c =
    let fits : (let a = c.args in no_run_room valley a.boxes.now a.run.now ≡ false) = roomy valley (omega arith) _ _ c.if-run-boxes.false in
    let a = c.args in
    let laid = c.lay_images-end in
    let call = c.merge in
    let is = rw (← laid.ensures.value) at (laid_part _ _ _ laid.ensures.run_after) in
    let (number, (after, merged)) = together_merged valley a.tables.now a.boxes.now a.view a.run.now a.out.now fits c.if-out-lt-VALLEY_BUFFER.false _ _ _ laid.ensures.run_after (rw is at call.ensures.value) (rw is at call.ensures.out_after) in record { value = number; run_after = after; out_after = merged }

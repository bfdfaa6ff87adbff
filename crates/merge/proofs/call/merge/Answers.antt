-- Test by test, in the order of the numbers.
use Rattle.merge.proofs.MergeSteps.{kept_small, kept_bad, kept_wrong, kept_done, enough, run_ready, tables_ready, rows_ready}
use mathlib.Core.Path.{◌≡◌}
use native.Mathlib.Omega.{arith}
use Rattle.merge.proofs.MergeSteps.{refusal_kept}
use Rattle.decide.specs.Inner.Surveyed.{survey_number}
use Rattle.std.proofs.lemmas.Result.{err_from_is_err_and}
use Rattle.merge.proofs.call.merge.Goals as goal

pub returns-then-out-model : goal.returns-then-out-model
returns-then-out-model c =
    let (number, after) = kept_small _ c.valley-model.ensures c.args.run.now c.args.out.now c.args.view c.if-out-model.true in
    record { value = number; out_after = after }

pub returns-then-not-is_whole : goal.returns-then-not-is_whole
returns-then-not-is_whole c =
    let (number, after) = kept_bad _ c.valley-model.ensures c.args.run.now c.args.out.now c.args.view c.if-out-model.false c.if-not-is_whole.ensures in
    record { value = number; out_after = after }

pub are_wrong-requires : goal.are_wrong-requires
are_wrong-requires c = run_ready _ c.valley-model.ensures c.args.run.now c.args.out.now c.args.view c.if-out-model.false c.if-not-is_whole.ensures

pub returns-then-are_wrong : goal.returns-then-are_wrong
returns-then-are_wrong c =
    let (number, after) = kept_wrong _ c.valley-model.ensures c.args.run.now c.args.out.now c.args.view c.if-out-model.false c.if-not-is_whole.ensures c.if-are_wrong.ensures in
    record { value = number; out_after = after }

pub newest_view-newest-requires : goal.newest_view-newest-requires
newest_view-newest-requires c = (run_ready _ c.valley-model.ensures c.args.run.now c.args.out.now c.args.view c.if-out-model.false c.if-not-is_whole.ensures).0

pub survey_stamps-seen-requires : goal.survey_stamps-seen-requires
survey_stamps-seen-requires c =
    let ready = tables_ready _ c.valley-model.ensures c.args.run.now c.args.out.now c.args.view c.if-out-model.false c.if-not-is_whole.ensures c.if-are_wrong.ensures in
    (ready.0, ready.2)

pub returns-in_err-allows_merge : goal.returns-in_err-allows_merge
returns-in_err-allows_merge c =
    let (refusal, told, same) = err_from_is_err_and c.from_residual.result c.from_residual.ensures.1 in
    let (number, after) = refusal_kept _ c.valley-model.ensures c.args.run.now c.args.out.now c.args.view c.if-out-model.false c.if-not-is_whole.ensures c.if-are_wrong.ensures _ c.newest_view-newest.ensures _ c.survey_stamps-seen.ensures refusal (rw same c.in_err-allows_merge.ensures) in
    rw told (record { value = number; out_after = after })

pub write_merged-requires : goal.write_merged-requires
write_merged-requires c =
    let allowed : 0 ≡ survey_number c.valley-model.result.limit c.survey_stamps-seen.result = omega arith in
    let ready = tables_ready _ c.valley-model.ensures c.args.run.now c.args.out.now c.args.view c.if-out-model.false c.if-not-is_whole.ensures c.if-are_wrong.ensures in
    record {
      images = (ready.0, ready.1, enough _ c.valley-model.ensures c.args.run.now c.args.out.now c.args.view c.if-out-model.false, ready.2);
      run_value = rows_ready _ c.valley-model.ensures c.args.run.now c.args.out.now c.args.view c.if-out-model.false c.if-not-is_whole.ensures c.if-are_wrong.ensures _ c.newest_view-newest.ensures _ c.survey_stamps-seen.ensures allowed;
    }

pub returns : goal.returns
returns c =
    let allowed : 0 ≡ survey_number c.valley-model.result.limit c.survey_stamps-seen.result = omega arith in
    let (number, after) = kept_done _ c.valley-model.ensures c.args.run.now c.args.out.now c.args.view c.if-out-model.false c.if-not-is_whole.ensures c.if-are_wrong.ensures _ c.newest_view-newest.ensures _ c.survey_stamps-seen.ensures allowed _ c.write_merged.ensures in
    record { value = number; out_after = after }

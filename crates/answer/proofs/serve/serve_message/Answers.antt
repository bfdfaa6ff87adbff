-- Each kind has its function, and what the reader found is what that asks.
use mathlib.Core.Path.{refl}
use native.Mathlib.Nat.{le_trans}
use lib.ListN.{drop}
use Rattle.wire.proofs.Numbers.{all_of}
use Rattle.rules.specs.Tables.{valley}
use Rattle.table.specs.Headers.{header_at}
use Rattle.table.specs.Images.{format_one}
use Rattle.table.specs.Parse.{table_at}
use Rattle.seek.specs.Inner.Limits.{limited}
use Rattle.seek.proofs.HeldRows.{image_holds}
use Rattle.transact.specs.Inner.Served.{served_compared}
use Rattle.transact.proofs.Serving.{same_2, same_4, same_5, same_6, same_7, kept_any}
use Rattle.answer.proofs.Asked.{prepare_given, outcome_given, start_given, up_to_end}
use Rattle.answer.proofs.RegisterRead.{read_keeps}
use Rattle.answer.proofs.serve.serve_message.Goals as goal

pub propose_prepare-requires : goal.propose_prepare-requires
propose_prepare-requires c = record {
  begins_with_image = c.requires.begins_with_image;
  stamp_value = prepare_given (limited c.args.limit) (header_at c.args.table.now).n c.args.message.now (all_of _ (λ i. (c.type_inv.message i).fits)) _ _ _ (rw c.in-ProposePrepare.is at c.requires.asked_value.0);
}

pub finalise_prepare-requires : goal.finalise_prepare-requires
finalise_prepare-requires c = (c.requires.begins_with_image.0, rw c.in-FinalisePrepare.is at c.requires.asked_value.1)

pub propose_outcome-requires : goal.propose_outcome-requires
propose_outcome-requires c = record {
  begins_with_image = c.requires.begins_with_image;
  stamp_value = outcome_given (limited c.args.limit) (header_at c.args.table.now).n c.args.message.now (all_of _ (λ i. (c.type_inv.message i).fits)) _ _ _ _ (rw c.in-ProposeOutcome.is at c.requires.asked_value.0);
}

pub slice_bounds-start_view-count : goal.slice_bounds-start_view-count
slice_bounds-start_view-count c = (start_given c.args.limit (header_at c.args.table.now).n c.args.message.now (all_of _ (λ i. (c.type_inv.message i).fits)) _ c.requires.begins_with_image.1 (rw c.in-StartView.is at c.requires.asked_value.0)).0

pub slice_bounds-start_view-start : goal.slice_bounds-start_view-start
slice_bounds-start_view-start c = (start_given c.args.limit (header_at c.args.table.now).n c.args.message.now (all_of _ (λ i. (c.type_inv.message i).fits)) _ c.requires.begins_with_image.1 (rw c.in-StartView.is at c.requires.asked_value.0)).0

pub start_view-requires : goal.start_view-requires
start_view-requires c =
    let g = start_given c.args.limit (header_at c.args.table.now).n c.args.message.now (all_of _ (λ i. (c.type_inv.message i).fits)) _ c.requires.begins_with_image.1 (rw c.in-StartView.is at c.requires.asked_value.0) in
    rw (up_to_end c.args.message.now 5) (c.requires.begins_with_image.0, g.1, g.2, le_trans g.3 c.requires.begins_with_image.2)

pub returns-in-ProposePrepare : goal.returns-in-ProposePrepare
returns-in-ProposePrepare c = rw c.in-ProposePrepare.is c.propose_prepare.ensures

pub returns-in-FinalisePrepare : goal.returns-in-FinalisePrepare
returns-in-FinalisePrepare c =
    let n = c.finalise_prepare.ensures in
    let (tells, after) = kept_any valley (limited c.args.limit) _ c.args.table.now (λ T. same_2 valley (limited c.args.limit) T _ _ _) _ (n.reply_value.0, n.table_after) in
    rw c.in-FinalisePrepare.is record { reply_value = (tells, n.reply_value.1); table_after = after }

pub returns-in-ProposeOutcome : goal.returns-in-ProposeOutcome
returns-in-ProposeOutcome c = rw c.in-ProposeOutcome.is c.propose_outcome.ensures

pub returns-in-FinaliseOutcome : goal.returns-in-FinaliseOutcome
returns-in-FinaliseOutcome c =
    let n = c.finalise_outcome.ensures in
    let (tells, after) = kept_any valley (limited c.args.limit) _ c.args.table.now (λ T. same_4 valley (limited c.args.limit) T _ _ _) _ (n.reply_value.0, n.table_after) in
    rw c.in-FinaliseOutcome.is record { reply_value = (tells, n.reply_value.1); table_after = after }

pub returns-in-ChangeView : goal.returns-in-ChangeView
unfolding served_compared
returns-in-ChangeView c =
    let (tells, after) = kept_any valley (limited c.args.limit) _ c.args.table.now (λ T. same_5 valley (limited c.args.limit) T _) c.change_view.result (c.change_view.ensures.value, c.change_view.ensures.table_after) in
    rw (c.in-ChangeView.is, c.without_search.ensures.0, c.without_search.ensures.1) record { reply_value = (tells, refl); table_after = after }

pub returns-in-StartView : goal.returns-in-StartView
unfolding served_compared
returns-in-StartView c =
    let I = table_at format_one (drop 5 c.args.message.now) in
    let (tells, after) = kept_any valley (limited c.args.limit) _ c.args.table.now (λ T. same_6 valley (limited c.args.limit) T _ I) c.start_view.result (rw (up_to_end c.args.message.now 5) at c.start_view.ensures.value, rw (up_to_end c.args.message.now 5) at c.start_view.ensures.table_after) in
    rw (c.in-StartView.is, c.without_search-in-StartView.ensures.0, c.without_search-in-StartView.ensures.1) record { reply_value = (tells, refl); table_after = after }

pub returns-in-ReadRegister : goal.returns-in-ReadRegister
unfolding served_compared
returns-in-ReadRegister c =
    let s = c.args.table.now in
    let (tells, after) = kept_any valley (limited c.args.limit) _ s (λ T. same_7 valley (limited c.args.limit) T _ _) c.read_register.result (c.read_register.ensures, read_keeps valley s _ _ (image_holds valley s c.requires.begins_with_image.0)) in
    rw (c.in-ReadRegister.is, c.without_search-in-ReadRegister.ensures.0, c.without_search-in-ReadRegister.ensures.1) record { reply_value = (tells, refl); table_after = after }

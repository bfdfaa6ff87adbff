-- The fields of the first image that holds the stamp, with the state of its row before any check; then its body.
use mathlib.Core.Path.{ap, ◌∙◌}
use Prim.Native.Nat.{◌+◌}
use native.Mathlib.Omega.{arith}
use Rattle.wire.specs.Parts.{replaced}
use Rattle.wire.proofs.Numbers.{all_of}
use Rattle.merge.proofs.RowsWritten.{body_inside, whether_agreed, agreed_tentative, body_as_long, row_and_body}
use Rattle.merge.proofs.write.write_stamp.Goals as goal

pub body_of-body-requires : goal.body_of-body-requires
body_of-body-requires c = body_inside _ (all_of c.args.run.now (λ i. (c.type_inv.run i).fits)) c.requires.images.0 c.requires.images.1 _ c.requires.images.2 c.requires.images.3 _ _ c.first_of-first.ensures.1 c.first_of-first.ensures.2

pub unchecked_state-state-requires : goal.unchecked_state-state-requires
unchecked_state-state-requires c = agreed_tentative _ (all_of c.args.run.now (λ i. (c.type_inv.run i).fits)) c.requires.images.0 c.requires.images.1 _ c.requires.images.2 _ _ c.agreed_result-agreed.ensures

pub copy_part-requires : goal.copy_part-requires
copy_part-requires c =
    let long = body_as_long _ (all_of c.args.run.now (λ i. (c.type_inv.run i).fits)) c.requires.images.0 c.requires.images.1 _ c.requires.images.2 c.requires.images.3 _ _ c.first_of-first.ensures.1 c.first_of-first.ensures.2 _ _ c.agreed_result-agreed.ensures _ c.state_of.ensures _ c.unchecked_state-state.ensures _ c.body_of-body.ensures in
    omega arith

pub overflow_add-result : goal.overflow_add-result
overflow_add-result c =
    let long = body_as_long _ (all_of c.args.run.now (λ i. (c.type_inv.run i).fits)) c.requires.images.0 c.requires.images.1 _ c.requires.images.2 c.requires.images.3 _ _ c.first_of-first.ensures.1 c.first_of-first.ensures.2 _ _ c.agreed_result-agreed.ensures _ c.state_of.ensures _ c.unchecked_state-state.ensures _ c.body_of-body.ensures in
    omega arith

pub returns : goal.returns
returns c =
    let long = body_as_long _ (all_of c.args.run.now (λ i. (c.type_inv.run i).fits)) c.requires.images.0 c.requires.images.1 _ c.requires.images.2 c.requires.images.3 _ _ c.first_of-first.ensures.1 c.first_of-first.ensures.2 _ _ c.agreed_result-agreed.ensures _ c.state_of.ensures _ c.unchecked_state-state.ensures _ c.body_of-body.ensures in
    record {
      due_value = (ap (λ n. c.args.due + n) long, c.is_some.ensures ∙ whether_agreed _ (all_of c.args.run.now (λ i. (c.type_inv.run i).fits)) c.requires.images.0 c.requires.images.1 _ c.requires.images.2 c.requires.images.3 _ _ c.first_of-first.ensures.1 c.first_of-first.ensures.2 _ _ c.agreed_result-agreed.ensures);
      out_after = c.copy_part.ensures
          ∙ ap (λ z. replaced z c.args.due c.body_of-body.result.now) c.write_row.ensures
          ∙ row_and_body _ (all_of c.args.run.now (λ i. (c.type_inv.run i).fits)) c.requires.images.0 c.requires.images.1 _ c.requires.images.2 c.requires.images.3 _ _ c.first_of-first.ensures.1 c.first_of-first.ensures.2 _ _ c.agreed_result-agreed.ensures _ c.state_of.ensures _ c.unchecked_state-state.ensures _ c.body_of-body.ensures _ _ _;
    }

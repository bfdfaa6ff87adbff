-- Refused by what was found, answered by the row that is held, or checked for a new one.
use mathlib.Core.Path.{refl, sym, ap, ◌∙◌}
use native.Mathlib.Omega.{arith}
use Rattle.std.specs.Prelude.{Ok}
use Rattle.rows.proofs.Sought.{absent_none}
use Rattle.rows.specs.declared.row.RowFields.{RowFields}
use Rattle.rows.specs.Read.{body_at}
use Rattle.table.specs.Images.{format_one}
use Rattle.table.specs.Parse.{table_at}
use Rattle.seek.specs.Inner.Limits.{limited}
use Rattle.transact.specs.Inner.Served.{served_compared}
use Rattle.transact.proofs.NewRows.{room_for_row}
use Rattle.transact.proofs.Proposals.{held_clear, new_clear, room_found}
use Rattle.transact.proofs.Proposed.{prepare_proposal_refused}
use Rattle.transact.proofs.prepare.propose_prepare.Goals as goal

pub row_to_propose-sought-requires : goal.row_to_propose-sought-requires
row_to_propose-sought-requires c = (c.requires.begins_with_image.0, c.requires.stamp_value.2)

pub answer_held-requires : goal.answer_held-requires
answer_held-requires c =
    let x = body_at c.args.message.now 11 c.args.reads c.args.writes in
    (c.requires.begins_with_image.0, (held_clear (limited c.args.limit) (table_at format_one c.args.table.now) c.args.stamp x _ (sym c.row_to_propose-sought.ensures.0 ∙ c.in-Ok-Held.is ∙ ap Ok (rw c.in-Ok-Held.is at c.in-Ok-Held.field-0-is))).1)

pub add_checked-requires : goal.add_checked-requires
add_checked-requires c = let s = c.args.table.now in
    let x = body_at c.args.message.now 11 c.args.reads c.args.writes in
    let q = c.requires in
    let row : RowFields = record { stamp = c.args.stamp; retry = 0; offset = 11; reads = c.args.reads; writes = c.args.writes; prepare = 0; outcome = 0 } in
    let T = table_at format_one s in
    let clear = new_clear (limited c.args.limit) T c.args.stamp x _ (sym c.row_to_propose-sought.ensures.0 ∙ c.in-Ok-Absent.is ∙ ap Ok (rw c.in-Ok-Absent.is at c.in-Ok-Absent.field-0-is)) in
    let unheld = absent_none T.rows c.args.stamp _ clear.1 in
    record {
      begins_with_image = (q.begins_with_image.0, clear.1, q.stamp_value.2, q.stamp_value.1, refl);
      table_bound = room_for_row s c.args.limit row q.begins_with_image.0 q.begins_with_image.1 q.begins_with_image.2 q.stamp_value.0 q.stamp_value.1 (omega arith) (room_found (limited c.args.limit) T c.args.stamp unheld clear.0.2);
    }

pub returns-in-Err : goal.returns-in-Err
unfolding served_compared
returns-in-Err c =
    let x = body_at c.args.message.now 11 c.args.reads c.args.writes in
    let (tells, after) = prepare_proposal_refused (limited c.args.limit) c.args.table.now c.args.stamp x c.requires.begins_with_image.0 _ (sym c.row_to_propose-sought.ensures.0 ∙ c.in-Err.is) in
    rw (c.with.ensures.0, c.with.ensures.1) record { reply_value = (tells, c.row_to_propose-sought.ensures.1); table_after = after }

pub returns-in-Ok-Held : goal.returns-in-Ok-Held
unfolding served_compared
returns-in-Ok-Held c =
    let x = body_at c.args.message.now 11 c.args.reads c.args.writes in
    let (tells, after) = c.answer_held.ensures (limited c.args.limit) x (sym c.row_to_propose-sought.ensures.0 ∙ c.in-Ok-Held.is ∙ ap Ok (rw c.in-Ok-Held.is at c.in-Ok-Held.field-0-is)) in
    rw (c.with-in-Ok-Held.ensures.0, c.with-in-Ok-Held.ensures.1) record { reply_value = (tells, c.row_to_propose-sought.ensures.1); table_after = after }

pub returns-in-Ok-Absent : goal.returns-in-Ok-Absent
unfolding served_compared
returns-in-Ok-Absent c =
    let (tells, after) = c.add_checked.ensures (limited c.args.limit) (sym c.row_to_propose-sought.ensures.0 ∙ c.in-Ok-Absent.is ∙ ap Ok (rw c.in-Ok-Absent.is at c.in-Ok-Absent.field-0-is)) in
    rw c.with-in-Ok-Absent.ensures.0 record { reply_value = (tells, c.with-in-Ok-Absent.ensures.1 ∙ c.row_to_propose-sought.ensures.1); table_after = after }

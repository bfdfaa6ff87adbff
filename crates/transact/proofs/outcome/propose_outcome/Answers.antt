-- Refused by what was found, noted in the row that is held, or in a new one.
use mathlib.Core.Path.{refl, sym, ap, ◌∙◌}
use native.Mathlib.Omega.{arith}
use Rattle.rules.specs.Tables.{valley}
use Rattle.std.specs.Prelude.{Ok}
use Rattle.rows.proofs.Sought.{absent_none}
use Rattle.rows.specs.declared.row.RowFields.{RowFields}
use Rattle.rows.specs.Read.{body_at}
use Rattle.table.specs.Images.{format_one}
use Rattle.table.specs.Parse.{table_at}
use Rattle.seek.specs.Inner.Limits.{limited}
use Rattle.seek.proofs.HeldRows.{image_regular, image_holds}
use Rattle.transact.specs.Inner.Served.{served_compared}
use Rattle.transact.proofs.NewRows.{room_for_row, no_retry}
use Rattle.transact.proofs.Proposals.{held_clear, new_clear, room_found}
use Rattle.transact.proofs.Proposed.{outcome_proposal_refused, note_new_taken}
use Rattle.transact.proofs.outcome.propose_outcome.Goals as goal

pub row_to_propose-sought-requires : goal.row_to_propose-sought-requires
row_to_propose-sought-requires c = (c.requires.begins_with_image.0, c.requires.stamp_value.2)

pub note_held-requires : goal.note_held-requires
note_held-requires c =
    let x = body_at c.args.message.now 12 c.args.reads c.args.writes in
    (c.requires.begins_with_image.0, (held_clear (limited c.args.limit) (table_at format_one c.args.table.now) c.args.stamp x _ (sym c.row_to_propose-sought.ensures.0 ∙ c.in-Ok-Held.is ∙ ap Ok (rw c.in-Ok-Held.is at c.in-Ok-Held.field-0-is))).1)

pub add_new-requires : goal.add_new-requires
add_new-requires c = let s = c.args.table.now in
    let x = body_at c.args.message.now 12 c.args.reads c.args.writes in
    let q = c.requires in
    let row : RowFields = record { stamp = c.args.stamp; retry = 0; offset = 12; reads = c.args.reads; writes = c.args.writes; prepare = 0; outcome = c.code.result } in
    let T = table_at format_one s in
    let clear = new_clear (limited c.args.limit) T c.args.stamp x _ (sym c.row_to_propose-sought.ensures.0 ∙ c.in-Ok-Absent.is ∙ ap Ok (rw c.in-Ok-Absent.is at c.in-Ok-Absent.field-0-is)) in
    let unheld = absent_none T.rows c.args.stamp _ clear.1 in
    record {
      holds = (image_holds valley s q.begins_with_image.0, (image_regular valley s q.begins_with_image.0).0.rise, clear.1);
      storable = ((q.stamp_value.1, omega arith, omega arith, no_retry), q.stamp_value.2);
      table_bound = room_for_row s c.args.limit row q.begins_with_image.0 q.begins_with_image.1 q.begins_with_image.2 q.stamp_value.0 q.stamp_value.1 (omega arith) (room_found (limited c.args.limit) T c.args.stamp unheld clear.0.2);
    }

pub returns-in-Err : goal.returns-in-Err
unfolding served_compared
returns-in-Err c =
    let x = body_at c.args.message.now 12 c.args.reads c.args.writes in
    let (tells, after) = outcome_proposal_refused (limited c.args.limit) c.args.table.now c.args.stamp _ x c.requires.begins_with_image.0 _ (sym c.row_to_propose-sought.ensures.0 ∙ c.in-Err.is) in
    rw (c.with.ensures.0, c.with.ensures.1) record { reply_value = (tells, c.row_to_propose-sought.ensures.1); table_after = after }

pub returns-in-Ok-Held : goal.returns-in-Ok-Held
unfolding served_compared
returns-in-Ok-Held c =
    let x = body_at c.args.message.now 12 c.args.reads c.args.writes in
    let (tells, after) = c.note_held.ensures (limited c.args.limit) x (sym c.row_to_propose-sought.ensures.0 ∙ c.in-Ok-Held.is ∙ ap Ok (rw c.in-Ok-Held.is at c.in-Ok-Held.field-0-is)) in
    rw (c.with-in-Ok-Held.ensures.0, c.with-in-Ok-Held.ensures.1) record { reply_value = (tells, c.row_to_propose-sought.ensures.1); table_after = after }

pub returns-in-Ok-Absent : goal.returns-in-Ok-Absent
unfolding served_compared
returns-in-Ok-Absent c =
    let x = body_at c.args.message.now 12 c.args.reads c.args.writes in
    let row : RowFields = record { stamp = c.args.stamp; retry = 0; offset = 12; reads = c.args.reads; writes = c.args.writes; prepare = 0; outcome = c.code.result } in
    let (tells, after) = note_new_taken (limited c.args.limit) c.args.table.now c.args.stamp _ x c.requires.begins_with_image.0 _ c.args.message.now row (sym c.row_to_propose-sought.ensures.0 ∙ c.in-Ok-Absent.is ∙ ap Ok (rw c.in-Ok-Absent.is at c.in-Ok-Absent.field-0-is)) refl refl refl c.code.ensures.0 in
    rw (c.with-in-Ok-Absent.ensures.0, c.with-in-Ok-Absent.ensures.1, c.add_new.ensures.value, c.add_new.ensures.table_after) record { reply_value = (tells, c.row_to_propose-sought.ensures.1); table_after = after }

-- The mode first, then the look-up: room for a row that is not held, or the body of one that is.
use mathlib.Core.Path.{sym, ◌∙◌}
use Rattle.wire.proofs.Numbers.{all_of}
use Rattle.rules.specs.Tables.{valley}
use Rattle.rows.specs.Read.{body_at}
use Rattle.table.specs.Images.{format_one}
use Rattle.edit.proofs.Holding.{one_starts, holds_least}
use Rattle.seek.proofs.HeldRows.{image_holds, began_with, held_here}
use Rattle.seek.proofs.SoughtRows.{mode_told, propose_changing, propose_other, propose_held, propose_new}
use Rattle.seek.proofs.row_to_propose.Goals as goal

pub read-h-requires : goal.read-h-requires
read-h-requires c = holds_least format_one c.args.table.now one_starts (image_holds valley c.args.table.now c.requires.0)

pub returns-then-is_changing : goal.returns-then-is_changing
returns-then-is_changing c = rw (c.without_search.ensures.0, c.without_search.ensures.1) (propose_changing c.args.table.now c.args.given.stamp c.args.limit (body_at c.args.message.now c.args.given.offset c.args.given.reads c.args.given.writes) (mode_told c.args.table.now _ _ _ c.read-h.ensures c.is_changing.ensures c.if-is_changing.true))

pub new_row-requires : goal.new_row-requires
new_row-requires c = rw c.read-h.ensures (began_with valley c.args.table.now c.requires.0)

pub returns-in_default : goal.returns-in_default
returns-in_default c = rw (c.with.ensures.0, c.with.ensures.1, c.new_row.ensures, c.read-h.ensures) (propose_new c.args.table.now c.args.given.stamp c.args.limit (body_at c.args.message.now c.args.given.offset c.args.given.reads c.args.given.writes) (mode_told c.args.table.now _ _ _ c.read-h.ensures c.is_changing.ensures c.if-is_changing.false) _ _ c.find-sought.ensures _ c.in_default.is)

pub other_body-requires : goal.other_body-requires
other_body-requires c = (c.requires.0, c.find-sought.ensures.0, c.requires.1)

pub returns-then-other_body : goal.returns-then-other_body
returns-then-other_body c = rw (c.with-then-other_body.ensures.0, c.with-then-other_body.ensures.1) (propose_other c.args.table.now c.args.given.stamp c.args.limit (body_at c.args.message.now c.args.given.offset c.args.given.reads c.args.given.writes) (mode_told c.args.table.now _ _ _ c.read-h.ensures c.is_changing.ensures c.if-is_changing.false) _ _ c.find-sought.ensures (sym c.other_body.ensures ∙ c.if-other_body.true))

pub returns : goal.returns
returns c =
    let there = held_here valley c.args.table.now c.args.given.stamp _ (all_of _ (λ i. (c.type_inv.table i).fits)) c.requires.0 (sym c.find-sought.ensures.0 ∙ c.in-Held.is) in
    rw (c.with-2.ensures.0, c.with-2.ensures.1) (propose_held c.args.table.now c.args.given.stamp c.args.limit (body_at c.args.message.now c.args.given.offset c.args.given.reads c.args.given.writes) (mode_told c.args.table.now _ _ _ c.read-h.ensures c.is_changing.ensures c.if-is_changing.false) _ _ c.find-sought.ensures _ there (sym c.other_body.ensures ∙ c.if-other_body.false))

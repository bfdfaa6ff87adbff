-- A view at or below the promised one is refused, any other promised.
use Rattle.rules.specs.Tables.{valley}
use Rattle.table.specs.Images.{format_one}
use Rattle.edit.proofs.Holding.{one_starts, holds_least}
use Rattle.seek.proofs.HeldRows.{image_holds}
use Rattle.answer.proofs.ViewsServed.{change_refused, change_taken}
use Rattle.answer.proofs.views.change_view.Goals as goal

pub read-h-requires : goal.read-h-requires
read-h-requires c = holds_least format_one c.args.table.now one_starts (image_holds valley c.args.table.now c.requires)

pub returns-then-view-h : goal.returns-then-view-h
returns-then-view-h c =
    let (tells, after) = change_refused c.args.table.now c.args.view (image_holds valley c.args.table.now c.requires) (rw c.read-h.ensures at c.if-view-h.true) in
    record { value = tells; table_after = after }

pub promise-requires : goal.promise-requires
promise-requires c = image_holds valley c.args.table.now c.requires

pub returns : goal.returns
returns c =
    let (tells, after) = change_taken c.args.table.now c.args.view (image_holds valley c.args.table.now c.requires) (rw c.read-h.ensures at c.if-view-h.false) in
    rw (c.taken.ensures, c.from.ensures, c.promise.ensures, c.read-h.ensures) record { value = tells; table_after = after }

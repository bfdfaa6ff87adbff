-- A view below the promised one, or at or below the last normal one, is refused; the image of any other is taken.
use mathlib.Core.Path.{◌∙◌}
use Rattle.rules.specs.Tables.{valley}
use Rattle.table.specs.Images.{format_one}
use Rattle.table.specs.Parse.{table_at}
use Rattle.edit.proofs.Holding.{one_starts, holds_least}
use Rattle.seek.proofs.HeldRows.{image_holds}
use Rattle.answer.proofs.ViewsServed.{start_refused, start_taken, view_said}
use Rattle.answer.proofs.views.start_view.Goals as goal

pub read-h-requires : goal.read-h-requires
read-h-requires c = holds_least format_one c.args.table.now one_starts (image_holds valley c.args.table.now c.requires.0)

pub returns-then-view-h : goal.returns-then-view-h
returns-then-view-h c =
    let (tells, after) = start_refused c.args.table.now c.args.view (image_holds valley c.args.table.now c.requires.0) (table_at format_one c.args.image.now) (rw c.read-h.ensures at c.then-view-h.either) in
    record { value = tells; table_after = after }

pub take_image-requires : goal.take_image-requires
take_image-requires c = (image_holds valley c.args.table.now c.requires.0, image_holds valley c.args.image.now c.requires.1, c.requires.3)

pub returns : goal.returns
returns c =
    let s = c.args.table.now in
    let (tells, after) = start_taken s c.args.view (image_holds valley s c.requires.0) (table_at format_one c.args.image.now)
    (rw c.read-h.ensures at c.if-view-h.false) (rw c.read-h.ensures at c.if-view-h-2.false) (view_said c.args.image.now ∙ c.requires.2) in
    rw (c.taken.ensures, c.with_view.ensures, c.take_image.ensures, c.read-h.ensures) record { value = tells; table_after = after }

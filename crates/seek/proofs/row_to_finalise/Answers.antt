-- Mode and view first, then the look-up.
use mathlib.Core.Path.{sym, ◌∙◌}
use Rattle.rules.specs.Tables.{valley}
use Rattle.table.specs.Images.{format_one}
use Rattle.edit.proofs.Holding.{one_starts, holds_least}
use Rattle.seek.proofs.HeldRows.{image_holds}
use Rattle.seek.proofs.SoughtRows.{finalise_refused, finalise_sought}
use Rattle.seek.proofs.row_to_finalise.Goals as goal

pub read-h-requires : goal.read-h-requires
read-h-requires c = holds_least format_one c.args.table.now one_starts (image_holds valley c.args.table.now c.requires)

pub returns-in-Err : goal.returns-in-Err
returns-in-Err c =
    let told = finalise_refused c.args.table.now c.args.stamp c.args.view _ c.read-h.ensures _ (sym c.in-Err.is ∙ c.in_view.ensures) in
    (c.without_search.ensures.0 ∙ told.0, c.without_search.ensures.1 ∙ told.1)

pub returns-in_default-place : goal.returns-in_default-place
returns-in_default-place c =
    let told = rw c.in_default-place.is at (finalise_sought c.args.table.now c.args.stamp c.args.view _ c.read-h.ensures _ (sym c.in_default.is ∙ c.in_view.ensures) _ _ c.find-sought.ensures) in
    (c.with.ensures.0 ∙ told.0, c.with.ensures.1 ∙ told.1)

pub returns : goal.returns
returns c = rw (c.with-2.ensures.0, c.with-2.ensures.1) (rw c.in-Held.is at (finalise_sought c.args.table.now c.args.stamp c.args.view _ c.read-h.ensures _ (sym c.in_default.is ∙ c.in_view.ensures) _ _ c.find-sought.ensures))

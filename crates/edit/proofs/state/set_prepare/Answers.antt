-- The row that is read stands in the image; with its prepare byte changed it is the changed row.
use mathlib.Core.Path.{◌≡◌, refl}
use Prim.Native.Nat.{◌+◌, ◌*◌}
use Rattle.std.proofs.Common.{rules}
use Rattle.wire.proofs.Numbers.{all_of}
use Rattle.rows.specs.Fields.{fields_at}
use Rattle.rows.specs.Inner.ChangedFields.{with_prepare_byte}
use Rattle.table.specs.Images.{format_one}
use Rattle.edit.proofs.EditedParts.{prepare_edited}
use Rattle.edit.proofs.Holding.{one_starts, holds_row_inside}
use Rattle.edit.proofs.state.set_prepare.Goals as goal

pub change_row-requires-clause-inside : goal.change_row-requires-clause-inside
change_row-requires-clause-inside c = holds_row_inside format_one c.args.table.now c.args.index one_starts c.requires.0 c.requires.1

pub returns : goal.returns
returns c =
    let (row, gives, e) = c.change_row.ensures in
    let same : row ≡ with_prepare_byte (fields_at c.args.table.now (24 + 24 * c.args.index)) c.args.prepare c.args.retry = search rules in
    let s = c.args.table.now in
    rw (e, same) (prepare_edited format_one s c.args.index one_starts (all_of s (λ i. search rules)) c.requires.0 c.requires.1 c.args.prepare c.args.retry c.requires.2 c.requires.3 refl)

-- The header that is read, with its views changed, is that of the changed table.
use mathlib.Core.Path.{refl}
use Rattle.std.proofs.Common.{rules}
use Rattle.wire.proofs.Numbers.{all_of}
use Rattle.table.specs.Images.{format_one}
use Rattle.edit.specs.Inner.Changes.{with_views}
use Rattle.edit.proofs.EditedParts.{header_edited}
use Rattle.edit.proofs.Holding.{one_starts, holds_header}
use Rattle.edit.proofs.views.set_views.Goals as goal

pub returns : goal.returns
returns c =
    let s = c.args.table.now in
    let e = holds_header format_one s (all_of s (λ i. search rules)) c.requires in
    rw (c.write.ensures, c.with_promised.ensures, c.with_view.ensures, c.with_mode.ensures, c.read-h.ensures, e)
    (header_edited format_one (with_views c.args.mode c.args.view c.args.promised) s one_starts c.requires refl)

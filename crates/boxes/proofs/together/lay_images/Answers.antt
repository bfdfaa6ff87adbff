-- The images of the boxes passed are laid, and `end` is behind the last of them.
use mathlib.Core.Path.{◌≡◌, sym, ap, ◌∙◌}
use Prim.Native.Nat.{◌+◌, ◌≤◌}
use lib.ListN.{length, take}
use lib.Seq.{length-take-le}
use Rattle.wire.specs.Parts.{replaced}
use Rattle.rules.specs.Tables.{valley}
use Rattle.table.specs.declared.header.Header.{Header}
use Rattle.table.specs.Headers.{header_at}
use Rattle.table.proofs.Images.{valley_sound}
use Rattle.boxes.proofs.NamedTables.{buffer_named, image_named, Next, next, laid_none, laid_all, next_fits, laid_turn}
use Rattle.boxes.proofs.together.lay_images.Goals as goal

pub loop-boxnumber-init : goal.loop-boxnumber-init
loop-boxnumber-init c = laid_none _ _ _ _ c.requires.0

pub read-length-requires : goal.read-length-requires
read-length-requires c =
    let turn : (let a = c.args in Next valley a.tables.now a.boxes.now c.loop-boxnumber.boxnumber-index) = next valley _ _ valley_sound _ c.loop-boxnumber-test.true c.loop-boxnumber.invariant.whole in
    rw c.buffer_of-table.ensures turn.long

pub slice_bounds-copy_part-end : goal.slice_bounds-copy_part-end
slice_bounds-copy_part-end c =
    let turn : (let a = c.args in Next valley a.tables.now a.boxes.now c.loop-boxnumber.boxnumber-index) = next valley _ _ valley_sound _ c.loop-boxnumber-test.true c.loop-boxnumber.invariant.whole in
    let headed : (let a = c.args in c.read-length.result.length ≡ (header_at (buffer_named valley a.tables.now a.boxes.now c.loop-boxnumber.boxnumber-index)).length) = ap (λ (h : Header). h.length) c.read-length.ensures ∙ ap (λ s. (header_at s).length) c.buffer_of-table.ensures in
    let within : c.read-length.result.length ≤ length c.buffer_of-table.result.now = rw (headed, c.buffer_of-table.ensures) turn.within in
    sym (length-take-le _ _ within)

pub copy_part-requires : goal.copy_part-requires
copy_part-requires c =
    let turn : (let a = c.args in Next valley a.tables.now a.boxes.now c.loop-boxnumber.boxnumber-index) = next valley _ _ valley_sound _ c.loop-boxnumber-test.true c.loop-boxnumber.invariant.whole in
    let headed : (let a = c.args in c.read-length.result.length ≡ (header_at (buffer_named valley a.tables.now a.boxes.now c.loop-boxnumber.boxnumber-index)).length) = ap (λ (h : Header). h.length) c.read-length.ensures ∙ ap (λ s. (header_at s).length) c.buffer_of-table.ensures in
    let within : c.read-length.result.length ≤ length c.buffer_of-table.result.now = rw (headed, c.buffer_of-table.ensures) turn.within in
    let fits : (c.loop-boxnumber.end + c.read-length.result.length ≤ length c.loop-boxnumber.run) = (rw headed (next_fits valley _ _ _ c.requires.1 _ _ _ c.loop-boxnumber.invariant c.loop-boxnumber-test.true turn)) in
    rw (length-take-le _ _ within) fits

pub loop-boxnumber-preserved : goal.loop-boxnumber-preserved
loop-boxnumber-preserved c =
    let turn : (let l = c in let a = l.args in Next valley a.tables.now a.boxes.now l.loop-boxnumber.boxnumber-index) = next valley _ _ valley_sound _ c.loop-boxnumber-test.true c.loop-boxnumber.invariant.whole in
    let headed : (let l = c in let a = l.args in c.read-length.result.length ≡ (header_at (buffer_named valley a.tables.now a.boxes.now l.loop-boxnumber.boxnumber-index)).length) = ap (λ (h : Header). h.length) c.read-length.ensures ∙ ap (λ s. (header_at s).length) c.buffer_of-table.ensures in
    let copied : (let l = c in let a = l.args in take c.read-length.result.length c.buffer_of-table.result.now ≡ image_named valley a.tables.now a.boxes.now l.loop-boxnumber.boxnumber-index) = rw (headed, c.buffer_of-table.ensures) in
    let r = c in
    let l = r in
    rw headed (laid_turn valley _ _ _ l.requires.1 _ _ _ l.loop-boxnumber.invariant r.loop-boxnumber-test.true turn _ (c.copy_part.ensures ∙ ap (replaced l.loop-boxnumber.run l.loop-boxnumber.end) copied))

pub shape_of-run : goal.shape_of-run
shape_of-run c = c.loop-boxnumber.invariant.kept

pub returns : goal.returns
returns c = let (end, run) = laid_all valley _ _ _ _ _ _ c.loop-boxnumber.invariant c.loop-boxnumber-test.false in record { value = end; run_after = run }

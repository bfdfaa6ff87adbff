-- From an image copied over another, the box number put back and what was given up cleared, to the buffer that holds the image taken.
use mathlib.Core.Path.{◌≡◌, sym, ◌∙◌}
use mathlib.Core.List.{List, ◌++◌}
use Prim.Native.Nat.{ℕ, ◌-◌}
use native.Mathlib.Omega.{arith}
use native.Mathlib.Nat.{zero-add}
use lib.ListN.{length, drop, replicate}
use Rattle.wire.specs.Parts.{part, replaced}
use Rattle.wire.specs.Inner.ByteLists.{AllBytes}
use Rattle.wire.proofs.Parts.{replaced_start, replaced_joined}
use Rattle.wire.proofs.Stands.{Stands}
use Rattle.rules.specs.Tables.{Table}
use Rattle.rules.specs.Messages.{keeping_box}
use Rattle.table.specs.Headers.{header_bytes, header_at}
use Rattle.table.specs.Inner.ChangedHeaders.{with_box}
use Rattle.table.specs.Images.{Form, image_length, header_of, image}
use Rattle.table.specs.Parse.{table_at}
use Rattle.table.proofs.Images.{Starts, length_image}
use Rattle.edit.specs.Inner.Changes.{taking}
use Rattle.edit.specs.Inner.Holding.{Holds}
use Rattle.edit.specs.Edited.{edited}
use Rattle.edit.proofs.Holding.{holds_stands, holds_header}
use Rattle.edit.proofs.ChangedParts.{header_replaced}

-- the part that is taken
holds_part : (F : Form) (s : List ℕ) → Starts F → Holds F s → part s 0 (image_length F (table_at F s)) ≡ image F (table_at F s)
unfolding Stands
holds_part F s starts h = rw (length_image F (table_at F s) starts) at (holds_stands F s h)

taken_steps : (F : Form) (s : List ℕ) (I : Table) (box : ℕ) (zeros : List ℕ) → Starts F →
    replaced (replaced (replaced s 0 (image F I)) 0 (header_bytes (header_of F (keeping_box I box)))) (image_length F I) zeros ≡ replaced s 0 (image F (keeping_box I box) ++ zeros)
taken_steps F s I box zeros starts =
    let U : Table = keeping_box I box in
    let i = length_image F I starts in
    let u = length_image F U starts in
    let e : length (image F I) ≡ length (image F U) = i ∙ sym u in
    let own : replaced (replaced s 0 (image F I)) 0 (header_bytes (header_of F U)) ≡ replaced s 0 (image F U) =
    rw (replaced_start s (image F I), replaced_start s (image F U), ← e) (header_replaced F I U (drop (length (image F I)) s)) in
    rw own (replaced_joined s 0 (image_length F I) (image F U) zeros (omega arith) (rw zero-add u))

pub image_edited : (F : Form) (s t : List ℕ) → Starts F → AllBytes s → AllBytes t → Holds F s → Holds F t →
    replaced (replaced (replaced s 0 (part t 0 (header_at t).length)) 0 (header_bytes (with_box (header_at t) (header_at s).boxnumber))) (header_at t).length (replicate ((header_at s).length - (header_at t).length) 0) ≡ edited F (taking (table_at F t)) s
unfolding edited
image_edited F s t starts a b h g =
    let T : Table = table_at F s in
    let I : Table = table_at F t in
    rw (holds_header F s a h, holds_header F t b g, holds_part F t starts g) (taken_steps F s I T.box (replicate (image_length F T - image_length F I) 0) starts)

-- What a buffer that holds a table tells.
use mathlib.Core.Path.{◌≡◌, refl}
use mathlib.Core.List.{List, ◌++◌}
use Prim.Native.Nat.{ℕ, ◌+◌, ◌*◌, ◌≤◌, ◌<◌}
use native.Mathlib.Omega.{arith}
use lib.ListN.{length, drop}
use Rattle.wire.specs.Inner.ByteLists.{AllBytes}
use Rattle.wire.proofs.Stands.{Stands, stands_inside, stands_left}
use Rattle.rows.specs.Read.{rows_at}
use Rattle.rows.proofs.RowsRead.{length-rows_at}
use Rattle.rows.proofs.Begins.{begins_is, begins_stands}
use Rattle.table.specs.Headers.{header_at}
use Rattle.table.specs.Images.{Form, format_one, image_length, header_of, image}
use Rattle.table.specs.Parse.{table_at}
use Rattle.table.proofs.Headers.{header_among}
use Rattle.table.proofs.Images.{Starts, length_image}
use Rattle.edit.specs.Inner.Holding.{Holds}

pub holds_is : (F : Form) (s : List ℕ) → Holds F s → s ≡ image F (table_at F s) ++ drop (length (image F (table_at F s))) s
holds_is F s h = begins_is s (image F (table_at F s)) h

pub holds_stands : (F : Form) (s : List ℕ) → Holds F s → Stands s 0 (image F (table_at F s))
holds_stands F s h = begins_stands s 0 (image F (table_at F s)) h

pub holds_header : (F : Form) (s : List ℕ) → AllBytes s → Holds F s → header_at s ≡ header_of F (table_at F s)
unfolding image
holds_header F s a h = header_among s (header_of F (table_at F s)) a (stands_left s 0 _ _ (holds_stands F s h))

pub holds_long : (F : Form) (s : List ℕ) → Starts F → Holds F s → image_length F (table_at F s) ≤ length s
holds_long F s k h =
    let T = table_at F s in
    let n = length_image F T k in
    let b = k T.rows in
    let l = stands_inside s 0 (image F T) (holds_stands F s h) (omega arith) in
    omega arith

pub holds_rows : (F : Form) (s : List ℕ) → length (table_at F s).rows ≡ (header_at s).rows
unfolding table_at
holds_rows F s = length-rows_at s F.begin (header_at s).rows

pub holds_rows_at : (F : Form) (s : List ℕ) → (table_at F s).rows ≡ rows_at s F.begin (header_at s).rows
unfolding table_at
holds_rows_at F s = refl

-- there is room for a header
pub holds_least : (F : Form) (s : List ℕ) → Starts F → Holds F s → 24 ≤ length s
holds_least F s k h =
    let b = k (table_at F s).rows in
    let l = holds_long F s k h in
    omega arith

pub one_starts : Starts format_one
one_starts rows = refl

-- ---- of an image in format 1

pub one_least : (s : List ℕ) → Holds format_one s → 24 ≤ length s
one_least s h = holds_least format_one s one_starts h

-- the image ends where its header says, inside the buffer
pub one_end : (s : List ℕ) → AllBytes s → Holds format_one s → (header_at s).length ≤ length s
one_end s a h = rw (holds_header format_one s a h) (holds_long format_one s one_starts h)

-- the row at an index lies inside
pub holds_row_inside : (F : Form) (s : List ℕ) (i : ℕ) → Starts F → Holds F s → i < (header_at s).rows → F.begin + 24 * i + 24 ≤ length s
holds_row_inside F s i k h m =
    let n = holds_rows F s in
    let l = holds_long F s k h in
    omega arith

-- The row and its body in their places and the header written: the image with the row in it.
use mathlib.Core.Path.{refl}
use Prim.Native.Nat.{◌+◌, ◌≤◌, ◌<◌}
use native.Mathlib.Omega.{arith}
use lib.ListN.{length}
use Rattle.std.proofs.Common.{rules}
use Rattle.wire.specs.Inner.ByteLists.{AllBytes}
use Rattle.wire.proofs.Numbers.{all_of}
use Rattle.rows.specs.Inner.Rows.{size_of}
use Rattle.rows.proofs.Turns.{length_body_part}
use Rattle.table.specs.Headers.{header_at}
use Rattle.table.specs.Images.{format_one}
use Rattle.edit.proofs.AddedTables.{index_inside, body_inside, row_edited}
use Rattle.edit.proofs.Holding.{one_starts}
use Rattle.edit.proofs.add.add_row.Goals as goal

pub place_row-requires : goal.place_row-requires
place_row-requires c =
    let a = c.args in
    let q = c.requires in
    let s = a.table.now in
    let m = a.message.now in
    let all : AllBytes s = all_of s (λ i. search rules) in
    let i = index_inside format_one s m a.row a.index one_starts all q.holds.0 q.holds.1 q.holds.2 in
    let b = body_inside format_one s m a.row a.index one_starts all q.holds.0 q.holds.1 q.holds.2 in
    rw (c.read-h.ensures, c.body_of-body.ensures, length_body_part m a.row q.storable.1) (i, b.0, b.1, q.table_bound.1, omega arith, q.table_bound.0)

pub overflow_add-h : goal.overflow_add-h
overflow_add-h c =
    let l : (header_at c.args.table.now).rows < 65536 = c.requires.table_bound.0 in
    rw c.read-h.ensures (omega arith)

pub overflow_cast-longer : goal.overflow_cast-longer
overflow_cast-longer c =
    let n = length_body_part c.args.message.now c.args.row c.requires.storable.1 in
    let l : (header_at c.args.table.now).length + 24 + size_of c.args.row < 4294967296 = c.requires.table_bound.2 in
    rw (c.body_of-body.ensures, c.read-h.ensures, n) (omega arith)

pub write-requires : goal.write-requires
write-requires c =
    let l : (header_at c.args.table.now).length + 24 + size_of c.args.row ≤ length c.args.table.now = c.requires.table_bound.1 in
    omega arith

pub returns : goal.returns
returns c =
    let a = c.args in
    let q = c.requires in
    let s = a.table.now in
    let m = a.message.now in
    rw (c.write.ensures, c.with_rows.ensures, c.place_row.ensures, c.body_of-body.ensures, c.read-h.ensures, length_body_part m a.row q.storable.1)
    (row_edited format_one s m a.row a.index one_starts (all_of s (λ i. search rules)) q.holds.0 q.holds.1 q.holds.2 (all_of m (λ i. search rules)) q.storable.0 q.storable.1 refl)

-- The rows are walked where they stand, the row's body where it lies; what is found is stored in the row.
use Prim.Native.Nat.{◌+◌, ◌*◌, ◌≤◌}
use mathlib.Core.Path.{◌≡◌}
use mathlib.Core.Bool.{true}
use native.Mathlib.Omega.{arith}
use Rattle.wire.specs.Inner.ByteLists.{AllBytes}
use Rattle.wire.proofs.Numbers.{all_of}
use Rattle.rows.specs.Fields.{fields_at, retry_by_code}
use Rattle.rows.proofs.Turns.{length_body_part}
use Rattle.table.specs.Images.{format_one}
use Rattle.edit.proofs.Holding.{holds_rows_at, one_starts, holds_least, holds_row_inside}
use Rattle.settle.proofs.CheckedInPlace.{body_there, rows_there, checked_storable, checked_edited}
use Rattle.settle.proofs.check_row.Goals as goal

pub read-requires : goal.read-requires
read-requires c = holds_least format_one c.args.out.now one_starts c.requires.0

pub invariant_of-rows : goal.invariant_of-rows
invariant_of-rows c =
    let known : AllBytes c.args.out.now = all_of c.args.out.now (λ i. (c.slice_known-1.given i).fits) in
    record { inside = rw c.read.ensures (rows_there c.args.out.now known c.requires.0).0 }

pub body-requires : goal.body-requires
body-requires c =
    let known : AllBytes c.args.out.now = all_of c.args.out.now (λ i. (c.slice_known-1.given i).fits) in
    let k = c in
    let p = k in
    rw c.row-row.ensures (body_there p.args.out.now known p.requires.0 p.args.index p.requires.1)

pub check-checked-requires : goal.check-checked-requires
check-checked-requires c =
    let known : AllBytes c.args.out.now = all_of c.args.out.now (λ i. (c.slice_known-1.given i).fits) in
    let s = c.args.out.now in
    rw c.read.ensures (rows_there s known c.requires.0, rw (holds_rows_at format_one s) at c.requires.3)

pub set_prepare-requires : goal.set_prepare-requires
set_prepare-requires c =
    let known : AllBytes c.args.out.now = all_of c.args.out.now (λ i. (c.slice_known-1.given i).fits) in
    let storable : (c.code.result + 4 ≤ 8) × (retry_by_code (c.code.result + 4) c.retry.result ≡ true) = (let k = c in let p = k in rw (c.code.ensures.0, c.retry.ensures, c.check-checked.ensures, c.body.ensures, c.row-row.ensures, c.read.ensures) (checked_storable p.args.out.now known p.requires.0 p.args.index p.requires.1 p.requires.2)) in
    let p = c in let t = storable in (p.requires.0, p.requires.1, t.0, t.1)

pub returns : goal.returns
returns c =
    let known : AllBytes c.args.out.now = all_of c.args.out.now (λ i. (c.slice_known-1.given i).fits) in
    let k = c in
    let p = k in
    rw (c.set_prepare.ensures, c.code.ensures.0, c.retry.ensures, c.check-checked.ensures, c.body.ensures, c.row-row.ensures, c.read.ensures)
    (checked_edited p.args.out.now known p.requires.0 p.args.index p.requires.1 p.requires.2)

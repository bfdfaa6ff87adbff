-- The result of the check goes into the row that is added.
use mathlib.Core.Path.{refl}
use native.Mathlib.Omega.{arith}
use Rattle.rules.specs.Tables.{valley}
use Rattle.rows.specs.Read.{body_at}
use Rattle.seek.proofs.HeldRows.{image_regular, image_holds}
use Rattle.transact.proofs.Proposed.{checked_storable, checked_taken}
use Rattle.transact.proofs.prepare.add_checked.Goals as goal

pub add_new-requires : goal.add_new-requires
add_new-requires c = let s = c.args.table.now in
    let q = c.requires.begins_with_image in
    let r = c.args.row in
    let x = body_at c.args.message.now r.offset r.reads r.writes in
    let k = checked_storable valley s r.stamp x q.0 in
    rw (c.with_prepare-row.ensures, c.code.ensures.0, c.retry.ensures, c.check_new-checked.ensures) record { holds = (image_holds valley s q.0, (image_regular valley s q.0).0.rise, q.1); storable = ((q.3, k.0, rw q.4 (omega arith), k.1), q.2); table_bound = c.requires.table_bound }

pub returns : goal.returns
returns c = λ M found.
    let s = c.args.table.now in
    let q = c.requires.begins_with_image in
    let r = c.args.row in
    let x = body_at c.args.message.now r.offset r.reads r.writes in
    rw (c.add_new.ensures.value, c.add_new.ensures.table_after, c.with_prepare-row.ensures, c.code.ensures.0, c.retry.ensures, c.check_new-checked.ensures)
    (checked_taken M s r.stamp x q.0 c.args.index c.args.message.now _ found refl refl refl refl q.4)

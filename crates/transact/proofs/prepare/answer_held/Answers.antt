-- What answers for the row is stored where it stands.
use Rattle.wire.proofs.Numbers.{all_of}
use Rattle.std.proofs.Common.{rules}
use Rattle.seek.proofs.HeldRows.{row_held}
use Rattle.transact.proofs.Proposed.{answered_storable, answered_taken}
use Rattle.transact.proofs.prepare.answer_held.Goals as goal

pub row_at-held-requires : goal.row_at-held-requires
row_at-held-requires c = (row_held c.args.table.now c.args.stamp c.args.index (search rules) c.requires.0 c.requires.1).inside

pub read-h-requires : goal.read-h-requires
read-h-requires c = (row_held c.args.table.now c.args.stamp c.args.index (search rules) c.requires.0 c.requires.1).header

pub set_prepare-requires : goal.set_prepare-requires
set_prepare-requires c =
    let r = row_held c.args.table.now c.args.stamp c.args.index (search rules) c.requires.0 c.requires.1 in
    let k = answered_storable c.args.table.now c.args.stamp c.args.index (all_of c.args.table.now (search rules)) c.requires.0 c.requires.1 in
    rw (c.answered-prepare.ensures, c.row_at-held.ensures) (r.holds, r.index, k.0, k.1)

pub returns : goal.returns
returns c = λ M x found.
    rw (c.taken.ensures, c.set_prepare.ensures, c.read-h.ensures, c.answered-prepare.ensures, c.row_at-held.ensures)
    (answered_taken c.args.table.now c.args.stamp c.args.index (all_of c.args.table.now (search rules)) c.requires.0 c.requires.1 M x found)

-- The mode first, then the walk.
use Rattle.rules.specs.Tables.{valley}
use Rattle.checks.proofs.NewestWrite.{version_or, value_or}
use Rattle.table.proofs.Images.{valley_sound}
use Rattle.table.specs.Images.{format_one}
use Rattle.edit.proofs.Holding.{one_starts, holds_least}
use Rattle.seek.proofs.HeldRows.{image_holds}
use Rattle.seek.proofs.SoughtRows.{mode_told, rows_inside, can_be_sought}
use Rattle.answer.proofs.RegisterRead.{read_refused, read_taken}
use Rattle.answer.proofs.read.read_register.Goals as goal

pub read-h-requires : goal.read-h-requires
read-h-requires c = holds_least format_one c.args.table.now one_starts (image_holds valley c.args.table.now c.requires)

pub returns-then-is_changing : goal.returns-then-is_changing
returns-then-is_changing c = (read_refused valley c.args.table.now c.args.stamp c.args.register (image_holds valley c.args.table.now c.requires) (mode_told c.args.table.now _ _ _ c.read-h.ensures c.is_changing.ensures c.if-is_changing.true)).0

pub invariant_of-rows : goal.invariant_of-rows
invariant_of-rows c = record { inside = rw c.read-h.ensures (rows_inside valley c.args.table.now valley_sound c.requires).0 }

pub newest-requires : goal.newest-requires
newest-requires c = rw c.read-h.ensures (rows_inside valley c.args.table.now valley_sound c.requires, (can_be_sought valley c.args.table.now valley_sound c.requires).1)

pub returns : goal.returns
returns c =
    let told = (read_taken valley c.args.table.now c.args.stamp c.args.register (image_holds valley c.args.table.now c.requires) (mode_told c.args.table.now _ _ _ c.read-h.ensures c.is_changing.ensures c.if-is_changing.false)).0 in
    rw c.taken.ensures (rw (← c.read-h.ensures, ← c.newest.ensures, ← version_or c.newest.result, ← value_or c.newest.result, ← c.unwrap_or-found.ensures) at told)

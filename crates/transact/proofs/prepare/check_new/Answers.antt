-- The rows are walked where they stand, the body where it lies in the message.
use Rattle.rules.specs.Tables.{valley}
use Rattle.rules.specs.Answers.{proposal_check}
use Rattle.table.proofs.Images.{valley_sound}
use Rattle.table.specs.Images.{format_one}
use Rattle.edit.proofs.Holding.{holds_rows_at, one_starts, holds_least}
use Rattle.seek.proofs.HeldRows.{image_holds}
use Rattle.seek.proofs.SoughtRows.{rows_inside, rows_rise}
use Rattle.transact.proofs.prepare.check_new.Goals as goal

pub read-h-requires : goal.read-h-requires
read-h-requires c = holds_least format_one c.args.table.now one_starts (image_holds valley c.args.table.now c.requires.0)

pub invariant_of-rows : goal.invariant_of-rows
invariant_of-rows c = record { inside = rw c.read-h.ensures (rows_inside valley c.args.table.now valley_sound c.requires.0).0 }

pub check-requires : goal.check-requires
check-requires c = rw c.read-h.ensures (rows_inside valley c.args.table.now valley_sound c.requires.0, rows_rise valley c.args.table.now valley_sound c.requires.0)

pub returns : goal.returns
unfolding proposal_check
returns c = rw (c.check.ensures, c.of.ensures, c.read-h.ensures, holds_rows_at format_one c.args.table.now)

-- The rows of the table are those behind the header, and they rise.
use Rattle.rules.specs.Tables.{valley}
use Rattle.table.proofs.Images.{valley_sound}
use Rattle.table.specs.Images.{format_one}
use Rattle.edit.proofs.Holding.{holds_rows_at}
use Rattle.seek.proofs.SoughtRows.{can_be_sought}
use Rattle.seek.proofs.find.Goals as goal

pub find-requires : goal.find-requires
find-requires c = rw c.requires.1 (can_be_sought valley c.args.image.now valley_sound c.requires.0)

pub returns : goal.returns
returns c = rw (← holds_rows_at format_one c.args.image.now) at (rw c.requires.1 at c.find.ensures)

-- The rows added are counted against a share of what was left when the view began.
use Rattle.seek.proofs.SoughtRows.{room_is}
use Rattle.seek.proofs.has_room.Goals as goal

pub returns : goal.returns
returns c = rw (c.saturating_sub-left.ensures, c.from.ensures, c.quorum.ensures) (room_is c.args.limit c.args.h)

-- The cursors stand before all stamps.
use Rattle.gather.proofs.StampsWalked.{start_ready}
use Rattle.gather.proofs.walk.StampsOf.used.Goals as goal

pub invariant_of-result : goal.invariant_of-result
invariant_of-result c = record { whole = c.requires; stand = start_ready _ c.requires.0 _ _ c.start.ensures }

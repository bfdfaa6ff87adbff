-- The boxes passed have made their buffers fresh.
use mathlib.Core.Path.{◌≡◌}
use lib.ListN.{length}
use Rattle.rules.specs.Tables.{valley}
use Rattle.boxes.specs.Inner.OneBuffer.{fresh_first}
use Rattle.boxes.proofs.start.fresh_boxes.Given as goal

abbrev pub invariant-loop-boxnumber : goal.invariant-loop-boxnumber
invariant-loop-boxnumber l = (length l.tables ≡ length l.initial.tables) × (l.tables ≡ fresh_first valley l.n l.boxnumber l.initial.tables)

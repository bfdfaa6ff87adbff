-- The images of the boxes passed are laid, and `end` is behind the last of them.
use Rattle.rules.specs.Tables.{valley}
use Rattle.boxes.proofs.NamedTables.{Laid}
use Rattle.boxes.proofs.together.lay_images.Given as goal

abbrev pub invariant-loop-boxnumber : goal.invariant-loop-boxnumber
invariant-loop-boxnumber l = Laid valley l.tables l.boxes l.initial.run l.run l.end l.boxnumber-index

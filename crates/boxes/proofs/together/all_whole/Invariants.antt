-- The boxes that are left decide.
use mathlib.Core.Path.{◌≡◌}
use lib.ListN.{drop}
use Rattle.rules.specs.Tests.{is_some}
use Rattle.rules.specs.Tables.{valley}
use Rattle.boxes.specs.Inner.OneBuffer.{tables_named}
use Rattle.boxes.proofs.together.all_whole.Given as goal

abbrev pub invariant-loop-named : goal.invariant-loop-named
invariant-loop-named l = is_some (tables_named valley l.tables (drop l.named-index l.boxes)) ≡ is_some (tables_named valley l.tables l.boxes)

-- What is left decides.
use mathlib.Core.Path.{◌≡◌}
use lib.ListN.{length}
use Rattle.rules.specs.Tests.{is_some}
use Rattle.table.specs.Inner.Models.{model_of}
use Rattle.image_run.specs.Runs.{images}
use Rattle.image_run.proofs.whole.is_whole.Given as goal

abbrev pub invariant-loop-rest : goal.invariant-loop-rest
invariant-loop-rest l = is_some (images (model_of l.model) l.rest) ≡ is_some (images (model_of l.model) l.fn.run)

abbrev pub decreases-loop-rest : goal.decreases-loop-rest
decreases-loop-rest l = length l.rest

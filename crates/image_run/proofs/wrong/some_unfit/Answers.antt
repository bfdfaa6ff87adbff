-- Each table is asked whether it is unfit.
use Rattle.std.proofs.Common.{rules}
use Rattle.table.specs.Parse.{table_at}
use Rattle.image_run.specs.Inner.WholeRuns.{unfit}
use Rattle.image_run.proofs.TablesWalked.{any_walked}
use Rattle.image_run.proofs.wrong.some_unfit.Goals as goal

pub returns : goal.returns
unfolding table_at
returns c = any_walked (unfit c.args.n c.args.view) _ _ c.any.new.self c.run.ensures c.any.ensures.ran (λ x b q k. search rules)

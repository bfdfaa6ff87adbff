-- Each table is asked for its box.
use lib.Dec.{eqb}
use Rattle.std.proofs.Common.{rules}
use Rattle.table.specs.Parse.{table_at}
use Rattle.image_run.proofs.TablesWalked.{any_walked}
use Rattle.image_run.proofs.wrong.has_box.Goals as goal

pub returns : goal.returns
unfolding table_at
returns c = any_walked (λ T. eqb T.box c.args.boxnumber) _ _ c.any.new.self c.run.ensures c.any.ensures.ran (λ x b q k. search rules)

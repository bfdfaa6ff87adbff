-- Each table is asked for its view.
use mathlib.Core.Path.{ap, ◌∙◌}
use Prim.Native.Nat.{max}
use Rattle.std.proofs.Common.{rules}
use Rattle.std.proofs.lemmas.Iterator.Consumers.{fold_from_yields_List}
use Rattle.rules.specs.Tests.{greatest}
use Rattle.rules.specs.Tables.{Table, valley}
use Rattle.table.specs.Parse.{table_at}
use Rattle.image_run.specs.Inner.WholeRuns.{tables_of}
use Rattle.image_run.proofs.TablesWalked.{tables_walked, greatest_of}
use Rattle.image_run.proofs.newest.newest_view.Goals as goal

pub returns : goal.returns
unfolding table_at
returns c =
    fold_from_yields_List _ (λ n (T : Table). max n T.view) 0 _ c.fold.ensures.ran (tables_walked c.run.result) (λ a x b q k. search rules)
    ∙ greatest_of _ _ ∙ ap (λ s. greatest (λ T. T.view) (tables_of valley s)) c.run.ensures

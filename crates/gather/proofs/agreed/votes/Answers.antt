-- Those of the four rows that pass are counted.
use mathlib.Core.Path.{sym, ap, ◌∙◌}
use native.Mathlib.Omega.{arith}
use Rattle.std.proofs.Common.{rules}
use Rattle.std.proofs.lemmas.Iterator.{YieldsList-from_slice}
use Rattle.std.proofs.lemmas.Iterator.Consumers.{YieldsList-from_filter, YieldsList-at, count_from_yields_List}
use Rattle.rules.specs.Tests.{count}
use Rattle.gather.specs.Inner.Agreed.{has_codes}
use Rattle.gather.proofs.RowsTold.{four_are, count_filtered}
use Rattle.gather.proofs.agreed.votes.Goals as goal

pub returns : goal.returns
returns c =
    count_from_yields_List c.filter.result _ c.count.ensures.ran (YieldsList-from_filter _ (has_codes c.args.prepare c.args.retry) (YieldsList-at c.filter.ensures.source (YieldsList-from_slice c.args.gathered.now.rows c.iter.ensures.rest)) c.filter.ensures.closure (λ x b q k. search rules))
    ∙ count_filtered _ _ ∙ ap (count (has_codes c.args.prepare c.args.retry)) (sym (four_are c.args.gathered.now.rows (omega arith)))

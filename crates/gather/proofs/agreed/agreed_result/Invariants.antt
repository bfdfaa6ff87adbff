-- The first of the rows that are left is the first of all.
use mathlib.Core.Path.{◌≡◌}
use lib.ListN.{drop}
use Rattle.gather.specs.Inner.Gathered.{fields_from}
use Rattle.gather.specs.Inner.Agreed.{agreed_among}
use Rattle.gather.proofs.agreed.agreed_result.Given as goal

abbrev pub invariant-loop-row : goal.invariant-loop-row
invariant-loop-row l =
    let all = fields_from l.fn.gathered.rows 0 4 in
    agreed_among l.agreement all (drop l.row-index l.fn.gathered.rows) ≡ agreed_among l.agreement all all

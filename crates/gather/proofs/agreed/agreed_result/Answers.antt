-- The first of the rows that are left is the first of all.
use mathlib.Core.Path.{sym, ap, ◌∙◌}
use native.Mathlib.Omega.{arith}
use Rattle.gather.specs.Inner.Gathered.{fields_from}
use Rattle.gather.specs.Inner.Agreed.{agreed_among}
use Rattle.gather.proofs.RowsTold.{four_are, agreed_on, agreed_over}
use Rattle.gather.proofs.agreed.agreed_result.Goals as goal

pub loop-row-init : goal.loop-row-init
loop-row-init c = ap (agreed_among _ (fields_from c.args.gathered.now.rows 0 4)) (sym (four_are c.args.gathered.now.rows (omega arith)))

pub returns-then-is_enough : goal.returns-then-is_enough
returns-then-is_enough c =
    let rows = c.args.gathered.now.rows in
    sym (rw (sym c.is_enough.ensures ∙ c.if-is_enough.true) at (agreed_on rows c.loop-row.row-index (omega arith) c.args.agreement (fields_from rows 0 4))) ∙ c.loop-row.invariant

pub loop-row-preserved : goal.loop-row-preserved
loop-row-preserved c =
    let rows = c.args.gathered.now.rows in
    sym (rw (sym c.is_enough.ensures ∙ c.if-is_enough.false) at (agreed_on rows c.loop-row.row-index (omega arith) c.args.agreement (fields_from rows 0 4))) ∙ c.loop-row.invariant

pub returns : goal.returns
returns c = sym (sym c.loop-row.invariant ∙ agreed_over c.args.gathered.now.rows c.loop-row.row-index (omega arith) _ _)

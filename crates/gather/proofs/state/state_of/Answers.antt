-- What was seen, with the rows that are left.
use mathlib.Core.Path.{sym, ap, ◌∙◌}
use native.Mathlib.Omega.{arith}
use Rattle.gather.specs.Inner.State.{none_seen, saw_fields}
use Rattle.gather.proofs.RowsTold.{four_are, state_on, state_over}
use Rattle.gather.proofs.state.state_of.Goals as goal

pub loop-row-init : goal.loop-row-init
loop-row-init c = ap (saw_fields none_seen) (sym (four_are c.args.gathered.now.rows (omega arith)))

pub loop-row-preserved : goal.loop-row-preserved
loop-row-preserved c = rw (c.saw_outcome-state.ensures, c.saw_prepare.ensures) (sym (state_on c.args.gathered.now.rows c.loop-row.row-index (omega arith) c.loop-row.state)) ∙ c.loop-row.invariant

pub returns : goal.returns
returns c = sym (state_over c.args.gathered.now.rows c.loop-row.row-index (omega arith) _) ∙ c.loop-row.invariant

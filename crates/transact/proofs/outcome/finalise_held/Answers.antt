-- The outcome byte that stands there decides.
use mathlib.Core.Path.{sym, ◌∙◌}
use native.Mathlib.Omega.{arith}
use Rattle.wire.proofs.Numbers.{all_of}
use Rattle.rules.specs.Tables.{valley}
use Rattle.std.proofs.Common.{rules}
use Rattle.seek.proofs.HeldRows.{row_held}
use Rattle.transact.proofs.Finalised.{outcome_missing, outcome_against, outcome_taken}
use Rattle.transact.proofs.outcome.finalise_held.Goals as goal

pub row_at-held-requires : goal.row_at-held-requires
row_at-held-requires c = (row_held c.args.table.now c.args.stamp c.args.index (search rules) c.requires.0 c.requires.1).inside

pub returns-then-held-eq0 : goal.returns-then-held-eq0
returns-then-held-eq0 c = λ view found.
    outcome_missing valley c.args.table.now c.args.stamp view c.requires.0 _ c.args.index (all_of c.args.table.now (search rules)) found (rw c.row_at-held.ensures at c.if-held-eq0.true)

pub opposite-requires : goal.opposite-requires
opposite-requires c = rw c.row_at-held.ensures (row_held c.args.table.now c.args.stamp c.args.index (search rules) c.requires.0 c.requires.1).outcome

pub returns-then-opposite : goal.returns-then-opposite
returns-then-opposite c = λ view found.
    outcome_against valley c.args.table.now c.args.stamp view c.requires.0 _ c.args.index (all_of c.args.table.now (search rules)) found (rw c.row_at-held.ensures at c.if-held-eq0.false) (rw (← c.row_at-held.ensures) (sym c.opposite.ensures ∙ c.if-opposite.true))

pub read-h-requires : goal.read-h-requires
read-h-requires c = (row_held c.args.table.now c.args.stamp c.args.index (search rules) c.requires.0 c.requires.1).header

pub set_outcome-requires : goal.set_outcome-requires
set_outcome-requires c = let r = row_held c.args.table.now c.args.stamp c.args.index (search rules) c.requires.0 c.requires.1 in (r.holds, r.index, omega arith)

pub returns : goal.returns
returns c = λ view found.
    rw (c.taken.ensures, c.set_outcome.ensures, c.read-h.ensures, c.code-done.ensures.0)
    (outcome_taken valley c.args.table.now c.args.stamp view c.requires.0 _ c.args.index (all_of c.args.table.now (search rules)) found (rw c.row_at-held.ensures at c.if-held-eq0.false) (rw (← c.row_at-held.ensures) (sym c.opposite.ensures ∙ c.if-opposite.false)))

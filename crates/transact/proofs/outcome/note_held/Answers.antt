-- The outcome byte that stands there decides.
use mathlib.Core.Path.{sym, ◌∙◌}
use Rattle.wire.proofs.Numbers.{all_of}
use Rattle.std.proofs.Common.{rules}
use Rattle.seek.proofs.HeldRows.{row_held}
use Rattle.transact.proofs.Proposed.{note_opposed, note_taken}
use Rattle.transact.proofs.outcome.note_held.Goals as goal

pub row_at-held-requires : goal.row_at-held-requires
row_at-held-requires c = (row_held c.args.table.now c.args.stamp c.args.index (search rules) c.requires.0 c.requires.1).inside

pub opposite-requires : goal.opposite-requires
opposite-requires c = rw c.row_at-held.ensures (row_held c.args.table.now c.args.stamp c.args.index (search rules) c.requires.0 c.requires.1).outcome

pub returns-then-opposite : goal.returns-then-opposite
returns-then-opposite c = λ M x found.
    note_opposed M c.args.table.now c.args.stamp _ x c.requires.0 c.args.index (all_of c.args.table.now (search rules)) found (rw (← c.row_at-held.ensures) (sym c.opposite.ensures ∙ c.if-opposite.true))

pub read-h-requires : goal.read-h-requires
read-h-requires c = (row_held c.args.table.now c.args.stamp c.args.index (search rules) c.requires.0 c.requires.1).header

pub noted_as-outcome-requires : goal.noted_as-outcome-requires
noted_as-outcome-requires c = rw c.row_at-held.ensures (row_held c.args.table.now c.args.stamp c.args.index (search rules) c.requires.0 c.requires.1).outcome

pub set_outcome-requires : goal.set_outcome-requires
set_outcome-requires c = let r = row_held c.args.table.now c.args.stamp c.args.index (search rules) c.requires.0 c.requires.1 in (r.holds, r.index, c.noted_as-outcome.ensures.1)

pub returns : goal.returns
returns c = λ M x found.
    rw (c.taken.ensures, c.set_outcome.ensures, c.read-h.ensures)
    (note_taken M c.args.table.now c.args.stamp _ x c.requires.0 c.args.index (all_of c.args.table.now (search rules)) found c.noted_as-outcome.result (rw c.row_at-held.ensures at c.noted_as-outcome.ensures.0) c.noted_as-outcome.ensures.1 (rw (← c.row_at-held.ensures) (sym c.opposite.ensures ∙ c.if-opposite.false)))

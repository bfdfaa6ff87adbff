-- The prepare byte that stands there decides.
use mathlib.Core.Path.{sym, ◌∙◌}
use native.Mathlib.Omega.{arith}
use Rattle.wire.proofs.Numbers.{all_of}
use Rattle.rules.specs.Tables.{valley}
use Rattle.std.proofs.Common.{rules}
use Rattle.seek.proofs.HeldRows.{row_held}
use Rattle.transact.proofs.CodesMeant.{retry_final}
use Rattle.transact.proofs.Finalised.{prepare_missing, prepare_against, prepare_taken}
use Rattle.transact.proofs.prepare.finalise_held.Goals as goal

pub row_at-held-requires : goal.row_at-held-requires
row_at-held-requires c = (row_held c.args.table.now c.args.stamp c.args.index (search rules) c.requires.0 c.requires.1).inside

pub returns-then-held-eq0 : goal.returns-then-held-eq0
returns-then-held-eq0 c = λ view found.
    prepare_missing valley c.args.table.now c.args.stamp view c.requires.0 _ c.args.index (all_of c.args.table.now (search rules)) found (rw c.row_at-held.ensures at c.if-held-eq0.true)

pub unequal_final-requires : goal.unequal_final-requires
unequal_final-requires c = let r = row_held c.args.table.now c.args.stamp c.args.index (search rules) c.requires.0 c.requires.1 in rw c.row_at-held.ensures (r.prepare, r.retry)

pub returns-then-unequal_final : goal.returns-then-unequal_final
returns-then-unequal_final c = λ view found.
    prepare_against valley c.args.table.now c.args.stamp view c.requires.0 _ c.args.index (all_of c.args.table.now (search rules)) found (rw c.row_at-held.ensures at c.if-held-eq0.false) (rw (← c.row_at-held.ensures) (sym c.unequal_final.ensures ∙ c.if-unequal_final.true))

pub read-h-requires : goal.read-h-requires
read-h-requires c = (row_held c.args.table.now c.args.stamp c.args.index (search rules) c.requires.0 c.requires.1).header

pub set_prepare-requires : goal.set_prepare-requires
set_prepare-requires c =
    let r = row_held c.args.table.now c.args.stamp c.args.index (search rules) c.requires.0 c.requires.1 in
    (r.holds, r.index, omega arith, rw (c.code-prepare.ensures.0, c.retry-retry.ensures) (retry_final _ c.requires.2))

pub returns : goal.returns
returns c = λ view found.
    rw (c.taken.ensures, c.set_prepare.ensures, c.read-h.ensures, c.code-prepare.ensures.0, c.retry-retry.ensures)
    (prepare_taken valley c.args.table.now c.args.stamp view c.requires.0 _ c.args.index (all_of c.args.table.now (search rules)) found (rw c.row_at-held.ensures at c.if-held-eq0.false) (rw (← c.row_at-held.ensures) (sym c.unequal_final.ensures ∙ c.if-unequal_final.false)))

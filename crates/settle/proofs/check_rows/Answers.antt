-- The rows before the index are done; what is left gives what all give.
use mathlib.Core.Path.{sym, ◌∙◌}
use native.Mathlib.Omega.{arith}
use Rattle.wire.proofs.Numbers.{all_of}
use Rattle.table.specs.Images.{format_one}
use Rattle.edit.proofs.Holding.{one_starts, holds_least, holds_row_inside}
use Rattle.settle.proofs.CheckedInPlace.{inside, rows_begin, rows_passed, rows_checked, rows_end}
use Rattle.settle.proofs.check_rows.Goals as goal
use Rattle.settle.proofs.check_rows.Goals.{then-row_waits, else-row_waits}

pub read-rows-requires : goal.read-rows-requires
read-rows-requires c = holds_least format_one c.args.out.now one_starts c.requires.0

pub loop-i-init : goal.loop-i-init
loop-i-init c = rw c.read-rows.ensures (rows_begin _ _ _ c.requires.0 c.requires.1 c.requires.2)

pub row_waits-requires : goal.row_waits-requires
row_waits-requires c =
    let t = c.loop-i.invariant in
    let few = rw (← c.read-rows.ensures) at c.requires.3 in
    (omega arith, holds_row_inside format_one _ _ one_starts t.holds (inside _ _ _ _ _ _ t c.loop-i-test.true))

pub loop-i-preserved : goal.loop-i-preserved
loop-i-preserved c =
    let l = c.loop-i-test.true in
    let t = c.loop-i.invariant in
    elim c.if-row_waits.branch [
      | then-row_waits w ↦ rw w.out-is (rows_checked _ _ _ _ _ _ t l _ w.check_row.ensures (all_of w.check_row.new.out (λ i. (w.slice_known-then-row_waits-1.given i).fits)) (sym c.row_waits.ensures ∙ w.if-row_waits.true))
      | else-row_waits w ↦ rw w.out-is (rows_passed _ _ _ _ _ _ t l (sym c.row_waits.ensures ∙ w.if-row_waits.false))
    ]

pub returns : goal.returns
returns c = rows_end _ _ _ _ _ _ c.loop-i.invariant c.loop-i-test.false

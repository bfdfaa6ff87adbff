-- The row in the middle tells which of the sides is left. A turn is one step of halving (Halving), so what is compared and the steps that are left are all steps.
use mathlib.Core.Path.{sym, ◌∙◌}
use mathlib.Core.Logic.{⊎_elim}
use Prim.Native.Nat.{◌+◌, ◌-◌, ◌*◌, ◌/◌, ◌≤◌, ◌<◌}
use native.Mathlib.Nat.{eq-or-lt_of_le}
use native.Mathlib.Omega.{arith}
use Rattle.rows.specs.Fields.{fields_at}
use Rattle.rows.proofs.Halving.{turn_here, turn_before, turn_behind}
use Rattle.rows.proofs.lookup.find.Goals as goal

pub returns-then-here-stamp : goal.returns-then-here-stamp
returns-then-here-stamp c =
    let a = c.args in
    let l = c.loop-low in
    let (there, last) = turn_here a.image.now a.begin l.low l.high _ a.stamp (omega arith) (omega arith) l.invariant.2 (omega arith) (rw c.row_at-here.ensures at c.if-here-stamp.true) in
    (sym (l.invariant.3 ∙ there), sym (l.invariant.4 ∙ rw last))

pub loop-low-preserved-then-here-stamp-2 : goal.loop-low-preserved-then-here-stamp-2
loop-low-preserved-then-here-stamp-2 c =
    let a = c.args in
    let l = c.loop-low in
    let middle = l.low + (l.high - l.low) / 2 in
    let (rises, same, step) = turn_behind a.image.now a.begin l.low l.high middle a.stamp (omega arith) (omega arith) l.invariant.2 (omega arith) (rw c.row_at-here.ensures at c.if-here-stamp-2.true) in
    (omega arith, omega arith, rises, l.invariant.3 ∙ same, omega (arith, l.invariant.4))

pub loop-low-preserved : goal.loop-low-preserved
loop-low-preserved c =
    let a = c.args in
    let l = c.loop-low in
    let middle = l.low + (l.high - l.low) / 2 in
    let here = (fields_at a.image.now (a.begin + 24 * middle)).stamp in
    let least : a.stamp ≤ here = rw c.row_at-here.ensures at c.if-here-stamp-2.false in
    let higher : a.stamp < here = ⊎_elim (λ e. absurd ((rw c.row_at-here.ensures at c.if-here-stamp.false) (sym e))) (λ l. l) (eq-or-lt_of_le least) in
    let (rises, same, step) = turn_before a.image.now a.begin l.low l.high middle a.stamp (omega arith) (omega arith) l.invariant.2 (omega arith) higher in
    (omega arith, omega arith, rises, l.invariant.3 ∙ same, omega (arith, l.invariant.4))

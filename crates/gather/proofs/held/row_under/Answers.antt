-- The view first, then the row at the cursor.
use mathlib.Core.Path.{◌∙◌}
use native.Mathlib.Omega.{arith}
use Rattle.gather.proofs.OneTable.{header_inside, sought_in, row_elsewhere, row_here, row_not}
use Rattle.gather.proofs.held.row_under.Goals as goal

pub read-h-requires : goal.read-h-requires
read-h-requires c = header_inside _ c.requires.0

pub returns-then-h-newest : goal.returns-then-h-newest
returns-then-h-newest c = c.no_row.ensures ∙ row_elsewhere _ _ c.read-h.ensures _ _ c.if-h-newest.true

pub returns-then-h-index : goal.returns-then-h-index
returns-then-h-index c =
    let p = c.requires in
    c.no_row-then-h-index.ensures ∙ row_not _ _ c.read-h.ensures _ _ _ p.0 c.if-h-newest.false p.1 p.2 p.3 (λ l. let m = c.if-h-index.true in absurd (omega arith))

pub row_at-row-requires : goal.row_at-row-requires
row_at-row-requires c =
    let h = (sought_in _ _ c.read-h.ensures c.args.newest c.requires.0).0 in
    let l = c.if-h-index.false in
    omega arith

pub returns-then-row-stamp : goal.returns-then-row-stamp
returns-then-row-stamp c =
    let p = c.requires in
    c.no_row-then-row-stamp.ensures ∙ row_not _ _ c.read-h.ensures _ _ _ p.0 c.if-h-newest.false p.1 p.2 p.3 (λ l e. c.if-row-stamp.true (rw c.row_at-row.ensures e))

pub returns : goal.returns
returns c =
    let p = c.requires in
    let m = c.if-h-index.false in
    c.row_at-row.ensures ∙ row_here _ _ c.read-h.ensures _ _ _ p.0 c.if-h-newest.false p.1 p.2 p.3 (omega arith) (rw c.row_at-row.ensures at c.if-row-stamp.false)

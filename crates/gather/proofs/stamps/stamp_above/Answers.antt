-- The row at the cursor has it, if there is one.
use native.Mathlib.Omega.{arith}
use Rattle.gather.proofs.OneTable.{header_inside, sought_in, above_elsewhere, above_there, above_none}
use Rattle.gather.proofs.stamps.stamp_above.Goals as goal

pub read-h-requires : goal.read-h-requires
read-h-requires c = header_inside _ c.requires.0

pub returns-then-h-newest : goal.returns-then-h-newest
returns-then-h-newest c = above_elsewhere _ _ c.read-h.ensures _ _ c.if-h-newest.true

pub row_at-requires : goal.row_at-requires
row_at-requires c =
    let h = (sought_in _ _ c.read-h.ensures c.args.newest c.requires.0).0 in
    let l = c.if-index-h.true in
    omega arith

pub returns-then-index-h : goal.returns-then-index-h
returns-then-index-h c = rw c.row_at.ensures (above_there _ _ c.read-h.ensures _ _ _ c.requires.0 c.if-h-newest.false c.requires.1 c.if-index-h.true)

pub returns : goal.returns
returns c = above_none _ _ c.read-h.ensures _ _ _ c.requires.0 c.if-h-newest.false c.requires.1 c.if-index-h.false

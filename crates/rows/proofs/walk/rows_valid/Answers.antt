-- What the walk finds is what is asked (RowsRead).
use native.Mathlib.Nat.{add-zero, sub-zero}
use native.Mathlib.Omega.{arith}
use Rattle.wire.proofs.Numbers.{all_of}
use Rattle.rows.proofs.RowsRead.{rows_walked}
use Rattle.rows.proofs.walk.rows_valid.Goals as goal

pub loop-i-init : goal.loop-i-init
loop-i-init c =
    let a = c.args in
    (omega arith, rw (add-zero, sub-zero) (rows_walked a.image.now a.begin a.rows a.end (all_of a.image.now (λ i. (c.type_inv.image i).fits)) c.requires.0 c.requires.1 c.requires.2))

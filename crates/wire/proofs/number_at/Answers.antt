-- One byte more counts last, and before the eighth there is room for it.
use mathlib.Core.Path.{◌≡◌, sym}
use Prim.Native.Nat.{ℕ, ◌+◌, ◌<◌}
use native.Mathlib.Numerals.{add-one}
use native.Mathlib.Omega.{arith}
use lib.ListN.{get_or, length-take, length-drop}
use Rattle.std.proofs.lemmas.List.Edits.{get_or-between}
use Rattle.wire.proofs.Numbers.{number_at-none}
use Rattle.wire.proofs.Turns.{read_turn, read_below, read_room}
use Rattle.wire.proofs.number_at.Goals as goal

pub loop-b-init : goal.loop-b-init
loop-b-init c = (sym (number_at-none _ _), omega arith)

pub overflow_mul-x : goal.overflow_mul-x
overflow_mul-x c =
    let room = read_room c.loop-b.b-index c.loop-b.x c.loop-b.invariant.1 (omega (arith, length-take {A = ℕ})) in
    omega arith

pub overflow_add-x : goal.overflow_add-x
overflow_add-x c =
    let room = read_room c.loop-b.b-index c.loop-b.x c.loop-b.invariant.1 (omega (arith, length-take {A = ℕ})) in
    omega arith

pub loop-b-preserved : goal.loop-b-preserved
loop-b-preserved c =
    let s = c.args.s.now in
    let at = c.args.at in
    let i = c.loop-b.b-index in
    let h : i < c.args.width = omega (arith, length-take {A = ℕ}) in
    let b : c.from.result ≡ get_or s (at + i) 0 = cc (get_or-between s at (at + c.args.width) i 0 (omega arith)) in
    rw (add-one i) (
      cc (read_turn s at i (omega arith)),
      read_below i c.loop-b.x c.from.result c.loop-b.invariant.1 (rw b (c.type_inv.s (at + i)).fits),
    )

pub returns : goal.returns
returns c =
    let e : c.loop-b.b-index ≡ c.args.width = omega (arith, length-take {A = ℕ}, length-drop {A = ℕ}) in
    rw (← e) c.loop-b.invariant

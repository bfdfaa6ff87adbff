-- The boxes passed have made their buffers fresh.
use mathlib.Core.Path.{◌≡◌, refl, sym, ap, ◌∙◌}
use Prim.Native.Nat.{◌+◌, ◌-◌}
use native.Mathlib.Omega.{arith}
use Rattle.rules.specs.Tables.{valley}
use Rattle.table.specs.Fresh.{fresh_buffer}
use Rattle.boxes.specs.Inner.OneBuffer.{buffer_of, with_buffer, fresh_first}
use Rattle.boxes.proofs.LentTables.{lent_is, lent_back, first_turn}
use Rattle.boxes.proofs.start.fresh_boxes.Goals as goal

pub loop-boxnumber-init : goal.loop-boxnumber-init
unfolding fresh_first
loop-boxnumber-init c = (refl, refl)

pub loop-boxnumber-preserved : goal.loop-boxnumber-preserved
loop-boxnumber-preserved c =
    let a = c.args in
    let l = c.loop-boxnumber in
    let at = c.place-from in
    let call = c.fresh in
    let many : at.result + 49176 - at.result ≡ 49176 = omega arith in
    let is = lent_is valley l.tables l.boxnumber at.result (at.result + 49176 - at.result) at.ensures many in
    let fresh = rw is at call.ensures.table_after in
    let back = lent_back valley l.tables l.boxnumber at.result (at.result + 49176 - at.result) at.ensures many call.new.table (omega arith) call.auto.table in
    let turned = first_turn valley a.n l.boxnumber a.tables.now in
    (omega arith, back ∙ ap (with_buffer valley l.tables l.boxnumber) fresh ∙ ap (λ t. with_buffer valley t l.boxnumber (fresh_buffer valley (buffer_of valley t l.boxnumber) a.n l.boxnumber)) l.invariant.1 ∙ sym turned)

pub returns : goal.returns
returns c = let e : c.loop-boxnumber.boxnumber ≡ c.args.n = omega arith in rw e at c.loop-boxnumber.invariant.1

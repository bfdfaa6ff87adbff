-- What the call promises of the part that it was lent, said of the whole.
use mathlib.Core.Path.{◌≡◌, ap, ◌∙◌}
use Prim.Native.Nat.{◌+◌, ◌-◌}
use native.Mathlib.Omega.{arith}
use Rattle.rules.specs.Tables.{valley}
use Rattle.boxes.specs.Inner.OneBuffer.{with_buffer}
use Rattle.boxes.proofs.LentTables.{lent_is, lent_back, arrives_nowhere}
use Rattle.boxes.proofs.arrive.arrive.Goals as goal

pub returns-then-tables-to : goal.returns-then-tables-to
returns-then-tables-to c =
    let a = c.args in
    let (number, tables, reply) = arrives_nowhere valley a.tables.now a.boxnumber a.message.now a.reply.now (omega arith) (omega arith) in
    record { value = number; tables_after = tables; reply_after = reply }

pub returns : goal.returns
returns c =
    let a = c.args in
    let at = c.place-from in
    let call = c.answer in
    let many : at.result + 49176 - at.result ≡ 49176 = omega arith in
    let is = lent_is valley a.tables.now a.boxnumber at.result (at.result + 49176 - at.result) at.ensures many in
    let number = rw is at call.ensures.number_value.0 in
    let table = rw is at call.ensures.table_after in
    let reply = rw is at call.ensures.reply_after in
    let back = lent_back valley a.tables.now a.boxnumber at.result (at.result + 49176 - at.result) at.ensures many call.new.table (omega arith) call.auto.table in
    record { value = number; tables_after = back ∙ ap (with_buffer valley a.tables.now a.boxnumber) table; reply_after = reply }

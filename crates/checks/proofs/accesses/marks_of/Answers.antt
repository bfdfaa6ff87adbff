-- Each access was passed and is marked, or is among the rest.
use Prim.Native.Nat.{◌+◌, ◌-◌, ◌*◌}
use native.Mathlib.Omega.{arith}
use Rattle.rows.specs.Read.{access_at, access_of, accesses_at}
use Rattle.checks.specs.Inner.Lent.{listed}
use Rattle.checks.proofs.LentParts.{accesses_turn, accesses_over}
use Rattle.checks.proofs.Marks.{marks_go_on, marks_end}
use Rattle.checks.proofs.accesses.marks_of.Goals as goal

pub loop-i-preserved : goal.loop-i-preserved
loop-i-preserved c =
    let a = c.args.accesses in
    let i = c.loop-i.i in
    let access = access_of (access_at a.bytes.now (9 * (a.from + i))) in
    let rest = accesses_at a.bytes.now (9 * (a.from + (i + 1))) (a.count - (i + 1)) in
    let at_hand = rw (accesses_turn a.bytes.now a.from a.count i c.loop-i-test.true) at c.loop-i.invariant in
    rw c.at.ensures (marks_go_on c.loop-i.marks access rest (listed a) (omega arith) at_hand)

pub returns : goal.returns
returns c =
    let a = c.args.accesses in
    marks_end c.loop-i.marks (listed a) (rw (accesses_over a.bytes.now (9 * (a.from + c.loop-i.i)) a.count c.loop-i.i (omega arith)) at c.loop-i.invariant)

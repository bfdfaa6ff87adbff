-- The rows from i on were passed.
use native.Mathlib.Omega.{arith}
use Rattle.checks.proofs.Rounds.{passed_none, passed_more, passed_sure}
use Rattle.checks.proofs.pass.passed.Goals as goal

pub loop-i-init : goal.loop-i-init
loop-i-init g c = passed_none _ c.args.rows _ c.nothing_seen-seen.ensures

pub returns-then-seen : goal.returns-then-seen
returns-then-seen g c =
    let l = c.loop-i in
    passed_sure _ c.args.silent c.args.rows l.i l.seen c.with_row-seen.result (omega (arith, c.loop-i-test.true)) l.auto.i l.invariant c.with_row-seen.ensures c.if-seen.true

pub loop-i-preserved : goal.loop-i-preserved
loop-i-preserved g c =
    let l = c.loop-i in
    passed_more _ c.args.rows l.i l.seen c.with_row-seen.result (omega (arith, c.loop-i-test.true)) l.auto.i l.invariant c.with_row-seen.ensures

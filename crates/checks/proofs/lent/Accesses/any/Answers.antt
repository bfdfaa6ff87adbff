-- The accesses that were passed fail the test: whether one of the rest passes gives the whole answer.
use mathlib.Core.Path.{sym, ◌∙◌}
use native.Mathlib.Omega.{arith}
use Rattle.checks.proofs.LentParts.{any_here, any_behind, any_over}
use Rattle.checks.proofs.lent.Accesses.any.Goals as goal

pub returns-then-passes : goal.returns-then-passes
returns-then-passes g c test h =
    let a = c.args.self in
    let passes = rw c.at.ensures at (sym (h _ _ c.passes.ensures) ∙ c.if-passes.true) in
    sym (c.loop-i.invariant test h ∙ any_here test a.bytes.now a.from a.count c.loop-i.i c.loop-i-test.true passes)

pub loop-i-preserved : goal.loop-i-preserved
loop-i-preserved g c test h =
    let a = c.args.self in
    let fails = rw c.at.ensures at (sym (h _ _ c.passes.ensures) ∙ c.if-passes.false) in
    c.loop-i.invariant test h ∙ any_behind test a.bytes.now a.from a.count c.loop-i.i c.loop-i-test.true fails

pub returns : goal.returns
returns g c test h =
    let a = c.args.self in
    sym (c.loop-i.invariant test h ∙ any_over test a.bytes.now _ a.count c.loop-i.i (omega arith))

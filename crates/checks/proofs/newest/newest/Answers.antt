-- The rows from i on give nothing; the first that gives something gives what all give.
use mathlib.Core.Path.{sym, ap, ◌∙◌}
use mathlib.Core.List.{List}
use Rattle.rules.specs.Tables.{Row}
use Rattle.rules.specs.Messages.{found}
use Rattle.checks.proofs.Steps.{rows_none}
use Rattle.checks.proofs.Rounds.{found_none}
use Rattle.checks.proofs.NewestWrite.{newest_met, newest_goes_on}
use Rattle.checks.proofs.newest.newest.Goals as goal

pub loop-i-init : goal.loop-i-init
loop-i-init c =
    let a = c.args in
    let s = a.rows in
    ap (λ (rs : List Row). found rs a.stamp a.register) (rows_none s.image.now _ s.count) ∙ found_none _ _

pub returns-then-is_some : goal.returns-then-is_some
returns-then-is_some c =
    let a = c.args in
    let s = a.rows in
    let l = c.loop-i in
    let f = c.found_in-found in
    newest_met s.image.now s.begin s.count l.i a.stamp a.register c.loop-i-test.true l.auto.i l.invariant f.result c.requires.1 (sym c.is_some.ensures ∙ c.if-is_some.true) (rw c.row.ensures at f.ensures.meant) (rw c.row.ensures at f.ensures.version)

pub loop-i-preserved : goal.loop-i-preserved
loop-i-preserved c =
    let a = c.args in
    let s = a.rows in
    let l = c.loop-i in
    let f = c.found_in-found in
    newest_goes_on s.image.now s.begin s.count l.i a.stamp a.register c.loop-i-test.true l.auto.i l.invariant f.result (sym c.is_some.ensures ∙ c.if-is_some.false) (rw c.row.ensures at f.ensures.meant)

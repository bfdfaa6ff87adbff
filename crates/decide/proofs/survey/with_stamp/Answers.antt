-- Its bodies, its contradiction, and one more.
use mathlib.Core.Path.{◌≡◌, ap, ◌∙◌}
use Rattle.wire.proofs.Numbers.{all_of}
use Rattle.rules.specs.Tests.{either}
use Rattle.rules.specs.Merge.{two_bodies, contradictory}
use Rattle.gather.specs.Inner.State.{contradicts}
use Rattle.gather.specs.Inner.Gathered.{rows_in}
use Rattle.gather.proofs.StateSeen.{state_contradicts}
use Rattle.gather.proofs.RowsTold.{state_gathered}
use Rattle.decide.proofs.survey.with_stamp.Goals as goal
use Rattle.decide.proofs.survey.with_stamp.Goals.{then-survey, else-survey, then-survey-2, else-survey-2}

pub returns : goal.returns
unfolding either
returns c =
    let rows = rows_in c.args.run.now c.args.gathered.now in
    let seen = state_gathered c.args.run.now (all_of c.args.run.now (λ i. (c.type_inv.run i).fits)) c.requires.images.0 c.requires.images.1 c.args.gathered.now c.requires.images.2 in
    let bodies : c.if-survey.result ≡ either c.args.survey.bodies (two_bodies rows) = (elim c.if-survey.branch [ then-survey w ↦ rw (w.result-is, w.if-survey.true) | else-survey w ↦ rw (w.result-is, w.if-survey.false) w.two_bodies.ensures ]) in
    let contradiction : c.if-survey-2.result ≡ either c.args.survey.contradiction (contradictory rows) = (elim c.if-survey-2.branch [ then-survey-2 w ↦ rw (w.result-is, w.if-survey-2.true) | else-survey-2 w ↦ rw (w.result-is, w.if-survey-2.false) (w.contradicts.ensures ∙ ap contradicts (w.state_of.ensures ∙ seen) ∙ state_contradicts rows) ]) in
    rw (bodies, contradiction)

-- Each row that is passed says what A and B say of it, and those below the floor are silent.
use mathlib.Core.Path.{◌≡◌, ◌∙◌}
use Rattle.std.proofs.Common.{rules}
use Rattle.rules.specs.DayOrder.{day_a, day_b, day_check}
use Rattle.rules.proofs.DayOrder.{day_a_counting, day_b_counting}
use Rattle.rules.proofs.Floor.{day_a_silent, day_b_silent}
use Rattle.rules.specs.Inner.Floor.{floor_of}
use Rattle.rows.specs.Inner.Places.{lower}
use Rattle.checks.specs.Inner.Lent.{lent_body, lent_rows}
use Rattle.checks.proofs.Rounds.{passed_says}
use Rattle.checks.proofs.day.check.Goals as goal

pub returns : goal.returns
unfolding day_check
returns c =
    let r = c.args.rows in
    let t = c.new-checked in
    let silent : c.silent_rows-silent.result ≡ lower (lent_rows r) (floor_of t.result.stamp (lent_body t.result.body).reads) = cc (c.silent_rows-silent.ensures, c.read.ensures, t.ensures.0, t.ensures.1) in
    c.answer.ensures
    ∙ rw (t.ensures.0, t.ensures.1) at (passed_says day_a day_b day_a_counting day_b_counting r.image.now r.begin r.count t.result.stamp (lent_body t.result.body) day_a_silent day_b_silent c.requires.1 _ _ _ silent c.passed-seen.ensures (λ seen i next l says. search rules))

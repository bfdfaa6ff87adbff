-- All stamps below the next one are seen.
use Rattle.decide.proofs.SurveySeen.{seeing_begins, seeing_held, seeing_few, seeing_next, seeing_ends}
use Rattle.decide.proofs.survey.survey_stamps.Goals as goal

pub loop-gathered-init : goal.loop-gathered-init
loop-gathered-init c =
    let same = c.into_iter-gathered-iterator.ensures.into_iter_gives in
    let (run, start) = c.used-gathered-items.ensures in
    (tt, tt, rw same (seeing_begins _ _ c.requires.0 _ run start))

pub with_stamp-seen-requires : goal.with_stamp-seen-requires
with_stamp-seen-requires c =
    let held = seeing_held _ _ c.requires.0 _ _ c.loop-gathered.invariant.2 _ c.next.new.self c.in-Some.ensures.steps in
    record { images = (c.requires.0, c.requires.1, held.0, held.1); stamps_lt_last = seeing_few _ _ c.requires.0 _ _ c.loop-gathered.invariant.2 _ c.next.new.self c.in-Some.ensures.steps }

pub loop-gathered-preserved : goal.loop-gathered-preserved
loop-gathered-preserved c = (tt, tt, rw c.with_stamp-seen.ensures (seeing_next _ _ c.requires.0 _ _ c.loop-gathered.invariant.2 _ c.next.new.self c.in-Some.ensures.steps))

pub returns : goal.returns
returns c = seeing_ends _ _ c.requires.0 _ _ c.loop-gathered.invariant.2 c.in-None.ensures.steps.1

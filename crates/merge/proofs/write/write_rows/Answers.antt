-- The stamps below the next one were passed: the buffer holds their rows and bodies, and the marks say which are agreed.
use mathlib.Core.Path.{refl, ◌∙◌}
use mathlib.Core.Logic.{inl, inr}
use native.Mathlib.Omega.{arith}
use Rattle.merge.proofs.WritingRows.{writing_begins, writing_ends, writing_held, writing_free, writing_room, writing_next}
use Rattle.merge.proofs.write.write_rows.Goals as goal
use Rattle.merge.proofs.write.write_rows.Goals.{then-written, else-written}

pub loop-gathered-init : goal.loop-gathered-init
loop-gathered-init c =
    let same = c.into_iter-gathered-iterator.ensures.into_iter_gives in
    let (run, start) = c.used-gathered-items.ensures in
    (tt, tt, rw same (writing_begins _ _ _ _ _ c.requires.0 c.requires.2 _ run start))

pub write_stamp-written-requires : goal.write_stamp-written-requires
write_stamp-written-requires c =
    let held = writing_held _ _ _ _ _ c.requires.0 c.requires.2 _ _ _ _ _ c.loop-gathered.invariant.2 _ c.next.new.self c.in-Some.ensures.steps in
    let room = writing_room _ _ _ _ _ c.requires.0 c.requires.2 _ _ _ _ _ c.loop-gathered.invariant.2 _ c.next.new.self c.in-Some.ensures.steps c.requires.3 c.requires.4 in
    record { images = (c.requires.0, c.requires.1, held.0, held.1); index_bound = (room.0, omega (arith, room.1), room.2, omega arith) }

pub mark-requires : goal.mark-requires
mark-requires c =
    let room = writing_room _ _ _ _ _ c.requires.0 c.requires.2 _ _ _ _ _ c.loop-gathered.invariant.2 _ c.next.new.self c.in-Some.ensures.steps c.requires.3 c.requires.4 in
    (room.0, writing_free _ _ _ _ _ c.requires.0 c.requires.2 _ _ _ _ _ c.loop-gathered.invariant.2 _ c.next.new.self c.in-Some.ensures.steps)

pub overflow_add-i : goal.overflow_add-i
overflow_add-i c =
    let room = writing_room _ _ _ _ _ c.requires.0 c.requires.2 _ _ _ _ _ c.loop-gathered.invariant.2 _ c.next.new.self c.in-Some.ensures.steps c.requires.3 c.requires.4 in
    let few = room.0 in omega arith

pub loop-gathered-preserved : goal.loop-gathered-preserved
loop-gathered-preserved c =
    let written = c.write_stamp-written.ensures in
    (tt, tt, writing_next _ _ _ _ _ c.requires.0 c.requires.2 _ _ _ _ _ c.loop-gathered.invariant.2 _ c.next.new.self c.in-Some.ensures.steps c.requires.3 c.requires.4 _ _ (refl, refl) _ written.due_value.1 _ written.out_after _ written.due_value.0 c.if-written.marks (elim c.if-written.branch [ then-written w ↦ inl (w.if-written.true, w.marks-is ∙ w.mark.ensures) | else-written w ↦ inr (w.if-written.false, w.marks-is) ]))

pub returns : goal.returns
returns c =
    let (ends, marks, is) = writing_ends _ _ _ _ _ c.requires.0 c.requires.2 _ _ _ _ _ c.loop-gathered.invariant.2 c.in-None.ensures.steps.1 in
    record { end_value = (ends, marks); out_after = is }

-- What is left decides.
use mathlib.Core.Path.{sym, ◌∙◌}
use Prim.Native.Nat.{◌≤◌}
use native.Mathlib.Omega.{arith}
use lib.ListN.{length}
use Rattle.image_run.proofs.Walks.{whole_turn, whole_not, whole_end, whole_seen, whole_unseen}
use Rattle.image_run.proofs.whole.is_whole.Goals as goal

pub returns-in_default : goal.returns-in_default
returns-in_default c = whole_unseen _ _ (sym c.loop-rest.invariant ∙ whole_not _ _ (grind arith) (sym c.find.ensures ∙ c.in_default.is))

pub slice_bounds-rest-count : goal.slice_bounds-rest-count
slice_bounds-rest-count c = (whole_turn _ _ _ (grind arith) (sym c.find.ensures ∙ c.in-Some.is)).1

pub slice_bounds-rest-start : goal.slice_bounds-rest-start
slice_bounds-rest-start c = let l : c.in-Some.length ≤ length c.loop-rest.rest.now = (whole_turn _ _ _ (grind arith) (sym c.find.ensures ∙ c.in-Some.is)).1 in omega arith

pub loop-rest-smaller : goal.loop-rest-smaller
loop-rest-smaller c = let t = whole_turn _ _ _ (grind arith) (sym c.find.ensures ∙ c.in-Some.is) in let l = t.0 in let m = t.1 in omega arith

pub loop-rest-preserved : goal.loop-rest-preserved
loop-rest-preserved c = (whole_turn _ _ _ (grind arith) (sym c.find.ensures ∙ c.in-Some.is)).2 ∙ c.loop-rest.invariant

pub returns : goal.returns
returns c = whole_seen _ _ (sym c.loop-rest.invariant ∙ whole_end _ _ (grind arith))

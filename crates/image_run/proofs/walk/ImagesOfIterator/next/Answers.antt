-- The run is not at its end, so an image comes next.
use mathlib.Core.Path.{refl, ap}
use native.Mathlib.Omega.{arith}
use lib.ListN.{length}
use Prim.Native.Nat.{◌≤◌}
use Rattle.image_run.proofs.NextImages.{inside, next, still_whole, room}
use Rattle.image_run.proofs.walk.ImagesOfIterator.next.Goals as goal

pub read-requires : goal.read-requires
read-requires c = room _ (grind arith) c.args.self.now.whole

pub slice_bounds-self-count : goal.slice_bounds-self-count
slice_bounds-self-count c = inside _ (grind arith) c.args.self.now.whole _ c.read.ensures

pub slice_bounds-self-start : goal.slice_bounds-self-start
slice_bounds-self-start c = let l : c.read.result.length ≤ length c.args.self.now.rest.now = inside _ (grind arith) c.args.self.now.whole _ c.read.ensures in omega arith

pub invariant_of-self : goal.invariant_of-self
invariant_of-self c = record { whole = still_whole _ (grind arith) c.args.self.now.whole _ c.read.ensures }

pub returns-clause-steps : goal.returns-clause-steps
returns-clause-steps c = (refl, next _ (grind arith) c.args.self.now.whole _ c.read.ensures)

pub returns-clause-goes : goal.returns-clause-goes
returns-clause-goes c = let n = next _ (grind arith) c.args.self.now.whole _ c.read.ensures in record { on = λ _. (tt, tt, omega (arith, ap length n.tables)); keeps = tt; rests = λ _. tt }

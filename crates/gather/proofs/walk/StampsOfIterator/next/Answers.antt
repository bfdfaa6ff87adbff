-- Each stamp is above the one before it.
use mathlib.Core.Path.{◌≡◌, ap}
use native.Mathlib.Omega.{arith}
use Rattle.gather.specs.declared.held.Gathered.{Gathered}
use Rattle.gather.proofs.StampsWalked.{step_up}
use Rattle.gather.proofs.walk.StampsOfIterator.next.Goals as goal

pub returns-clause-goes : goal.returns-clause-goes
returns-clause-goes c =
    let (up, low) = step_up _ _ _ c.args.self.now.stand.1 c.in_ok-stamp.ensures in
    let last : c.gather-gathered.result.cursors.last ≡ c.in_ok-stamp.stamp = ap (λ (g : Gathered). g.cursors.last) c.gather-gathered.ensures in
    record { on = λ _. (tt, tt, omega arith); keeps = tt; rests = λ _. tt }

-- How many boxes a group has.
use mathlib.Core.Path.{◌≡◌}
use mathlib.Core.Bool.{true}
use Prim.Native.Nat.{ℕ, ◌<◌}
use native.Mathlib.Omega.{arith}
use Rattle.rules.specs.Groups.{is_group}
use Rattle.rules.proofs.Groups.{group_bounds}

-- each box has one of eight bits
pub group_small : (n : ℕ) → is_group n ≡ true → n < 8
group_small n h = let l = (group_bounds n h).1 in omega arith

-- The counts, for every f: what each of them is for.
use mathlib.Core.Path.{◌≡◌, refl}
use mathlib.Core.Bool.{true}
use mathlib.Core.Logic.{◌⊎◌, inl, inr}
use Prim.Native.Nat.{ℕ, ◌+◌, ◌≤◌, ◌<◌}
use native.Mathlib.Omega.{arith}
use lib.Dec.{eqb}
use borrow.Author.Tests.{eqb-true}
use Rattle.rules.specs.Tests.{either}
use Rattle.rules.specs.Groups.{is_group, f_of, quorum, fast_count, agreement_count}
use Rattle.rules.proofs.Logic.{either_cases}

-- a group of n has n = 2f + 1
pub group_of : (n : ℕ) → is_group n ≡ true → (n ≡ 3) ⊎ ((n ≡ 5) ⊎ (n ≡ 7))
unfolding is_group
group_of n h = go (either_cases (eqb n 3) (either (eqb n 5) (eqb n 7)) h)
  where
    rest : (eqb n 5 ≡ true) ⊎ (eqb n 7 ≡ true) → (n ≡ 3) ⊎ ((n ≡ 5) ⊎ (n ≡ 7))
    rest (inl e) = inr (inl (eqb-true n 5 e))
    rest (inr e) = inr (inr (eqb-true n 7 e))

    go : (eqb n 3 ≡ true) ⊎ (either (eqb n 5) (eqb n 7) ≡ true) → (n ≡ 3) ⊎ ((n ≡ 5) ⊎ (n ≡ 7))
    go (inl e) = inl (eqb-true n 3 e)
    go (inr h') = rest (either_cases (eqb n 5) (eqb n 7) h')

-- so a group has boxes, and at most seven
pub group_bounds : (n : ℕ) → is_group n ≡ true → (0 < n) × (n ≤ 7)
group_bounds n h = go (group_of n h)
  where
    go : (n ≡ 3) ⊎ ((n ≡ 5) ⊎ (n ≡ 7)) → (0 < n) × (n ≤ 7)
    go (inl e) = (omega arith, omega arith)
    go (inr (inl e)) = (omega arith, omega arith)
    go (inr (inr e)) = (omega arith, omega arith)

pub group_size : (n : ℕ) → is_group n ≡ true → n ≡ f_of n + f_of n + 1
group_size n h = go (group_of n h)
  where
    go : (n ≡ 3) ⊎ ((n ≡ 5) ⊎ (n ≡ 7)) → n ≡ f_of n + f_of n + 1
    go (inl e) = rw e refl
    go (inr (inl e)) = rw e refl
    go (inr (inr e)) = rw e refl

-- two quorums have a box in common
pub quorums_meet : (f : ℕ) → f + f + 1 < quorum f + quorum f
quorums_meet f = omega arith

-- the agreement count is the least number that only one result can reach in a quorum
pub agreement_once : (f : ℕ) → quorum f < agreement_count f + agreement_count f
agreement_once f = omega arith

pub agreement_least : (f k : ℕ) → quorum f < k + k → agreement_count f ≤ k
agreement_least f k h = omega arith

-- a fast count shares with every quorum the agreement count of boxes, and no more than that for certain
pub fast_meets : (f : ℕ) → fast_count f + quorum f ≡ f + f + 1 + agreement_count f
fast_meets f = omega arith

-- only one result can reach the fast count
pub fast_once : (f : ℕ) → f + f + 1 < fast_count f + fast_count f
fast_once f = omega arith

pub fast_quorum : (f : ℕ) → quorum f ≤ fast_count f
fast_quorum f = omega arith

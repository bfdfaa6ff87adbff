-- 01, 'What the boxes are': the size of a group, its f, and the counts.
use Rattle.std.specs.Prelude.{Bool, ℕ, ◌+◌, ◌-◌, ◌*◌, ◌/◌, eqb}
use Rattle.rules.specs.Tests.{either}

-- "One group has n = 3, 5 or 7 boxes, numbered 0 to n-1"
unfoldable pub is_group : ℕ → Bool
is_group n = either (eqb n 3) (either (eqb n 5) (eqb n 7))

-- "with f = 1, 2 or 3"
abbrev pub f_of : ℕ → ℕ
f_of n = (n - 1) / 2

-- "quorum f+1"
abbrev pub quorum : ℕ → ℕ
quorum f = f + 1

abbrev pub half_up : ℕ → ℕ
half_up x = (x + 1) / 2

-- "Fast count: three f halves, rounded up, plus one."
abbrev pub fast_count : ℕ → ℕ
fast_count f = half_up (3 * f) + 1

-- "Agreement count: f half, rounded up, plus one."
abbrev pub agreement_count : ℕ → ℕ
agreement_count f = half_up f + 1

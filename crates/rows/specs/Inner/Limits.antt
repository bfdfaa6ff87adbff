-- How great the number of an access may be: a read's version is below a stamp, and a write may have any value of 8 bytes.
use Rattle.std.specs.Prelude.{ℕ, ◌^◌, Option, Some, None}

abbrev pub number_limit : Option ℕ → ℕ
number_limit (Some limit) = limit
number_limit None = 2 ^ 64

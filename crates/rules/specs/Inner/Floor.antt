-- The floor of a check: whoever lies at or below it says nothing of the transaction (proofs/Floor).
use Rattle.std.specs.Prelude.{List, [], ◌∷◌, ℕ, min}
use Rattle.rules.specs.Stamps.{Access}

-- the least version read, or the stamp where that is lower or nothing is read
unfoldable pub floor_of : ℕ → List Access → ℕ
floor_of least [] = least
floor_of least (read ∷ more) = floor_of (min least read.number) more

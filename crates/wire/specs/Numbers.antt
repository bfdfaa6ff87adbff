-- Numbers in bytes. 01, 'Stamps and bodies': "All numbers are big-endian." The width is the count of bytes: 01 has numbers of 1, 4 and 8.
use Rattle.std.specs.Prelude.{List, [], ◌∷◌, ℕ, zero, suc, ◌+◌, ◌*◌, ◌/◌, ◌%◌, ◌^◌, length}
use Rattle.wire.specs.Parts.{part}

-- the number that bytes are: the first byte counts most
unfoldable pub number : List ℕ → ℕ
number [] = 0
number (b ∷ bs) = b * 256 ^ length bs + number bs

-- the form of a number in so many bytes
unfoldable pub bytes : ℕ → ℕ → List ℕ
bytes zero x = []
bytes (suc width) x = x / 256 ^ width ∷ bytes width (x % 256 ^ width)

-- the number in the bytes of s from at
unfoldable pub number_at : List ℕ → ℕ → ℕ → ℕ
number_at s at width = number (part s at width)

-- Worked bytes of 01, computed: what the definitions say of them is what the paper shows.
use mathlib.Core.Path.{◌≡◌, refl}
use mathlib.Core.List.{[], ◌∷◌}
use Rattle.wire.specs.Parts.{replaced}
use Rattle.wire.specs.Numbers.{number, bytes, number_at}

-- 'The table image': the fresh image's total length is "00 00 00 18", 24 in 4 bytes
length_of_fresh : bytes 4 24 ≡ 0 ∷ 0 ∷ 0 ∷ 24 ∷ []
unfolding bytes
length_of_fresh = refl

-- the stamp 65,537, time 1 and client 1, in 8 bytes
stamp_form : bytes 8 65537 ≡ 0 ∷ 0 ∷ 0 ∷ 0 ∷ 0 ∷ 1 ∷ 0 ∷ 1 ∷ []
unfolding bytes
stamp_form = refl

-- "body 05 00 00 00 00 00 00 00 07": register 5, value 7
value_of_body : number_at (5 ∷ 0 ∷ 0 ∷ 0 ∷ 0 ∷ 0 ∷ 0 ∷ 0 ∷ 7 ∷ []) 1 8 ≡ 7
unfolding number_at number
value_of_body = refl

-- the first byte counts most
high_byte_first : number (1 ∷ 2 ∷ 3 ∷ 4 ∷ []) ≡ 16909060
unfolding number
high_byte_first = refl

-- rows 1 and length 57 written over a fresh image's
row_count : replaced (9 ∷ 9 ∷ 9 ∷ 9 ∷ 9 ∷ 9 ∷ []) 1 (bytes 4 57) ≡ 9 ∷ 0 ∷ 0 ∷ 0 ∷ 57 ∷ 9 ∷ []
unfolding replaced bytes
row_count = refl

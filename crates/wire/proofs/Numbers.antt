-- Laws of numbers in bytes, each proved once over the width.
use mathlib.Core.Path.{◌≡◌, refl, sym, ap, ap₂, ◌∙◌}
use mathlib.Core.List.{List, [], ◌∷◌, ◌++◌}
use Prim.Native.Nat.{ℕ, zero, suc, ◌+◌, ◌*◌, ◌/◌, ◌%◌, ◌^◌, ◌≤◌, ◌<◌}
use native.Mathlib.Nat.{add-mul, add_assoc, div-one, pow-suc, pow-succ', one-le-pow, mod-lt, div-add-mod', div-lt_iff_lt-mul, mul_assoc, div-div-eq-div-mul}
use native.Mathlib.Omega.{arith}
use lib.Pow.{pow-add}
use lib.Arith.{digits_lt, digits_div, digits_mod, mod-mul}
use Rattle.std.specs.Int.{w32, from_be_bytes}
use lib.ListN.{length, take, drop, get_or, length-append}
use lib.Seq.{take-add, drop-drop}
use Rattle.wire.specs.Parts.{part, replaced}
use Rattle.wire.specs.Numbers.{number, bytes, number_at}
use Rattle.wire.specs.Inner.ByteLists.{AllBytes}
use Rattle.wire.proofs.Parts.{length_part, part-part, part-replaced}

pub power_positive : (width : ℕ) → 0 < 256 ^ width
power_positive width = one-le-pow width 256 (omega arith)

pub length_bytes : (width x : ℕ) → length (bytes width x) ≡ width
unfolding bytes
length_bytes zero x = refl
length_bytes (suc width) x = ap suc (length_bytes width (x % 256 ^ width))

-- what was written is read back
pub number_bytes : (width x : ℕ) → x < 256 ^ width → number (bytes width x) ≡ x
unfolding number bytes
number_bytes zero x h = omega arith
number_bytes (suc width) x h =
    let n = length_bytes width (x % 256 ^ width) in
    let v = number_bytes width (x % 256 ^ width) (mod-lt x (power_positive width)) in
    ap₂ (λ (m w : ℕ). x / 256 ^ width * 256 ^ m + w) n v ∙ div-add-mod' x (256 ^ width)

pub number_below : (bs : List ℕ) → AllBytes bs → number bs < 256 ^ length bs
unfolding number
number_below [] h = omega arith
number_below (b ∷ bs) h = rw pow-succ' (digits_lt h.0 (number_below bs h.1))

-- what was read is written back
pub bytes_number : (bs : List ℕ) → AllBytes bs → bytes (length bs) (number bs) ≡ bs
unfolding number bytes
bytes_number [] h = refl
bytes_number (b ∷ bs) h =
    let l : number bs < 256 ^ length bs = number_below bs h.1 in
    rw (digits_div b l, digits_mod b l, bytes_number bs h.1)

-- a number has one form in so many bytes, and a form is of one number
pub one_form : (width x : ℕ) (bs : List ℕ) → AllBytes bs → length bs ≡ width → number bs ≡ x → bs ≡ bytes width x
one_form width x bs h n v = sym (rw (n, v) at (bytes_number bs h))

pub one_number : (width x y : ℕ) → x < 256 ^ width → y < 256 ^ width → bytes width x ≡ bytes width y → x ≡ y
one_number width x y hx hy e = sym (number_bytes width x hx) ∙ ap number e ∙ number_bytes width y hy

pub bytes_all : (width x : ℕ) → x < 256 ^ width → AllBytes (bytes width x)
unfolding bytes
bytes_all zero x h = tt
bytes_all (suc width) x h = (
  (div-lt_iff_lt-mul (power_positive width)).1 (rw pow-succ' at h),
  bytes_all width (x % 256 ^ width) (mod-lt x (power_positive width)),
)

-- and a number whose bytes they are fits
pub bytes_fit : (width x : ℕ) → 0 < width → AllBytes (bytes width x) → x < 256 ^ width
unfolding bytes
bytes_fit zero x p h = absurd (omega arith)
bytes_fit (suc width) x p h = rw pow-succ' ((div-lt_iff_lt-mul (power_positive width)).0 h.0)

-- the number of two pieces side by side
pub number_joined : (xs ys : List ℕ) → number (xs ++ ys) ≡ number xs * 256 ^ length ys + number ys
unfolding number
number_joined [] ys = omega arith
number_joined (x ∷ xs) ys =
    ap₂ (λ (m w : ℕ). x * 256 ^ m + w) (length-append xs ys) (number_joined xs ys)
    ∙ rw (pow-add, ← mul_assoc, add-mul, add_assoc)

-- one byte more behind, on either side: what one turn of reading and of writing does
pub number_last : (bs : List ℕ) (b : ℕ) → number (bs ++ (b ∷ [])) ≡ number bs * 256 + b
unfolding number
number_last bs b = rw (number_joined bs (b ∷ [])) (omega arith)

pub bytes_last : (width x : ℕ) → x < 256 ^ suc width → bytes (suc width) x ≡ bytes width (x / 256) ++ (x % 256 ∷ [])
unfolding bytes
bytes_last zero x h = ap (λ (b : ℕ). b ∷ []) (omega arith)
bytes_last (suc width) x h =
    let m : x % 256 ^ suc width ≡ (x / 256 % 256 ^ width) * 256 + x % 256 =
    rw pow-suc (mod-mul x (power_positive width) (omega arith)) in
    let e : x / 256 ^ suc width ≡ x / 256 / 256 ^ width = rw (pow-succ', div-div-eq-div-mul) in
    let i = bytes_last width (x % 256 ^ suc width) (mod-lt x (power_positive (suc width))) in
    ap₂ ◌∷◌ e (i ∙ ap₂ (λ (y b : ℕ). bytes width y ++ (b ∷ [])) (omega arith) (omega arith))

pub bytes_none : (x : ℕ) → bytes 0 x ≡ []
unfolding bytes
bytes_none x = refl

pub number_at-none : (s : List ℕ) (at : ℕ) → number_at s at 0 ≡ 0
unfolding number_at number
number_at-none s at = refl

-- four numbers of one byte each are those bytes
pub four_bytes : (a b c d : ℕ) → bytes 1 a ++ (bytes 1 b ++ (bytes 1 c ++ bytes 1 d)) ≡ a ∷ b ∷ c ∷ d ∷ []
unfolding bytes
four_bytes a b c d = simp div-one

-- a number of one byte is that byte; past the end of the list both are 0
pub number_at-one : (s : List ℕ) (at : ℕ) → number_at s at 1 ≡ get_or s at 0
unfolding number_at number
number_at-one [] zero = refl
number_at-one [] (suc at) = refl
number_at-one (b ∷ s) zero = omega arith
number_at-one (b ∷ s) (suc at) = number_at-one s at

-- bytes of a list, of its parts, and of a slice by what its rule gives
pub all_take : (n : ℕ) (s : List ℕ) → AllBytes s → AllBytes (take n s)
all_take zero s h = tt
all_take (suc n) [] h = tt
all_take (suc n) (b ∷ s) h = (h.0, all_take n s h.1)

pub all_drop : (n : ℕ) (s : List ℕ) → AllBytes s → AllBytes (drop n s)
all_drop zero s h = h
all_drop (suc n) [] h = tt
all_drop (suc n) (b ∷ s) h = all_drop n s h.1

pub all_part : (s : List ℕ) (at n : ℕ) → AllBytes s → AllBytes (part s at n)
all_part s at n h = all_take n (drop at s) (all_drop at s h)

pub all_joined : (xs ys : List ℕ) → AllBytes (xs ++ ys) → AllBytes xs × AllBytes ys
all_joined [] ys h = (tt, h)
all_joined (x ∷ xs) ys h = let i = all_joined xs ys h.1 in ((h.0, i.0), i.1)

pub all_of : (s : List ℕ) → ((i : ℕ) → get_or s i 0 < 256) → AllBytes s
all_of [] h = tt
all_of (b ∷ s) h = (h 0, all_of s (λ i. h (suc i)))

pub number_at-below : (s : List ℕ) (at width : ℕ) → AllBytes s → at + width ≤ length s → number_at s at width < 256 ^ width
unfolding number_at
number_at-below s at width h l = rw (length_part s at width l) at (number_below (part s at width) (all_part s at width h))

-- a number is read from a part as from the whole
pub number_at-part : (s : List ℕ) (a len at width : ℕ) → a + len ≤ length s → at + width ≤ len → number_at (part s a len) at width ≡ number_at s (a + at) width
unfolding number_at
number_at-part s a len at width h l = ap number (part-part s a len at width h l)

-- a number is read in two parts as well as in one
pub number_at-halves : (s : List ℕ) (at high low : ℕ) → at + high + low ≤ length s → number_at s at (high + low) ≡ number_at s at high * 256 ^ low + number_at s (at + high) low
unfolding number_at
number_at-halves s at high low h =
    let n : length (part s (at + high) low) ≡ low = length_part s (at + high) low h in
    rw (take-add high low (drop at s), drop-drop high at s, number_joined (part s at high) (part s (at + high) low), n)

-- a number of eight bytes, as its two halves are read
pub two_halves : (s : List ℕ) (at : ℕ) → at + 8 ≤ length s → number_at s at 4 * 4294967296 + number_at s (at + 4) 4 ≡ number_at s at 8
two_halves s at l = sym (number_at-halves s at 4 4 (omega arith))

-- a number of four bytes, byte by byte
number_at-four : (s : List ℕ) (at : ℕ) → at + 4 ≤ length s → number_at s at 4 ≡ get_or s at 0 * 16777216 + (get_or s (at + 1) 0 * 65536 + (get_or s (at + 2) 0 * 256 + get_or s (at + 3) 0))
number_at-four s at l =
    let second : at + 1 + 1 ≡ at + 2 = omega arith in
    let third : at + 2 + 1 ≡ at + 3 = omega arith in
    rw (
      number_at-halves s at 1 3 (omega arith),
      number_at-halves s (at + 1) 1 2 (omega arith),
      second,
      number_at-halves s (at + 2) 1 1 (omega arith),
      third,
      number_at-one s at,
      number_at-one s (at + 1),
      number_at-one s (at + 2),
      number_at-one s (at + 3),
    )

-- the library's number of four bytes
pub four_read : (s : List ℕ) (at : ℕ) → at + 4 ≤ length s → from_be_bytes w32 (get_or s at 0 ∷ get_or s (at + 1) 0 ∷ get_or s (at + 2) 0 ∷ get_or s (at + 3) 0 ∷ []) ≡ number_at s at 4
four_read s at l = rw (number_at-four s at l) (omega arith)

-- a number of any width that was written is read back
pub read_back : (s : List ℕ) (at width x : ℕ) → x < 256 ^ width → at ≤ length s → number_at (replaced s at (bytes width x)) at width ≡ x
unfolding number_at
read_back s at width x hx h = ap number (rw length_bytes at (part-replaced s at (bytes width x) h)) ∙ number_bytes width x hx

-- The boxes seen, as bits of one number.
use mathlib.Core.Path.{◌≡◌, refl, ◌∙◌}
use mathlib.Core.Bool.{Bool, true, false}
use mathlib.Core.Logic.{◌⊎◌, inl, inr, ⊎_elim}
use mathlib.Core.List.Memᴰ
use mathlib.Core.List.{List, [], ◌∷◌}
use Prim.Native.Nat.{ℕ, zero, suc, ◌/◌, ◌%◌, ◌^◌, ◌<◌, ◌≤◌, max}
use native.Mathlib.Omega.{arith}
use lib.Bits.{bit_or, or_step, or_shr, or_lt, or_add_and, and_le_l, and_le_r}
use lib.Dec.{eqb}
use lib.Pow.{pow-lt}
use borrow.Author.Tests.{eqb-true, eqb-false}
use Rattle.rules.specs.Tests.{both, either, bit, any, every}
use Rattle.rules.proofs.Logic.{same?}
use Rattle.rules.proofs.Lists.{◌∈◌, places, every_one}
use Rattle.replies.specs.declared.held.Reply.{Reply}

unfoldable pub seen_of : List Reply → ℕ
seen_of [] = 0
seen_of (r ∷ rs) = bit_or (seen_of rs) (2 ^ r.boxnumber)

abbrev pub Below : ℕ → List Reply → Type 0
Below n rs = (r : Reply) → r ∈ rs → r.boxnumber < n

-- ---- what holds of seven boxes is seen box by box

abbrev seven : List ℕ
seven = 0 ∷ 1 ∷ 2 ∷ 3 ∷ 4 ∷ 5 ∷ 6 ∷ []

in_seven : (k : ℕ) → k < 7 → k ∈ seven
in_seven zero l = search places depth 11
in_seven (suc zero) l = search places depth 11
in_seven (suc (suc zero)) l = search places depth 11
in_seven (suc (suc (suc zero))) l = search places depth 11
in_seven (suc (suc (suc (suc zero)))) l = search places depth 11
in_seven (suc (suc (suc (suc (suc zero))))) l = search places depth 11
in_seven (suc (suc (suc (suc (suc (suc zero)))))) l = search places depth 11
in_seven (suc (suc (suc (suc (suc (suc (suc k))))))) l = absurd (omega arith)

-- one bit of 0, of a power of two and of 255
pub no_bit : (b : ℕ) → b < 7 → 0 / 2 ^ b % 2 ≡ 0
unfolding every both
no_bit b m = eqb-true _ _ (every_one (λ b. eqb (0 / 2 ^ b % 2) 0) seven refl b (in_seven b m))

one_bit : (c b : ℕ) → c < 7 → b < 7 → 2 ^ c / 2 ^ b % 2 ≡ bit (eqb c b)
unfolding every both
one_bit c b l m = eqb-true _ _ (every_one (λ b. eqb (2 ^ c / 2 ^ b % 2) (bit (eqb c b))) seven (every_one (λ c. every (λ b. eqb (2 ^ c / 2 ^ b % 2) (bit (eqb c b))) seven) seven refl c (in_seven c l)) b (in_seven b m))

pub all_bits : (b : ℕ) → b < 7 → 255 / 2 ^ b % 2 ≡ 1
unfolding every both
all_bits b m = eqb-true _ _ (every_one (λ b. eqb (255 / 2 ^ b % 2) 1) seven refl b (in_seven b m))

-- ---- a box's bit says whether it is there

or_bit : (x y b : ℕ) → bit_or x y / 2 ^ b % 2 ≡ max (x / 2 ^ b % 2) (y / 2 ^ b % 2)
or_bit x y b = let e = or_shr x y b in let s = or_step (x / 2 ^ b) (y / 2 ^ b) in omega arith

greater_bit : (s t : Bool) → max (bit t) (bit s) ≡ bit (either s t)
unfolding either
greater_bit true true = refl
greater_bit true false = refl
greater_bit false true = refl
greater_bit false false = refl

pub seen_bit : (rs : List Reply) (b : ℕ) → Below 7 rs → b < 7 → seen_of rs / 2 ^ b % 2 ≡ bit (any (λ r. eqb r.boxnumber b) rs)
unfolding seen_of any
seen_bit [] b k l = no_bit b l
seen_bit (r ∷ rs) b k l =
    or_bit (seen_of rs) (2 ^ r.boxnumber) b
    ∙ rw (seen_bit rs b (λ q m. k q (Memᴰ.tail m)) l, one_bit r.boxnumber b (k r (Memᴰ.head refl)) l) (greater_bit (eqb r.boxnumber b) (any (λ q. eqb q.boxnumber b) rs))

-- ---- how large the number is says whether all are below n

or_above : (x y : ℕ) → y ≤ bit_or x y
or_above x y = let e = or_add_and x y in let l = and_le_l x y in omega arith

lt_of : (n b : ℕ) → n ≤ b → (n ≡ b → ⊥) → n < b
lt_of n b l d = omega arith

power_le : (n b : ℕ) → n ≤ b → 2 ^ n ≤ 2 ^ b
power_le n b l = ⊎_elim (λ e. rw e (omega arith)) (λ d. let ne = eqb-false n b d in let p = pow-lt (lt_of n b l ne) in omega arith) (same? n b)

pub seen_below : (n : ℕ) (rs : List Reply) → Below n rs → seen_of rs < 2 ^ n
unfolding seen_of
seen_below n [] k = let p = power_le 0 n (omega arith) in omega arith
seen_below n (r ∷ rs) k = or_lt n (seen_of rs) (2 ^ r.boxnumber) (seen_below n rs (λ q m. k q (Memᴰ.tail m))) (pow-lt (k r (Memᴰ.head refl)))

pub seen_above : (n : ℕ) (rs : List Reply) (r : Reply) → r ∈ rs → n ≤ r.boxnumber → 2 ^ n ≤ seen_of rs
unfolding seen_of
seen_above n [] r m l = absurd (Memᴰ.not-nil m)
seen_above n (q ∷ rs) r m l = go (Memᴰ.cases_cons m) (seen_above n rs r)
  where
    go : (r ≡ q) ⊎ (r ∈ rs) → (r ∈ rs → n ≤ r.boxnumber → 2 ^ n ≤ seen_of rs) → 2 ^ n ≤ bit_or (seen_of rs) (2 ^ q.boxnumber)
    go (inl e) below = let p = power_le n q.boxnumber (rw e at l) in let a = or_above (seen_of rs) (2 ^ q.boxnumber) in omega arith
    go (inr i) below = let p = below i l in let a = or_more (seen_of rs) (2 ^ q.boxnumber) in omega arith
      where
        or_more : (x y : ℕ) → x ≤ bit_or x y
        or_more x y = let e = or_add_and x y in let l = and_le_r x y in omega arith

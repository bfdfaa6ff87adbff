-- The stamps of the tables of a merge: each that some row has, once, rising.
use mathlib.Core.Path.{◌≡◌, refl, sym, ap, ap₂, ◌∙◌}
use mathlib.Core.Bool.{Bool, true, false, cond}
use mathlib.Core.Logic.{◌⊎◌, inl, inr}
use mathlib.Core.List.Memᴰ
use mathlib.Core.List.{List, [], ◌∷◌}
use Prim.Native.Nat.{ℕ, suc, ◌≤◌, ◌<◌}
use native.Mathlib.Omega.{arith}
use lib.Dec.{eqb, ltb}
use borrow.Author.Tests.{ltb-true, ltb-false, eqb-true, eqb-false}
use Rattle.rules.specs.Tests.{any, kept, those}
use Rattle.rules.specs.Tables.{Row, Table}
use Rattle.rules.specs.Messages.{held}
use Rattle.rules.specs.Merge.{with_stamp, with_stamps, stamps, rows_of}
use Rattle.rules.proofs.Lists.{◌∈◌, any_none, all_from}
use Rattle.rules.proofs.Rows.{held_from_lem}

-- ---- rising numbers

-- each greater than the one before it, the first at least low
abbrev pub RisingFrom : ℕ → List ℕ → Type 0
RisingFrom low [] = Unit {0}
RisingFrom low (x ∷ xs) = (low ≤ x) × RisingFrom (suc x) xs

pub rising_least : (low : ℕ) (xs : List ℕ) → RisingFrom low xs → (x : ℕ) → x ∈ xs → low ≤ x
rising_least low [] h x m = absurd (Memᴰ.not-nil m)
rising_least low (y ∷ ys) (l, h) x m = go (Memᴰ.cases_cons m) (λ m'. rising_least (suc y) ys h x m')
  where
    go : (x ≡ y) ⊎ (x ∈ ys) → (x ∈ ys → y < x) → low ≤ x
    go (inl e) below = omega arith
    go (inr m') below = omega (arith, below m')

rising_lower : (low high : ℕ) (xs : List ℕ) → low ≤ high → RisingFrom high xs → RisingFrom low xs
rising_lower low high [] l h = tt
rising_lower low high (x ∷ xs) l (k, h) = (omega arith, h)

-- rising numbers that are not 0 rise from 1
pub rising_from_one : (xs : List ℕ) → RisingFrom 0 xs → ((x : ℕ) → x ∈ xs → 0 < x) → RisingFrom 1 xs
rising_from_one [] h p = tt
rising_from_one (x ∷ xs) (l, h) p = (p x (Memᴰ.head refl), h)

-- those of rising numbers that pass a test rise
pub rising-those : (test : ℕ → Bool) (low : ℕ) (xs : List ℕ) → RisingFrom low xs → RisingFrom low (those test xs)
unfolding those
rising-those test low [] h = tt
rising-those test low (x ∷ xs) (l, h) = go (test x) (rising-those test (suc x) xs h)
  where
    go : (b : Bool) → RisingFrom (suc x) (those test xs) → RisingFrom low (kept b x (those test xs))
    go true k = (l, k)
    go false k = rising_lower low (suc x) (those test xs) (omega arith) k

-- rising lists with the same members are equal
pub rising_same : (low : ℕ) (xs : List ℕ) → RisingFrom low xs → (bound : ℕ) (ys : List ℕ) → RisingFrom bound ys → ((x : ℕ) → x ∈ xs → x ∈ ys) → ((y : ℕ) → y ∈ ys → y ∈ xs) → xs ≡ ys
rising_same low [] h bound [] k there back = refl
rising_same low [] h bound (y ∷ ys) k there back = absurd (Memᴰ.not-nil (back y (Memᴰ.head refl)))
rising_same low (x ∷ xs) h bound [] k there back = absurd (Memᴰ.not-nil (there x (Memᴰ.head refl)))
rising_same low (x ∷ xs) (l, h) bound (y ∷ ys) (m, k) there back = ap₂ ◌∷◌ heads (rising_same (suc x) xs h (suc y) ys k (later x xs h y ys heads there) (later y ys k x xs (sym heads) back))
  where
    heads : x ≡ y
    heads = go (Memᴰ.cases_cons (there x (Memᴰ.head refl))) (Memᴰ.cases_cons (back y (Memᴰ.head refl)))
      where
        go : (x ≡ y) ⊎ (x ∈ ys) → (y ≡ x) ⊎ (y ∈ xs) → x ≡ y
        go (inl e) b = e
        go (inr a) (inl e) = sym e
        go (inr a) (inr b) = absurd (omega (arith, rising_least (suc y) ys k x a, rising_least (suc x) xs h y b))

    later : (a : ℕ) (more : List ℕ) → RisingFrom (suc a) more → (b : ℕ) (bs : List ℕ) → a ≡ b → ((z : ℕ) → z ∈ (a ∷ more) → z ∈ (b ∷ bs)) → (z : ℕ) → z ∈ more → z ∈ bs
    later a more r b bs e into z n = go (Memᴰ.cases_cons (into z (Memᴰ.tail n)))
      where
        go : (z ≡ b) ⊎ (z ∈ bs) → z ∈ bs
        go (inl q) = absurd (omega (arith, rising_least (suc a) more r z n))
        go (inr i) = i

-- ---- one stamp more

with_rising : (low s : ℕ) (ts : List ℕ) → low ≤ s → RisingFrom low ts → RisingFrom low (with_stamp s ts)
unfolding with_stamp
with_rising low s [] l h = (l, tt)
with_rising low s (t ∷ ts) l (m, h) = go (ltb s t) refl (eqb s t) refl (λ l'. with_rising (suc t) s ts l' h)
  where
    go : (a : Bool) → ltb s t ≡ a → (b : Bool) → eqb s t ≡ b → (t < s → RisingFrom (suc t) (with_stamp s ts)) → RisingFrom low (cond a (s ∷ t ∷ ts) (cond b (t ∷ ts) (t ∷ with_stamp s ts)))
    go true ea b eb below = (l, (ltb-true s t ea, h))
    go false ea true eb below = (m, h)
    go false ea false eb below = (m, below (let i = ltb-false s t ea in let d = eqb-false s t eb in omega arith))

with_from : (s u : ℕ) (ts : List ℕ) → u ∈ with_stamp s ts → (u ≡ s) ⊎ (u ∈ ts)
unfolding with_stamp
with_from s u [] m = Memᴰ.cases_cons m
with_from s u (t ∷ ts) m = go (ltb s t) (eqb s t) m (λ m'. with_from s u ts m')
  where
    there : (u ≡ s) ⊎ (u ∈ ts) → (u ≡ s) ⊎ (u ∈ (t ∷ ts))
    there (inl e) = inl e
    there (inr m') = inr (Memᴰ.tail m')

    later : (u ≡ t) ⊎ (u ∈ with_stamp s ts) → (u ∈ with_stamp s ts → (u ≡ s) ⊎ (u ∈ ts)) → (u ≡ s) ⊎ (u ∈ (t ∷ ts))
    later (inl e) below = inr (Memᴰ.head e)
    later (inr m') below = there (below m')

    go : (a b : Bool) → u ∈ cond a (s ∷ t ∷ ts) (cond b (t ∷ ts) (t ∷ with_stamp s ts)) → (u ∈ with_stamp s ts → (u ≡ s) ⊎ (u ∈ ts)) → (u ≡ s) ⊎ (u ∈ (t ∷ ts))
    go true b m' below = Memᴰ.cases_cons m'
    go false true m' below = inr m'
    go false false m' below = later (Memᴰ.cases_cons m') below

in_with : (s u : ℕ) (ts : List ℕ) → (u ≡ s) ⊎ (u ∈ ts) → u ∈ with_stamp s ts
unfolding with_stamp
in_with s u [] (inl e) = Memᴰ.head e
in_with s u [] (inr m) = absurd (Memᴰ.not-nil m)
in_with s u (t ∷ ts) m = go (ltb s t) (eqb s t) refl m (λ m'. in_with s u ts m')
  where
    later : (u ≡ t) ⊎ (u ∈ ts) → ((u ≡ s) ⊎ (u ∈ ts) → u ∈ with_stamp s ts) → u ∈ (t ∷ with_stamp s ts)
    later (inl e) below = Memᴰ.head e
    later (inr m') below = Memᴰ.tail (below (inr m'))

    go : (a b : Bool) → eqb s t ≡ b → (u ≡ s) ⊎ (u ∈ (t ∷ ts)) → ((u ≡ s) ⊎ (u ∈ ts) → u ∈ with_stamp s ts) → u ∈ cond a (s ∷ t ∷ ts) (cond b (t ∷ ts) (t ∷ with_stamp s ts))
    go true b eb (inl e) below = Memᴰ.head e
    go true b eb (inr m') below = Memᴰ.tail m'
    go false true eb (inl e) below = Memᴰ.head (e ∙ eqb-true s t eb)
    go false true eb (inr m') below = m'
    go false false eb (inl e) below = Memᴰ.tail (below (inl e))
    go false false eb (inr m') below = later (Memᴰ.cases_cons m') below

-- ---- the stamps of rows, and of tables

pub withs_rising : (rs : List Row) (ts : List ℕ) → RisingFrom 0 ts → RisingFrom 0 (with_stamps rs ts)
unfolding with_stamps
withs_rising [] ts h = h
withs_rising (r ∷ rs) ts h = with_rising 0 r.stamp (with_stamps rs ts) (omega arith) (withs_rising rs ts h)

pub stamps_rising : (Ts : List Table) → RisingFrom 0 (stamps Ts)
unfolding stamps
stamps_rising [] = tt
stamps_rising (T ∷ Ts) = withs_rising T.rows (stamps Ts) (stamps_rising Ts)

-- some row has this stamp
abbrev pub HasStamp : ℕ → List Row → Type 0
HasStamp s rs = (r : Row) × (r ∈ rs) × (r.stamp ≡ s)

withs_from : (rs : List Row) (ts : List ℕ) (s : ℕ) → s ∈ with_stamps rs ts → HasStamp s rs ⊎ (s ∈ ts)
unfolding with_stamps
withs_from [] ts s m = inr m
withs_from (r ∷ rs) ts s m = go (with_from r.stamp s (with_stamps rs ts) m) (λ m'. withs_from rs ts s m')
  where
    there : HasStamp s rs ⊎ (s ∈ ts) → HasStamp s (r ∷ rs) ⊎ (s ∈ ts)
    there (inl (q, m', e)) = inl (q, Memᴰ.tail m', e)
    there (inr m') = inr m'

    go : (s ≡ r.stamp) ⊎ (s ∈ with_stamps rs ts) → (s ∈ with_stamps rs ts → HasStamp s rs ⊎ (s ∈ ts)) → HasStamp s (r ∷ rs) ⊎ (s ∈ ts)
    go (inl e) below = inl (r, Memᴰ.head refl, sym e)
    go (inr m') below = there (below m')

pub in_withs : (rs : List Row) (ts : List ℕ) (s : ℕ) → HasStamp s rs ⊎ (s ∈ ts) → s ∈ with_stamps rs ts
unfolding with_stamps
in_withs [] ts s (inl (r, m, e)) = absurd (Memᴰ.not-nil m)
in_withs [] ts s (inr m) = m
in_withs (r ∷ rs) ts s m = in_with r.stamp s (with_stamps rs ts) (go m (λ m'. in_withs rs ts s m'))
  where
    row : (q : Row) → (q ≡ r) ⊎ (q ∈ rs) → q.stamp ≡ s → (HasStamp s rs ⊎ (s ∈ ts) → s ∈ with_stamps rs ts) → (s ≡ r.stamp) ⊎ (s ∈ with_stamps rs ts)
    row q (inl i) e below = inl (sym e ∙ ap (λ (x : Row). x.stamp) i)
    row q (inr m') e below = inr (below (inl (q, m', e)))

    go : HasStamp s (r ∷ rs) ⊎ (s ∈ ts) → (HasStamp s rs ⊎ (s ∈ ts) → s ∈ with_stamps rs ts) → (s ≡ r.stamp) ⊎ (s ∈ with_stamps rs ts)
    go (inl (q, m', e)) below = row q (Memᴰ.cases_cons m') e below
    go (inr m') below = inr (below (inr m'))

-- a stamp of the tables is the stamp of a row of one of them
pub stamps_from : (Ts : List Table) (s : ℕ) → s ∈ stamps Ts → (T : Table) × (T ∈ Ts) × HasStamp s T.rows
unfolding stamps
stamps_from [] s m = absurd (Memᴰ.not-nil m)
stamps_from (T ∷ Ts) s m = go (withs_from T.rows (stamps Ts) s m) (λ m'. stamps_from Ts s m')
  where
    go : HasStamp s T.rows ⊎ (s ∈ stamps Ts) → (s ∈ stamps Ts → (U : Table) × (U ∈ Ts) × HasStamp s U.rows) → (U : Table) × (U ∈ (T ∷ Ts)) × HasStamp s U.rows
    go (inl h) below = (T, Memᴰ.head refl, h)
    go (inr m') below = let (U, n, h) = below m' in (U, Memᴰ.tail n, h)

-- and each of those is one
pub in_stamps : (Ts : List Table) (T : Table) (r : Row) → T ∈ Ts → r ∈ T.rows → r.stamp ∈ stamps Ts
unfolding stamps
in_stamps [] T r m n = absurd (Memᴰ.not-nil m)
in_stamps (U ∷ Us) T r m n = in_withs U.rows (stamps Us) r.stamp (go (Memᴰ.cases_cons m) (λ m'. in_stamps Us T r m' n))
  where
    go : (T ≡ U) ⊎ (T ∈ Us) → (T ∈ Us → r.stamp ∈ stamps Us) → HasStamp r.stamp U.rows ⊎ (r.stamp ∈ stamps Us)
    go (inl e) below = inl (r, rw e at n, refl)
    go (inr m') below = inr (below m')

-- a row of a stamp is a row of one of the tables, and has that stamp
pub rows_from : (Ts : List Table) (s : ℕ) (r : Row) → r ∈ rows_of Ts s → (T : Table) × (T ∈ Ts) × (r ∈ T.rows) × (r.stamp ≡ s)
unfolding rows_of
rows_from Ts s r m =
    let (T, n, e) = all_from (λ T. held T.rows s) Ts r m in
    let (k, i) = held_from_lem T.rows s r e in
    (T, n, k, i)

-- what is so of no rows, and of the rows of no stamp of the tables, is so of the rows of no stamp at all
pub rows_nowhere : (test : List Row → Bool) → test [] ≡ false → (Ts : List Table) → any (λ s. test (rows_of Ts s)) (stamps Ts) ≡ false → (s : ℕ) → test (rows_of Ts s) ≡ false
rows_nowhere test nil Ts h s = go (rows_of Ts s) refl
  where
    go : (rs : List Row) → rows_of Ts s ≡ rs → test (rows_of Ts s) ≡ false
    go [] e = ap test e ∙ nil
    go (r ∷ rs) e =
        let (T, n, k, i) = rows_from Ts s r (rw e (Memᴰ.head refl)) in
        any_none (λ t. test (rows_of Ts t)) (stamps Ts) h s (rw i at (in_stamps Ts T r n k))

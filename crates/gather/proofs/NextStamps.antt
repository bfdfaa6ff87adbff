-- The next of the used stamps: the least above the last one, of all used tables.
use mathlib.Core.Path.{◌≡◌, refl, sym, ◌∙◌}
use mathlib.Core.Bool.{Bool, true, false, cond}
use mathlib.Core.Logic.{◌⊎◌, inl, inr}
use mathlib.Core.List.Memᴰ
use mathlib.Core.List.{List, [], ◌∷◌}
use Prim.Native.Nat.{ℕ, zero, suc, ◌+◌, ◌*◌, ◌<◌, ◌≤◌, ◌^◌, min}
use native.Mathlib.Omega.{arith}
use lib.Dec.{eqb, ltb}
use borrow.Author.Tests.{ltb-true, ltb-false, eqb-true, eqb-false, lt-ltb, le-ltb}
use Rattle.std.specs.Prelude.{Some, None}
use Rattle.rules.specs.Tests.{those, every}
use Rattle.rules.specs.Stamps.{is_stamp}
use Rattle.rules.specs.Tables.{Row, Table, rising, row_by_rule}
use Rattle.rules.specs.Merge.{with_stamp, with_stamps, stamps}
use Rattle.rules.proofs.Logic.{cases, both_left, both_right}
use Rattle.rules.proofs.Lists.{◌∈◌, every_one, those_of}
use Rattle.rules.proofs.Rows.{rising_above}
use Rattle.rules.proofs.Stamps.{RisingFrom, rising_from_one, stamps_rising, stamps_from}
use Rattle.rules.proofs.Merge.{stamps_of}
use Rattle.rules.proofs.Tables.{Regular, row_facts}
use Rattle.rows.specs.declared.lookup.Place.{Place}
use Rattle.rows.specs.declared.lookup.Place.TheVariants.{Held, Absent}
use Rattle.rows.specs.Fields.{fields_at}
use Rattle.rows.specs.Inner.Places.{place_of}
use Rattle.rows.specs.Read.{row_of, rows_at}
use Rattle.rows.proofs.Sought.{sought, place_sought}
use Rattle.gather.specs.Inner.UsedTables.{used_of}
use Rattle.gather.specs.Inner.Stamps.{next_after, stamp_above, stamp_or_none, earlier}

abbrev pub AllRegular : List Table → Type 0
AllRegular Ts = (T : Table) → T ∈ Ts → Regular T

-- ---- stamps are below no stamp

abbrev pub Stamped : List ℕ → Type 0
Stamped ss = (s : ℕ) → s ∈ ss → (0 < s) × (s < 2 ^ 48)

pub stamp_range : (s : ℕ) → is_stamp s ≡ true → (0 < s) × (s < 2 ^ 48)
unfolding is_stamp
stamp_range s h = (ltb-true 0 s (both_left _ _ h), ltb-true s (2 ^ 48) (both_right _ _ h))

row_stamped : (T : Table) → Regular T → (r : Row) → r ∈ T.rows → (0 < r.stamp) × (r.stamp < 2 ^ 48)
row_stamped T k r m = stamp_range r.stamp (row_facts r (every_one row_by_rule T.rows k.rows r m)).stamp

pub stamps_stamped : (Ts : List Table) → AllRegular Ts → Stamped (stamps Ts)
stamps_stamped Ts all s m =
    let (T, n, (r, k, e)) = stamps_from Ts s m in
    rw e at (row_stamped T (all T n) r k)

-- and rise from 1
pub stamps_from_one : (Ts : List Table) → AllRegular Ts → RisingFrom 1 (stamps Ts)
stamps_from_one Ts all = rising_from_one (stamps Ts) (stamps_rising Ts) (λ s m. (stamps_stamped Ts all s m).0)

pub next_most : (last : ℕ) (ss : List ℕ) → Stamped ss → next_after last ss ≤ 2 ^ 48
unfolding next_after
next_most last [] h = omega arith
next_most last (s ∷ ss) h = go (ltb last s) (h s (Memᴰ.head refl)).1 (next_most last ss (λ t m. h t (Memᴰ.tail m)))
  where
    go : (b : Bool) → s < 2 ^ 48 → next_after last ss ≤ 2 ^ 48 → cond b s (next_after last ss) ≤ 2 ^ 48
    go true l k = omega arith
    go false l k = k

-- ---- one stamp more

pub next_here : (last s : ℕ) (ss : List ℕ) → last < s → next_after last (s ∷ ss) ≡ s
unfolding next_after
next_here last s ss l = rw (lt-ltb last s l) refl

pub next_past : (last s : ℕ) (ss : List ℕ) → s ≤ last → next_after last (s ∷ ss) ≡ next_after last ss
unfolding next_after
next_past last s ss l = rw (le-ltb last s l) refl

pub next_none : (last : ℕ) → next_after last [] ≡ 2 ^ 48
unfolding next_after
next_none last = refl

-- a stamp at or below the last one is nothing new
with_past : (last s : ℕ) (ss : List ℕ) → s ≤ last → next_after last (with_stamp s ss) ≡ next_after last ss
unfolding with_stamp
with_past last s [] l = next_past last s [] l
with_past last s (t ∷ ts) l = go (cases (ltb s t)) (cases (eqb s t)) (with_past last s ts l)
  where
    go : (ltb s t ≡ true) ⊎ (ltb s t ≡ false) → (eqb s t ≡ true) ⊎ (eqb s t ≡ false) → next_after last (with_stamp s ts) ≡ next_after last ts → next_after last (with_stamp s (t ∷ ts)) ≡ next_after last (t ∷ ts)
    go (inl a) b later = rw a (next_past last s (t ∷ ts) l)
    go (inr a) (inl b) later = rw (a, b) refl
    go (inr a) (inr b) later = let m : t ≤ s = ltb-false s t a in rw (a, b) (next_past last t (with_stamp s ts) (omega arith) ∙ later ∙ sym (next_past last t ts (omega arith)))

-- one above it counts with the others
with_above : (last s : ℕ) (ss : List ℕ) → last < s → s < 2 ^ 48 → next_after last (with_stamp s ss) ≡ min s (next_after last ss)
unfolding with_stamp
with_above last s [] l k = next_here last s [] l ∙ rw (next_none last) (omega arith)
with_above last s (t ∷ ts) l k = go (cases (ltb s t)) (cases (eqb s t)) (cases (ltb last t)) (with_above last s ts l k)
  where
    go : (ltb s t ≡ true) ⊎ (ltb s t ≡ false) → (eqb s t ≡ true) ⊎ (eqb s t ≡ false) → (ltb last t ≡ true) ⊎ (ltb last t ≡ false) → next_after last (with_stamp s ts) ≡ min s (next_after last ts) → next_after last (with_stamp s (t ∷ ts)) ≡ min s (next_after last (t ∷ ts))
    go (inl a) b c later =
        let m : s < t = ltb-true s t a in
        rw (a, next_here last s (t ∷ ts) l, next_here last t ts (omega arith)) (omega arith)
    go (inr a) (inl b) c later =
        let e : s ≡ t = eqb-true s t b in
        rw (a, b, next_here last t ts (omega arith)) (omega arith)
    go (inr a) (inr b) (inl c) later =
        let m : t ≤ s = ltb-false s t a in
        let n : last < t = ltb-true last t c in
        rw (a, b, next_here last t (with_stamp s ts) n, next_here last t ts n) (omega arith)
    go (inr a) (inr b) (inr c) later =
        let n : t ≤ last = ltb-false last t c in
        rw (a, b, next_past last t (with_stamp s ts) n, next_past last t ts n) later

-- ---- a table more

-- what a stamp is next to is not below it
next_least : (last low : ℕ) (rows : List Row) → rising low rows ≡ true → last ≤ low → low < 2 ^ 48 → ((r : Row) → r ∈ rows → r.stamp < 2 ^ 48) → low < next_after last (stamps_of rows)
next_least last low [] rise l k h = rw (next_none last) k
next_least last low (r ∷ rs) rise l k h =
    let m : low < r.stamp = rising_above low (r ∷ rs) rise r (Memᴰ.head refl) in
    rw (next_here last r.stamp (stamps_of rs) (omega arith)) m

rising_on : (low : ℕ) (r : Row) (rs : List Row) → rising low (r ∷ rs) ≡ true → rising r.stamp rs ≡ true
unfolding rising
rising_on low r rs h = both_right _ _ h

next_rows : (last low : ℕ) (rows : List Row) (ss : List ℕ) → rising low rows ≡ true → ((r : Row) → r ∈ rows → r.stamp < 2 ^ 48) → next_after last ss ≤ 2 ^ 48 → next_after last (with_stamps rows ss) ≡ min (next_after last (stamps_of rows)) (next_after last ss)
unfolding with_stamps
next_rows last low [] ss rise h most = rw (next_none last) (omega arith)
next_rows last low (r ∷ rs) ss rise h most = go (cases (ltb last r.stamp)) (next_rows last r.stamp rs ss (rising_on low r rs rise) (λ q m. h q (Memᴰ.tail m)) most)
  where
    go : (ltb last r.stamp ≡ true) ⊎ (ltb last r.stamp ≡ false) → next_after last (with_stamps rs ss) ≡ min (next_after last (stamps_of rs)) (next_after last ss) → next_after last (with_stamp r.stamp (with_stamps rs ss)) ≡ min (next_after last (stamps_of (r ∷ rs))) (next_after last ss)
    go (inl a) later =
        let l : last < r.stamp = ltb-true last r.stamp a in
        let k : r.stamp < 2 ^ 48 = h r (Memᴰ.head refl) in
        let n : r.stamp < next_after last (stamps_of rs) = next_least last r.stamp rs (rising_on low r rs rise) (omega arith) k (λ q m. h q (Memᴰ.tail m)) in
        rw (with_above last r.stamp (with_stamps rs ss) l k, next_here last r.stamp (stamps_of rs) l, later) (omega arith)
    go (inr a) later =
        let l : r.stamp ≤ last = ltb-false last r.stamp a in
        rw (with_past last r.stamp (with_stamps rs ss) l, next_past last r.stamp (stamps_of rs) l) later

-- those of some regular ones are regular
pub used_regular : (newest : ℕ) (Ts : List Table) → AllRegular Ts → AllRegular (used_of newest Ts)
used_regular newest Ts all T m = all T (those_of (λ T. eqb T.view newest) Ts T m).0

pub next_turn : (newest last : ℕ) (T : Table) (Ts : List Table) → Regular T → AllRegular Ts → next_after last (stamps (used_of newest (T ∷ Ts))) ≡ min (stamp_above newest T last) (next_after last (stamps (used_of newest Ts)))
unfolding those stamps
next_turn newest last T Ts k all = go (cases (eqb T.view newest)) (next_most last (stamps (used_of newest Ts)) (stamps_stamped (used_of newest Ts) (used_regular newest Ts all)))
  where
    go : (eqb T.view newest ≡ true) ⊎ (eqb T.view newest ≡ false) → next_after last (stamps (used_of newest Ts)) ≤ 2 ^ 48 → next_after last (stamps (used_of newest (T ∷ Ts))) ≡ min (stamp_above newest T last) (next_after last (stamps (used_of newest Ts)))
    go (inl e) most = rw e (next_rows last 0 T.rows (stamps (used_of newest Ts)) k.rise (λ r m. (row_stamped T k r m).1) most)
    go (inr e) most = rw e (omega arith)

-- ---- a stamp or none

pub no_stamp_is : (s : ℕ) → 2 ^ 48 ≤ s → stamp_or_none s ≡ None
no_stamp_is s l = rw (le-ltb s (2 ^ 48) l) refl

pub stamp_is : (s : ℕ) → s < 2 ^ 48 → stamp_or_none s ≡ Some s
stamp_is s l = rw (lt-ltb s (2 ^ 48) l) refl

pub is_stamp_told : (s t : ℕ) → stamp_or_none s ≡ Some t → (t ≡ s) × (t < 2 ^ 48)
is_stamp_told s t e = go (cases (ltb s (2 ^ 48)))
  where
    go : (ltb s (2 ^ 48) ≡ true) ⊎ (ltb s (2 ^ 48) ≡ false) → (t ≡ s) × (t < 2 ^ 48)
    go (inl k) = let q : Some s ≡ Some t = sym (stamp_is s (ltb-true s (2 ^ 48) k)) ∙ e in let f : t ≡ s = cc in let l = ltb-true s (2 ^ 48) k in (f, omega arith)
    go (inr k) = let q : None ≡ Some t = sym (no_stamp_is s (ltb-false s (2 ^ 48) k)) ∙ e in absurd cc

pub no_stamp_told : (s : ℕ) → stamp_or_none s ≡ None → 2 ^ 48 ≤ s
no_stamp_told s e = go (cases (ltb s (2 ^ 48)))
  where
    go : (ltb s (2 ^ 48) ≡ true) ⊎ (ltb s (2 ^ 48) ≡ false) → 2 ^ 48 ≤ s
    go (inl k) = let q : Some s ≡ None = sym (stamp_is s (ltb-true s (2 ^ 48) k)) ∙ e in absurd cc
    go (inr k) = ltb-false s (2 ^ 48) k

-- the earlier of two is the lesser number
pub earlier_is : (a b : ℕ) → earlier (stamp_or_none a) (stamp_or_none b) ≡ stamp_or_none (min a b)
earlier_is a b = go (cases (ltb a (2 ^ 48))) (cases (ltb b (2 ^ 48)))
  where
    go : (ltb a (2 ^ 48) ≡ true) ⊎ (ltb a (2 ^ 48) ≡ false) → (ltb b (2 ^ 48) ≡ true) ⊎ (ltb b (2 ^ 48) ≡ false) → earlier (stamp_or_none a) (stamp_or_none b) ≡ stamp_or_none (min a b)
    go (inl k) (inl l) = let m = ltb-true a (2 ^ 48) k in rw (k, l, stamp_is (min a b) (omega arith)) refl
    go (inl k) (inr l) = let m = ltb-true a (2 ^ 48) k in let n = ltb-false b (2 ^ 48) l in let e : min a b ≡ a = omega arith in rw (k, l, e, stamp_is a m) refl
    go (inr k) (inl l) = let m = ltb-false a (2 ^ 48) k in let n = ltb-true b (2 ^ 48) l in let e : min a b ≡ b = omega arith in rw (k, l, e, stamp_is b n) refl
    go (inr k) (inr l) = let m = ltb-false a (2 ^ 48) k in let n = ltb-false b (2 ^ 48) l in rw (k, l, no_stamp_is (min a b) (omega arith)) refl

-- ---- by the look-up: the row at or above last + 1

-- the index of a row that is there, or of one that would be
abbrev pub index_of : Place → ℕ
index_of (Held i) = i
index_of (Absent i) = i

pub record Above (s : List ℕ) (at n last j : ℕ) : Type 0 where
  pub there : j < n → (fields_at s (at + 24 * j)).stamp ≡ next_after last (stamps_of (rows_at s at n))
  pub none_there : n ≤ j → next_after last (stamps_of (rows_at s at n)) ≡ 2 ^ 48

above_here : (s : List ℕ) (n at last : ℕ) → last < (fields_at s at).stamp → Above s at (suc n) last 0
unfolding rows_at row_of
above_here s n at last l =
    let e : at + 24 * 0 ≡ at = omega arith in
    record { there = λ m. rw e (sym (next_here last (fields_at s at).stamp (stamps_of (rows_at s (at + 24) n)) l)); none_there = λ m. absurd (omega arith) }

above_later : (s : List ℕ) (n at last j : ℕ) → (fields_at s at).stamp ≤ last → Above s (at + 24) n last j → Above s at (suc n) last (suc j)
unfolding rows_at row_of
above_later s n at last j l h =
    let e : at + 24 * suc j ≡ at + 24 + 24 * j = omega arith in
    let p = next_past last (fields_at s at).stamp (stamps_of (rows_at s (at + 24) n)) l in
    record { there = λ m. rw e (h.there (omega arith) ∙ sym p); none_there = λ m. p ∙ h.none_there (omega arith) }

sought_above : (s : List ℕ) (n at k last : ℕ) → (j : ℕ) × (index_of (sought k (rows_at s at n) (last + 1)) ≡ k + j) × Above s at n last j
unfolding sought rows_at row_of
sought_above s zero at k last = (0, omega arith, record { there = λ l. absurd (omega arith); none_there = λ l. next_none last })
sought_above s (suc n) at k last = go (cases (eqb here (last + 1))) (cases (ltb (last + 1) here)) (sought_above s n (at + 24) (k + 1) last)
  where
    here : ℕ
    here = (fields_at s at).stamp

    rest : Place
    rest = sought (k + 1) (rows_at s (at + 24) n) (last + 1)

    go : (eqb here (last + 1) ≡ true) ⊎ (eqb here (last + 1) ≡ false) → (ltb (last + 1) here ≡ true) ⊎ (ltb (last + 1) here ≡ false) → (j : ℕ) × (index_of rest ≡ k + 1 + j) × Above s (at + 24) n last j → (j : ℕ) × (index_of (cond (eqb here (last + 1)) (Held k) (cond (ltb (last + 1) here) (Absent k) rest)) ≡ k + j) × Above s at (suc n) last j
    go (inl a) b later = let e : (fields_at s at).stamp ≡ last + 1 = eqb-true _ _ a in (0, rw a (omega arith), above_here s n at last (omega arith))
    go (inr a) (inl b) later = let e : last + 1 < (fields_at s at).stamp = ltb-true _ _ b in (0, rw (a, b) (omega arith), above_here s n at last (omega arith))
    go (inr a) (inr b) (j, i, h) =
        let e : (fields_at s at).stamp ≤ last + 1 = ltb-false _ _ b in
        let d : (fields_at s at).stamp ≡ last + 1 → ⊥ = eqb-false _ _ a in
        (suc j, rw (a, b) (omega (arith, i)), above_later s n at last j (below e d) h)
      where
        below : {x y : ℕ} → x ≤ y + 1 → (x ≡ y + 1 → ⊥) → x ≤ y
        below {x = x} {y = y} l d = omega (arith, d)

pub index_above : (s : List ℕ) (at n last : ℕ) → rising 0 (rows_at s at n) ≡ true → Above s at n last (index_of (place_of (rows_at s at n) (last + 1)))
index_above s at n last rise =
    let (j, e, h) = sought_above s n at 0 last in
    let f : index_of (sought 0 (rows_at s at n) (last + 1)) ≡ j = e ∙ omega arith in
    rw (place_sought (rows_at s at n) (last + 1) rise, f) h

-- a row that is by the rules has a stamp
pub stamped_at : (s : List ℕ) (n at j : ℕ) → every row_by_rule (rows_at s at n) ≡ true → j < n → (fields_at s (at + 24 * j)).stamp < 2 ^ 48
unfolding rows_at row_of every
stamped_at s zero at j h l = absurd (omega arith)
stamped_at s (suc n) at zero h l =
    let e : at + 24 * 0 ≡ at = omega arith in
    rw e (stamp_range _ (row_facts _ (both_left _ _ h)).stamp).1
stamped_at s (suc n) at (suc j) h l =
    let e : at + 24 * suc j ≡ at + 24 + 24 * j = omega arith in
    rw e (stamped_at s n (at + 24) j (both_right _ _ h) (omega arith))

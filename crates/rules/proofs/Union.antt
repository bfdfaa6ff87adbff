-- How many stamps tables have together that began with the same ones: those, and what each of them has added since.
use mathlib.Core.Path.{◌≡◌, refl, sym, ap, ◌∙◌}
use mathlib.Core.Bool.{Bool, true, false, cond}
use mathlib.Core.Logic.{◌⊎◌, inl, inr}
use mathlib.Core.List.Memᴰ
use mathlib.Core.List.{List, [], ◌∷◌}
use Prim.Native.Nat.{ℕ, suc, ◌+◌, ◌-◌, ◌*◌, ◌/◌, ◌≤◌, ◌<◌}
use native.Mathlib.Nat.{mul-div-le, mul-le-mul_right}
use native.Mathlib.Omega.{arith}
use lib.Dec.{eqb, ltb}
use lib.ListN.{length}
use borrow.Author.Tests.{ltb-true, eqb-true, eqb-false}
use Rattle.rules.specs.Tests.{both, bit, any, count}
use Rattle.rules.specs.Tables.{Row, Table, rising}
use Rattle.rules.specs.Merge.{with_stamp, with_stamps, stamps}
use Rattle.rules.proofs.Logic.{cases, both_right, eqb_self}
use Rattle.rules.proofs.Lists.{◌∈◌, any_some, some_any}
use Rattle.rules.proofs.Rows.{rising_above}
use Rattle.rules.proofs.Stamps.{RisingFrom, rising_least, stamps_rising, HasStamp, in_stamps, in_withs, withs_rising}

-- ---- with one stamp more

-- rising stamps get at most one more
with_longer : (s : ℕ) (ts : List ℕ) → length (with_stamp s ts) ≤ suc (length ts)
unfolding with_stamp
with_longer s [] = omega arith
with_longer s (t ∷ ts) = go (ltb s t) (eqb s t) (with_longer s ts)
  where
    go : (a b : Bool) → length (with_stamp s ts) ≤ suc (length ts) → length (cond a (s ∷ t ∷ ts) (cond b (t ∷ ts) (t ∷ with_stamp s ts))) ≤ suc (length (t ∷ ts))
    go true b l = omega arith
    go false true l = omega arith
    go false false l = omega arith

-- and none more if it is among them
with_known : (low s : ℕ) (ts : List ℕ) → RisingFrom low ts → s ∈ ts → length (with_stamp s ts) ≤ length ts
unfolding with_stamp
with_known low s [] h m = absurd (Memᴰ.not-nil m)
with_known low s (t ∷ ts) (l, h) m = go (ltb s t) refl (eqb s t) refl (Memᴰ.cases_cons m) (λ k. with_known (suc t) s ts h k)
  where
    go : (a : Bool) → ltb s t ≡ a → (b : Bool) → eqb s t ≡ b → (s ≡ t) ⊎ (s ∈ ts) → (s ∈ ts → length (with_stamp s ts) ≤ length ts) → length (cond a (s ∷ t ∷ ts) (cond b (t ∷ ts) (t ∷ with_stamp s ts))) ≤ length (t ∷ ts)
    go true below b same (inl e) rest = let i = ltb-true s t below in absurd (omega arith)
    go true below b same (inr k) rest = let i = ltb-true s t below in let j = rising_least (suc t) ts h s k in absurd (omega arith)
    go false below true same k rest = omega arith
    go false below false same (inl e) rest = absurd (eqb-false s t same e)
    go false below false same (inr k) rest = let j = rest k in omega arith

-- ---- with the stamps of rows

-- the stamp of a row is one of these
abbrev among : List ℕ → Row → Bool
among ts r = any (eqb r.stamp) ts

among_in : (ts : List ℕ) (r : Row) → among ts r ≡ true → r.stamp ∈ ts
among_in ts r h = let (t, m, e) = any_some (eqb r.stamp) ts h in rw (← eqb-true r.stamp t e) at m

in_among : (ts : List ℕ) (r : Row) → r.stamp ∈ ts → among ts r ≡ true
in_among ts r m = some_any (eqb r.stamp) ts r.stamp m (eqb_self r.stamp)

-- as many more as there are rows whose stamps are not among them
withs_longer : (rs : List Row) (ts : List ℕ) → RisingFrom 0 ts → length (with_stamps rs ts) + count (among ts) rs ≤ length ts + length rs
unfolding with_stamps count
withs_longer [] ts h = omega arith
withs_longer (r ∷ rs) ts h = go (cases (among ts r)) (withs_longer rs ts h)
  where
    go : (among ts r ≡ true) ⊎ (among ts r ≡ false) → length (with_stamps rs ts) + count (among ts) rs ≤ length ts + length rs → length (with_stamp r.stamp (with_stamps rs ts)) + (bit (among ts r) + count (among ts) rs) ≤ length ts + length (r ∷ rs)
    go (inl e) l = let k = with_known 0 r.stamp (with_stamps rs ts) (withs_rising rs ts h) (in_withs rs ts r.stamp (inr (among_in ts r e))) in rw e (omega arith)
    go (inr e) l = let k = with_longer r.stamp (with_stamps rs ts) in rw e (omega arith)

-- rising stamps that rows have, and that are among others, are no more than the rows whose stamps are among those
held_among : (low : ℕ) (ts ss : List ℕ) (rs : List Row) → rising low rs ≡ true → (least : ℕ) → RisingFrom least ss → ((s : ℕ) → s ∈ ss → HasStamp s rs × (s ∈ ts)) → length ss ≤ count (among ts) rs
unfolding rising count
held_among low ts [] rs h least k each = omega arith
held_among low ts (s ∷ ss) [] h least k each = absurd (Memᴰ.not-nil (each s (Memᴰ.head refl)).0.1)
held_among low ts (s ∷ ss) (r ∷ rs) h least (l, k) each =
    go (each s (Memᴰ.head refl)) (cases (eqb r.stamp s)) (λ i. held_among r.stamp ts ss rs (both_right _ _ h) (suc s) k i) (λ i. held_among r.stamp ts (s ∷ ss) rs (both_right _ _ h) least (l, k) i)
  where
    -- a stamp above that of the first row is one of the others'
    above : (u : ℕ) → HasStamp u (r ∷ rs) → r.stamp < u → HasStamp u rs
    above u (q, m, e) g = pick (Memᴰ.cases_cons m)
      where
        pick : (q ≡ r) ⊎ (q ∈ rs) → HasStamp u rs
        pick (inl i) = let z : r.stamp ≡ u = ap (λ (x : Row). x.stamp) (sym i) ∙ e in absurd (omega arith)
        pick (inr i) = (q, i, e)

    go : HasStamp s (r ∷ rs) × (s ∈ ts) → (eqb r.stamp s ≡ true) ⊎ (eqb r.stamp s ≡ false) → (((u : ℕ) → u ∈ ss → HasStamp u rs × (u ∈ ts)) → length ss ≤ count (among ts) rs) →
        (((u : ℕ) → u ∈ (s ∷ ss) → HasStamp u rs × (u ∈ ts)) → length (s ∷ ss) ≤ count (among ts) rs) → length (s ∷ ss) ≤ bit (among ts r) + count (among ts) rs
    go (has, there) (inl e) fewer same =
        let i = eqb-true r.stamp s e in
        let j = fewer (λ u m. let (x, y) = each u (Memᴰ.tail m) in let g = rising_least (suc s) ss k u m in (above u x (omega arith), y)) in
        rw (in_among ts r (rw i there)) (omega arith)
    go ((q, m, d), there) (inr e) fewer same = pick (Memᴰ.cases_cons m)
      where
        pick : (q ≡ r) ⊎ (q ∈ rs) → length (s ∷ ss) ≤ bit (among ts r) + count (among ts) rs
        pick (inl i) = absurd (eqb-false r.stamp s e (ap (λ (x : Row). x.stamp) (sym i) ∙ d))
        pick (inr i) =
            let g = rising_above r.stamp rs (both_right _ _ h) q i in
            let j = same (λ u n. let (x, y) = each u n in let w = rising_least s (s ∷ ss) (omega arith, k) u n in (above u x (omega arith), y)) in
            omega arith

-- ---- tables that began with the same stamps

-- a table has all of these stamps, and at most so many more
pub record GrownFrom (ss : List ℕ) (share : ℕ) (T : Table) : Type 0 where
  pub rise : rising 0 T.rows ≡ true
  pub began : (s : ℕ) → s ∈ ss → HasStamp s T.rows
  pub added : length T.rows ≤ length ss + share

pub stamps_together : (ss : List ℕ) → RisingFrom 0 ss → (share : ℕ) (Us : List Table) → ((U : Table) → U ∈ Us → GrownFrom ss share U) → length (stamps Us) ≤ length ss + length Us * share
unfolding stamps
stamps_together ss k share [] each = omega arith
stamps_together ss k share (T ∷ []) each =
    let g = each T (Memᴰ.head refl) in
    let l = withs_longer T.rows [] tt in
    omega (arith, g.added)
stamps_together ss k share (T ∷ U ∷ Us) each =
    let g = each T (Memᴰ.head refl) in
    let h = each U (Memᴰ.tail (Memᴰ.head refl)) in
    let l = withs_longer T.rows (stamps (U ∷ Us)) (stamps_rising (U ∷ Us)) in
    let c = held_among 0 (stamps (U ∷ Us)) ss T.rows g.rise 0 k (λ s m. (g.began s m, let (q, i, e) = h.began s m in rw e at (in_stamps (U ∷ Us) U q (Memᴰ.head refl) i))) in
    let r = stamps_together ss k share (U ∷ Us) (λ W m. each W (Memᴰ.tail m)) in
    omega (arith, g.added)

-- at most f+1 tables, each with its share of what was left, are within the limit
pub shares_fit : (limit start f tables : ℕ) → start ≤ limit → tables ≤ f + 1 → start + tables * ((limit - start) / (f + 1)) ≤ limit
shares_fit limit start f tables l k =
    let d = mul-div-le (limit - start) (f + 1) in
    let m : tables * ((limit - start) / (f + 1)) ≤ (f + 1) * ((limit - start) / (f + 1)) = mul-le-mul_right ((limit - start) / (f + 1)) k in
    omega arith

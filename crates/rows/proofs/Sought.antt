-- A stamp sought among rows from the first on, and that this finds its place. The code finds it by halving (Halving).
use mathlib.Core.Path.{◌≡◌, refl, sym, ap, ◌∙◌}
use mathlib.Core.Bool.{Bool, true, false, cond}
use mathlib.Core.List.{List, [], ◌∷◌}
use mathlib.Core.Logic.{◌⊎◌, inl, inr}
use mathlib.Core.Option.{Option, none, some}
use Prim.Native.Nat.{ℕ, zero, suc, ◌+◌, ◌*◌, ◌≤◌, ◌<◌}
use native.Mathlib.Nat.{add-zero, zero-add}
use native.Mathlib.Omega.{arith}
use lib.Dec.{eqb, ltb}
use lib.ListN.{length}
use borrow.Author.Tests.{ltb-true, ltb-false, lt-ltb, le-ltb, eq-eqb, ne_eqb}
use Rattle.wire.specs.Inner.ByteLists.{AllBytes}
use Rattle.rules.specs.Tests.{bit, is_some, every, count, first_of}
use Rattle.rules.specs.Tables.{Row, rising, row_by_rule}
use Rattle.rules.specs.Messages.{held}
use Rattle.rules.proofs.Logic.{both_left, both_right, cases}
use Rattle.rules.proofs.Lists.{every_one}
use Rattle.rules.proofs.Rows.{held_cons, held_from_lem}
use Rattle.rules.proofs.Tables.{row_facts}
use Rattle.rows.specs.declared.lookup.Place.{Place}
use Rattle.rows.specs.declared.lookup.Place.TheVariants.{Held, Absent}
use Rattle.rows.specs.Fields.{fields_at}
use Rattle.rows.specs.Read.{row_of, rows_at}
use Rattle.rows.specs.Inner.Places.{lower, held_or_not, place_of, held_body, FoundInside, body_found}
use Rattle.rows.specs.Inner.Rows.{RowsInside}
use Rattle.rows.proofs.Bodies.{body_size, body_part_lem}

unfoldable pub sought : ℕ → List Row → ℕ → Place
sought i [] stamp = Absent i
sought i (r ∷ rs) stamp = cond (eqb r.stamp stamp) (Held i) (cond (ltb stamp r.stamp) (Absent i) (sought (i + 1) rs stamp))

-- ---- what one row does to the place of a stamp

pub lower_cons : (r : Row) (rs : List Row) (s : ℕ) → lower (r ∷ rs) s ≡ cond (ltb r.stamp s) (suc (lower rs s)) (lower rs s)
unfolding lower count
lower_cons r rs s = go (ltb r.stamp s)
  where
    go : (b : Bool) → bit b + count (λ q. ltb q.stamp s) rs ≡ cond b (suc (count (λ q. ltb q.stamp s) rs)) (count (λ q. ltb q.stamp s) rs)
    go true = omega arith
    go false = omega arith

-- rows above a stamp neither hold it nor are lower
pub none_lower : (low s : ℕ) (rows : List Row) → s ≤ low → rising low rows ≡ true → (is_some (held rows s) ≡ false) × (lower rows s ≡ 0)
unfolding rising lower count held first_of
none_lower low s [] h rise = (refl, refl)
none_lower low s (r ∷ rs) h rise =
    let l : low < r.stamp = ltb-true low r.stamp (both_left _ _ rise) in
    let i = none_lower r.stamp s rs (omega arith) (both_right _ _ rise) in
    (rw (held_cons r rs s, ne_eqb r.stamp s (λ e. absurd (omega arith))) i.0, rw (lower_cons r rs s, le-ltb r.stamp s (omega arith)) i.1)

pub ordered : (a b : ℕ) → (a < b) ⊎ ((a ≡ b) ⊎ (b < a))
ordered a b = go (cases (ltb a b)) (cases (ltb b a))
  where
    go : (ltb a b ≡ true) ⊎ (ltb a b ≡ false) → (ltb b a ≡ true) ⊎ (ltb b a ≡ false) → (a < b) ⊎ ((a ≡ b) ⊎ (b < a))
    go (inl p) q = inl (ltb-true a b p)
    go (inr p) (inl q) = inr (inr (ltb-true b a q))
    go (inr p) (inr q) = let l = ltb-false a b p in let k = ltb-false b a q in inr (inl (omega arith))

unfoldable FoundAt : ℕ → ℕ → List Row → Type 0
FoundAt i s rows = sought i rows s ≡ held_or_not (is_some (held rows s)) (i + lower rows s)

module _ (i s : ℕ) (r : Row) (rs : List Row) (rise : rising r.stamp rs ≡ true) where
  -- its own row: no later one is lower
  found_here : r.stamp ≡ s → FoundAt i s (r ∷ rs)
  unfolding FoundAt sought
  found_here e =
      let l = none_lower r.stamp s rs (omega arith) rise in
      rw (held_cons r rs s, lower_cons r rs s, eq-eqb r.stamp s e, le-ltb r.stamp s (omega arith), l.1, add-zero)

  -- a greater one: neither it nor a later one is lower, and none has the stamp
  found_above : s < r.stamp → FoundAt i s (r ∷ rs)
  unfolding FoundAt sought
  found_above h =
      let l = none_lower r.stamp s rs (omega arith) rise in
      rw (
        held_cons r rs s,
        lower_cons r rs s,
        ne_eqb r.stamp s (λ e. absurd (omega arith)),
        lt-ltb s r.stamp h,
        le-ltb r.stamp s (omega arith),
        l.0,
        l.1,
        add-zero,
      )

  -- a lower one: one more before the place
  found_below : r.stamp < s → FoundAt (i + 1) s rs → FoundAt i s (r ∷ rs)
  unfolding FoundAt sought
  found_below h later =
      let e : i + suc (lower rs s) ≡ i + 1 + lower rs s = omega arith in
      rw (
        held_cons r rs s,
        lower_cons r rs s,
        ne_eqb r.stamp s (λ e. absurd (omega arith)),
        le-ltb s r.stamp (omega arith),
        lt-ltb r.stamp s h,
        later,
        e,
      )

sought_is : (i low s : ℕ) (rows : List Row) → rising low rows ≡ true → FoundAt i s rows
unfolding FoundAt sought rising held first_of lower count
sought_is i low s [] rise = ap Absent (sym (add-zero i))
sought_is i low s (r ∷ rs) rise = go (ordered r.stamp s) (both_right _ _ rise) (λ above. sought_is (i + 1) r.stamp s rs above)
  where
    go : (r.stamp < s) ⊎ ((r.stamp ≡ s) ⊎ (s < r.stamp)) → rising r.stamp rs ≡ true → (rising r.stamp rs ≡ true → FoundAt (i + 1) s rs) → FoundAt i s (r ∷ rs)
    go (inl h) above later = found_below i s r rs above h (later above)
    go (inr (inl e)) above later = found_here i s r rs above e
    go (inr (inr h)) above later = found_above i s r rs above h

pub place_sought : (rows : List Row) (s : ℕ) → rising 0 rows ≡ true → place_of rows s ≡ sought 0 rows s
unfolding place_of FoundAt
place_sought rows s rise = sym (sought_is 0 0 s rows rise ∙ rw zero-add)

-- ---- no rows are left

pub sought_end : (s : List ℕ) (at n i stamp : ℕ) → n ≡ 0 → sought i (rows_at s at n) stamp ≡ Absent i
unfolding sought rows_at
sought_end s at n i stamp e = rw e

-- ---- what the place that was found says of the rows

-- no place is held and absent at once
pub not_absent : {i j : ℕ} → Held i ≡ Absent j → ⊥
not_absent e = let z : ◌≡◌ {A = ℕ} 0 1 = cc in absurd (omega arith)

pub absent_none : (rows : List Row) (s i : ℕ) → place_of rows s ≡ Absent i → held rows s ≡ none
unfolding place_of
absent_none rows s i h = go (held rows s) refl
  where
    go : (r : Option Row) → held rows s ≡ r → held rows s ≡ none
    go none e = e
    go (some r) e = absurd (not_absent (rw e at h))

-- the row that was found is one of these n, with so many passed before them
abbrev FoundAmong : List ℕ → ℕ → ℕ → ℕ → ℕ → ℕ → Type 0
FoundAmong s at n passed stamp i = (j : ℕ) × (i ≡ passed + j) × (j < n) × (held (rows_at s at n) stamp ≡ some (row_of s (fields_at s (at + 24 * j))))

module _ (s : List ℕ) (at n passed stamp i : ℕ) where
  found_first : eqb (fields_at s at).stamp stamp ≡ true → Held passed ≡ Held i → FoundAmong s at (suc n) passed stamp i
  unfolding rows_at row_of
  found_first here h =
      let e : passed ≡ i = cc in
      let place : at + 24 * 0 ≡ at = omega arith in
      (0, omega arith, omega arith, rw (held_cons (row_of s (fields_at s at)) (rows_at s (at + 24) n) stamp, here, place))

  found_later : eqb (fields_at s at).stamp stamp ≡ false → FoundAmong s (at + 24) n (passed + 1) stamp i → FoundAmong s at (suc n) passed stamp i
  unfolding rows_at row_of
  found_later here f =
      let place : at + 24 + 24 * f.0 ≡ at + 24 * suc f.0 = omega arith in
      (suc f.0, omega (arith, f.1), omega (arith, f.2), rw (held_cons (row_of s (fields_at s at)) (rows_at s (at + 24) n) stamp, here, ← place) f.3)

found_among : (s : List ℕ) (at n passed stamp i : ℕ) → sought passed (rows_at s at n) stamp ≡ Held i → FoundAmong s at n passed stamp i
unfolding sought rows_at row_of
found_among s at zero passed stamp i h = absurd (not_absent (sym h))
found_among s at (suc n) passed stamp i h =
    go (cases (eqb (fields_at s at).stamp stamp)) (cases (ltb stamp (fields_at s at).stamp)) (λ later. found_among s (at + 24) n (passed + 1) stamp i later)
  where
    here : ℕ
    here = (fields_at s at).stamp

    rest : Place
    rest = sought (passed + 1) (rows_at s (at + 24) n) stamp

    go : (eqb here stamp ≡ true) ⊎ (eqb here stamp ≡ false) → (ltb stamp here ≡ true) ⊎ (ltb stamp here ≡ false) → (rest ≡ Held i → FoundAmong s (at + 24) n (passed + 1) stamp i) → FoundAmong s at (suc n) passed stamp i
    go (inl e) b later = found_first s at n passed stamp i e (rw e at h)
    go (inr e) (inl b) later = absurd (not_absent (sym (rw (e, b) at h)))
    go (inr e) (inr b) later = found_later s at n passed stamp i e (later (rw (e, b) at h))

pub held_row : (s : List ℕ) (begin n stamp i : ℕ) → rising 0 (rows_at s begin n) ≡ true → place_of (rows_at s begin n) stamp ≡ Held i →
    (i < n) × (held (rows_at s begin n) stamp ≡ some (row_of s (fields_at s (begin + 24 * i))))
held_row s begin n stamp i rise h =
    let f = found_among s begin n 0 stamp i (sym (place_sought (rows_at s begin n) stamp rise) ∙ h) in
    let e : i ≡ f.0 = omega (arith, f.1) in
    rw e (f.2, f.3)

-- the body that is handed out for a stamp has 9 to 72 bytes, if the rows are by the rules
pub held_body_size : (rows : List Row) (s : ℕ) (r : Row) → every row_by_rule rows ≡ true → held rows s ≡ some r → (9 ≤ length (held_body (held rows s))) × (length (held_body (held rows s)) ≤ 72)
held_body_size rows s r by_rule h =
    let m = held_from_lem rows s r h in
    rw h (body_size r.body (row_facts r (every_one row_by_rule rows by_rule r m.0)).counts)

-- the row that was found lies inside, and the body that is handed out for it is the one that `rules` holds for the stamp
module _ (s : List ℕ) (begin n stamp : ℕ) (bytes : AllBytes s) (inside : RowsInside s begin n) (rise : rising 0 (rows_at s begin n) ≡ true) where
  pub found_inside : (place : Place) → place ≡ place_of (rows_at s begin n) stamp → FoundInside s begin place
  found_inside (Absent i) e = tt
  found_inside (Held i) e = let l = (held_row s begin n stamp i rise (sym e)).0 in (omega (arith, inside.0), inside.1 i l)

  pub found_body : (place : Place) → place ≡ place_of (rows_at s begin n) stamp → body_found s begin place ≡ held_body (held (rows_at s begin n) stamp)
  found_body (Absent i) e = rw (absent_none (rows_at s begin n) stamp i (sym e))
  found_body (Held i) e =
      let (l, h) = held_row s begin n stamp i rise (sym e) in
      rw h (body_part_lem s (fields_at s (begin + 24 * i)) bytes (inside.1 i l))

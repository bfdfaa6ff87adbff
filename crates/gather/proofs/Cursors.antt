-- The cursor of a table: the row that it stands at, and where it goes when that row's stamp is passed.
use mathlib.Core.Path.{◌≡◌, refl, sym, ap, ◌∙◌}
use mathlib.Core.Bool.{Bool, true, false, cond}
use mathlib.Core.Logic.{◌⊎◌, inl, inr}
use mathlib.Core.List.Memᴰ
use mathlib.Core.List.{List, [], ◌∷◌, map}
use mathlib.Core.Option.{Option, none, some}
use Prim.Native.Nat.{ℕ, zero, suc, ◌+◌, ◌-◌, ◌*◌, ◌<◌, ◌≤◌, ◌^◌}
use native.Mathlib.Omega.{arith}
use lib.Dec.{eqb, ltb}
use lib.ListN.{length, replicate}
use borrow.Author.Tests.{ltb-true, ltb-false, lt-ltb, le-ltb, eq-eqb, ne_eqb}
use Rattle.rules.specs.Tests.{is_some, count, first_of}
use Rattle.rules.specs.Tables.{Row, Table, rising}
use Rattle.rules.specs.Messages.{held}
use Rattle.rules.specs.Merge.{stamps}
use Rattle.rules.proofs.Logic.{cases, both_right}
use Rattle.rules.proofs.Lists.{◌∈◌}
use Rattle.rules.proofs.Rows.{held_cons, held_from_lem, held_is, rising_above}
use Rattle.rules.proofs.Tables.{Regular}
use Rattle.rules.proofs.Merge.{stamps_of}
use Rattle.rows.specs.declared.lookup.Place.TheVariants.{Held, Absent}
use Rattle.rows.specs.Fields.{fields_at}
use Rattle.rows.specs.Inner.Places.{lower, held_or_not, place_of}
use Rattle.rows.specs.Read.{row_of, rows_at}
use Rattle.rows.proofs.Sought.{lower_cons, none_lower, ordered, held_row}
use Rattle.gather.specs.Inner.UsedTables.{used_of}
use Rattle.gather.specs.Inner.Stamps.{next_after, stamp_above}
use Rattle.gather.specs.Inner.Cursors.{padded, cursor_in}
use Rattle.gather.proofs.NextStamps.{AllRegular, Above, index_of, index_above, next_here, next_past, next_turn}
use Rattle.gather.proofs.StampsInTurn.{next_in}

-- ---- how many rows are lower

rising_on : (low : ℕ) (r : Row) (rs : List Row) → rising low (r ∷ rs) ≡ true → rising r.stamp rs ≡ true
unfolding rising
rising_on low r rs h = both_right _ _ h

lower_none : (s : ℕ) → lower [] s ≡ 0
unfolding lower count
lower_none s = refl

-- rows above one before a stamp are not lower
lower_zero : (s low : ℕ) (rows : List Row) → rising low rows ≡ true → s ≤ low + 1 → lower rows s ≡ 0
lower_zero s low [] rise l = lower_none s
lower_zero s low (r ∷ rs) rise l =
    let k : low < r.stamp = rising_above low (r ∷ rs) rise r (Memᴰ.head refl) in
    rw (lower_cons r rs s, le-ltb r.stamp s (omega arith)) (lower_zero s r.stamp rs (rising_on low r rs rise) (omega arith))

-- of rows with no stamp between the last one and another as many are lower than either
pub lower_up : (last stamp low : ℕ) (rows : List Row) → rising low rows ≡ true → last < stamp → stamp ≤ next_after last (stamps_of rows) → lower rows (last + 1) ≡ lower rows stamp
lower_up last stamp low [] rise l m = lower_none (last + 1) ∙ sym (lower_none stamp)
lower_up last stamp low (r ∷ rs) rise l m = go (cases (ltb last r.stamp)) (rising_on low r rs rise) (λ k. lower_up last stamp r.stamp rs (rising_on low r rs rise) l k)
  where
    go : (ltb last r.stamp ≡ true) ⊎ (ltb last r.stamp ≡ false) → rising r.stamp rs ≡ true → (stamp ≤ next_after last (stamps_of rs) → lower rs (last + 1) ≡ lower rs stamp) → lower (r ∷ rs) (last + 1) ≡ lower (r ∷ rs) stamp
    go (inl e) above later =
        let k : last < r.stamp = ltb-true last r.stamp e in
        let n : stamp ≤ r.stamp = rw (next_here last r.stamp (stamps_of rs) k) at m in
        rw (
          lower_cons r rs (last + 1),
          lower_cons r rs stamp,
          le-ltb r.stamp (last + 1) (omega arith),
          le-ltb r.stamp stamp n,
          lower_zero (last + 1) r.stamp rs above (omega arith),
          lower_zero stamp r.stamp rs above (omega arith),
        )
    go (inr e) above later =
        let k : r.stamp ≤ last = ltb-false last r.stamp e in
        let n : stamp ≤ next_after last (stamps_of rs) = rw (next_past last r.stamp (stamps_of rs) k) at m in
        rw (lower_cons r rs (last + 1), lower_cons r rs stamp, lt-ltb r.stamp (last + 1) (omega arith), lt-ltb r.stamp stamp (omega arith)) (ap suc (later n))

-- a stamp that is held is one more
pub lower_behind : (s low : ℕ) (rows : List Row) → rising low rows ≡ true → lower rows (s + 1) ≡ cond (is_some (held rows s)) (lower rows s + 1) (lower rows s)
unfolding held first_of
lower_behind s low [] rise = lower_none (s + 1) ∙ sym (lower_none s)
lower_behind s low (r ∷ rs) rise = go (ordered r.stamp s) (rising_on low r rs rise) (lower_behind s r.stamp rs (rising_on low r rs rise))
  where
    more : (b : Bool) (n : ℕ) → suc (cond b (n + 1) n) ≡ cond b (suc n + 1) (suc n)
    more true n = omega arith
    more false n = refl

    go : (r.stamp < s) ⊎ ((r.stamp ≡ s) ⊎ (s < r.stamp)) → rising r.stamp rs ≡ true → lower rs (s + 1) ≡ cond (is_some (held rs s)) (lower rs s + 1) (lower rs s) → lower (r ∷ rs) (s + 1) ≡ cond (is_some (held (r ∷ rs) s)) (lower (r ∷ rs) s + 1) (lower (r ∷ rs) s)
    go (inl l) above later =
        rw (lower_cons r rs (s + 1), lower_cons r rs s, held_cons r rs s, lt-ltb r.stamp (s + 1) (omega arith), lt-ltb r.stamp s l, ne_eqb r.stamp s (λ e. absurd (omega arith)))
        (ap suc later ∙ more (is_some (held rs s)) (lower rs s))
    go (inr (inl e)) above later =
        rw (lower_cons r rs (s + 1), lower_cons r rs s, held_cons r rs s, lt-ltb r.stamp (s + 1) (omega arith), le-ltb r.stamp s (omega arith), eq-eqb r.stamp s e, lower_zero s r.stamp rs above (omega arith), lower_zero (s + 1) r.stamp rs above (omega arith))
        refl
    go (inr (inr l)) above later =
        rw (lower_cons r rs (s + 1), lower_cons r rs s, held_cons r rs s, le-ltb r.stamp (s + 1) (omega arith), le-ltb r.stamp s (omega arith), ne_eqb r.stamp s (λ e. absurd (omega arith)), (none_lower r.stamp s rs (omega arith) above).0, lower_zero s r.stamp rs above (omega arith), lower_zero (s + 1) r.stamp rs above (omega arith))
        refl

-- no more are lower than there are
lower_most : (s : ℕ) (rows : List Row) → lower rows s ≤ length rows
lower_most s [] = rw (lower_none s) (omega arith)
lower_most s (r ∷ rs) = rw (lower_cons r rs s) (go (ltb r.stamp s) (lower_most s rs))
  where
    go : (b : Bool) → lower rs s ≤ length rs → cond b (suc (lower rs s)) (lower rs s) ≤ length (r ∷ rs)
    go true l = omega arith
    go false l = omega arith

-- ---- the row at the cursor

index_lower : (rows : List Row) (s : ℕ) → index_of (place_of rows s) ≡ lower rows s
unfolding place_of
index_lower rows s = go (is_some (held rows s))
  where
    go : (b : Bool) → index_of (held_or_not b (lower rows s)) ≡ lower rows s
    go true = refl
    go false = refl

module _ (s : List ℕ) (at n : ℕ) (rise : rising 0 (rows_at s at n) ≡ true) where
  -- it is the first one above the last stamp
  pub above_lower : (last : ℕ) → Above s at n last (lower (rows_at s at n) (last + 1))
  above_lower last = rw (index_lower (rows_at s at n) (last + 1)) at (index_above s at n last rise)

  module _ (stamp : ℕ) (some-stamp : 0 < stamp) (small : stamp < 2 ^ 48) where
    here : ℕ
    here = lower (rows_at s at n) stamp

    first_above : Above s at n (stamp - 1) (lower (rows_at s at n) stamp)
    first_above = let e : stamp - 1 + 1 ≡ stamp = omega arith in rw e at (above_lower (stamp - 1))

    -- the stamp's row, if that has it
    pub under_held : lower (rows_at s at n) stamp < n → (fields_at s (at + 24 * lower (rows_at s at n) stamp)).stamp ≡ stamp → place_of (rows_at s at n) stamp ≡ Held (lower (rows_at s at n) stamp)
    unfolding place_of
    under_held l e =
        let k : next_after (stamp - 1) (stamps_of (rows_at s at n)) ≡ stamp = sym (first_above.there l) ∙ e in
        let m : stamp ∈ stamps_of (rows_at s at n) = rw k at (next_in (stamp - 1) (stamps_of (rows_at s at n)) (rw k small)) in
        let (r, i, q) = Memᴰ.of_map (λ (r : Row). r.stamp) (rows_at s at n) m in
        let h : held (rows_at s at n) stamp ≡ some r = rw q at (held_is 0 (rows_at s at n) rise r i) in
        rw h refl

    -- no row, if it has another stamp or is none
    pub under_not : (lower (rows_at s at n) stamp < n → (fields_at s (at + 24 * lower (rows_at s at n) stamp)).stamp ≡ stamp → ⊥) → place_of (rows_at s at n) stamp ≡ Absent (lower (rows_at s at n) stamp)
    unfolding place_of row_of
    under_not d = go (held (rows_at s at n) stamp) refl
      where
        go : (o : Option Row) → held (rows_at s at n) stamp ≡ o → held_or_not (is_some (held (rows_at s at n) stamp)) (lower (rows_at s at n) stamp) ≡ Absent (lower (rows_at s at n) stamp)
        go none e = rw e refl
        go (some r) e =
            let p : place_of (rows_at s at n) stamp ≡ Held (lower (rows_at s at n) stamp) = rw e refl in
            let (l, h) = held_row s at n stamp (lower (rows_at s at n) stamp) rise p in
            absurd (d l (held_from_lem (rows_at s at n) stamp _ h).1)

-- ---- the cursors of tables

module _ (newest : ℕ) where
  pub cursor_used : (s : ℕ) (T : Table) → eqb T.view newest ≡ true → cursor_in newest s T ≡ lower T.rows s
  cursor_used s T e = rw e refl

  pub cursor_not : (s : ℕ) (T : Table) → eqb T.view newest ≡ false → cursor_in newest s T ≡ 0
  cursor_not s T e = rw e refl

  pub cursor_most : (s : ℕ) (T : Table) → cursor_in newest s T ≤ length T.rows
  cursor_most s T = go (eqb T.view newest)
    where
      go : (b : Bool) → cond b (lower T.rows s) 0 ≤ length T.rows
      go true = lower_most s T.rows
      go false = omega arith

  -- before the first stamp
  cursor_first : (T : Table) → Regular T → cursor_in newest 1 T ≡ 0
  cursor_first T k = go (eqb T.view newest)
    where
      go : (b : Bool) → cond b (lower T.rows 1) 0 ≡ 0
      go true = lower_zero 1 0 T.rows k.rise (omega arith)
      go false = refl

  pub cursors_first : (n : ℕ) (Ts : List Table) → AllRegular Ts → replicate n 0 ≡ padded n 0 (map (cursor_in newest 1) Ts)
  unfolding padded
  cursors_first zero Ts all = refl
  cursors_first (suc n) [] all = ap (λ (z : List ℕ). 0 ∷ z) (cursors_first n [] all)
  cursors_first (suc n) (T ∷ Ts) all = rw (cursor_first T (all T (Memᴰ.head refl))) (ap (λ (z : List ℕ). 0 ∷ z) (cursors_first n Ts (λ U m. all U (Memᴰ.tail m))))

  -- at the next stamp they stand where they stood behind the last one
  module _ (last stamp : ℕ) (l : last < stamp) where
    cursor_up : (T : Table) → Regular T → stamp ≤ stamp_above newest T last → cursor_in newest (last + 1) T ≡ cursor_in newest stamp T
    cursor_up T k m = go (cases (eqb T.view newest))
      where
        go : (eqb T.view newest ≡ true) ⊎ (eqb T.view newest ≡ false) → cursor_in newest (last + 1) T ≡ cursor_in newest stamp T
        go (inl e) = rw e (lower_up last stamp 0 T.rows k.rise l (rw e at m))
        go (inr e) = rw e refl

    pub cursors_up : (Ts : List Table) → AllRegular Ts → stamp ≤ next_after last (stamps (used_of newest Ts)) → map (cursor_in newest (last + 1)) Ts ≡ map (cursor_in newest stamp) Ts
    cursors_up [] all m = refl
    cursors_up (T ∷ Ts) all m =
        let k : Regular T = all T (Memᴰ.head refl) in
        let later : AllRegular Ts = λ U i. all U (Memᴰ.tail i) in
        let e = next_turn newest last T Ts k later in
        let a : stamp ≤ stamp_above newest T last = omega arith in
        let b : stamp ≤ next_after last (stamps (used_of newest Ts)) = omega arith in
        rw (cursor_up T k a, cursors_up Ts later b) refl

-- Rows by their index: the one that stands there with those before and after it, and the index that a stamp's row has or would have.
use mathlib.Core.Path.{◌≡◌, refl, sym, ap, ◌∙◌}
use mathlib.Core.Bool.{true, false}
use mathlib.Core.Logic.{◌⊎◌, inl, inr}
use mathlib.Core.Option.{some}
use mathlib.Core.List.{List, [], ◌∷◌, ◌++◌}
use Prim.Native.Nat.{ℕ, zero, suc, ◌+◌, ◌≤◌, ◌<◌}
use native.Mathlib.Omega.{arith}
use lib.Dec.{eqb, ltb}
use lib.ListN.{length}
use borrow.Author.Tests.{ltb-true, eqb-true, ne_eqb}
use Rattle.rules.specs.Tables.{Row, rising}
use Rattle.rules.specs.Messages.{held, changed, added}
use Rattle.rules.proofs.Rows.{changed-held}
use Rattle.rules.proofs.Logic.{both_left, both_right, cases}
use Rattle.rows.specs.declared.lookup.Place.{Place}
use Rattle.rows.specs.declared.lookup.Place.TheVariants.{Held, Absent}
use Rattle.rows.specs.Inner.Places.{place_of}
use Rattle.rows.proofs.Sought.{sought, place_sought, not_absent}
use Rattle.edit.specs.Inner.Changes.{at_index}

-- ---- the row at an index

pub record RowThere (rows : List Row) (i : ℕ) : Type 0 where
  pub before : List Row
  pub row : Row
  pub behind : List Row
  pub is : rows ≡ before ++ (row ∷ behind)
  pub index : length before ≡ i

pub row_there : (rows : List Row) (i : ℕ) → i < length rows → RowThere rows i
row_there [] i l = absurd (omega arith)
row_there (r ∷ rows) zero l = record { before = []; row = r; behind = rows; is = refl; index = refl }
row_there (r ∷ rows) (suc i) l =
    let t = row_there rows i (omega arith) in
    record { before = r ∷ t.before; row = t.row; behind = t.behind; is = ap (λ (z : List Row). r ∷ z) t.is; index = ap suc t.index }

pub at_index_lem : (xs ys : List Row) (r : Row) (change : Row → Row) → at_index (length xs) change (xs ++ (r ∷ ys)) ≡ xs ++ (change r ∷ ys)
unfolding at_index
at_index_lem [] ys r change = refl
at_index_lem (x ∷ xs) ys r change = ap (λ (z : List Row). x ∷ z) (at_index_lem xs ys r change)

-- ---- the row of a stamp

-- rows above a stamp are not changed
pub none_changed : (low s : ℕ) (change : Row → Row) (rows : List Row) → s ≤ low → rising low rows ≡ true → changed s change rows ≡ rows
unfolding changed rising
none_changed low s change [] l rise = refl
none_changed low s change (r ∷ rows) l rise =
    let m : low < r.stamp = ltb-true low r.stamp (both_left _ _ rise) in
    rw (ne_eqb r.stamp s (λ e. absurd (omega arith)), none_changed r.stamp s change rows (omega arith) (both_right _ _ rise))

changed_other : (s : ℕ) (change : Row → Row) (r : Row) (rows : List Row) → eqb r.stamp s ≡ false → changed s change (r ∷ rows) ≡ r ∷ changed s change rows
unfolding changed
changed_other s change r rows e = rw e

changed_sought : (low passed i s : ℕ) (change : Row → Row) (rows : List Row) → rising low rows ≡ true → sought passed rows s ≡ Held i → (j : ℕ) × (i ≡ passed + j) × (changed s change rows ≡ at_index j change rows)
unfolding sought changed rising at_index
changed_sought low passed i s change [] rise h = absurd (not_absent (sym h))
changed_sought low passed i s change (r ∷ rows) rise h =
    go (cases (eqb r.stamp s)) (cases (ltb s r.stamp)) (λ later. changed_sought r.stamp (passed + 1) i s change rows (both_right _ _ rise) later)
  where
    rest : Place
    rest = sought (passed + 1) rows s

    go : (eqb r.stamp s ≡ true) ⊎ (eqb r.stamp s ≡ false) → (ltb s r.stamp ≡ true) ⊎ (ltb s r.stamp ≡ false) → (rest ≡ Held i → (j : ℕ) × (i ≡ passed + 1 + j) × (changed s change rows ≡ at_index j change rows)) → (j : ℕ) × (i ≡ passed + j) × (changed s change (r ∷ rows) ≡ at_index j change (r ∷ rows))
    go (inl e) b later =
        let f : Held passed ≡ Held i = rw e at h in
        let k : passed ≡ i = cc in
        let m : r.stamp ≡ s = eqb-true _ _ e in
        (0, omega arith, rw (e, none_changed r.stamp s change rows (omega arith) (both_right _ _ rise)))
    go (inr e) (inl b) later = absurd (not_absent (sym (rw (e, b) at h)))
    go (inr e) (inr b) later =
        let f : rest ≡ Held i = rw (e, b) at h in
        let (j, k, t) = later f in
        (suc j, omega arith, changed_other s change r rows e ∙ ap (λ (z : List Row). r ∷ z) t)

pub changed_at : (rows : List Row) (s i : ℕ) (change : Row → Row) → rising 0 rows ≡ true → place_of rows s ≡ Held i → changed s change rows ≡ at_index i change rows
changed_at rows s i change rise h =
    let (j, e, t) = changed_sought 0 0 i s change rows rise (sym (place_sought rows s rise) ∙ h) in
    let f : i ≡ j = omega arith in
    rw f t

-- the same of a change that is another for other rows
pub changed_as : (rows : List Row) (s i : ℕ) (by change : Row → Row) (r : Row) → rising 0 rows ≡ true → place_of rows s ≡ Held i → held rows s ≡ some r → by r ≡ change r → changed s by rows ≡ at_index i change rows
changed_as rows s i by change r rise place h e = changed-held 0 s by change rows r rise h e ∙ changed_at rows s i change rise place

-- ---- the index of a new one

pub record Between (rows : List Row) (r : Row) (i : ℕ) : Type 0 where
  pub before : List Row
  pub behind : List Row
  pub is : rows ≡ before ++ behind
  pub index : length before ≡ i
  pub added : added r rows ≡ before ++ (r ∷ behind)

added_later : (r q : Row) (rows : List Row) → ltb r.stamp q.stamp ≡ false → added r (q ∷ rows) ≡ q ∷ added r rows
unfolding added
added_later r q rows e = rw e

between_sought : (passed i : ℕ) (r : Row) (rows : List Row) → sought passed rows r.stamp ≡ Absent i → (j : ℕ) × (i ≡ passed + j) × Between rows r j
unfolding sought added
between_sought passed i r [] h =
    let e : passed ≡ i = cc in
    (0, omega arith, record { before = []; behind = []; is = refl; index = refl; added = refl })
between_sought passed i r (q ∷ rows) h = go (cases (eqb q.stamp r.stamp)) (cases (ltb r.stamp q.stamp)) (λ later. between_sought (passed + 1) i r rows later)
  where
    rest : Place
    rest = sought (passed + 1) rows r.stamp

    go : (eqb q.stamp r.stamp ≡ true) ⊎ (eqb q.stamp r.stamp ≡ false) → (ltb r.stamp q.stamp ≡ true) ⊎ (ltb r.stamp q.stamp ≡ false) → (rest ≡ Absent i → (j : ℕ) × (i ≡ passed + 1 + j) × Between rows r j) → (j : ℕ) × (i ≡ passed + j) × Between (q ∷ rows) r j
    go (inl e) b later = absurd (not_absent (rw e at h))
    go (inr e) (inl b) later =
        let f : Absent passed ≡ Absent i = rw (e, b) at h in
        let k : passed ≡ i = cc in
        (0, omega arith, record { before = []; behind = q ∷ rows; is = refl; index = refl; added = rw b })
    go (inr e) (inr b) later =
        let f : rest ≡ Absent i = rw (e, b) at h in
        let (j, k, t) = later f in (
          suc j,
          omega arith,
          record {
            before = q ∷ t.before;
            behind = t.behind;
            is = ap (λ (z : List Row). q ∷ z) t.is;
            index = ap suc t.index;
            added = added_later r q rows b ∙ ap (λ (z : List Row). q ∷ z) t.added;
          },
        )

pub between : (rows : List Row) (r : Row) (i : ℕ) → rising 0 rows ≡ true → place_of rows r.stamp ≡ Absent i → Between rows r i
between rows r i rise h =
    let (j, e, t) = between_sought 0 i r rows (sym (place_sought rows r.stamp rise) ∙ h) in
    let f : i ≡ j = omega arith in
    rw f t

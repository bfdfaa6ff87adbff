-- A stamp sought by halving: what the row in the middle says of the search from the first on (Sought).
use mathlib.Core.Path.{◌≡◌, refl, ap}
use mathlib.Core.Bool.{true}
use mathlib.Core.List.{List, [], ◌∷◌, ◌++◌}
use Prim.Native.Nat.{ℕ, zero, suc, ◌+◌, ◌-◌, ◌*◌, ◌/◌, ◌^◌, ◌≤◌, ◌<◌}
use native.Mathlib.Omega.{arith}
use lib.ListN.{length}
use borrow.Author.Tests.{ltb-true, lt-ltb, le-ltb, eq-eqb, ne_eqb}
use Rattle.rules.specs.Tables.{Row, rising}
use Rattle.rules.proofs.Logic.{both_left, both_right, both_true}
use Rattle.rows.specs.declared.lookup.Place.TheVariants.{Held, Absent}
use Rattle.rows.specs.Fields.{fields_at}
use Rattle.rows.specs.Read.{row_of, rows_at}
use Rattle.rows.specs.Halving.{steps}
use Rattle.rows.proofs.RowsRead.{length-rows_at}
use Rattle.rows.proofs.Sought.{sought, sought_end}
use Rattle.rows.proofs.HalvingSteps.{steps_here, steps_behind, steps_before, steps_bounded, none_of_none}

-- ---- rows with one in their midst

rising_lower : (low high : ℕ) (rows : List Row) → low ≤ high → rising high rows ≡ true → rising low rows ≡ true
unfolding rising
rising_lower low high [] l h = refl
rising_lower low high (r ∷ rows) l h =
    let m : high < r.stamp = ltb-true high r.stamp (both_left _ _ h) in
    both_true (lt-ltb low r.stamp (omega arith)) (both_right _ _ h)

pub rising_midst : (low : ℕ) (xs : List Row) (r : Row) (ys : List Row) → rising low (xs ++ (r ∷ ys)) ≡ true → (low < r.stamp) × (rising low xs ≡ true) × (rising low ys ≡ true)
unfolding rising
rising_midst low [] r ys h =
    let l : low < r.stamp = ltb-true low r.stamp (both_left _ _ h) in
    (l, refl, rising_lower low r.stamp ys (omega arith) (both_right _ _ h))
rising_midst low (x ∷ xs) r ys h =
    let l : low < x.stamp = ltb-true low x.stamp (both_left _ _ h) in
    let (m, u, v) = rising_midst x.stamp xs r ys (both_right _ _ h) in
    (omega arith, both_true (lt-ltb low x.stamp l) u, rising_lower low x.stamp ys (omega arith) v)

-- a greater one: the search ends before it
sought_before : (i s : ℕ) (xs : List Row) (r : Row) (ys : List Row) → s < r.stamp → sought i (xs ++ (r ∷ ys)) s ≡ sought i xs s
unfolding sought
sought_before i s [] r ys h = rw (ne_eqb r.stamp s (λ e. absurd (omega arith)), lt-ltb s r.stamp h)
sought_before i s (x ∷ xs) r ys h = rw (sought_before (i + 1) s xs r ys h)

-- its own row: it is met
sought_here : (i low s : ℕ) (xs : List Row) (r : Row) (ys : List Row) → rising low (xs ++ (r ∷ ys)) ≡ true → r.stamp ≡ s → sought i (xs ++ (r ∷ ys)) s ≡ Held (i + length xs)
unfolding sought rising
sought_here i low s [] r ys h e = let z : i ≡ i + 0 = omega arith in rw (eq-eqb r.stamp s e) (ap Held z)
sought_here i low s (x ∷ xs) r ys h e =
    let l : x.stamp < r.stamp = (rising_midst x.stamp xs r ys (both_right _ _ h)).0 in
    let z : i + 1 + length xs ≡ i + suc (length xs) = omega arith in
    rw (ne_eqb x.stamp s (λ f. absurd (omega arith)), le-ltb s x.stamp (omega arith), sought_here (i + 1) x.stamp s xs r ys (both_right _ _ h) e, z)

-- a lower one: the search goes on behind it
sought_behind : (i low s : ℕ) (xs : List Row) (r : Row) (ys : List Row) → rising low (xs ++ (r ∷ ys)) ≡ true → r.stamp < s → sought i (xs ++ (r ∷ ys)) s ≡ sought (i + length xs + 1) ys s
unfolding sought rising
sought_behind i low s [] r ys h l = let z : i + 1 ≡ i + 0 + 1 = omega arith in rw (ne_eqb r.stamp s (λ e. absurd (omega arith)), le-ltb s r.stamp (omega arith), z)
sought_behind i low s (x ∷ xs) r ys h l =
    let k : x.stamp < r.stamp = (rising_midst x.stamp xs r ys (both_right _ _ h)).0 in
    let z : i + 1 + length xs + 1 ≡ i + suc (length xs) + 1 = omega arith in
    rw (ne_eqb x.stamp s (λ e. absurd (omega arith)), le-ltb s x.stamp (omega arith), sought_behind (i + 1) x.stamp s xs r ys (both_right _ _ h) l, z)

-- ---- the same of rows in lent bytes

rows_split : (s : List ℕ) (at m n : ℕ) → rows_at s at (m + suc n) ≡ rows_at s at m ++ (row_of s (fields_at s (at + 24 * m)) ∷ rows_at s (at + 24 * m + 24) n)
unfolding rows_at
rows_split s at zero n = let e : at + 24 * 0 ≡ at = omega arith in let z : 0 + suc n ≡ suc n = omega arith in rw (z, e)
rows_split s at (suc m) n =
    let e : at + 24 + 24 * m ≡ at + 24 * suc m = omega arith in
    let z : suc m + suc n ≡ suc (m + suc n) = omega arith in
    rw z (ap (λ (z : List Row). row_of s (fields_at s at) ∷ z) (rw e at (rows_split s (at + 24) m n)))

-- rows from one index up to another
abbrev pub between : List ℕ → ℕ → ℕ → ℕ → List Row
between s begin low high = rows_at s (begin + 24 * low) (high - low)

-- a turn from two ends to two others: the rows left rise, what is sought among them is what was sought, and one step is taken
abbrev pub Turned : List ℕ → ℕ → ℕ → ℕ → ℕ → ℕ → ℕ → Type 0
Turned s begin stamp low high low' high' =
    let rows = between s begin low high in
    let left = between s begin low' high' in
    (rising 0 left ≡ true) × (sought low rows stamp ≡ sought low' left stamp) × (steps rows stamp ≡ 1 + steps left stamp)

-- a row between the two ends, among rows that rise
module _ (s : List ℕ) (begin low high middle stamp : ℕ) (after : low ≤ middle) (below : middle < high) (rise : rising 0 (between s begin low high) ≡ true) where
  abbrev row : Row
  row = row_of s (fields_at s (begin + 24 * middle))

  abbrev here : ℕ
  here = (fields_at s (begin + 24 * middle)).stamp

  abbrev before : List Row
  before = between s begin low middle

  abbrev behind : List Row
  behind = between s begin (middle + 1) high

  split : between s begin low high ≡ before ++ (row ∷ behind)
  split =
      let e : high - low ≡ middle - low + suc (high - (middle + 1)) = omega arith in
      let p : begin + 24 * low + 24 * (middle - low) ≡ begin + 24 * middle = omega arith in
      let q : begin + 24 * middle + 24 ≡ begin + 24 * (middle + 1) = omega arith in
      rw e (rw (p, q) at (rows_split s (begin + 24 * low) (middle - low) (high - (middle + 1))))

  length_before : length before ≡ middle - low
  length_before = length-rows_at s (begin + 24 * low) (middle - low)

  -- the row has half of them before it, rounded down
  module _ (half : middle - low ≡ (high - low) / 2) where
    parts : (0 < here) × (rising 0 before ≡ true) × (rising 0 behind ≡ true)
    unfolding row_of
    parts = rising_midst 0 before row behind (rw split at rise)

    halved : length (before ++ (row ∷ behind)) / 2 ≡ length before
    halved = let n = length-rows_at s (begin + 24 * low) (high - low) in rw (← split, n, length_before) (omega arith)

    -- it has the stamp: this is the last step
    pub turn_here : here ≡ stamp → (sought low (between s begin low high) stamp ≡ Held middle) × (steps (between s begin low high) stamp ≡ 1)
    unfolding row_of
    turn_here e =
        let z : low + (middle - low) ≡ middle = omega arith in (
          rw split (rw (length_before, z) at (sought_here low 0 stamp before row behind (rw split at rise) e)),
          rw split (steps_here stamp before row behind halved e),
        )

    pub turn_before : stamp < here → Turned s begin stamp low high low middle
    unfolding row_of
    turn_before h = (parts.1, rw split (sought_before low stamp before row behind h), rw split (steps_before stamp before row behind halved h))

    pub turn_behind : here < stamp → Turned s begin stamp low high (middle + 1) high
    unfolding row_of
    turn_behind h =
        let z : low + (middle - low) + 1 ≡ middle + 1 = omega arith in (
          parts.2,
          rw split (rw (length_before, z) at (sought_behind low 0 stamp before row behind (rw split at rise) h)),
          rw split (steps_behind stamp before row behind halved h),
        )

-- no rows are left
pub turn_none : (s : List ℕ) (begin low high stamp : ℕ) → high - low ≡ 0 → (sought low (between s begin low high) stamp ≡ Absent low) × (steps (between s begin low high) stamp ≡ 0)
unfolding rows_at
turn_none s begin low high stamp e = (sought_end s (begin + 24 * low) (high - low) low stamp e, rw e (none_of_none stamp))

-- so few that a machine word counts them, as it counts the rows
pub few_steps : (s : List ℕ) (at n stamp : ℕ) → n < 2 ^ 64 → steps (rows_at s at n) stamp ≤ 64
few_steps s at n stamp l = let e = length-rows_at s at n in steps_bounded 64 stamp (rows_at s at n) (omega arith)

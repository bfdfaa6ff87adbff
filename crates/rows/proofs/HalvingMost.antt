-- The bound of the steps is reached: for a stamp below all of 512 rows 10 of them are compared.
use mathlib.Core.Path.{◌≡◌, refl, sym, ap, ◌∙◌}
use mathlib.Core.Bool.{true}
use mathlib.Core.List.{List, [], ◌∷◌, ◌++◌}
use Prim.Native.Nat.{ℕ, zero, suc, ◌+◌, ◌-◌, ◌/◌, ◌^◌, ◌≤◌, ◌<◌, min}
use native.Mathlib.Nat.{pow-suc}
use native.Mathlib.Omega.{arith}
use lib.ListN.{length, take, drop, length-take, length-drop, take-append-drop}
use lib.Pow.{pow_pos}
use borrow.Author.Tests.{le-ltb, ne_eqb}
use Rattle.rules.specs.Tables.{Row, rising}
use Rattle.rows.specs.Halving.{compared, halving, steps}
use Rattle.rows.proofs.HalvingSteps.{none_compared}
use Rattle.rows.proofs.Halving.{rising_midst}

none_in_none : (turns s : ℕ) (rows : List Row) → length rows ≡ 0 → halving turns rows s ≡ 0
none_in_none turns s [] e = none_compared turns s
none_in_none turns s (r ∷ rows) e = absurd (omega arith)

-- a stamp below all rows: the one in the middle is greater, and the search goes on before it
module _ (turns s : ℕ) (rows : List Row) (some_row : 0 < length rows) (rise : rising s rows ≡ true) where
  abbrev front : List Row
  front = take (length rows / 2) rows

  length_front : length front ≡ length rows / 2
  length_front = let t : length front ≡ min (length rows / 2) (length rows) = length-take (length rows / 2) rows in omega arith

  goes_before : (halving (suc turns) rows s ≡ 1 + halving turns front s) × (rising s front ≡ true)
  unfolding halving
  goes_before = go (drop (length rows / 2) rows) refl
    where
      go : (behind : List Row) → drop (length rows / 2) rows ≡ behind → (compared s (λ part. halving turns part s) front (drop (length rows / 2) rows) ≡ 1 + halving turns front s) × (rising s front ≡ true)
      go [] e = let d : 0 ≡ length rows - length rows / 2 = sym (ap length e) ∙ length-drop (length rows / 2) rows in absurd (omega arith)
      go (r ∷ behind) e =
          let parted : rows ≡ front ++ (r ∷ behind) = sym (ap (λ (z : List Row). front ++ z) (sym e) ∙ take-append-drop (length rows / 2) rows) in
          let (l, before, after) = rising_midst s front r behind (sym (ap (rising s) parted) ∙ rise) in
          (rw (e, ne_eqb r.stamp s (λ e. absurd (omega arith)), le-ltb r.stamp s (omega arith)), before)

to_the_first : (turns k s : ℕ) (rows : List Row) → length rows ≤ turns → length rows ≡ 2 ^ k → rising s rows ≡ true → halving turns rows s ≡ suc k
to_the_first zero k s rows few n rise = let p = pow_pos k in absurd (omega arith)
to_the_first (suc turns) zero s rows few n rise =
    let (turn, left) = goes_before turns s rows (omega arith) rise in
    let l = length_front turns s rows (omega arith) rise in
    turn ∙ rw (none_in_none turns s (take (length rows / 2) rows) (omega arith))
to_the_first (suc turns) (suc k) s rows few n rise =
    let p = pow_pos k in
    let two = pow-suc 2 k in
    let (turn, left) = goes_before turns s rows (omega arith) rise in
    let l = length_front turns s rows (omega arith) rise in
    turn ∙ rw (to_the_first turns k s (take (length rows / 2) rows) (omega arith) (omega arith) left) (omega arith)

-- "at most 10 for 512 rows", and 10 for a stamp that is below them
pub ten_reached : (rows : List Row) (s : ℕ) → length rows ≡ 512 → rising s rows ≡ true → steps rows s ≡ 10
unfolding steps
ten_reached rows s n rise = to_the_first (length rows) 9 s rows (omega arith) n rise

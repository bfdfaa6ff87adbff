-- One step of a loop over accesses or rows: the one at hand, and the others.
use mathlib.Core.Path.{◌≡◌, refl, sym}
use mathlib.Core.Bool.{Bool, true, false}
use mathlib.Core.List.{List, [], ◌∷◌}
use Prim.Native.Nat.{ℕ, zero, suc, ◌+◌, ◌-◌, ◌*◌, ◌≤◌, ◌<◌, min}
use native.Mathlib.Omega.{arith}
use lib.ListN.{drop}
use Rattle.rules.specs.Tests.{is_some}
use Rattle.rules.specs.Tables.{Row}
use Rattle.rules.specs.Messages.{held}
use Rattle.rules.specs.Inner.Floor.{floor_of}
use Rattle.rows.specs.declared.lookup.Place.{Place}
use Rattle.rows.specs.declared.lookup.Place.TheVariants.{Held, Absent}
use Rattle.rows.specs.Fields.{fields_at}
use Rattle.rows.specs.Read.{access_at, accesses_at, row_of, rows_at, access_of}
use Rattle.rows.specs.Inner.Places.{lower, held_or_not, place_of}
use Rattle.rows.proofs.Sought.{not_absent}
use Rattle.checks.proofs.LentParts.{accesses_turn, accesses_over}

-- forwards, i of n passed
pub accesses_step : (s : List ℕ) (at to n i : ℕ) → i < n → to ≡ at + 9 → accesses_at s at (n - i) ≡ access_of (access_at s at) ∷ accesses_at s to (n - (i + 1))
unfolding accesses_at
accesses_step s at to n i h p = let e : n - i ≡ suc (n - (i + 1)) = omega arith in rw (e, p)

pub accesses_end : (s : List ℕ) (at n : ℕ) → n ≡ 0 → accesses_at s at n ≡ []
unfolding accesses_at
accesses_end s at n e = rw e

-- backwards: the rows from i on are known, and row i - 1 is next
pub rows_step : (s : List ℕ) (begin n i : ℕ) → 0 < i → i ≤ n →
    let at = begin + 24 * (i - 1) in rows_at s at (n - (i - 1)) ≡ row_of s (fields_at s at) ∷ rows_at s (begin + 24 * i) (n - i)
unfolding rows_at
rows_step s begin n i l h =
    let e : n - (i - 1) ≡ suc (n - i) = omega arith in
    let p : begin + 24 * i ≡ begin + 24 * (i - 1) + 24 = omega arith in
    rw (e, p)

-- before the first step no row is known
pub rows_none : (s : List ℕ) (at n : ℕ) → rows_at s at (n - n) ≡ []
unfolding rows_at
rows_none s at n = let e : n - n ≡ 0 = omega arith in rw e

-- after the last one all are
pub rows_all : (s : List ℕ) (begin n i : ℕ) → i ≡ 0 → rows_at s (begin + 24 * i) (n - i) ≡ rows_at s begin n
rows_all s begin n i z =
    let e : n - i ≡ n = omega arith in
    let p : begin + 24 * i ≡ begin = omega arith in
    rw (e, p)

-- the rows from one on are those behind the first ones
rows_after : (s : List ℕ) (at m n : ℕ) → drop m (rows_at s at (m + n)) ≡ rows_at s (at + 24 * m) n
unfolding rows_at
rows_after s at zero n = let e : 0 + n ≡ n = omega arith in let p : at + 24 * 0 ≡ at = omega arith in rw (e, p)
rows_after s at (suc m) n =
    let e : suc m + n ≡ suc (m + n) = omega arith in
    let p : at + 24 + 24 * m ≡ at + 24 * suc m = omega arith in
    rw e (rw p at (rows_after s (at + 24) m n))

pub rows_behind : (s : List ℕ) (begin n i : ℕ) → i ≤ n → drop i (rows_at s begin n) ≡ rows_at s (begin + 24 * i) (n - i)
rows_behind s begin n i h = let e : i + (n - i) ≡ n = omega arith in rw e at (rows_after s begin i (n - i))

-- the index that a search gives, be the stamp held or not
abbrev pub index_of : Place → ℕ
index_of (Held i) = i
index_of (Absent i) = i

pub lower_index : (rows : List Row) (s : ℕ) → lower rows s ≡ index_of (place_of rows s)
unfolding place_of
lower_index rows s = go (is_some (held rows s))
  where
    go : (b : Bool) → lower rows s ≡ index_of (held_or_not b (lower rows s))
    go true = refl
    go false = refl

-- of either, by its name
pub held_index : (rows : List Row) (s i : ℕ) → Held i ≡ place_of rows s → i ≡ lower rows s
unfolding place_of
held_index rows s i = go (is_some (held rows s))
  where
    go : (b : Bool) → Held i ≡ held_or_not b (lower rows s) → i ≡ lower rows s
    go true e = cc
    go false e = absurd (not_absent e)

pub absent_index : (rows : List Row) (s i : ℕ) → Absent i ≡ place_of rows s → i ≡ lower rows s
unfolding place_of
absent_index rows s i = go (is_some (held rows s))
  where
    go : (b : Bool) → Absent i ≡ held_or_not b (lower rows s) → i ≡ lower rows s
    go true e = absurd (not_absent (sym e))
    go false e = cc

-- ---- the floor, i of n reads passed

pub floor_turn : (s : List ℕ) (from n i least : ℕ) → i < n → floor_of least (accesses_at s (9 * (from + i)) (n - i)) ≡ floor_of (min least (access_at s (9 * (from + i))).number) (accesses_at s (9 * (from + (i + 1))) (n - (i + 1)))
unfolding floor_of
floor_turn s from n i least l = rw (accesses_turn s from n i l) refl

pub floor_over : (s : List ℕ) (at n i least : ℕ) → n ≤ i → floor_of least (accesses_at s at (n - i)) ≡ least
unfolding floor_of
floor_over s at n i least l = rw (accesses_over s at n i l) refl

pub ruleset floor_turns = (floor_turn, floor_over)

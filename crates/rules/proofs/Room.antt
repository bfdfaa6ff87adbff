-- 02, P2: where a box's rule of room turns, what it keeps free, and when a view change makes room.
use mathlib.Core.Path.{◌≡◌, refl}
use mathlib.Core.Bool.{Bool, true, false}
use mathlib.Core.Logic.{◌⊎◌, inl, inr}
use Prim.Native.Nat.{ℕ, suc, ◌+◌, ◌-◌, ◌/◌, ◌≤◌, ◌<◌}
use native.Mathlib.Nat.{div-eq_of_lt, div-le_self, le-div_iff_mul-le}
use native.Mathlib.Omega.{arith}
use lib.Dec.{ltb, leb}
use borrow.Author.Tests.{ltb-true, lt-ltb, le-ltb, leb-true, leb-false}
use Rattle.rules.specs.Groups.{f_of}
use Rattle.rules.specs.Tables.{valley}
use Rattle.rules.specs.Circumstances.{Room, keeps_room}
use Rattle.rules.proofs.Logic.{cases}

abbrev pub valley_room : ℕ → ℕ → ℕ → Bool
valley_room n start rows = keeps_room valley.row_limit (f_of n) start rows

-- "From a fresh group of three that is 256; of five, 170; of seven, 128." A view of three that began with 100 rows takes 206 more
pub where_room_ends :
    (valley_room 3 0 255 ≡ true) × (valley_room 3 0 256 ≡ false) × (valley_room 5 0 169 ≡ true) × (valley_room 5 0 170 ≡ false)
    × (valley_room 7 0 127 ≡ true) × (valley_room 7 0 128 ≡ false) × (valley_room 3 100 305 ≡ true) × (valley_room 3 100 306 ≡ false)
unfolding keeps_room
where_room_ends = (refl, refl, refl, refl, refl, refl, refl, refl)

-- ---- what later layers ask of any rule of room

-- it never goes past the row limit
abbrev pub RoomFits : Room → Type 0
RoomFits room = (limit f start rows : ℕ) → room limit f start rows ≡ true → rows < limit

pub keeps_room_fits : RoomFits keeps_room
unfolding keeps_room
keeps_room_fits limit f start rows h =
    let few = ltb-true (rows - start) ((limit - start) / (f + 1)) h in
    let share = div-le_self (limit - start) (f + 1) in
    omega arith

-- and, for merges that are never full: with one more row a table is still within its share of what was left when its view began
abbrev pub Reserves : Room → Type 0
Reserves room = (limit f start rows : ℕ) → start ≤ rows → room limit f start rows ≡ true → suc rows ≤ start + (limit - start) / (f + 1)

pub keeps_room_reserves : Reserves keeps_room
unfolding keeps_room
keeps_room_reserves limit f start rows l h = let few = ltb-true (rows - start) ((limit - start) / (f + 1)) h in omega arith

-- ---- a view that has just begun

-- it has room exactly if what is left is enough for one row of each of the f+1 tables of a merge
pub room_again : (limit f start : ℕ) → keeps_room limit f start start ≡ leb (f + 1) (limit - start)
unfolding keeps_room
room_again limit f start = go (cases (leb (f + 1) (limit - start)))
  where
    go : (leb (f + 1) (limit - start) ≡ true) ⊎ (leb (f + 1) (limit - start) ≡ false) → ltb (start - start) ((limit - start) / (f + 1)) ≡ leb (f + 1) (limit - start)
    go (inl h) =
        let enough = leb-true (f + 1) (limit - start) h in
        let one : 1 ≤ (limit - start) / (f + 1) = (le-div_iff_mul-le {k = f + 1} {x = 1} {y = limit - start} (omega arith)).1 (omega arith) in
        rw (h, lt-ltb (start - start) ((limit - start) / (f + 1)) (omega arith))
    go (inr h) =
        let few = leb-false (f + 1) (limit - start) h in
        let none = div-eq_of_lt {n = limit - start} {m = f + 1} (omega arith) in
        rw (h, le-ltb (start - start) ((limit - start) / (f + 1)) (omega arith))

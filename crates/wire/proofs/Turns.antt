-- What one turn of each loop does. The loop that writes a number says what is left to be done: doing the rest from here gives what doing all from the start gave.
use mathlib.Core.Path.{◌≡◌, sym}
use mathlib.Core.List.{List}
use Prim.Native.Nat.{ℕ, zero, suc, ◌+◌, ◌-◌, ◌*◌, ◌/◌, ◌%◌, ◌^◌, ◌≤◌, ◌<◌}
use native.Mathlib.Nat.{add_assoc, pow-suc, pow-le-pow_right, div-lt_iff_lt-mul}
use native.Mathlib.Numerals.{add-one}
use native.Mathlib.Omega.{arith}
use lib.Arith.{digits_lt}
use lib.ListN.{length, drop, get_or, set, length-drop, drop_of_length-le, replicate}
use lib.Seq.{drop-cons, take-suc, get_or-drop, length-take-le, drop-set-lt, drop-set-add, take-set-le}
use Rattle.wire.specs.Parts.{replaced, part}
use Rattle.wire.specs.Numbers.{bytes, number_at}
use Rattle.wire.proofs.Numbers.{length_bytes, number_last, bytes_none, bytes_last}
use Rattle.wire.proofs.Parts.{replaced_nothing, replaced_first, replaced_last}

-- ---- a number read, i bytes of it so far

pub read_turn : (s : List ℕ) (at i : ℕ) → at + i < length s → number_at s at (suc i) ≡ number_at s at i * 256 + get_or s (at + i) 0
unfolding number_at
read_turn s at i h = rw (take-suc (drop at s) i 0 (rw length-drop (omega arith)), number_last, get_or-drop)

pub read_below : (i x b : ℕ) → x < 256 ^ i → b < 256 → x * 256 + b < 256 ^ suc i
read_below i x b hx hb = rw pow-suc (digits_lt hx hb)

-- before the eighth byte there is room for one more
pub read_room : (i x : ℕ) → x < 256 ^ i → i < 8 → x < 256 ^ 7
read_room i x h l = let p : 256 ^ i ≤ 256 ^ 7 = pow-le-pow_right {n = 256} (omega arith) {i = i} {j = 7} (omega arith) in omega arith

-- ---- a number written, its i first bytes still to come

pub put_turn : (s : List ℕ) (at i rest : ℕ) → 0 < i → rest < 256 ^ i → at + i ≤ length s → replaced (set s (at + (i - 1)) (rest % 256)) at (bytes (i - 1) (rest / 256)) ≡ replaced s at (bytes i rest)
put_turn s at zero rest p hr h = absurd (omega arith)
put_turn s at (suc i) rest p hr h =
    let n = length_bytes i (rest / 256) in
    let e : suc i - 1 ≡ i = omega arith in
    rw (e, bytes_last i rest hr) (sym (rw n at (replaced_last s at (bytes i (rest / 256)) (rest % 256) (rw n (omega arith)))))

pub put_below : (i rest : ℕ) → 0 < i → rest < 256 ^ i → rest / 256 < 256 ^ (i - 1)
put_below zero rest p h = absurd (omega arith)
put_below (suc i) rest p h = let e : suc i - 1 ≡ i = omega arith in rw e ((div-lt_iff_lt-mul {k = 256} (omega arith)).1 (rw pow-suc at h))

pub put_none : (s : List ℕ) (at x : ℕ) → replaced s at (bytes 0 x) ≡ s
put_none s at x = rw (bytes_none x) (replaced_nothing s at)

-- ---- a part copied, i bytes of it so far

pub copy_turn : (d s : List ℕ) (at i : ℕ) → i < length s → at + i < length d → replaced (set d (at + i) (get_or s i 0)) (at + (i + 1)) (drop (i + 1) s) ≡ replaced d (at + i) (drop i s)
copy_turn d s at i hs hd =
    rw (drop-cons s i 0 hs, replaced_first d (at + i) (drop (suc i) s) (get_or s i 0) hd, add_assoc, add-one i)

pub copy_end : (d s : List ℕ) (at i : ℕ) → length s ≤ i → replaced d at (drop i s) ≡ d
copy_end d s at i h = rw (drop_of_length-le s h) (replaced_nothing d at)

-- ---- parts cleared and moved, i elements of them so far (for a move up: i still to come)

pub fill_turn : (d : List ℕ) (at i n v : ℕ) → i < n → at + i < length d → replaced d (at + i) (replicate (n - i) v) ≡ replaced (set d (at + i) v) (at + (i + 1)) (replicate (n - (i + 1)) v)
fill_turn d at i n v h hd =
    let e : n - i ≡ suc (n - (i + 1)) = omega arith in
    rw (e, replaced_first d (at + i) (replicate (n - (i + 1)) v) v hd, add_assoc)

pub down_turn : (s : List ℕ) (from to i n : ℕ) → to ≤ from → i < n → from + n ≤ length s → replaced s (to + i) (part s (from + i) (n - i)) ≡ replaced (set s (to + i) (get_or s (from + i) 0)) (to + (i + 1)) (part (set s (to + i) (get_or s (from + i) 0)) (from + (i + 1)) (n - (i + 1)))
down_turn s from to i n hf h hl =
    let e : n - i ≡ suc (n - (i + 1)) = omega arith in
    let f : suc (from + i) ≡ from + (i + 1) = omega arith in
    rw (
      e,
      drop-cons s (from + i) 0 (omega arith),
      f,
      replaced_first s (to + i) (part s (from + (i + 1)) (n - (i + 1))) (get_or s (from + i) 0) (omega arith),
      add_assoc,
      drop-set-lt (from + (i + 1)) s (to + i) (get_or s (from + i) 0) (omega arith),
    )

part-set_above : (s : List ℕ) (at n j b : ℕ) → at + n ≤ j → part (set s j b) at n ≡ part s at n
part-set_above s at n j b h =
    let e : j ≡ at + (j - at) = omega arith in
    rw (e, drop-set-add, take-set-le n (drop at s) (j - at) b (omega arith))

pub up_turn : (s : List ℕ) (from to i : ℕ) → from ≤ to → to + i < length s → replaced s to (part s from (suc i)) ≡ replaced (set s (to + i) (get_or s (from + i) 0)) to (part (set s (to + i) (get_or s (from + i) 0)) from i)
up_turn s from to i hf hl =
    let l : i < length (drop from s) = rw length-drop (omega arith) in
    let n : length (part s from i) ≡ i = length-take-le i (drop from s) (omega arith) in
    let e = replaced_last s to (part s from i) (get_or s (from + i) 0) (rw n hl) in
    rw
    (part-set_above s from i (to + i) (get_or s (from + i) 0) (omega arith), take-suc (drop from s) i 0 l, get_or-drop)
    (rw n at e)

-- Laws of parts and of lists with a part replaced, each for every list, place and length.
use mathlib.Core.Path.{◌≡◌, refl, sym, ap, ◌∙◌}
use mathlib.Core.List.{List, [], ◌∷◌, ◌++◌, append_assoc}
use Prim.Native.Nat.{ℕ, suc, ◌+◌, ◌-◌, ◌≤◌, ◌<◌}
use native.Mathlib.Nat.{add-zero, zero-add}
use native.Mathlib.Numerals.{add-one}
use native.Mathlib.Omega.{arith}
use lib.ListN.{length, take, drop, set, replicate, length-replicate, length-append, length-take, length-drop, take-append-drop}
use lib.Seq.{take_at, drop_at, take-append_seam, take-append-le, drop-append-le, drop-append-add, length-take-le, take-take, set_split, drop-drop, take-set-le, drop-set-lt, take-suc-set}
use borrow.Rule.Slice.PartMut.{put_mid}
use Rattle.std.specs.List.{copy_within}
use Rattle.wire.specs.Parts.{part, replaced}

pub length_part : (s : List ℕ) (at n : ℕ) → at + n ≤ length s → length (part s at n) ≡ n
length_part s at n h = length-take-le n (drop at s) (rw length-drop (omega arith))

pub replaced_nothing : (s : List ℕ) (at : ℕ) → replaced s at [] ≡ s
unfolding replaced
replaced_nothing s at = rw (add-zero, take-append-drop)

pub replaced_start : (s ws : List ℕ) → replaced s 0 ws ≡ ws ++ drop (length ws) s
unfolding replaced
replaced_start s ws = rw zero-add

pub length-replaced : (s : List ℕ) (at : ℕ) (ws : List ℕ) → at + length ws ≤ length s → length (replaced s at ws) ≡ length s
unfolding replaced
length-replaced s at ws h = simp (length-append, length-take, length-drop) (omega arith)

-- ---- what was written is there, and everything else stays

pub part-replaced : (s : List ℕ) (at : ℕ) (ws : List ℕ) → at ≤ length s → part (replaced s at ws) at (length ws) ≡ ws
unfolding replaced
part-replaced s at ws h =
    rw (drop_at (take at s) (ws ++ drop (at + length ws) s) at (length-take-le at s h), take-append_seam)

part_left : (p q : List ℕ) (b n : ℕ) → b + n ≤ length p → part (p ++ q) b n ≡ part p b n
part_left p q b n h = rw (drop-append-le b p q (omega arith), take-append-le n (drop b p) q (rw length-drop (omega arith)))

-- a part of a part is a part
pub part-part : (s : List ℕ) (a len at n : ℕ) → a + len ≤ length s → at + n ≤ len → part (part s a len) at n ≡ part s (a + at) n
part-part s a len at n h l =
    let k : length (part s a len) ≡ len = length_part s a len h in
    sym (part_left (part s a len) (drop len (drop a s)) at n (omega arith)) ∙ rw (take-append-drop, drop-drop)

pub below_stays : (s : List ℕ) (at : ℕ) (ws : List ℕ) (b n : ℕ) → b + n ≤ at → at ≤ length s → part (replaced s at ws) b n ≡ part s b n
unfolding replaced
below_stays s at ws b n h l =
    let e : b + n ≤ length (take at s) = rw (length-take-le at s l) h in
    part_left (take at s) (ws ++ drop (at + length ws) s) b n e
    ∙ sym (part_left (take at s) (drop at s) b n e)
    ∙ rw take-append-drop

pub above_stays : (s : List ℕ) (at : ℕ) (ws : List ℕ) (b : ℕ) → at + length ws ≤ b → at + length ws ≤ length s → drop b (replaced s at ws) ≡ drop b s
unfolding replaced
above_stays s at ws b h l =
    let n : length (take at s ++ ws) ≡ at + length ws = rw (length-append, length-take-le at s (omega arith)) in
    let e : b ≡ length (take at s ++ ws) + (b - (at + length ws)) = omega arith in
    rw (← append_assoc, e, drop-append-add, drop-drop, n)

-- ---- two parts side by side are one part

pub replaced_joined : (s : List ℕ) (at to : ℕ) (xs ys : List ℕ) → at ≤ length s → at + length xs ≡ to → replaced (replaced s at xs) to ys ≡ replaced s at (xs ++ ys)
unfolding replaced
replaced_joined s at to xs ys h f =
    let p : List ℕ = take at s ++ xs in
    let r : List ℕ = drop (at + length xs) s in
    let n : length (take at s ++ xs) ≡ to = rw (length-append, length-take-le at s h) f in
    let t : take to (take at s ++ (xs ++ r)) ≡ p = rw (← append_assoc) (take_at p r to n) in
    let e : at + length xs + length ys ≡ at + length (xs ++ ys) = simp length-append (omega arith) in
    let d : drop (to + length ys) (take at s ++ (xs ++ r)) ≡ drop (at + length (xs ++ ys)) s =
    rw (← append_assoc)
    (ap (λ (k : ℕ). drop (k + length ys) (p ++ r)) (sym n)
    ∙ drop-append-add p r (length ys)
    ∙ drop-drop (length ys) (at + length xs) s
    ∙ ap (λ (k : ℕ). drop k s) e) in
    rw (t, d) (simp append_assoc)

-- the same, where the later one is written first
pub replaced_before : (s : List ℕ) (at to : ℕ) (xs ys : List ℕ) → at + length xs ≡ to → to ≤ length s → replaced (replaced s to ys) at xs ≡ replaced s at (xs ++ ys)
unfolding replaced
replaced_before s at to xs ys e h =
    let r : List ℕ = drop (to + length ys) s in
    let n : length (take to s) ≡ to = length-take-le to s h in
    let t : take at (take to s ++ (ys ++ r)) ≡ take at s = take-append-le at (take to s) (ys ++ r) (omega arith) ∙ take-take at to s (omega arith) in
    let d : drop (at + length xs) (take to s ++ (ys ++ r)) ≡ ys ++ r = drop_at (take to s) (ys ++ r) (at + length xs) (n ∙ sym e) in
    let f : at + length (xs ++ ys) ≡ to + length ys = simp length-append (omega arith) in
    rw (t, d, f, append_assoc xs ys r)

-- ---- two parts that do not meet may be written in either order

-- a part put where it is
pub replaced_same : (s : List ℕ) (at n : ℕ) → at + n ≤ length s → replaced s at (part s at n) ≡ s
unfolding replaced
replaced_same s at n h = rw (length_part s at n h, ← drop-drop n at s, take-append-drop n (drop at s), take-append-drop at s) refl

pub replaced_apart : (s : List ℕ) (a b : ℕ) (xs ys : List ℕ) → a + length xs ≤ b → b + length ys ≤ length s → replaced (replaced s b ys) a xs ≡ replaced (replaced s a xs) b ys
replaced_apart s a b xs ys l h =
    let to : ℕ = a + length xs in
    let between : List ℕ = part s (a + length xs) (b - (a + length xs)) in
    let n : length (part s (a + length xs) (b - (a + length xs))) ≡ b - (a + length xs) = length_part s (a + length xs) (b - (a + length xs)) (omega arith) in
    let m = length-replaced s b ys h in
    let k = length-replaced s a xs (omega arith) in
    let e : part (replaced s b ys) to (b - to) ≡ between = below_stays s b ys to (b - to) (omega arith) (omega arith) in
    let f : part (replaced s a xs) to (b - to) ≡ between = ap (take (b - to)) (above_stays s a xs to (omega arith) (omega arith)) in
    let left : replaced s b ys ≡ replaced s to (between ++ ys) = sym (rw e at (replaced_same (replaced s b ys) to (b - to) (omega arith))) ∙ replaced_before s to b between ys (omega arith) (omega arith) in
    let right : replaced s a xs ≡ replaced s a (xs ++ between) = sym (rw f at (replaced_same (replaced s a xs) to (b - to) (omega arith))) ∙ replaced_joined s a to xs between (omega arith) refl in
    let c = length-append xs (part s (a + length xs) (b - (a + length xs))) in
    ap (λ z. replaced z a xs) left
    ∙ replaced_before s a to xs (between ++ ys) refl (omega arith)
    ∙ ap (replaced s a) (sym (append_assoc xs between ys))
    ∙ sym (replaced_joined s a b (xs ++ between) ys (omega arith) (omega arith))
    ∙ ap (λ z. replaced z b ys) (sym right)

-- ---- in a list that is put together

-- the piece in the middle is exchanged
pub replaced_between : (p o q ws : List ℕ) (at : ℕ) → length p ≡ at → length o ≡ length ws → replaced (p ++ (o ++ q)) at ws ≡ p ++ (ws ++ q)
unfolding replaced
replaced_between p o q ws at e f =
    let d : drop (at + length ws) (p ++ (o ++ q)) ≡ q =
    rw (← append_assoc) (drop_at (p ++ o) q (at + length ws) (simp length-append (omega arith))) in
    rw (take_at p (o ++ q) at e, d)

-- at the start, a longer list over a shorter one
pub replaced_over : (s xs ys : List ℕ) → length xs ≤ length ys → replaced (replaced s 0 xs) 0 ys ≡ replaced s 0 ys
replaced_over s xs ys l =
    let more : ℕ = length ys - length xs in
    let d : length xs + (length ys - length xs) ≡ length ys = omega arith in
    let e : drop (length ys) (xs ++ drop (length xs) s) ≡ drop (length ys) s =
    ap (λ (k : ℕ). drop k (xs ++ drop (length xs) s)) (sym d)
    ∙ drop-append-add xs (drop (length xs) s) more
    ∙ drop-drop more (length xs) s
    ∙ ap (λ (k : ℕ). drop k s) d in
    rw (replaced_start s xs, replaced_start (xs ++ drop (length xs) s) ys, e, replaced_start s ys)

-- ---- what the library's methods leave, as it is said here

-- a lent part of s that now holds ws
pub part_written : (s : List ℕ) (at n : ℕ) (ws : List ℕ) → length ws ≡ n → put_mid at (at + n - at) s ws ≡ replaced s at ws
unfolding replaced
part_written s at n ws e =
    let k : at + n - at ≡ length ws = omega arith in
    rw (k, drop-drop)

-- one whose elements are all 0 now
pub part_cleared : (s : List ℕ) (at n : ℕ) → at + n ≤ length s → put_mid at (at + n - at) s (replicate (length (part s at (at + n - at))) 0) ≡ replaced s at (replicate n 0)
part_cleared s at n h =
    let k : at + n - at ≡ n = omega arith in
    let e : length (part s at (at + n - at)) ≡ n = rw k (length_part s at n h) in
    rw e (part_written s at n (replicate n 0) (length-replicate n 0))

-- a part of s copied to another place of it
pub part_moved : (s : List ℕ) (from to n : ℕ) → from + n ≤ length s → copy_within s from (from + n) to ≡ replaced s to (part s from n)
unfolding replaced
part_moved s from to n h =
    let k : from + n - from ≡ n = omega arith in
    rw (k, length_part s from n h, append_assoc)

-- ---- one element more, as a loop writes it

drop-set_same : (s : List ℕ) (j b : ℕ) → j < length s → drop j (set s j b) ≡ b ∷ drop (suc j) s
drop-set_same s j b h = rw (set_split s j b h) (drop_at (take j s) (b ∷ drop (suc j) s) j (length-take-le j s (omega arith)))

pub replaced_last : (s : List ℕ) (at : ℕ) (ws : List ℕ) (b : ℕ) → at + length ws < length s → replaced s at (ws ++ (b ∷ [])) ≡ replaced (set s (at + length ws) b) at ws
unfolding replaced
replaced_last s at ws b h =
    let e : at + (length ws + 1) ≡ suc (at + length ws) = omega arith in
    simp (
      append_assoc,
      length-append,
      e,
      take-set-le at s (at + length ws) b (omega arith),
      drop-set_same s (at + length ws) b h,
    )

pub replaced_first : (s : List ℕ) (at : ℕ) (ws : List ℕ) (b : ℕ) → at < length s → replaced s at (b ∷ ws) ≡ replaced (set s at b) (at + 1) ws
unfolding replaced
replaced_first s at ws b h =
    let e : at + suc (length ws) ≡ suc at + length ws = omega arith in
    simp (add-one, e, take-suc-set s at b h, append_assoc, drop-set-lt (suc at + length ws) s at b (omega arith))

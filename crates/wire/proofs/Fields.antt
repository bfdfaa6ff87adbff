-- A run of fields, each a number of its width: one step of reading what stands there, and one of knowing that what is read stands there.
-- The place of the next field is an argument with an equation, so that no sum of places has to be brought into one shape.
use mathlib.Core.Path.{◌≡◌, sym, ap, ◌∙◌}
use mathlib.Core.List.{List, ◌++◌, append_assoc}
use Prim.Native.Nat.{ℕ, ◌+◌, ◌^◌, ◌≤◌, ◌<◌}
use lib.ListN.{length, length-append}
use Rattle.wire.specs.Parts.{part, replaced}
use Rattle.wire.specs.Numbers.{number, bytes, number_at}
use Rattle.wire.specs.Inner.ByteLists.{AllBytes}
use Rattle.wire.proofs.Parts.{length_part, replaced_joined}
use Rattle.wire.proofs.Numbers.{length_bytes, number_bytes, bytes_number, bytes_fit, all_part, all_joined}
use Rattle.wire.proofs.Stands.{Stands, stands_left, stands_right, stands_joined}

-- the field that stands there is read, and the rest stands behind it
pub field_read : (width x : ℕ) (s : List ℕ) (at to : ℕ) (ws : List ℕ) → x < 256 ^ width → at + width ≡ to → Stands s at (bytes width x ++ ws) → (number_at s at width ≡ x) × Stands s to ws
unfolding Stands number_at
field_read width x s at to ws hx e h = (
  ap number (rw length_bytes at (stands_left s at (bytes width x) ws h)) ∙ number_bytes width x hx,
  rw (← e) (rw length_bytes at (stands_right s at (bytes width x) ws h)),
)

-- the field that is read stands there, before the rest
pub field_stands : (width : ℕ) (s : List ℕ) (at to : ℕ) (ws : List ℕ) → AllBytes s → at + width ≤ length s → at + width ≡ to → Stands s to ws → Stands s at (bytes width (number_at s at width) ++ ws)
unfolding Stands number_at
field_stands width s at to ws a l e h =
    let v = rw (length_part s at width l) at (bytes_number (part s at width) (all_part s at width a)) in
    stands_joined s at (bytes width (number (part s at width))) ws (rw length_bytes (sym v)) (rw (length_bytes, e) h)

-- the same of a last field, with nothing behind it
pub last_read : (width x : ℕ) (s : List ℕ) (at : ℕ) → x < 256 ^ width → Stands s at (bytes width x) → number_at s at width ≡ x
unfolding Stands number_at
last_read width x s at hx h = ap number (rw length_bytes at h) ∙ number_bytes width x hx

pub last_stands : (width : ℕ) (s : List ℕ) (at : ℕ) → AllBytes s → at + width ≤ length s → Stands s at (bytes width (number_at s at width))
unfolding Stands number_at
last_stands width s at a l =
    let v = rw (length_part s at width l) at (bytes_number (part s at width) (all_part s at width a)) in
    rw length_bytes (sym v)

-- what stands among bytes is bytes
pub stands_bytes : (s : List ℕ) (at : ℕ) (ws : List ℕ) → AllBytes s → Stands s at ws → AllBytes ws
unfolding Stands
stands_bytes s at ws a h = rw h at (all_part s at (length ws) a)

-- a field among bytes fits its width, and the rest is bytes
pub field_fits : (width x : ℕ) (ws : List ℕ) → 0 < width → AllBytes (bytes width x ++ ws) → (x < 256 ^ width) × AllBytes ws
field_fits width x ws p h = let (first, others) = all_joined (bytes width x) ws h in (bytes_fit width x p first, others)

-- four single bytes written one after the other
pub four_bytes : (s : List ℕ) (at a b c d : ℕ) → at ≤ length s →
    replaced (replaced (replaced (replaced s at (bytes 1 a)) (at + 1) (bytes 1 b)) (at + 2) (bytes 1 c)) (at + 3) (bytes 1 d) ≡ replaced s at (bytes 1 a ++ (bytes 1 b ++ (bytes 1 c ++ bytes 1 d)))
four_bytes s at a b c d l =
    let x : List ℕ = bytes 1 a ++ bytes 1 b in
    let y : List ℕ = x ++ bytes 1 c in
    rw (
      replaced_joined s at (at + 1) (bytes 1 a) (bytes 1 b) l (simp length_bytes),
      replaced_joined s at (at + 2) x (bytes 1 c) l (simp (length-append, length_bytes)),
      replaced_joined s at (at + 3) y (bytes 1 d) l (simp (length-append, length_bytes)),
    )
    (simp append_assoc)

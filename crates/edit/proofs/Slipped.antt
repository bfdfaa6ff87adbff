-- A row and a body put in between: what the four writes come to, and what they make of a list that is put together.
use mathlib.Core.Path.{◌≡◌, refl, ap, ◌∙◌}
use mathlib.Core.List.{List, ◌++◌, append_assoc}
use Prim.Native.Nat.{ℕ, ◌+◌, ◌-◌, ◌≤◌}
use native.Mathlib.Omega.{arith}
use lib.ListN.{length, drop, length-append}
use lib.Seq.{take_at, drop_at, take-append_seam, drop-append-add}
use Rattle.wire.specs.Parts.{part, replaced}
use Rattle.wire.proofs.Parts.{length_part, below_stays, replaced_before}
use Rattle.edit.specs.Inner.Parts.{slipped}

-- each write stands right before what the ones before it wrote
pub slipped_steps : (s : List ℕ) (at middle end : ℕ) (row body : List ℕ) → length row ≡ 24 → at ≤ middle → middle ≤ end → end + 24 + length body ≤ length s →
    let t = replaced (replaced s (middle + 24 + length body) (part s middle (end - middle))) (middle + 24) body in
    replaced (replaced t (at + 24) (part t at (middle - at))) at row ≡ slipped s at middle end row body
unfolding slipped
slipped_steps s at middle end row body n l m h =
    let G : List ℕ = part s at (middle - at) in
    let B : List ℕ = part s middle (end - middle) in
    let g : length G ≡ middle - at = length_part s at (middle - at) (omega arith) in
    let first : replaced (replaced s (middle + 24 + length body) B) (middle + 24) body ≡ replaced s (middle + 24) (body ++ B) =
    replaced_before s (middle + 24) (middle + 24 + length body) body B refl (omega arith) in
    let kept : part (replaced s (middle + 24) (body ++ B)) at (middle - at) ≡ G = below_stays s (middle + 24) (body ++ B) at (middle - at) (omega arith) (omega arith) in
    let second : replaced (replaced s (middle + 24) (body ++ B)) (at + 24) G ≡ replaced s (at + 24) (G ++ (body ++ B)) =
    replaced_before s (at + 24) (middle + 24) G (body ++ B) (omega arith) (omega arith) in
    rw (first, kept, second) (replaced_before s at (at + 24) row (G ++ (body ++ B)) (omega arith) (omega arith))

-- what stood from the places on stands behind what was put in
pub slipped_between : (P G B rest row body : List ℕ) (at middle end : ℕ) → length P ≡ at → at + length G ≡ middle → middle + length B ≡ end →
    slipped (P ++ (G ++ (B ++ rest))) at middle end row body ≡ P ++ (row ++ (G ++ (body ++ (B ++ drop (length row + length body) rest))))
unfolding slipped replaced
slipped_between P G B rest row body at middle end p g b =
    let s : List ℕ = P ++ (G ++ (B ++ rest)) in
    let eg : middle - at ≡ length G = omega arith in
    let eb : end - middle ≡ length B = omega arith in
    let to_g : drop at (P ++ (G ++ (B ++ rest))) ≡ G ++ (B ++ rest) = drop_at P (G ++ (B ++ rest)) at p in
    let to_b : drop middle (P ++ (G ++ (B ++ rest))) ≡ B ++ rest =
    rw (← append_assoc P G (B ++ rest)) (drop_at (P ++ G) (B ++ rest) middle (rw length-append (omega arith))) in
    let new : List ℕ = row ++ (G ++ (body ++ B)) in
    let n : at + length (row ++ (G ++ (body ++ B))) ≡ length (P ++ (G ++ B)) + (length row + length body) = simp length-append (omega arith) in
    let past : drop (at + length (row ++ (G ++ (body ++ B)))) (P ++ (G ++ (B ++ rest))) ≡ drop (length row + length body) rest =
    rw n
    (ap (drop (length (P ++ (G ++ B)) + (length row + length body))) (simp append_assoc)
    ∙ drop-append-add (P ++ (G ++ B)) rest (length row + length body)) in
    rw (eg, eb, to_g, to_b, take-append_seam G (B ++ rest), take-append_seam B rest, past, take_at P (G ++ (B ++ rest)) at p)
    (simp append_assoc)

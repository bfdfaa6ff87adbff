-- `Stands s at ws`: ws stands in s from at. What a layout says of a buffer is said by it, piece by piece.
use mathlib.Core.Path.{◌≡◌, refl, sym, ap, ◌∙◌}
use mathlib.Core.List.{List, [], ◌++◌}
use Prim.Native.Nat.{ℕ, ◌+◌, ◌≤◌, ◌<◌}
use native.Mathlib.Omega.{arith}
use lib.ListN.{length, take, drop, length-append, length-take, length-drop, take-append-drop}
use lib.Seq.{drop_at, take-append_seam, drop-append_seam, take-take, drop-drop, take-add}
use Rattle.wire.specs.Parts.{part}

unfoldable pub Stands : List ℕ → ℕ → List ℕ → Type 0
Stands s at ws = part s at (length ws) ≡ ws

pub stands_nothing : (s : List ℕ) (at : ℕ) → Stands s at []
unfolding Stands
stands_nothing s at = refl

-- what stands there lies inside
pub stands_inside : (s : List ℕ) (at : ℕ) (ws : List ℕ) → Stands s at ws → 0 < length ws → at + length ws ≤ length s
unfolding Stands
stands_inside s at ws h p = let e = simp (length-take, length-drop) at (ap length h) in omega arith

-- ---- pieces split and joined

pub stands_joined : (s : List ℕ) (at : ℕ) (xs ys : List ℕ) → Stands s at xs → Stands s (at + length xs) ys → Stands s at (xs ++ ys)
unfolding Stands
stands_joined s at xs ys h k =
    rw (length-append xs ys, take-add (length xs) (length ys) (drop at s), drop-drop (length xs) at s, h, k)

pub stands_left : (s : List ℕ) (at : ℕ) (xs ys : List ℕ) → Stands s at (xs ++ ys) → Stands s at xs
unfolding Stands
stands_left s at xs ys h =
    sym (take-take (length xs) (length (xs ++ ys)) (drop at s) (simp length-append (omega arith)))
    ∙ ap (take (length xs)) h
    ∙ take-append_seam xs ys

pub stands_right : (s : List ℕ) (at : ℕ) (xs ys : List ℕ) → Stands s at (xs ++ ys) → Stands s (at + length xs) ys
unfolding Stands
stands_right s at xs ys h =
    let l = stands_left s at xs ys h in
    let whole : xs ++ take (length ys) (drop (at + length xs) s) ≡ xs ++ ys =
    rw (← drop-drop (length xs) at s)
    (ap (λ (z : List ℕ). z ++ take (length ys) (drop (length xs) (drop at s))) (sym l)
    ∙ sym (take-add (length xs) (length ys) (drop at s))
    ∙ rw (← length-append xs ys) h) in
    sym (drop-append_seam xs (take (length ys) (drop (at + length xs) s)))
    ∙ ap (drop (length xs)) whole
    ∙ drop-append_seam xs ys

-- ---- between a list and the pieces that stand in it

pub stands_between : (p ws q : List ℕ) (at : ℕ) → length p ≡ at → Stands (p ++ (ws ++ q)) at ws
unfolding Stands
stands_between p ws q at e = rw (drop_at p (ws ++ q) at e) (take-append_seam ws q)

pub stands_whole : (s ws : List ℕ) → Stands s 0 ws → s ≡ ws ++ drop (length ws) s
unfolding Stands
stands_whole s ws h = sym (take-append-drop (length ws) s) ∙ ap (λ (z : List ℕ). z ++ drop (length ws) s) h

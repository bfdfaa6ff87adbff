-- Bytes that begin with others: the test says what `Stands` says.
use mathlib.Core.Path.{◌≡◌, refl, ap, ap₂, ◌∙◌}
use mathlib.Core.Bool.{true}
use mathlib.Core.List.{List, [], ◌∷◌, ◌++◌}
use Prim.Native.Nat.{ℕ}
use lib.ListN.{length, take, drop}
use lib.Seq.{take-append_seam}
use borrow.Author.Tests.{eqb-true}
use Rattle.wire.proofs.Stands.{Stands, stands_whole}
use Rattle.rules.proofs.Logic.{impossible, both_left, both_right, both_true, eqb_self}
use Rattle.rows.specs.Read.{begins}

pub begins_is : (s ws : List ℕ) → begins s ws ≡ true → s ≡ ws ++ drop (length ws) s
unfolding begins
begins_is s [] h = refl
begins_is [] (b ∷ ws) h = impossible h refl
begins_is (x ∷ s) (b ∷ ws) h = ap₂ ◌∷◌ (eqb-true x b (both_left _ _ h)) (begins_is s ws (both_right _ _ h))

pub begins_with : (ws rest : List ℕ) → begins (ws ++ rest) ws ≡ true
unfolding begins
begins_with [] rest = refl
begins_with (b ∷ ws) rest = both_true (eqb_self b) (begins_with ws rest)

pub begins_stands : (s : List ℕ) (at : ℕ) (ws : List ℕ) → begins (drop at s) ws ≡ true → Stands s at ws
unfolding Stands
begins_stands s at ws h = ap (take (length ws)) (begins_is (drop at s) ws h) ∙ take-append_seam ws (drop (length ws) (drop at s))

pub stands_begins : (s : List ℕ) (at : ℕ) (ws : List ℕ) → Stands s at ws → begins (drop at s) ws ≡ true
unfolding Stands
stands_begins s at ws h = rw (stands_whole (drop at s) ws h) (begins_with ws (drop (length ws) (drop at s)))

-- Eight marks in a byte: one more is set, and no other is changed.
use mathlib.Core.Path.{◌≡◌, refl, ◌∙◌}
use mathlib.Core.Bool.{Bool, true, false, cond}
use mathlib.Core.Logic.{◌⊎◌, inl, inr}
use mathlib.Core.List.{List, [], ◌∷◌}
use Prim.Native.Nat.{ℕ, zero, suc, ◌+◌, ◌/◌, ◌%◌, ◌^◌, ◌<◌}
use native.Mathlib.Omega.{arith}
use native.Mathlib.Nat.{zero-div}
use lib.Dec.{eqb, ltb}
use lib.ListN.{length, get_or, replicate, length-set}
use lib.Seq.{get_or-set_same, get_or-set_other}
use borrow.Author.Tests.{ltb-true, eqb-true, eqb-false, ne_eqb}
use Rattle.wire.specs.Inner.ByteLists.{AllBytes}
use Rattle.wire.proofs.Numbers.{all_of}
use Rattle.rules.specs.Tests.{both, either}
use Rattle.rules.proofs.Logic.{both_left, both_right, same?, eqb_self}
use Rattle.settle.specs.Inner.Marks.{is_marked, marked}

-- ---- one byte, by computing

-- every number below a bound passes
all_below : ℕ → (ℕ → Bool) → Bool
all_below zero test = true
all_below (suc n) test = both (test n) (all_below n test)

all_below_lem : (n : ℕ) (test : ℕ → Bool) → all_below n test ≡ true → (i : ℕ) → i < n → test i ≡ true
unfolding all_below
all_below_lem zero test h i l = absurd (omega arith)
all_below_lem (suc n) test h i l = go (same? i n) (all_below_lem n test (both_right _ _ h) i)
  where
    go : (i ≡ n) ⊎ (eqb i n ≡ false) → (i < n → test i ≡ true) → test i ≡ true
    go (inl e) less = rw e (both_left _ _ h)
    go (inr e) less = let d = eqb-false i n e in less (omega arith)

-- a byte with one mark more is a byte, and its other marks are as they were
one_more : ℕ → ℕ → Bool
one_more k x = both (ltb (x + 2 ^ k) 256) (all_below 8 (λ j. eqb ((x + 2 ^ k) / 2 ^ j % 2) (cond (eqb j k) 1 (x / 2 ^ j % 2))))

computed : all_below 8 (λ k. all_below 256 (λ x. either (eqb (x / 2 ^ k % 2) 1) (one_more k x))) ≡ true
unfolding all_below one_more both either
computed = refl

one_more_lem : (k x : ℕ) → k < 8 → x < 256 → eqb (x / 2 ^ k % 2) 1 ≡ false → one_more k x ≡ true
unfolding either
one_more_lem k x m l e = rw e at (all_below_lem 256 _ (all_below_lem 8 _ computed k m) x l)

pub byte_fits : (k x : ℕ) → k < 8 → x < 256 → eqb (x / 2 ^ k % 2) 1 ≡ false → x + 2 ^ k < 256
unfolding one_more
byte_fits k x m l e = ltb-true _ _ (both_left _ _ (one_more_lem k x m l e))

-- ---- all bytes

byte_at : (s : List ℕ) (i : ℕ) → AllBytes s → get_or s i 0 < 256
byte_at [] i h = omega arith
byte_at (b ∷ bs) zero h = h.0
byte_at (b ∷ bs) (suc i) h = byte_at bs i h.1

zeros : (n i : ℕ) → get_or (replicate n zero) i zero ≡ zero
zeros zero i = refl
zeros (suc n) zero = refl
zeros (suc n) (suc i) = zeros n i

pub none_marked : (i : ℕ) → is_marked (replicate 64 0) i ≡ false
unfolding is_marked
none_marked i = rw (zeros 64 (i / 8), zero-div (2 ^ (i % 8))) refl

pub none_bytes : AllBytes (replicate 64 0) × (length (replicate 64 zero) ≡ 64)
none_bytes = (all_of (replicate 64 0) (λ i. rw (zeros 64 i) (omega arith)), refl)

module _ (marks : List ℕ) (bytes : AllBytes marks) (long : length marks ≡ 64) (i : ℕ) (l : i < 512) (free : is_marked marks i ≡ false) where
  stored : get_or (marked marks i) (i / 8) 0 ≡ get_or marks (i / 8) 0 + 2 ^ (i % 8)
  unfolding marked
  stored = get_or-set_same marks (i / 8) _ 0 (omega arith)

  -- the mark at a place of the byte that is written
  mark_there : (k : ℕ) → k < 8 → get_or (marked marks i) (i / 8) 0 / 2 ^ k % 2 ≡ cond (eqb k (i % 8)) 1 (get_or marks (i / 8) 0 / 2 ^ k % 2)
  unfolding is_marked one_more
  mark_there k m = rw stored (eqb-true _ _ (all_below_lem 8 _ (both_right _ _ (one_more_lem (i % 8) (get_or marks (i / 8) 0) (omega arith) (byte_at marks (i / 8) bytes) free)) k m))

  pub mark_same : is_marked (marked marks i) i ≡ true
  unfolding is_marked
  mark_same = rw (mark_there (i % 8) (omega arith), eqb_self (i % 8)) refl

  pub mark_other : (j : ℕ) → (i ≡ j → ⊥) → is_marked (marked marks i) j ≡ is_marked marks j
  unfolding is_marked marked
  mark_other j d = go (same? (j / 8) (i / 8))
    where
      go : (j / 8 ≡ i / 8) ⊎ (eqb (j / 8) (i / 8) ≡ false) → is_marked (marked marks i) j ≡ is_marked marks j
      go (inl e) = rw (e, mark_there (j % 8) (omega arith), ne_eqb (j % 8) (i % 8) (λ f. d (omega arith))) refl
      go (inr e) = rw (get_or-set_other marks (i / 8) (j / 8) (get_or marks (i / 8) 0 + 2 ^ (i % 8)) 0 (eqb-false _ _ e)) refl

  pub marked_bytes : AllBytes (marked marks i) × (length (marked marks i) ≡ 64)
  unfolding marked is_marked
  marked_bytes = (all_of (marked marks i) (λ j. go j (same? j (i / 8))), length-set marks (i / 8) _ ∙ long)
    where
      go : (j : ℕ) → (j ≡ i / 8) ⊎ (eqb j (i / 8) ≡ false) → get_or (marked marks i) j 0 < 256
      go j (inl e) = rw (e, stored) (byte_fits (i % 8) _ (omega arith) (byte_at marks (i / 8) bytes) free)
      go j (inr e) = rw (get_or-set_other marks (i / 8) j (get_or marks (i / 8) 0 + 2 ^ (i % 8)) 0 (eqb-false _ _ e)) (byte_at marks j bytes)

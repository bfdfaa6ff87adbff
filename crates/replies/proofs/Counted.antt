-- How many pass a test.
use mathlib.Core.Path.{◌≡◌, refl, sym, ap, ◌∙◌}
use mathlib.Core.Bool.{Bool, true, false, not}
use mathlib.Core.List.{List, [], ◌∷◌}
use Prim.Native.Nat.{◌+◌, ◌≤◌}
use native.Mathlib.Omega.{arith}
use lib.Dec.{ltb}
use lib.ListN.{length}
use borrow.Author.Tests.{lt-ltb}
use Rattle.rules.specs.Tests.{either, bit, any, count, kept, those}

module _ {A : Type 0} where
  -- any, if more than none
  pub any_counted : (test : A → Bool) (xs : List A) → any test xs ≡ ltb 0 (count test xs)
  unfolding any count either
  any_counted test [] = refl
  any_counted test (x ∷ xs) = go (test x) (any_counted test xs)
    where
      go : (b : Bool) → any test xs ≡ ltb 0 (count test xs) → either b (any test xs) ≡ ltb 0 (bit b + count test xs)
      go true e = sym (lt-ltb 0 (1 + count test xs) (omega arith))
      go false e = let z : count test xs ≡ 0 + count test xs = omega arith in e ∙ ap (ltb 0) z

  -- those that pass and those that do not are all
  pub parted_length : (p : A → Bool) (xs : List A) → count p xs + length (those (λ x. not (p x)) xs) ≡ length xs
  unfolding count those
  parted_length p [] = refl
  parted_length p (x ∷ xs) = go (p x) (parted_length p xs)
    where
      go : (b : Bool) → count p xs + length (those (λ y. not (p y)) xs) ≡ length xs → bit b + count p xs + length (kept (not b) x (those (λ y. not (p y)) xs)) ≡ length (x ∷ xs)
      go true h = omega arith
      go false h = omega arith

  pub count_most : (p : A → Bool) (xs : List A) → count p xs ≤ length xs
  count_most p xs = let e = parted_length p xs in omega arith

-- The words in which the other files speak: tests, and lists searched, counted and sifted by a test.
use Rattle.std.specs.Prelude.{Bool, true, false, List, [], ◌∷◌, ℕ, ◌+◌, max, eqb}
use Rattle.std.proofs.Math.Option.{Option, none, some}

unfoldable pub both : Bool → Bool → Bool
both true b = b
both false b = false

unfoldable pub either : Bool → Bool → Bool
either true b = true
either false b = b

abbrev pub bit : Bool → ℕ
bit true = 1
bit false = 0

module _ {A : Type 0} where
  -- some element passes
  unfoldable pub any : (A → Bool) → List A → Bool
  any test [] = false
  any test (x ∷ xs) = either (test x) (any test xs)

  unfoldable pub every : (A → Bool) → List A → Bool
  every test [] = true
  every test (x ∷ xs) = both (test x) (every test xs)

  -- how many pass
  unfoldable pub count : (A → Bool) → List A → ℕ
  count test [] = 0
  count test (x ∷ xs) = bit (test x) + count test xs

  abbrev pub kept : Bool → A → List A → List A
  kept true x xs = x ∷ xs
  kept false x xs = xs

  -- those that pass, in their order
  unfoldable pub those : (A → Bool) → List A → List A
  those test [] = []
  those test (x ∷ xs) = kept (test x) x (those test xs)

  -- the greatest of their numbers; 0 of none
  unfoldable pub greatest : (A → ℕ) → List A → ℕ
  greatest number [] = 0
  greatest number (x ∷ xs) = max (number x) (greatest number xs)

  -- some two of them, or one with itself, stand so to each other
  unfoldable pub some_pair : (A → A → Bool) → List A → Bool
  some_pair test xs = any (λ x. any (test x) xs) xs

  -- one number stands twice
  unfoldable pub twice : (A → ℕ) → List A → Bool
  twice number [] = false
  twice number (x ∷ xs) = either (any (λ y. eqb (number y) (number x)) xs) (twice number xs)

  abbrev pub is_some : Option A → Bool
  is_some (some x) = true
  is_some none = false

  abbrev pub provided : Bool → A → Option A
  provided true x = some x
  provided false x = none

  abbrev pub or_else : Option A → Option A → Option A
  or_else (some x) y = some x
  or_else none y = y

  abbrev pub and_also : Option A → List A → List A
  and_also (some x) xs = x ∷ xs
  and_also none xs = xs

module _ {A B : Type 0} where
  -- what the first that gives something gives
  unfoldable pub first_of : (A → Option B) → List A → Option B
  first_of give [] = none
  first_of give (x ∷ xs) = or_else (give x) (first_of give xs)

  -- all that they give
  unfoldable pub all_of : (A → Option B) → List A → List B
  all_of give [] = []
  all_of give (x ∷ xs) = and_also (give x) (all_of give xs)

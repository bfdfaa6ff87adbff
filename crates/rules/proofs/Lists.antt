-- Laws of lists that are searched, counted and sifted: over `++`, and by their elements.
use mathlib.Core.Path.{◌≡◌, refl, sym, ap, ◌∙◌}
use mathlib.Core.Bool.{Bool, true, false, not}
use mathlib.Core.Logic.{◌⊎◌, inl, inr}
use mathlib.Core.List.Memᴰ
use mathlib.Core.List.{List, [], ◌∷◌, ◌++◌, Memᴰ}
use mathlib.Core.Option.{Option, none, some}
use Prim.Native.Nat.{ℕ, ◌+◌, ◌≤◌, max}
use native.Mathlib.Omega.{arith}
use native.Mathlib.Nat.{zero-max, max-zero, le-max_left, le-max_right, max-le, max-eq_left, max-eq_right}
use lib.Dec.{leb}
use borrow.Author.Tests.{leb-true, leb-false, not-true, not-false}
use Rattle.rules.specs.Tests.{both, either, any, every, count, kept, those, greatest, some_pair, provided, or_else, and_also, first_of, all_of}
use Rattle.rules.proofs.Logic.{impossible, same_test, not_true_of, not_false_of, cases, both_assoc, either_cases, either_left, either_right, either_false, either_assoc}

infix 20 ◌∈◌
abbrev pub ◌∈◌ : {A : Type 0} → A → List A → Type 0
◌∈◌ a l = Memᴰ a l

-- where an element stands in a list that is written out: `search places`
pub ruleset places = (Memᴰ.head, Memᴰ.tail)

pub max_assoc : (a b c : ℕ) → max (max a b) c ≡ max a (max b c)
max_assoc a b c =
    let l : max (max a b) c ≤ max a (max b c) =
    max-le (max-le (le-max_left a (max b c)) (omega (arith, le-max_left b c, le-max_right a (max b c)))) (omega (arith, le-max_right b c, le-max_right a (max b c))) in
    let r : max a (max b c) ≤ max (max a b) c =
    max-le (omega (arith, le-max_left a b, le-max_left (max a b) c)) (max-le (omega (arith, le-max_right a b, le-max_left (max a b) c)) (le-max_right (max a b) c)) in
    omega arith

module _ {A : Type 0} where
  -- ---- over ++

  pub any_append : (test : A → Bool) (xs ys : List A) → any test (xs ++ ys) ≡ either (any test xs) (any test ys)
  unfolding any either
  any_append test [] ys = refl
  any_append test (x ∷ xs) ys = rw (any_append test xs ys) (sym (either_assoc (test x) (any test xs) (any test ys)))

  pub every_append : (test : A → Bool) (xs ys : List A) → every test (xs ++ ys) ≡ both (every test xs) (every test ys)
  unfolding every both
  every_append test [] ys = refl
  every_append test (x ∷ xs) ys = rw (every_append test xs ys) (sym (both_assoc (test x) (every test xs) (every test ys)))

  pub count-append : (test : A → Bool) (xs ys : List A) → count test (xs ++ ys) ≡ count test xs + count test ys
  unfolding count
  count-append test [] ys = omega arith
  count-append test (x ∷ xs) ys = rw (count-append test xs ys) (omega arith)

  pub those-append : (test : A → Bool) (xs ys : List A) → those test (xs ++ ys) ≡ those test xs ++ those test ys
  unfolding those
  those-append test [] ys = refl
  those-append test (x ∷ xs) ys = go (test x) (those-append test xs ys)
    where
      go : (b : Bool) → those test (xs ++ ys) ≡ those test xs ++ those test ys → kept b x (those test (xs ++ ys)) ≡ kept b x (those test xs) ++ those test ys
      go true e = rw e refl
      go false e = e

  pub greatest-append : (number : A → ℕ) (xs ys : List A) → greatest number (xs ++ ys) ≡ max (greatest number xs) (greatest number ys)
  unfolding greatest
  greatest-append number [] ys = sym (zero-max (greatest number ys))
  greatest-append number (x ∷ xs) ys = rw (greatest-append number xs ys) (sym (max_assoc (number x) (greatest number xs) (greatest number ys)))

  -- ---- by their elements

  pub any_none : (test : A → Bool) (xs : List A) → any test xs ≡ false → (x : A) → x ∈ xs → test x ≡ false
  unfolding any
  any_none test [] e x m = absurd (Memᴰ.not-nil m)
  any_none test (y ∷ ys) e x m = go (Memᴰ.cases_cons m) (λ m'. any_none test ys (either_right (test y) (any test ys) e) x m')
    where
      go : (x ≡ y) ⊎ (x ∈ ys) → (x ∈ ys → test x ≡ false) → test x ≡ false
      go (inl q) below = ap test q ∙ either_left (test y) (any test ys) e
      go (inr m') below = below m'

  pub none_any : (test : A → Bool) (xs : List A) → ((x : A) → x ∈ xs → test x ≡ false) → any test xs ≡ false
  unfolding any
  none_any test [] h = refl
  none_any test (y ∷ ys) h = either_false (h y (Memᴰ.head refl)) (none_any test ys (λ x m. h x (Memᴰ.tail m)))

  pub any_some : (test : A → Bool) (xs : List A) → any test xs ≡ true → (x : A) × (x ∈ xs) × (test x ≡ true)
  unfolding any
  any_some test [] e = impossible e refl
  any_some test (y ∷ ys) e = go (either_cases (test y) (any test ys) e) (λ e'. any_some test ys e')
    where
      go : (test y ≡ true) ⊎ (any test ys ≡ true) → (any test ys ≡ true → (x : A) × (x ∈ ys) × (test x ≡ true)) → (x : A) × (x ∈ (y ∷ ys)) × (test x ≡ true)
      go (inl t) below = (y, Memᴰ.head refl, t)
      go (inr t) below = let (x, m, k) = below t in (x, Memᴰ.tail m, k)

  pub some_any : (test : A → Bool) (xs : List A) (x : A) → x ∈ xs → test x ≡ true → any test xs ≡ true
  some_any test xs x m t = go (cases (any test xs))
    where
      go : (any test xs ≡ true) ⊎ (any test xs ≡ false) → any test xs ≡ true
      go (inl e) = e
      go (inr e) = impossible t (any_none test xs e x m)

  -- all pass exactly if none fails
  every_is : (test : A → Bool) (xs : List A) → every test xs ≡ not (any (λ x. not (test x)) xs)
  unfolding every any both either
  every_is test [] = refl
  every_is test (x ∷ xs) = go (test x) (every_is test xs)
    where
      go : (b : Bool) → every test xs ≡ not (any (λ y. not (test y)) xs) → both b (every test xs) ≡ not (either (not b) (any (λ y. not (test y)) xs))
      go true e = e
      go false e = refl

  pub every_one : (test : A → Bool) (xs : List A) → every test xs ≡ true → (x : A) → x ∈ xs → test x ≡ true
  every_one test xs e x m = not-false (test x) (any_none (λ y. not (test y)) xs (not-true _ (sym (every_is test xs) ∙ e)) x m)

  pub all_every : (test : A → Bool) (xs : List A) → ((x : A) → x ∈ xs → test x ≡ true) → every test xs ≡ true
  all_every test xs h = every_is test xs ∙ not_true_of _ (none_any (λ y. not (test y)) xs (λ x m. not_false_of _ (h x m)))

  pub those_of : (test : A → Bool) (xs : List A) (x : A) → x ∈ those test xs → (x ∈ xs) × (test x ≡ true)
  unfolding those
  those_of test [] x m = absurd (Memᴰ.not-nil m)
  those_of test (y ∷ ys) x m = go (test y) refl m (λ m'. those_of test ys x m')
    where
      there : (x ∈ ys) × (test x ≡ true) → (x ∈ (y ∷ ys)) × (test x ≡ true)
      there (m', t) = (Memᴰ.tail m', t)

      here : test y ≡ true → (x ≡ y) ⊎ (x ∈ those test ys) → (x ∈ those test ys → (x ∈ ys) × (test x ≡ true)) → (x ∈ (y ∷ ys)) × (test x ≡ true)
      here e (inl q) below = (Memᴰ.head q, ap test q ∙ e)
      here e (inr m') below = there (below m')

      go : (b : Bool) → test y ≡ b → x ∈ kept b y (those test ys) → (x ∈ those test ys → (x ∈ ys) × (test x ≡ true)) → (x ∈ (y ∷ ys)) × (test x ≡ true)
      go true e m' below = here e (Memᴰ.cases_cons m') below
      go false e m' below = there (below m')

  pub in_those : (test : A → Bool) (xs : List A) (x : A) → x ∈ xs → test x ≡ true → x ∈ those test xs
  unfolding those
  in_those test [] x m t = absurd (Memᴰ.not-nil m)
  in_those test (y ∷ ys) x m t = go (test y) refl (Memᴰ.cases_cons m) (λ m'. in_those test ys x m' t)
    where
      go : (b : Bool) → test y ≡ b → (x ≡ y) ⊎ (x ∈ ys) → (x ∈ ys → x ∈ those test ys) → x ∈ kept b y (those test ys)
      go true e (inl q) below = Memᴰ.head q
      go true e (inr m') below = Memᴰ.tail (below m')
      go false e (inl q) below = impossible (ap test (sym q) ∙ t) e
      go false e (inr m') below = below m'

  -- sifting first by a test that all who pass the other pass changes nothing
  pub those-those : (p test : A → Bool) → ((x : A) → p x ≡ true → test x ≡ true) → (xs : List A) → those p (those test xs) ≡ those p xs
  unfolding those
  those-those p test h [] = refl
  those-those p test h (x ∷ xs) = go (cases (test x)) (cases (p x)) (those-those p test h xs)
    where
      go : (test x ≡ true) ⊎ (test x ≡ false) → (p x ≡ true) ⊎ (p x ≡ false) → those p (those test xs) ≡ those p xs → those p (kept (test x) x (those test xs)) ≡ kept (p x) x (those p xs)
      go (inl t) q e = rw (t, e) refl
      go (inr t) (inl q) e = impossible (h x q) t
      go (inr t) (inr q) e = rw (t, q) e

  pub any-those : (p test : A → Bool) → ((x : A) → p x ≡ true → test x ≡ true) → (xs : List A) → any p (those test xs) ≡ any p xs
  any-those p test h xs = same_test _ _ there back
    where
      there : any p (those test xs) ≡ true → any p xs ≡ true
      there e = let (x, m, k) = any_some p (those test xs) e in some_any p xs x (those_of test xs x m).0 k

      back : any p xs ≡ true → any p (those test xs) ≡ true
      back e = let (x, m, k) = any_some p xs e in some_any p (those test xs) x (in_those test xs x m (h x k)) k

  pub greatest_above : (number : A → ℕ) (xs : List A) (x : A) → x ∈ xs → number x ≤ greatest number xs
  unfolding greatest
  greatest_above number [] x m = absurd (Memᴰ.not-nil m)
  greatest_above number (y ∷ ys) x m = go (Memᴰ.cases_cons m) (λ m'. greatest_above number ys x m')
    where
      go : (x ≡ y) ⊎ (x ∈ ys) → (x ∈ ys → number x ≤ greatest number ys) → number x ≤ max (number y) (greatest number ys)
      go (inl q) below = rw q (le-max_left (number y) (greatest number ys))
      go (inr m') below = omega (arith, below m', le-max_right (number y) (greatest number ys))

  pub greatest_below : (number : A → ℕ) (xs : List A) (k : ℕ) → ((x : A) → x ∈ xs → number x ≤ k) → greatest number xs ≤ k
  unfolding greatest
  greatest_below number [] k h = omega arith
  greatest_below number (y ∷ ys) k h = max-le (h y (Memᴰ.head refl)) (greatest_below number ys k (λ x m. h x (Memᴰ.tail m)))

  -- it is the number of one of them
  pub greatest_is : (number : A → ℕ) (y : A) (ys : List A) → (x : A) × (x ∈ (y ∷ ys)) × (number x ≡ greatest number (y ∷ ys))
  unfolding greatest
  greatest_is number y [] = (y, Memᴰ.head refl, sym (max-zero (number y)))
  greatest_is number y (z ∷ zs) = go (cases (leb (number y) (greatest number (z ∷ zs)))) (greatest_is number z zs)
    where
      go : (leb (number y) (greatest number (z ∷ zs)) ≡ true) ⊎ (leb (number y) (greatest number (z ∷ zs)) ≡ false) → (x : A) × (x ∈ (z ∷ zs)) × (number x ≡ greatest number (z ∷ zs)) → (x : A) × (x ∈ (y ∷ z ∷ zs)) × (number x ≡ max (number y) (greatest number (z ∷ zs)))
      go (inl l) (x, m, e) = (x, Memᴰ.tail m, e ∙ sym (max-eq_right (leb-true _ _ l)))
      go (inr l) (x, m, e) = (y, Memᴰ.head refl, sym (max-eq_left (let h = leb-false (number y) (greatest number (z ∷ zs)) l in omega arith)))

  -- some two of them, or one with itself
  pub pair_none : (test : A → A → Bool) (xs : List A) → some_pair test xs ≡ false → (x y : A) → x ∈ xs → y ∈ xs → test x y ≡ false
  unfolding some_pair
  pair_none test xs e x y mx my = any_none (test x) xs (any_none (λ z. any (test z) xs) xs e x mx) y my

  pub none_pair : (test : A → A → Bool) (xs : List A) → ((x y : A) → x ∈ xs → y ∈ xs → test x y ≡ false) → some_pair test xs ≡ false
  unfolding some_pair
  none_pair test xs h = none_any (λ x. any (test x) xs) xs (λ x m. none_any (test x) xs (λ y n. h x y m n))

  pub provided_some : (b : Bool) (x y : A) → provided b x ≡ some y → (b ≡ true) × (x ≡ y)
  provided_some true x y e = (refl, cc)
  provided_some false x y e = let c : ◌≡◌ {A = ℕ} 0 1 = cc in absurd (omega arith)

  pub provided_none : (b : Bool) (x : A) → provided b x ≡ none → b ≡ false
  provided_none true x e = let c : ◌≡◌ {A = ℕ} 0 1 = cc in absurd (omega arith)
  provided_none false x e = refl

-- ---- what the first gives, and what all give

module _ {A B : Type 0} (give : A → Option B) where
  pub first_from : (xs : List A) (y : B) → first_of give xs ≡ some y → (x : A) × (x ∈ xs) × (give x ≡ some y)
  unfolding first_of
  first_from [] y e = let z : ◌≡◌ {A = ℕ} 0 1 = cc in absurd (omega arith)
  first_from (x ∷ xs) y e = go (give x) refl e (λ e'. first_from xs y e')
    where
      go : (g : Option B) → give x ≡ g → or_else g (first_of give xs) ≡ some y → (first_of give xs ≡ some y → (x' : A) × (x' ∈ xs) × (give x' ≡ some y)) → (x' : A) × (x' ∈ (x ∷ xs)) × (give x' ≡ some y)
      go (some z) eg e' below = (x, Memᴰ.head refl, eg ∙ e')
      go none eg e' below = let (x', m, k) = below e' in (x', Memᴰ.tail m, k)

  pub first_none : (xs : List A) → first_of give xs ≡ none → (x : A) → x ∈ xs → give x ≡ none
  unfolding first_of
  first_none [] e x m = absurd (Memᴰ.not-nil m)
  first_none (y ∷ ys) e x m = go (give y) refl e (Memᴰ.cases_cons m) (λ e' m'. first_none ys e' x m')
    where
      go : (g : Option B) → give y ≡ g → or_else g (first_of give ys) ≡ none → (x ≡ y) ⊎ (x ∈ ys) → (first_of give ys ≡ none → x ∈ ys → give x ≡ none) → give x ≡ none
      go (some z) eg e' q below = let c : ◌≡◌ {A = ℕ} 0 1 = cc in absurd (omega arith)
      go none eg e' (inl q) below = ap give q ∙ eg
      go none eg e' (inr m') below = below e' m'

  pub none_first : (xs : List A) → ((x : A) → x ∈ xs → give x ≡ none) → first_of give xs ≡ none
  unfolding first_of
  none_first [] h = refl
  none_first (y ∷ ys) h = rw (h y (Memᴰ.head refl), none_first ys (λ x m. h x (Memᴰ.tail m))) refl

  -- what is given is found, if all that give it give the same
  pub first_is : (xs : List A) (x : A) (y : B) → x ∈ xs → give x ≡ some y → ((z : A) (w : B) → z ∈ xs → give z ≡ some w → w ≡ y) → first_of give xs ≡ some y
  first_is xs x y m e one = go (first_of give xs) refl
    where
      go : (g : Option B) → first_of give xs ≡ g → first_of give xs ≡ some y
      go (some w) eg = let (z, mz, ez) = first_from xs w eg in eg ∙ ap some (one z w mz ez)
      go none eg = let n = first_none xs eg x m in let c : ◌≡◌ {A = ℕ} 0 1 = cc in absurd (omega arith)

  pub all_from : (xs : List A) (y : B) → y ∈ all_of give xs → (x : A) × (x ∈ xs) × (give x ≡ some y)
  unfolding all_of
  all_from [] y m = absurd (Memᴰ.not-nil m)
  all_from (x ∷ xs) y m = go (give x) refl m (λ m'. all_from xs y m')
    where
      there : (x' : A) × (x' ∈ xs) × (give x' ≡ some y) → (x' : A) × (x' ∈ (x ∷ xs)) × (give x' ≡ some y)
      there (x', m', e) = (x', Memᴰ.tail m', e)

      go : (g : Option B) → give x ≡ g → y ∈ and_also g (all_of give xs) → (y ∈ all_of give xs → (x' : A) × (x' ∈ xs) × (give x' ≡ some y)) → (x' : A) × (x' ∈ (x ∷ xs)) × (give x' ≡ some y)
      go none eg m' below = there (below m')
      go (some z) eg m' below = here (Memᴰ.cases_cons m')
        where
          here : (y ≡ z) ⊎ (y ∈ all_of give xs) → (x' : A) × (x' ∈ (x ∷ xs)) × (give x' ≡ some y)
          here (inl q) = (x, Memᴰ.head refl, eg ∙ ap some (sym q))
          here (inr m'') = there (below m'')

  pub in_all : (xs : List A) (x : A) (y : B) → x ∈ xs → give x ≡ some y → y ∈ all_of give xs
  unfolding all_of
  in_all [] x y m e = absurd (Memᴰ.not-nil m)
  in_all (z ∷ zs) x y m e = go (give z) refl (Memᴰ.cases_cons m) (λ m'. in_all zs x y m' e)
    where
      go : (g : Option B) → give z ≡ g → (x ≡ z) ⊎ (x ∈ zs) → (x ∈ zs → y ∈ all_of give zs) → y ∈ and_also g (all_of give zs)
      go none eg (inl q) below = let w : give x ≡ none = ap give q ∙ eg in let c : ◌≡◌ {A = ℕ} 0 1 = cc in absurd (omega arith)
      go none eg (inr m') below = below m'
      go (some w) eg (inl q) below = let k : give x ≡ some w = ap give q ∙ eg in let yw : y ≡ w = cc in Memᴰ.head yw
      go (some w) eg (inr m') below = Memᴰ.tail (below m')

-- Lists that differ in their order alone, and what stays the same over them: a merge's tables and a count's replies come in any order.
use mathlib.Core.Path.{◌≡◌, refl, sym, ap, ap₂, fun_ext, ◌∙◌}
use mathlib.Core.Bool.{Bool, true, false}
use mathlib.Core.Logic.{◌⊎◌, inl, inr}
use mathlib.Core.List.Memᴰ
use mathlib.Core.List.{List, [], ◌∷◌}
use mathlib.Core.Option.{Option, none, some}
use Prim.Native.Nat.{ℕ, ◌+◌, max}
use native.Mathlib.Omega.{arith}
use native.Mathlib.Nat.{max_comm}
use lib.Dec.{eqb}
use lib.ListN.{length}
use Rattle.rules.specs.Tests.{both, either, bit, any, every, count, kept, those, greatest, some_pair, twice, and_also, first_of, all_of}
use Rattle.rules.proofs.Logic.{either_assoc, either_comm, eqb_sym, both_swap}
use Rattle.rules.proofs.Lists.{◌∈◌, max_assoc, first_from, first_none, none_first, first_is}

-- the same elements, as often, in any order
pub data Reordered {A : Type 0} : List A → List A → Type 0 where
  same : {xs : List A} → Reordered xs xs
  swapped : {x y : A} {xs : List A} → Reordered (x ∷ y ∷ xs) (y ∷ x ∷ xs)
  under : {x : A} {xs ys : List A} → Reordered xs ys → Reordered (x ∷ xs) (x ∷ ys)
  then : {xs ys zs : List A} → Reordered xs ys → Reordered ys zs → Reordered xs zs

-- an operation that may take its arguments in another order
abbrev Swaps : {C : Type 0} → (C → C → C) → Type 0
Swaps {C} op = (a b c : C) → op a (op b c) ≡ op b (op a c)

swaps : {C : Type 0} (op : C → C → C) → ((a b c : C) → op (op a b) c ≡ op a (op b c)) → ((a b : C) → op a b ≡ op b a) → Swaps op
swaps op assoc comm a b c = sym (assoc a b c) ∙ ap (λ d. op d c) (comm a b) ∙ assoc b a c

either_swaps : Swaps either
either_swaps = swaps either either_assoc either_comm

both_swaps : Swaps both
both_swaps = both_swap

module _ {A : Type 0} where
  pub reordered_back : {xs ys : List A} → Reordered xs ys → Reordered ys xs
  reordered_back same = same
  reordered_back swapped = swapped
  reordered_back (under p) = under (reordered_back p)
  reordered_back (then p q) = then (reordered_back q) (reordered_back p)

  pub reordered_in : {xs ys : List A} {a : A} → Reordered xs ys → a ∈ xs → a ∈ ys
  reordered_in same m = m
  reordered_in {a = a} (swapped {x = x} {y = y} {xs = xs}) m = go (Memᴰ.cases_cons m)
    where
      second : (a ≡ y) ⊎ (a ∈ xs) → a ∈ (y ∷ x ∷ xs)
      second (inl e) = Memᴰ.head e
      second (inr m') = Memᴰ.tail (Memᴰ.tail m')

      go : (a ≡ x) ⊎ (a ∈ (y ∷ xs)) → a ∈ (y ∷ x ∷ xs)
      go (inl e) = Memᴰ.tail (Memᴰ.head e)
      go (inr m') = second (Memᴰ.cases_cons m')
  reordered_in {a = a} (under {x = x} {xs = xs} {ys = ys} p) m = go (Memᴰ.cases_cons m) (λ m'. reordered_in p m')
    where
      go : (a ≡ x) ⊎ (a ∈ xs) → (a ∈ xs → a ∈ ys) → a ∈ (x ∷ ys)
      go (inl e) below = Memᴰ.head e
      go (inr m') below = Memᴰ.tail (below m')
  reordered_in (then p q) m = reordered_in q (reordered_in p m)

  -- what sees neither a swap of the first two nor an order under the first sees no order at all
  pub any_order : {C : Type 0} (f : List A → C) → ((x y : A) (xs : List A) → f (x ∷ y ∷ xs) ≡ f (y ∷ x ∷ xs)) → ((x : A) (xs ys : List A) → Reordered xs ys → f xs ≡ f ys → f (x ∷ xs) ≡ f (x ∷ ys)) → {xs ys : List A} → Reordered xs ys → f xs ≡ f ys
  any_order f swap below same = refl
  any_order f swap below (swapped {x = x} {y = y} {xs = xs}) = swap x y xs
  any_order f swap below (under {x = x} {xs = xs} {ys = ys} p) = below x xs ys p (any_order f swap below p)
  any_order f swap below (then p q) = any_order f swap below p ∙ any_order f swap below q

  -- such is what adds up its elements by an operation that swaps
  sum_kept : {C : Type 0} (op : C → C → C) → Swaps op → (part : A → C) (f : List A → C) → ((x : A) (xs : List A) → f (x ∷ xs) ≡ op (part x) (f xs)) → {xs ys : List A} → Reordered xs ys → f xs ≡ f ys
  sum_kept op swap part f step p =
      any_order f
      (λ x y xs. rw (step x (y ∷ xs), step y xs, step y (x ∷ xs), step x xs) (swap (part x) (part y) (f xs)))
      (λ x xs ys q e. rw (step x xs, step x ys, e)) p

  -- and what looks at the first alone, if all look the same
  pub head_kept : {C : Type 0} (f : List A → C) (look : A → C) → ((x : A) (xs : List A) → f (x ∷ xs) ≡ look x) → (xs ys : List A) → Reordered xs ys → ((x y : A) → x ∈ xs → y ∈ xs → look x ≡ look y) → f xs ≡ f ys
  head_kept f look first [] [] p one = refl
  head_kept f look first [] (y ∷ ys) p one = absurd (Memᴰ.not-nil (reordered_in (reordered_back p) (Memᴰ.head refl)))
  head_kept f look first (x ∷ xs) [] p one = absurd (Memᴰ.not-nil (reordered_in p (Memᴰ.head refl)))
  head_kept f look first (x ∷ xs) (y ∷ ys) p one = first x xs ∙ one x y (Memᴰ.head refl) (reordered_in (reordered_back p) (Memᴰ.head refl)) ∙ sym (first y ys)

  pub length_kept : {xs ys : List A} → Reordered xs ys → length xs ≡ length ys
  length_kept p = sum_kept ◌+◌ (λ a b c. omega arith) (λ x. 1) length (λ x xs. omega arith) p

  module _ (test : A → Bool) where
    pub any_kept : {xs ys : List A} → Reordered xs ys → any test xs ≡ any test ys
    unfolding any
    any_kept p = sum_kept either either_swaps test (any test) (λ x xs. refl) p

    pub every_kept : {xs ys : List A} → Reordered xs ys → every test xs ≡ every test ys
    unfolding every
    every_kept p = sum_kept both both_swaps test (every test) (λ x xs. refl) p

    pub count_kept : {xs ys : List A} → Reordered xs ys → count test xs ≡ count test ys
    unfolding count
    count_kept p = sum_kept ◌+◌ (λ a b c. omega arith) (λ x. bit (test x)) (count test) (λ x xs. refl) p

    pub those_reordered : {xs ys : List A} → Reordered xs ys → Reordered (those test xs) (those test ys)
    unfolding those
    those_reordered same = same
    those_reordered (swapped {x = x} {y = y} {xs = xs}) = go (test x) (test y)
      where
        go : (a b : Bool) → Reordered (kept a x (kept b y (those test xs))) (kept b y (kept a x (those test xs)))
        go true true = swapped
        go true false = same
        go false true = same
        go false false = same
    those_reordered (under {x = x} {xs = xs} {ys = ys} p) = go (test x) (those_reordered p)
      where
        go : (a : Bool) → Reordered (those test xs) (those test ys) → Reordered (kept a x (those test xs)) (kept a x (those test ys))
        go true q = under q
        go false q = q
    those_reordered (then p q) = then (those_reordered p) (those_reordered q)

  pub some_pair-kept : (test : A → A → Bool) {xs ys : List A} → Reordered xs ys → some_pair test xs ≡ some_pair test ys
  unfolding some_pair
  some_pair-kept test {xs} {ys} p = any_kept (λ x. any (test x) xs) p ∙ ap (λ t. any t ys) (fun_ext (λ x. any_kept (test x) p))

  module _ (number : A → ℕ) where
    pub greatest_kept : {xs ys : List A} → Reordered xs ys → greatest number xs ≡ greatest number ys
    unfolding greatest
    greatest_kept p = sum_kept max (swaps max max_assoc max_comm) number (greatest number) (λ x xs. refl) p

    pub twice_kept : {xs ys : List A} → Reordered xs ys → twice number xs ≡ twice number ys
    unfolding twice any
    twice_kept p =
        any_order (twice number) (λ x y xs. rw (eqb_sym (number y) (number x)) (cross (eqb (number x) (number y)) _ _ _))
        (λ x xs ys q e. ap₂ either (any_kept (λ y. eqb (number y) (number x)) q) e) p
      where
        cross : (e a b t : Bool) → either (either e a) (either b t) ≡ either (either e b) (either a t)
        cross e a b t = rw (either_assoc e a (either b t), either_assoc e b (either a t), either_swaps a b t)

-- ---- what the first gives, and what all give

module _ {A B : Type 0} (give : A → Option B) where
  pub all_of-reordered : {xs ys : List A} → Reordered xs ys → Reordered (all_of give xs) (all_of give ys)
  unfolding all_of
  all_of-reordered same = same
  all_of-reordered (swapped {x = x} {y = y} {xs = xs}) = go (give x) (give y)
    where
      go : (a b : Option B) → Reordered (and_also a (and_also b (all_of give xs))) (and_also b (and_also a (all_of give xs)))
      go none b = same
      go (some a) none = same
      go (some a) (some b) = swapped
  all_of-reordered (under {x = x} {xs = xs} {ys = ys} p) = go (give x) (all_of-reordered p)
    where
      go : (a : Option B) → Reordered (all_of give xs) (all_of give ys) → Reordered (and_also a (all_of give xs)) (and_also a (all_of give ys))
      go none q = q
      go (some a) q = under q
  all_of-reordered (then p q) = then (all_of-reordered p) (all_of-reordered q)

  -- all that is given is the same
  abbrev pub GiveOne : List A → Type 0
  GiveOne xs = (x y : A) (a b : B) → x ∈ xs → y ∈ xs → give x ≡ some a → give y ≡ some b → a ≡ b

  pub first_of-kept : {xs ys : List A} → GiveOne xs → Reordered xs ys → first_of give xs ≡ first_of give ys
  first_of-kept {xs} {ys} one p = go (first_of give xs) refl
    where
      go : (g : Option B) → first_of give xs ≡ g → first_of give xs ≡ first_of give ys
      go none e = e ∙ sym (none_first give ys (λ x m. first_none give xs e x (reordered_in (reordered_back p) m)))
      go (some b) e =
          let (x, m, k) = first_from give xs b e in
          e ∙ sym (first_is give ys x b (reordered_in p m) k (λ z w mz ez. one z x w b (reordered_in (reordered_back p) mz) m ez k))

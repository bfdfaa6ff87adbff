-- Lists that are read element by element: one element more, and what stands at a place.
use mathlib.Core.Path.{◌≡◌, refl, sym, ap, ap₂, subst}
use mathlib.Core.Logic.{◌⊎◌, inl, inr}
use mathlib.Core.List.Memᴰ
use mathlib.Core.List.{List, [], ◌∷◌, ◌++◌, map}
use mathlib.Core.Option.{Option, none, some}
use Prim.Native.Nat.{ℕ, zero, suc}
use lib.ListN.{length}
use Rattle.rules.specs.Tests.{all_of}
use Rattle.history.specs.Survival.{◌∈◌, at}

pub map_last : {A B : Type 0} (f : A → B) (xs : List A) (x : A) → map f (xs ++ (x ∷ [])) ≡ map f xs ++ (f x ∷ [])
map_last f [] x = refl
map_last f (y ∷ ys) x = ap (λ zs. f y ∷ zs) (map_last f ys x)

-- the element at a place of a list that was read
abbrev pub mapped : {A B : Type 0} → (A → B) → Option A → Option B
mapped f none = none
mapped f (some x) = some (f x)

pub map_at : {A B : Type 0} (f : A → B) (xs : List A) (k : ℕ) → at (map f xs) k ≡ mapped f (at xs k)
unfolding at
map_at f [] k = refl
map_at f (x ∷ xs) zero = refl
map_at f (x ∷ xs) (suc k) = map_at f xs k

-- the place of an element, and the places of some elements
abbrev pub place_of_lem : {A : Type 0} (xs : List A) (x : A) → x ∈ xs → (k : ℕ) × (at xs k ≡ some x)
unfolding at
place_of_lem [] x m = absurd (Memᴰ.not-nil m)
place_of_lem {A} (y ∷ ys) x m = go (λ i. place_of_lem ys x i) (Memᴰ.cases_cons m)
  where
    go : (x ∈ ys → (k : ℕ) × (at ys k ≡ some x)) → (x ≡ y) ⊎ (x ∈ ys) → (k : ℕ) × (at (y ∷ ys) k ≡ some x)
    go deeper (inl e) = (0, ap some (sym e))
    go deeper (inr i) = let (k, e) = deeper i in (suc k, e)

abbrev pub places_of : {A : Type 0} (xs ys : List A) → ((y : A) → y ∈ ys → y ∈ xs) → (ks : List ℕ) × (all_of (at xs) ks ≡ ys)
unfolding all_of
places_of xs [] among = ([], refl)
places_of xs (y ∷ ys) among =
    let (k, e) = place_of_lem xs y (among y (Memᴰ.head refl)) in
    let (ks, more) = places_of xs ys (λ z m. among z (Memᴰ.tail m)) in
    (k ∷ ks, rw (e, more) refl)

-- two readings that agree on the elements
pub map_same : {A B : Type 0} (f g : A → B) (xs : List A) → ((x : A) → x ∈ xs → f x ≡ g x) → map f xs ≡ map g xs
map_same f g [] each = refl
map_same f g (x ∷ xs) each = ap₂ ◌∷◌ (each x (Memᴰ.head refl)) (map_same f g xs (λ y m. each y (Memᴰ.tail m)))

-- what holds of what is read of each element holds of each of those
pub each_mapped : {A B : Type 0} (P : B → Type 0) (f : A → B) (xs : List A) → ((x : A) → x ∈ xs → P (f x)) → (y : B) → y ∈ map f xs → P y
each_mapped P f xs each y m = let (x, i, e) = Memᴰ.of_map f xs m in subst P e (each x i)

-- the place behind all others
pub at_last : {A : Type 0} (xs : List A) (x : A) → at (xs ++ (x ∷ [])) (length xs) ≡ some x
unfolding at
at_last [] x = refl
at_last (y ∷ ys) x = at_last ys x

-- Places of an array that are filled one after the other, and read again.
use mathlib.Core.Path.{◌≡◌, refl, ap}
use mathlib.Core.Logic.{◌⊎◌, inl, inr}
use mathlib.Core.List.{List, [], ◌∷◌, map}
use Prim.Native.Nat.{ℕ, zero, suc, ◌+◌, ◌≤◌}
use native.Mathlib.Omega.{arith}
use lib.ListN.{length, set, replicate}
use Rattle.rules.specs.Tables.{Table, valley}
use Rattle.image_run.specs.Inner.WholeRuns.{tables_of}
use Rattle.image_run.proofs.TablesWalked.{none_left}
use Rattle.gather.specs.Inner.Cursors.{padded}

-- these put into an array, from a place on
unfoldable pub filled_from : {A : Type 0} → ℕ → List A → List A → List A
filled_from k array [] = array
filled_from k array (x ∷ xs) = filled_from (k + 1) (set array k x) xs

pub filled_on : {A : Type 0} (k : ℕ) (array : List A) (x : A) (xs : List A) → filled_from k array (x ∷ xs) ≡ filled_from (k + 1) (set array k x) xs
unfolding filled_from
filled_on k array x xs = refl

pub filled_end : {A : Type 0} (k : ℕ) (array : List A) → filled_from k array [] ≡ array
unfolding filled_from
filled_end k array = refl

pub filled_padded : {A : Type 0} (filler : A) (xs : List A) → length xs ≤ 4 → filled_from 0 (replicate 4 filler) xs ≡ padded 4 filler xs
unfolding filled_from padded
filled_padded filler [] l = refl
filled_padded filler (a ∷ []) l = refl
filled_padded filler (a ∷ b ∷ []) l = refl
filled_padded filler (a ∷ b ∷ c ∷ []) l = refl
filled_padded filler (a ∷ b ∷ c ∷ d ∷ []) l = refl
filled_padded filler (a ∷ b ∷ c ∷ d ∷ e ∷ xs) l = absurd (omega arith)

-- what is left of an array has these, and then the filler
pub record HasAll {A : Type 0} (filler : A) (array xs : List A) : Type 0 where
  pub size : ℕ
  pub is : array ≡ padded size filler xs
  pub few : length xs ≤ size

pub has_all_four : {A : Type 0} (filler : A) (array xs : List A) → array ≡ padded 4 filler xs → length xs ≤ 4 → HasAll filler array xs
has_all_four filler array xs e l = record { size = 4; is = e; few = l }

pub has_next : {A : Type 0} (filler a x : A) (array xs : List A) → HasAll filler (a ∷ array) (x ∷ xs) → (a ≡ x) × HasAll filler array xs
unfolding padded
has_next filler a x array xs h = go h.size h.is h.few
  where
    go : (n : ℕ) → a ∷ array ≡ padded n filler (x ∷ xs) → length (x ∷ xs) ≤ n → (a ≡ x) × HasAll filler array xs
    go zero e l = absurd (omega arith)
    go (suc n) e l = (cc, record { size = n; is = cc; few = omega arith })

pub has_none : {A : Type 0} (filler : A) (array xs : List A) → length array ≡ 0 → HasAll filler array xs → xs ≡ []
unfolding padded
has_none filler array [] none h = refl
has_none filler array (x ∷ xs) none h = go h.size h.is h.few
  where
    go : (n : ℕ) → array ≡ padded n filler (x ∷ xs) → length (x ∷ xs) ≤ n → x ∷ xs ≡ []
    go zero e l = absurd (omega arith)
    go (suc n) e l = let k = ap length e in absurd (omega arith)

-- of images that are walked with an array beside them none is left, if the array has an end
pub none_beside : {A : Type 0} (filler : A) (array : List A) (number : Table → A) (rest : List ℕ) → HasAll filler array (map number (tables_of valley rest)) → (rest ≡ []) ⊎ (length array ≡ 0) → tables_of valley rest ≡ []
none_beside filler array number rest h (inl e) = none_left rest e
none_beside filler array number rest h (inr e) = go (tables_of valley rest) (has_none filler array (map number (tables_of valley rest)) e h)
  where
    go : (Ts : List Table) → map number Ts ≡ [] → Ts ≡ []
    go [] k = refl
    go (T ∷ Ts) k = absurd cc

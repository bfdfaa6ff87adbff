-- The stamps of the used tables, one after the other: those below the next one are passed.
use mathlib.Core.Path.{◌≡◌, refl, ap}
use mathlib.Core.Bool.{true, false}
use mathlib.Core.Logic.{◌⊎◌, inl, inr}
use mathlib.Core.List.Memᴰ
use mathlib.Core.List.{List, [], ◌∷◌, ◌++◌}
use Prim.Native.Nat.{ℕ, suc, ◌≤◌, ◌<◌, ◌^◌}
use native.Mathlib.Omega.{arith}
use lib.Dec.{ltb}
use borrow.Author.Tests.{ltb-true, ltb-false, lt-ltb, le-ltb}
use Rattle.rules.specs.Tests.{kept, those}
use Rattle.rules.proofs.Logic.{cases}
use Rattle.rules.proofs.Lists.{◌∈◌}
use Rattle.rules.proofs.Stamps.{RisingFrom, rising_least}
use Rattle.gather.specs.Inner.Stamps.{next_after}
use Rattle.gather.proofs.NextStamps.{Stamped, next_here, next_past}

-- the stamps below one
unfoldable pub below : ℕ → List ℕ → List ℕ
below x ss = those (λ s. ltb s x) ss

below_cons : (x s : ℕ) (ss : List ℕ) → below x (s ∷ ss) ≡ kept (ltb s x) s (below x ss)
unfolding below those
below_cons x s ss = refl

below_nil : (x : ℕ) → below x [] ≡ []
unfolding below those
below_nil x = refl

-- none is below one that is not above the least
below_none : (x low : ℕ) (ss : List ℕ) → RisingFrom low ss → x ≤ low → below x ss ≡ []
unfolding below those
below_none x low [] h l = refl
below_none x low (s ∷ ss) (k, h) l = rw (le-ltb s x (omega arith)) (below_none x (suc s) ss h (omega arith))

-- all are, of one above all stamps
pub below_all : (x : ℕ) (ss : List ℕ) → Stamped ss → 2 ^ 48 ≤ x → below x ss ≡ ss
unfolding below those
below_all x [] h l = refl
below_all x (s ∷ ss) h l = let k = (h s (Memᴰ.head refl)).1 in rw (lt-ltb s x (omega arith)) (ap (λ (z : List ℕ). s ∷ z) (below_all x ss (λ t m. h t (Memᴰ.tail m)) l))

-- what comes next is above
pub next_above : (last : ℕ) (ss : List ℕ) → last < 2 ^ 48 → last < next_after last ss
unfolding next_after
next_above last [] l = l
next_above last (s ∷ ss) l = go (cases (ltb last s)) (next_above last ss l)
  where
    go : (ltb last s ≡ true) ⊎ (ltb last s ≡ false) → last < next_after last ss → last < next_after last (s ∷ ss)
    go (inl e) later = rw (next_here last s ss (ltb-true last s e)) (ltb-true last s e)
    go (inr e) later = rw (next_past last s ss (ltb-false last s e)) later

-- and so is a stamp that comes next, whatever the last one is
pub next_is_above : (last : ℕ) (ss : List ℕ) → next_after last ss < 2 ^ 48 → last < next_after last ss
unfolding next_after
next_is_above last [] l = absurd (omega arith)
next_is_above last (s ∷ ss) l = go (cases (ltb last s)) (next_is_above last ss)
  where
    go : (ltb last s ≡ true) ⊎ (ltb last s ≡ false) → (next_after last ss < 2 ^ 48 → last < next_after last ss) → last < next_after last (s ∷ ss)
    go (inl e) later = rw (next_here last s ss (ltb-true last s e)) (ltb-true last s e)
    go (inr e) later = let p = next_past last s ss (ltb-false last s e) in rw p (later (rw p at l))

-- a next stamp is one of them
pub next_in : (last : ℕ) (ss : List ℕ) → next_after last ss < 2 ^ 48 → next_after last ss ∈ ss
unfolding next_after
next_in last [] l = absurd (omega arith)
next_in last (s ∷ ss) l = go (cases (ltb last s)) (next_in last ss)
  where
    go : (ltb last s ≡ true) ⊎ (ltb last s ≡ false) → (next_after last ss < 2 ^ 48 → next_after last ss ∈ ss) → next_after last (s ∷ ss) ∈ (s ∷ ss)
    go (inl e) later = Memᴰ.head (next_here last s ss (ltb-true last s e))
    go (inr e) later =
        let p = next_past last s ss (ltb-false last s e) in
        rw p (Memᴰ.tail (later (rw p at l)))

-- none is passed at first
pub below_first : (low : ℕ) (ss : List ℕ) → RisingFrom (suc low) ss → below (next_after low ss) ss ≡ []
below_first low [] h = below_nil (next_after low [])
below_first low (s ∷ ss) (k, h) = rw (next_here low s ss (omega arith)) (below_none s s (s ∷ ss) (omega arith, h) (omega arith))

-- and one more after each turn
pub below_next : (stamp low : ℕ) (ss : List ℕ) → RisingFrom low ss → Stamped ss → stamp ∈ ss → below (next_after stamp ss) ss ≡ below stamp ss ++ (stamp ∷ [])
below_next stamp low [] rise h m = absurd (Memᴰ.not-nil m)
below_next stamp low (s ∷ ss) (k, rise) h m = go (Memᴰ.cases_cons m) (λ m'. below_next stamp (suc s) ss rise (λ t n. h t (Memᴰ.tail n)) m')
  where
    go : (stamp ≡ s) ⊎ (stamp ∈ ss) → (stamp ∈ ss → below (next_after stamp ss) ss ≡ below stamp ss ++ (stamp ∷ [])) → below (next_after stamp (s ∷ ss)) (s ∷ ss) ≡ below stamp (s ∷ ss) ++ (stamp ∷ [])
    go (inl e) later =
        let l : s < 2 ^ 48 = (h s (Memᴰ.head refl)).1 in
        let up : s < next_after s ss = next_above s ss l in
        rw (e, next_past s s ss (omega arith), below_cons (next_after s ss) s ss, lt-ltb s (next_after s ss) up, below_first s ss rise, below_none s s (s ∷ ss) (omega arith, rise) (omega arith)) refl
    go (inr n) later =
        let l : suc s ≤ stamp = rising_least (suc s) ss rise stamp n in
        let k : stamp < 2 ^ 48 = (h stamp (Memᴰ.tail n)).1 in
        let up : stamp < next_after stamp ss = next_above stamp ss k in
        rw (next_past stamp s ss (omega arith), below_cons (next_after stamp ss) s ss, below_cons stamp s ss, lt-ltb s (next_after stamp ss) (omega arith), lt-ltb s stamp (omega arith)) (ap (λ (z : List ℕ). s ∷ z) (later n))

-- Rows in rising order: each stamp once, the row that is held, one row changed, one row more.
use mathlib.Core.Path.{◌≡◌, refl, sym, ap, ◌∙◌}
use mathlib.Core.Bool.{Bool, true, false, cond}
use mathlib.Core.Logic.{◌⊎◌, inl, inr}
use mathlib.Core.List.Memᴰ
use mathlib.Core.List.{List, [], ◌∷◌}
use mathlib.Core.Option.{Option, none, some}
use Prim.Native.Nat.{ℕ, suc, ◌≤◌, ◌<◌}
use native.Mathlib.Omega.{arith}
use lib.Dec.{eqb, ltb}
use lib.ListN.{length}
use borrow.Author.Tests.{ltb-true, ltb-false, lt-ltb, ne_eqb, eqb-true, eq-eqb}
use Rattle.rules.specs.Tests.{provided, or_else, first_of}
use Rattle.rules.specs.Tables.{Row, rising}
use Rattle.rules.specs.Messages.{held, changed, added}
use Rattle.rules.proofs.Logic.{cases, both_left, both_right, both_true, same?, eqb_self}
use Rattle.rules.proofs.Lists.{◌∈◌, provided_some, first_from, first_none, none_first, first_is}

-- ---- rising rows

pub rising_above : (low : ℕ) (rows : List Row) → rising low rows ≡ true → (r : Row) → r ∈ rows → low < r.stamp
unfolding rising
rising_above low [] h r m = absurd (Memᴰ.not-nil m)
rising_above low (q ∷ qs) h r m = go (Memᴰ.cases_cons m) (λ m'. rising_above q.stamp qs (both_right _ _ h) r m')
  where
    go : (r ≡ q) ⊎ (r ∈ qs) → (r ∈ qs → q.stamp < r.stamp) → low < r.stamp
    go (inl e) below = rw e (ltb-true _ _ (both_left _ _ h))
    go (inr m') below = let l = ltb-true low q.stamp (both_left _ _ h) in let k = below m' in omega arith

-- each stamp once
pub stamp_once : (low : ℕ) (rows : List Row) → rising low rows ≡ true → (r q : Row) → r ∈ rows → q ∈ rows → r.stamp ≡ q.stamp → r ≡ q
unfolding rising
stamp_once low [] h r q m n e = absurd (Memᴰ.not-nil m)
stamp_once low (p ∷ ps) h r q m n e = go (Memᴰ.cases_cons m) (Memᴰ.cases_cons n) (λ m' n'. stamp_once p.stamp ps (both_right _ _ h) r q m' n' e)
  where
    above : (u : Row) → u ∈ ps → p.stamp < u.stamp
    above u k = rising_above p.stamp ps (both_right _ _ h) u k

    go : (r ≡ p) ⊎ (r ∈ ps) → (q ≡ p) ⊎ (q ∈ ps) → (r ∈ ps → q ∈ ps → r ≡ q) → r ≡ q
    go (inl a) (inl b) below = a ∙ sym b
    go (inl a) (inr n') below = let l = above q n' in let k : r.stamp ≡ p.stamp = ap (λ (u : Row). u.stamp) a in absurd (omega arith)
    go (inr m') (inl b) below = let l = above r m' in let k : q.stamp ≡ p.stamp = ap (λ (u : Row). u.stamp) b in absurd (omega arith)
    go (inr m') (inr n') below = below m' n'

-- ---- the row that is held

pub held_cons : (r : Row) (rs : List Row) (s : ℕ) → held (r ∷ rs) s ≡ cond (eqb r.stamp s) (some r) (held rs s)
unfolding held first_of
held_cons r rs s = go (eqb r.stamp s)
  where
    go : (b : Bool) → or_else (provided b r) (held rs s) ≡ cond b (some r) (held rs s)
    go true = refl
    go false = refl

provided_is : (r q : Row) (s : ℕ) → provided (eqb r.stamp s) r ≡ some q → (q ≡ r) × (r.stamp ≡ s)
provided_is r q s h = let (t, e) = provided_some (eqb r.stamp s) r q h in (sym e, eqb-true r.stamp s t)

pub held_from_lem : (rows : List Row) (s : ℕ) (r : Row) → held rows s ≡ some r → (r ∈ rows) × (r.stamp ≡ s)
unfolding held
held_from_lem rows s r h =
    let (q, m, e) = first_from (λ q. provided (eqb q.stamp s) q) rows r h in
    let (i, k) = provided_is q r s e in
    (rw i m, rw i k)

pub held_not : (rows : List Row) (s : ℕ) → held rows s ≡ none → (r : Row) → r ∈ rows → r.stamp ≡ s → ⊥
unfolding held
held_not rows s h r m e =
    let k : provided (eqb r.stamp s) r ≡ none = first_none (λ q. provided (eqb q.stamp s) q) rows h r m in
    let l : provided true r ≡ none = rw (eq-eqb r.stamp s e) at k in
    let z : ◌≡◌ {A = ℕ} 0 1 = cc in
    omega arith

pub not_held : (rows : List Row) (s : ℕ) → ((r : Row) → r ∈ rows → r.stamp ≡ s → ⊥) → held rows s ≡ none
unfolding held
not_held rows s h = none_first (λ q. provided (eqb q.stamp s) q) rows (λ r m. rw (ne_eqb r.stamp s (h r m)) refl)

held_rest : (q : Row) (qs : List Row) (s : ℕ) → held (q ∷ qs) s ≡ none → held qs s ≡ none
held_rest q qs s h = not_held qs s (λ r m e. held_not (q ∷ qs) s h r (Memᴰ.tail m) e)

pub held_is : (low : ℕ) (rows : List Row) → rising low rows ≡ true → (r : Row) → r ∈ rows → held rows r.stamp ≡ some r
unfolding held
held_is low rows h r m = first_is (λ q. provided (eqb q.stamp r.stamp) q) rows r r m (rw (eqb_self r.stamp) refl) one
  where
    one : (q w : Row) → q ∈ rows → provided (eqb q.stamp r.stamp) q ≡ some w → w ≡ r
    one q w n e = let (i, k) = provided_is q w r.stamp e in i ∙ stamp_once low rows h q r n m k

-- ---- one row changed

module _ (s : ℕ) (change : Row → Row) where
  pub length-changed : (rows : List Row) → length (changed s change rows) ≡ length rows
  unfolding changed
  length-changed [] = refl
  length-changed (r ∷ rs) = ap suc (length-changed rs)

  pub changed_from : (rows : List Row) (q : Row) → q ∈ changed s change rows → (r : Row) × (r ∈ rows) × (((r.stamp ≡ s) × (q ≡ change r)) ⊎ ((eqb r.stamp s ≡ false) × (q ≡ r)))
  unfolding changed
  changed_from [] q m = absurd (Memᴰ.not-nil m)
  changed_from (r ∷ rs) q m = go (Memᴰ.cases_cons m) (same? r.stamp s) (λ m'. changed_from rs q m')
    where
      go : (q ≡ cond (eqb r.stamp s) (change r) r) ⊎ (q ∈ changed s change rs) → (r.stamp ≡ s) ⊎ (eqb r.stamp s ≡ false) → (q ∈ changed s change rs → (p : Row) × (p ∈ rs) × (((p.stamp ≡ s) × (q ≡ change p)) ⊎ ((eqb p.stamp s ≡ false) × (q ≡ p)))) → (p : Row) × (p ∈ (r ∷ rs)) × (((p.stamp ≡ s) × (q ≡ change p)) ⊎ ((eqb p.stamp s ≡ false) × (q ≡ p)))
      go (inl e) (inl k) below = (r, Memᴰ.head refl, inl (k, e ∙ rw (eq-eqb r.stamp s k) refl))
      go (inl e) (inr k) below = (r, Memᴰ.head refl, inr (k, e ∙ rw k refl))
      go (inr m') k below = let (p, n, w) = below m' in (p, Memᴰ.tail n, w)

  -- a row of another stamp stays
  pub in_changed : (rows : List Row) (r : Row) → r ∈ rows → eqb r.stamp s ≡ false → r ∈ changed s change rows
  unfolding changed
  in_changed [] r m d = absurd (Memᴰ.not-nil m)
  in_changed (q ∷ qs) r m d = go (Memᴰ.cases_cons m) (λ m'. in_changed qs r m' d)
    where
      go : (r ≡ q) ⊎ (r ∈ qs) → (r ∈ qs → r ∈ changed s change qs) → r ∈ (cond (eqb q.stamp s) (change q) q ∷ changed s change qs)
      go (inl e) below = let d' : eqb q.stamp s ≡ false = rw e at d in rw d' (Memᴰ.head e)
      go (inr m') below = Memᴰ.tail (below m')

  module _ (keeps : (r : Row) → (change r).stamp ≡ r.stamp) where
    stamp_kept : (b : Bool) (r : Row) → (cond b (change r) r).stamp ≡ r.stamp
    stamp_kept true r = keeps r
    stamp_kept false r = refl

    pub rising-changed : (low : ℕ) (rows : List Row) → rising low (changed s change rows) ≡ rising low rows
    unfolding changed rising
    rising-changed low [] = refl
    rising-changed low (r ∷ rs) = rw (stamp_kept (eqb r.stamp s) r, rising-changed r.stamp rs) refl

    abbrev pub changed_held : Option Row → Option Row
    changed_held none = none
    changed_held (some r) = some (change r)

    pub held-changed : (rows : List Row) → held (changed s change rows) s ≡ changed_held (held rows s)
    unfolding changed held first_of
    held-changed [] = refl
    held-changed (r ∷ rs) = go (cases (eqb r.stamp s)) (held-changed rs)
      where
        go : (eqb r.stamp s ≡ true) ⊎ (eqb r.stamp s ≡ false) → held (changed s change rs) s ≡ changed_held (held rs s) → held (changed s change (r ∷ rs)) s ≡ changed_held (held (r ∷ rs) s)
        go (inl e) below = rw (e, keeps r, e) refl
        go (inr e) below = rw (e, e) below

    pub held_unchanged : (rows : List Row) (t : ℕ) → eqb s t ≡ false → held (changed s change rows) t ≡ held rows t
    unfolding changed held first_of
    held_unchanged [] t d = refl
    held_unchanged (r ∷ rs) t d = go (same? r.stamp s) (held_unchanged rs t d)
      where
        go : (r.stamp ≡ s) ⊎ (eqb r.stamp s ≡ false) → held (changed s change rs) t ≡ held rs t → held (changed s change (r ∷ rs)) t ≡ held (r ∷ rs) t
        go (inl e) below = let d' : eqb r.stamp t ≡ false = rw e d in rw (eq-eqb r.stamp s e, keeps r, d') below
        go (inr e) below = rw (e, below) refl

-- only what a change makes of that stamp's row counts
changed_alike : (s : ℕ) (f g : Row → Row) (rows : List Row) → ((q : Row) → q ∈ rows → q.stamp ≡ s → f q ≡ g q) → changed s f rows ≡ changed s g rows
unfolding changed
changed_alike s f g [] h = refl
changed_alike s f g (r ∷ rs) h = go (same? r.stamp s) (changed_alike s f g rs (λ q m e. h q (Memᴰ.tail m) e))
  where
    go : (r.stamp ≡ s) ⊎ (eqb r.stamp s ≡ false) → changed s f rs ≡ changed s g rs → changed s f (r ∷ rs) ≡ changed s g (r ∷ rs)
    go (inl e) below = rw (eq-eqb r.stamp s e, h r (Memᴰ.head refl) e, below)
    go (inr e) below = rw (e, below)

pub changed-held : (low s : ℕ) (f g : Row → Row) (rows : List Row) (r : Row) → rising low rows ≡ true → held rows s ≡ some r → f r ≡ g r → changed s f rows ≡ changed s g rows
changed-held low s f g rows r rise h e =
    let (m, k) = held_from_lem rows s r h in
    changed_alike s f g rows (λ q n i. let z : q ≡ r = stamp_once low rows rise q r n m (i ∙ sym k) in ap f z ∙ e ∙ sym (ap g z))

-- ---- one row more

pub length-added : (r : Row) (rows : List Row) → length (added r rows) ≡ suc (length rows)
unfolding added
length-added r [] = refl
length-added r (q ∷ qs) = go (ltb r.stamp q.stamp) (length-added r qs)
  where
    go : (b : Bool) → length (added r qs) ≡ suc (length qs) → length (cond b (r ∷ q ∷ qs) (q ∷ added r qs)) ≡ suc (suc (length qs))
    go true e = refl
    go false e = ap suc e

pub added_from : (r : Row) (rows : List Row) (q : Row) → q ∈ added r rows → (q ≡ r) ⊎ (q ∈ rows)
unfolding added
added_from r [] q m = Memᴰ.cases_cons m
added_from r (p ∷ ps) q m = go (ltb r.stamp p.stamp) m (λ m'. added_from r ps q m')
  where
    deeper : (q ≡ r) ⊎ (q ∈ ps) → (q ≡ r) ⊎ (q ∈ (p ∷ ps))
    deeper (inl e) = inl e
    deeper (inr m') = inr (Memᴰ.tail m')

    behind : (q ≡ p) ⊎ (q ∈ added r ps) → (q ∈ added r ps → (q ≡ r) ⊎ (q ∈ ps)) → (q ≡ r) ⊎ (q ∈ (p ∷ ps))
    behind (inl e) below = inr (Memᴰ.head e)
    behind (inr m') below = deeper (below m')

    go : (b : Bool) → q ∈ cond b (r ∷ p ∷ ps) (p ∷ added r ps) → (q ∈ added r ps → (q ≡ r) ⊎ (q ∈ ps)) → (q ≡ r) ⊎ (q ∈ (p ∷ ps))
    go true m' below = Memᴰ.cases_cons m'
    go false m' below = behind (Memᴰ.cases_cons m') below

less : {a b : ℕ} → a ≤ b → (a ≡ b → ⊥) → a < b
less {a} {b} l d = go (cases (ltb a b))
  where
    go : (ltb a b ≡ true) ⊎ (ltb a b ≡ false) → a < b
    go (inl e) = ltb-true a b e
    go (inr e) = let k = ltb-false a b e in absurd (d (omega arith))

pub rising-added : (r : Row) (low : ℕ) (rows : List Row) → low < r.stamp → held rows r.stamp ≡ none → rising low rows ≡ true → rising low (added r rows) ≡ true
unfolding added rising
rising-added r low [] l n h = both_true (lt-ltb low r.stamp l) refl
rising-added r low (q ∷ qs) l n h = go (cases (ltb r.stamp q.stamp)) (λ k. rising-added r q.stamp qs k (held_rest q qs r.stamp n) (both_right _ _ h))
  where
    differs : q.stamp ≡ r.stamp → ⊥
    differs e = held_not (q ∷ qs) r.stamp n q (Memᴰ.head refl) e

    go : (ltb r.stamp q.stamp ≡ true) ⊎ (ltb r.stamp q.stamp ≡ false) → (q.stamp < r.stamp → rising q.stamp (added r qs) ≡ true) → rising low (cond (ltb r.stamp q.stamp) (r ∷ q ∷ qs) (q ∷ added r qs)) ≡ true
    go (inl e) below = rw e (both_true (lt-ltb low r.stamp l) (both_true e (both_right _ _ h)))
    go (inr e) below =
        let k = ltb-false r.stamp q.stamp e in
        rw e (both_true (both_left _ _ h) (below (less k differs)))

-- the row added is held, and the others as before
pub held-added : (r : Row) (rows : List Row) (t : ℕ) → held rows r.stamp ≡ none → held (added r rows) t ≡ cond (eqb r.stamp t) (some r) (held rows t)
unfolding added
held-added r [] t n = held_cons r [] t
held-added r (q ∷ qs) t n = go (ltb r.stamp q.stamp) (same? q.stamp t) (held-added r qs t (held_rest q qs r.stamp n))
  where
    go : (b : Bool) → (q.stamp ≡ t) ⊎ (eqb q.stamp t ≡ false) → held (added r qs) t ≡ cond (eqb r.stamp t) (some r) (held qs t) → held (cond b (r ∷ q ∷ qs) (q ∷ added r qs)) t ≡ cond (eqb r.stamp t) (some r) (held (q ∷ qs) t)
    go true k below = held_cons r (q ∷ qs) t
    go false (inr k) below = held_cons q (added r qs) t ∙ rw (k, below, held_cons q qs t, k) refl
    go false (inl k) below =
        let d : eqb r.stamp t ≡ false = ne_eqb r.stamp t (λ e. held_not (q ∷ qs) r.stamp n q (Memᴰ.head refl) (k ∙ sym e)) in
        held_cons q (added r qs) t ∙ rw (eq-eqb q.stamp t k, d, held_cons q qs t, eq-eqb q.stamp t k) refl

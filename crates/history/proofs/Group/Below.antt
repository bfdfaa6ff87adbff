-- Boxes below n, counted by a test: two tests that pass often enough pass at a common box; a list of different boxes counts the same.
use mathlib.Core.Path.{◌≡◌, refl, ap, subst, ◌∙◌}
use mathlib.Core.Bool.{Bool, true, false}
use mathlib.Core.Logic.{◌⊎◌, inl, inr}
use mathlib.Core.List.Memᴰ
use mathlib.Core.List.{List, [], ◌∷◌}
use Prim.Native.Nat.{ℕ, zero, suc, ◌+◌, ◌≤◌, ◌<◌}
use native.Mathlib.Omega.{arith}
use native.Mathlib.Nat.{not-suc-le-zero}
use native.Mathlib.Decide.{dec_le}
use lib.Dec.{eqb, ltb}
use borrow.Author.Tests.{eqb-true, eqb-false, lt-ltb, ltb-true, eq-eqb}
use Rattle.rules.specs.Tests.{both, either, bit, any, count, twice}
use Rattle.rules.proofs.Logic.{same?, eqb_self, both_left, both_right, both_true, either_left, either_right}
use Rattle.rules.proofs.Lists.{◌∈◌, any_none, none_any, any_some, some_any}

-- ---- numbers

pub lt_or_eq : {m n : ℕ} → m ≤ n → (m < n) ⊎ (m ≡ n)
lt_or_eq {m} {n} h = go (dec_le (suc m) n)
  where
    go : Dec (m < n) → (m < n) ⊎ (m ≡ n)
    go (yes l) = inl l
    go (no g) = inr (omega arith)

-- induction with the hypothesis for every lesser number
module _ (P : ℕ → Type 0) (step : (n : ℕ) → ((m : ℕ) → m < n → P m) → P n) where
  below : (k n : ℕ) → n < k → P n
  below zero n h = absurd (not-suc-le-zero h)
  below (suc k) n h = step n (λ m l. below k m (omega arith))

  pub strong : (n : ℕ) → P n
  strong n = below (suc n) n (omega arith)

-- a search through the boxes below n: one that has P, or all have Q
pub search_below : (n : ℕ) (P Q : ℕ → Type 0) → ((b : ℕ) → P b ⊎ Q b) → ((b : ℕ) × (b < n) × P b) ⊎ ((b : ℕ) → b < n → Q b)
search_below zero P Q d = inr (λ b h. absurd (not-suc-le-zero h))
search_below (suc n) P Q d = go (d n) (search_below n P Q d)
  where
    go : P n ⊎ Q n → ((b : ℕ) × (b < n) × P b) ⊎ ((b : ℕ) → b < n → Q b) → ((b : ℕ) × (b < suc n) × P b) ⊎ ((b : ℕ) → b < suc n → Q b)
    go (inl p) r = inl (n, omega arith, p)
    go (inr q) (inl (b, h, p)) = inl (b, omega arith, p)
    go (inr q) (inr all) = inr (λ b h. at b (lt_or_eq {m = b} {n = n} (omega arith)))
      where
        at : (b : ℕ) → (b < n) ⊎ (b ≡ n) → Q b
        at b (inl l) = all b l
        at b (inr e) = rw e q

-- ---- counting by a test

abbrev pub count_below : ℕ → (ℕ → Bool) → ℕ
count_below zero p = 0
count_below (suc n) p = bit (p n) + count_below n p

common_step : (x y : Bool) (a b c m : ℕ) → a + b ≤ m + c → bit x + a + (bit y + b) ≤ suc m + (bit (both x y) + c)
unfolding both
common_step true true a b c m h = omega arith
common_step true false a b c m h = omega arith
common_step false true a b c m h = omega arith
common_step false false a b c m h = omega arith

count_common : (n : ℕ) (p q : ℕ → Bool) → count_below n p + count_below n q ≤ n + count_below n (λ b. both (p b) (q b))
count_common zero p q = omega arith
count_common (suc n) p q = common_step (p n) (q n) (count_below n p) (count_below n q) _ n (count_common n p q)

count_find : (n : ℕ) (p : ℕ → Bool) → 0 < count_below n p → (b : ℕ) × (b < n) × (p b ≡ true)
count_find zero p h = absurd (not-suc-le-zero h)
count_find (suc n) p h = go (λ k. count_find n p k) (p n) refl
  where
    go : (0 < count_below n p → (b : ℕ) × (b < n) × (p b ≡ true)) → (x : Bool) → p n ≡ x → (b : ℕ) × (b < suc n) × (p b ≡ true)
    go below true e = (n, omega arith, e)
    go below false e =
        let k : 0 < 0 + count_below n p = rw e at h in
        let r = below (omega arith) in
        (r.0, omega (arith, r.1), r.2)

count_more : (n : ℕ) (p q : ℕ → Bool) → ((b : ℕ) → p b ≡ true → q b ≡ true) → count_below n p ≤ count_below n q
count_more zero p q h = omega arith
count_more (suc n) p q h = go (p n) refl (count_more n p q h)
  where
    go : (x : Bool) → p n ≡ x → count_below n p ≤ count_below n q → bit (p n) + count_below n p ≤ bit (q n) + count_below n q
    go true e l = rw (e, h n e) (omega arith)
    go false e l = rw e (omega arith)

-- ---- at least k boxes below n have P: a test that only boxes with P pass, and that k of them pass

pub record AtLeast (n k : ℕ) (P : ℕ → Type 0) : Type 0 where
  pub test : ℕ → Bool
  pub holds : (b : ℕ) → test b ≡ true → P b
  pub enough : k ≤ count_below n test

-- it unfolds, since a certificate's later fields name the test of its crowd
abbrev pub at_least_map : {n k : ℕ} {P Q : ℕ → Type 0} → ((b : ℕ) → P b → Q b) → AtLeast n k P → AtLeast n k Q
at_least_map h m = record { test = m.test; holds = λ b e. h b (m.holds b e); enough = m.enough }

pub at_least_fewer : {n k l : ℕ} {P : ℕ → Type 0} → l ≤ k → AtLeast n k P → AtLeast n l P
at_least_fewer h m = record { test = m.test; holds = m.holds; enough = omega (arith, m.enough) }

-- two crowds share at least k boxes
pub shared : {n i j : ℕ} (k : ℕ) {P Q : ℕ → Type 0} → AtLeast n i P → AtLeast n j Q → n + k ≤ i + j → AtLeast n k (λ b. P b × Q b)
shared {n} k a b h =
    record {
      test = λ x. both (a.test x) (b.test x);
      holds = λ x e. (a.holds x (both_left (a.test x) (b.test x) e), b.holds x (both_right (a.test x) (b.test x) e));
      enough = omega (arith, a.enough, b.enough, count_common n a.test b.test);
    }

-- a test may pass outside the group: cut it off there
cut_count : (n k : ℕ) (p : ℕ → Bool) → n ≤ k → count_below n (λ b. both (ltb b k) (p b)) ≡ count_below n p
unfolding both
cut_count zero k p h = refl
cut_count (suc n) k p h = rw (cut_count n k p (omega arith), lt-ltb n k h) refl

pub at_least_below : {n k : ℕ} {P : ℕ → Type 0} → AtLeast n k P → AtLeast n k (λ b. (b < n) × P b)
at_least_below {n} m =
    record {
      test = λ b. both (ltb b n) (m.test b);
      holds = λ b e. (ltb-true b n (both_left (ltb b n) (m.test b) e), m.holds b (both_right (ltb b n) (m.test b) e));
      enough = omega (arith, m.enough, cut_count n n m.test (omega arith));
    }

pub some_one : {n k : ℕ} {P : ℕ → Type 0} → AtLeast n k P → 0 < k → (b : ℕ) × (b < n) × P b
some_one {n} m h =
    let r = count_find n m.test (omega (arith, m.enough)) in
    (r.0, r.1, m.holds r.0 r.2)

-- two crowds that together are more than n have a common box
pub common : {n i j : ℕ} {P Q : ℕ → Type 0} → AtLeast n i P → AtLeast n j Q → n < i + j → (b : ℕ) × (b < n) × (P b × Q b)
common a b h = some_one (shared 1 a b (omega arith)) (omega arith)

-- ---- a list whose elements have different numbers below n

-- one place k more: from k on it is not reached; above k it counts if it passes
place_off : (n k : ℕ) (x : Bool) (q : ℕ → Bool) → n ≤ k → count_below n (λ b. either (both (eqb k b) x) (q b)) ≡ count_below n q
unfolding both either
place_off zero k x q h = refl
place_off (suc n) k x q h = rw (place_off n k x q (omega arith)) (off (same? k n))
  where
    off : (k ≡ n) ⊎ (eqb k n ≡ false) → bit (either (both (eqb k n) x) (q n)) + count_below n q ≡ bit (q n) + count_below n q
    off (inl e) = absurd (omega arith)
    off (inr e) = rw e refl

place_on : (n k : ℕ) (x : Bool) (q : ℕ → Bool) → k < n → q k ≡ false → count_below n (λ b. either (both (eqb k b) x) (q b)) ≡ bit x + count_below n q
unfolding both either
place_on zero k x q h off = absurd (not-suc-le-zero h)
place_on (suc n) k x q h off = go (λ l. place_on n k x q l off) (same? k n)
  where
    alone : (y : Bool) → bit (either y false) ≡ bit y
    alone true = refl
    alone false = refl

    go : (k < n → count_below n (λ b. either (both (eqb k b) x) (q b)) ≡ bit x + count_below n q) → (k ≡ n) ⊎ (eqb k n ≡ false) → bit (either (both (eqb k n) x) (q n)) + count_below n (λ b. either (both (eqb k b) x) (q b)) ≡ bit x + (bit (q n) + count_below n q)
    go below (inl e) = rw (place_off n k x q (omega arith), ← e, off, eqb_self k, alone x) (omega arith)
    go below (inr e) = let d = eqb-false k n e in rw (below (omega arith), e) (omega arith)

count_nothing : (n : ℕ) → count_below n (λ b. false) ≡ 0
count_nothing zero = refl
count_nothing (suc n) = omega (arith, count_nothing n)

module _ {A : Type 0} (number : A → ℕ) (p : A → Bool) (n : ℕ) where
  -- the places at which an element of the list passes are as many as those elements
  pub count_places : (xs : List A) → twice number xs ≡ false → ((x : A) → x ∈ xs → number x < n) → count_below n (λ b. any (λ x. both (eqb (number x) b) (p x)) xs) ≡ count p xs
  unfolding twice any count both
  count_places [] d h = count_nothing n
  count_places (x ∷ xs) d h =
      place_on n (number x) (p x) (λ b. any (λ y. both (eqb (number y) b) (p y)) xs) (h x (Memᴰ.head refl)) (none_any _ xs new)
      ∙ ap (λ (c : ℕ). bit (p x) + c) (count_places xs (either_right _ _ d) (λ y m. h y (Memᴰ.tail m)))
    where
      new : (y : A) → y ∈ xs → both (eqb (number y) (number x)) (p y) ≡ false
      new y m = rw (any_none _ xs (either_left _ _ d) y m) refl

  -- it unfolds, since a certificate's later fields name the test of its crowd
  abbrev pub list_at_least : (k : ℕ) (xs : List A) (P : ℕ → Type 0) → twice number xs ≡ false → ((x : A) → x ∈ xs → number x < n) → k ≤ count p xs → ((x : A) → x ∈ xs → p x ≡ true → P (number x)) → AtLeast n k P
  list_at_least k xs P d h l holds =
      record {
        test = λ b. any (λ x. both (eqb (number x) b) (p x)) xs;
        holds = λ b e. at b (any_some _ xs e);
        enough = omega (arith, count_places xs d h);
      }
    where
      at : (b : ℕ) → (x : A) × (x ∈ xs) × (both (eqb (number x) b) (p x) ≡ true) → P b
      at b (x, m, t) = subst P (eqb-true (number x) b (both_left _ _ t)) (holds x m (both_right _ _ t))

  pub at_least_list : (k : ℕ) (xs : List A) (P : ℕ → Type 0) → twice number xs ≡ false → ((x : A) → x ∈ xs → number x < n) → AtLeast n k P → ((b : ℕ) → P b → (x : A) × (x ∈ xs) × (number x ≡ b) × (p x ≡ true)) → k ≤ count p xs
  at_least_list k xs P d h crowd find =
      omega (arith, crowd.enough, count_places xs d h, count_more n crowd.test (λ b. any (λ x. both (eqb (number x) b) (p x)) xs) (λ b e. at b (find b (crowd.holds b e))))
    where
      at : (b : ℕ) → (x : A) × (x ∈ xs) × (number x ≡ b) × (p x ≡ true) → any (λ x. both (eqb (number x) b) (p x)) xs ≡ true
      at b (x, m, e, t) = some_any _ xs x m (both_true (eq-eqb (number x) b e) t)

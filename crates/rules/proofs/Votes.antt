-- Only one result can have enough votes: the agreement count among the tables of a merge, the fast count among the replies of a count.
use mathlib.Core.Path.{◌≡◌, refl, sym, ◌∙◌}
use mathlib.Core.Bool.{Bool, true, false}
use mathlib.Core.Logic.{◌⊎◌, inl, inr}
use mathlib.Core.List.Memᴰ
use mathlib.Core.List.{List, [], ◌∷◌}
use mathlib.Core.Option.{Option, none, some}
use Prim.Native.Nat.{ℕ, zero, suc, ◌+◌, ◌≤◌, ◌<◌}
use native.Mathlib.Omega.{arith}
use lib.Dec.{eqb, ltb, leb}
use lib.ListN.{length}
use borrow.Author.Tests.{ltb-true, lt-ltb, le-ltb, leb-true, not-false, eqb-true, eqb-false, eq-eqb}
use Rattle.rules.specs.Tests.{either, bit, any, count, kept, those, greatest, twice, and_also, all_of}
use Rattle.rules.specs.Groups.{f_of, quorum, fast_count, agreement_count}
use Rattle.rules.specs.Tables.{Result, Prepare, Prepare.no_prepare, Prepare.tentative, Prepare.final, same_result, Row, Table}
use Rattle.rules.specs.Messages.{held}
use Rattle.rules.specs.Merge.{used, rows_of, holds_tentative, is_agreed, group_of, are_wrong}
use Rattle.rules.specs.Count.{Heard, bad_replies, agreeing, is_fast}
use Rattle.rules.proofs.Logic.{impossible, cases, same?, either_left, either_right, either_first, either_second}
use Rattle.rules.proofs.Lists.{◌∈◌, any_none, none_any}
use Rattle.rules.proofs.Same.{same_result_lem, result_same}
use Rattle.rules.proofs.Groups.{group_size, agreement_once, fast_once}

-- ---- counting

pub bit_most : (b : Bool) → bit b ≤ 1
bit_most true = omega arith
bit_most false = omega arith

-- nothing is left to count
pub all_counted : {n more all : ℕ} → more ≡ 0 → n + more ≡ all → n ≡ all
all_counted e f = omega arith

module _ {A : Type 0} where
  -- no element passes both of two tests: their counts add up to at most the length
  pub counts_apart : (p q : A → Bool) → ((x : A) → p x ≡ true → q x ≡ false) → (xs : List A) → count p xs + count q xs ≤ length xs
  unfolding count
  counts_apart p q apart [] = omega arith
  counts_apart p q apart (x ∷ xs) = go (p x) refl (q x) refl (counts_apart p q apart xs)
    where
      go : (a : Bool) → p x ≡ a → (b : Bool) → q x ≡ b → count p xs + count q xs ≤ length xs → bit a + count p xs + (bit b + count q xs) ≤ length (x ∷ xs)
      go true ea true eb l = impossible eb (apart x ea)
      go true ea false eb l = omega arith
      go false ea true eb l = omega arith
      go false ea false eb l = omega arith

  -- what passes a test passes one of two others: then no more pass it than pass those
  pub counts_cover : (p q r : A → Bool) → ((x : A) → p x ≡ true → either (q x) (r x) ≡ true) → (xs : List A) → count p xs ≤ count q xs + count r xs
  unfolding count either
  counts_cover p q r cover [] = omega arith
  counts_cover p q r cover (x ∷ xs) = go (p x) (q x) (r x) (cover x) (counts_cover p q r cover xs)
    where
      go : (a b c : Bool) → (a ≡ true → either b c ≡ true) → count p xs ≤ count q xs + count r xs → bit a + count p xs ≤ bit b + count q xs + (bit c + count r xs)
      go false b c h l = omega arith
      go true true c h l = omega arith
      go true false true h l = omega arith
      go true false false h l = impossible (h refl) refl

  pub count_all : (p : A → Bool) (xs : List A) → ((x : A) → x ∈ xs → p x ≡ true) → count p xs ≡ length xs
  unfolding count
  count_all p [] h = refl
  count_all p (x ∷ xs) h = rw (h x (Memᴰ.head refl)) (omega (arith, count_all p xs (λ y m. h y (Memᴰ.tail m))))

  pub count_none : (p : A → Bool) (xs : List A) → any p xs ≡ false → count p xs ≡ 0
  unfolding any count
  count_none p [] h = refl
  count_none p (x ∷ xs) h = rw (either_left (p x) (any p xs) h) (omega (arith, count_none p xs (either_right (p x) (any p xs) h)))

  -- no number stands twice: none stands more often than once
  pub count_once : (number : A → ℕ) (k : ℕ) (xs : List A) → twice number xs ≡ false → count (λ x. eqb (number x) k) xs ≤ 1
  unfolding count twice
  count_once number k [] h = omega arith
  count_once number k (x ∷ xs) h = go (eqb (number x) k) refl (count_once number k xs (either_right _ _ h))
    where
      go : (b : Bool) → eqb (number x) k ≡ b → count (λ y. eqb (number y) k) xs ≤ 1 → bit b + count (λ y. eqb (number y) k) xs ≤ 1
      go false e l = omega arith
      go true e l = rw (← (eqb-true (number x) k e)) (omega (arith, count_none (λ y. eqb (number y) (number x)) xs (either_left _ _ h)))

  -- numbers below n that are all different are at most n
  pub different_below : (number : A → ℕ) (n : ℕ) (xs : List A) → twice number xs ≡ false → ((x : A) → x ∈ xs → number x < n) → length xs ≤ n
  different_below number n xs d h = omega (arith, below n, count_all (λ x. ltb (number x) n) xs (λ x m. lt-ltb (number x) n (h x m)))
    where
      below : (k : ℕ) → count (λ x. ltb (number x) k) xs ≤ k
      below zero = omega (arith, count_none (λ x. ltb (number x) 0) xs (none_any _ xs (λ x m. le-ltb (number x) 0 (omega arith))))
      below (suc k) = omega (arith, below k, count_once number k xs d, counts_cover (λ x. ltb (number x) (suc k)) (λ x. ltb (number x) k) (λ x. eqb (number x) k) step xs)
        where
          step : (x : A) → ltb (number x) (suc k) ≡ true → either (ltb (number x) k) (eqb (number x) k) ≡ true
          step x l = go (same? (number x) k)
            where
              go : (number x ≡ k) ⊎ (eqb (number x) k ≡ false) → either (ltb (number x) k) (eqb (number x) k) ≡ true
              go (inl e) = either_second _ _ (eq-eqb (number x) k e)
              go (inr e) = either_first _ _ (lt-ltb (number x) k (let m = ltb-true (number x) (suc k) l in let d = eqb-false (number x) k e in omega arith))

  pub those-length : (test : A → Bool) (xs : List A) → length (those test xs) ≤ length xs
  unfolding those
  those-length test [] = omega arith
  those-length test (x ∷ xs) = go (test x) (those-length test xs)
    where
      go : (b : Bool) → length (those test xs) ≤ length xs → length (kept b x (those test xs)) ≤ length (x ∷ xs)
      go true l = omega arith
      go false l = omega arith

  -- where no element counts for two results, only one can be counted for by more than half of the elements
  pub half_once : (holds : Result → A → Bool) → ((r q : Result) (x : A) → holds r x ≡ true → holds q x ≡ true → r ≡ q) → (k : ℕ) (xs : List A) (r q : Result) → length xs < k + k → leb k (count (holds r) xs) ≡ true → leb k (count (holds q) xs) ≡ true → r ≡ q
  half_once holds one k xs r q few hr hq = go (cases (same_result r q))
    where
      apart : same_result r q ≡ false → (x : A) → holds r x ≡ true → holds q x ≡ false
      apart d x h = at (cases (holds q x))
        where
          at : (holds q x ≡ true) ⊎ (holds q x ≡ false) → holds q x ≡ false
          at (inl h') = impossible (rw (one r q x h h') (result_same q)) d
          at (inr e) = e

      go : (same_result r q ≡ true) ⊎ (same_result r q ≡ false) → r ≡ q
      go (inl e) = same_result_lem r q e
      go (inr d) = absurd (omega (arith, leb-true, counts_apart (holds r) (holds q) (apart d) xs))

pub all_of-length : {A B : Type 0} (give : A → Option B) (xs : List A) → length (all_of give xs) ≤ length xs
unfolding all_of
all_of-length give [] = omega arith
all_of-length {B = B} give (x ∷ xs) = go (give x) (all_of-length give xs)
  where
    go : (g : Option B) → length (all_of give xs) ≤ length xs → length (and_also g (all_of give xs)) ≤ length (x ∷ xs)
    go none l = omega arith
    go (some y) l = omega arith

-- ---- the merge: no two results of one stamp are both agreed

one_tentative : (r q : Result) (p : Prepare) → holds_tentative r p ≡ true → holds_tentative q p ≡ true → r ≡ q
one_tentative r q no_prepare h h' = impossible h refl
one_tentative r q (tentative a) h h' = same_result_lem r a h ∙ sym (same_result_lem q a h')
one_tentative r q (final a) h h' = impossible h refl

pub agreed_once : (agreement : ℕ) (rs : List Row) (r q : Result) → length rs < agreement + agreement → is_agreed agreement rs r ≡ true → is_agreed agreement rs q ≡ true → r ≡ q
unfolding is_agreed
agreed_once agreement rs r q few = half_once (λ a row. holds_tentative a row.prepare) (λ a b row. one_tentative a b row.prepare) agreement rs r q few

pub tables_few : (v : ℕ) (Ts : List Table) → are_wrong v Ts ≡ false → length Ts ≡ quorum (f_of (group_of Ts))
unfolding are_wrong
tables_few v Ts w = eqb-true _ _ (not-false _ (either_left _ _ w))

-- each table gives at most one row
pub rows_few : (Ts : List Table) (s : ℕ) → length (rows_of (used Ts) s) ≤ length Ts
unfolding rows_of used
rows_few Ts s = omega (arith, all_of-length (λ T. held T.rows s) (used Ts), those-length (λ T. eqb T.view (greatest (λ U. U.view) Ts)) Ts)

-- so in every merge whose tables are not wrong
pub merge_agreed_once : (v : ℕ) (Ts : List Table) → are_wrong v Ts ≡ false → (s : ℕ) (r q : Result) → is_agreed (agreement_count (f_of (group_of Ts))) (rows_of (used Ts) s) r ≡ true → is_agreed (agreement_count (f_of (group_of Ts))) (rows_of (used Ts) s) q ≡ true → r ≡ q
merge_agreed_once v Ts w s r q =
    agreed_once (agreement_count (f_of (group_of Ts))) (rows_of (used Ts) s) r q (omega (arith, tables_few v Ts w, rows_few Ts s, agreement_once (f_of (group_of Ts))))

-- ---- the count: no two results both reach the fast count

-- replies that are not bad are from different boxes of the group
pub replies_different : (n : ℕ) (hs : List Heard) → bad_replies n hs ≡ false → twice (λ h. h.box) hs ≡ false
unfolding bad_replies
replies_different n hs good = either_left _ _ (either_right _ _ (either_right _ _ good))

pub replies_inside : (n : ℕ) (hs : List Heard) → bad_replies n hs ≡ false → (h : Heard) → h ∈ hs → h.box < n
unfolding bad_replies
replies_inside n hs good h m = ltb-true _ _ (not-false _ (any_none _ hs (either_left _ _ (either_right _ _ good)) h m))

pub fast_one : (n : ℕ) (hs : List Heard) (r q : Result) → bad_replies n hs ≡ false → is_fast n hs r ≡ true → is_fast n hs q ≡ true → r ≡ q
unfolding bad_replies is_fast agreeing
fast_one n hs r q good =
    half_once (λ a h. same_result a h.result) (λ a b h e e'. same_result_lem a h.result e ∙ sym (same_result_lem b h.result e')) (fast_count (f_of n)) hs r q
    (omega (arith, group_size n (not-false _ (either_left _ _ good)), fast_once (f_of n), different_below (λ h. h.box) n hs (replies_different n hs good) (replies_inside n hs good)))

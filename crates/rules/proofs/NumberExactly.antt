-- 01, 'Numbers returned': each number is given exactly if its circumstances are and those of none before it in the order; 0 exactly if none is.
use mathlib.Core.Path.{◌≡◌, refl, sym, ap, ◌∙◌}
use mathlib.Core.Bool.{Bool, true, false, cond}
use mathlib.Core.Logic.{◌⊎◌, inl, inr}
use mathlib.Core.List.Memᴰ
use mathlib.Core.List.{List, [], ◌∷◌}
use Prim.Native.Nat.{ℕ}
use native.Mathlib.Omega.{arith}
use lib.Dec.{eqb}
use borrow.Author.Tests.{eqb-true}
use Rattle.rules.specs.Tests.{both, either}
use Rattle.rules.specs.Numbers.{Number, Number.small_buffer, Number.bad_table, Number.bad_message, Number.changing, Number.other_body, Number.contradiction, Number.full, Number.unknown, Number.other_view, Number.old_view, Number.wrong_tables, number_code, order, Circumstance, applies, first, number}
use Rattle.rules.proofs.Numbers.{positive, first_done, done_first}
use Rattle.rules.proofs.Logic.{cases, impossible, eqb_self, both_left, both_right, both_true, both_false, either_cases, either_first, either_second}
use Rattle.rules.proofs.Lists.{◌∈◌, places}

-- the part of a list of numbers before the first that is k
unfoldable pub before : Number → List Number → List Number
before k [] = []
before k (j ∷ js) = cond (eqb (number_code j) (number_code k)) [] (j ∷ before k js)

-- the numbers that come before k "in this order: 1, 2, 3, 4, 9, 10, 11, 8, 5, 6, 7"
abbrev pub earlier : Number → List Number
earlier k = before k order

-- "The first that applies wins": k applies, and none before it does
abbrev pub Wins : List Circumstance → Number → Type 0
Wins cs k = (applies cs k ≡ true) × ((j : Number) → j ∈ earlier k → applies cs j ≡ false)

-- the order, read off: nothing comes before 1; before 8 come 1, 2, 3, 4, 9, 10 and 11, and before 7 all others
pub earlier_1 : earlier small_buffer ≡ []
unfolding before
earlier_1 = refl

pub earlier_8 : earlier unknown ≡ small_buffer ∷ bad_table ∷ bad_message ∷ changing ∷ other_view ∷ old_view ∷ wrong_tables ∷ []
unfolding before
earlier_8 = refl

pub earlier_7 : earlier full ≡ small_buffer ∷ bad_table ∷ bad_message ∷ changing ∷ other_view ∷ old_view ∷ wrong_tables ∷ unknown ∷ other_body ∷ contradiction ∷ []
unfolding before
earlier_7 = refl

-- ---- the numbers

in_order : (k : Number) → k ∈ order
in_order small_buffer = search places depth 11
in_order bad_table = search places depth 11
in_order bad_message = search places depth 11
in_order changing = search places depth 11
in_order other_body = search places depth 11
in_order contradiction = search places depth 11
in_order full = search places depth 11
in_order unknown = search places depth 11
in_order other_view = search places depth 11
in_order old_view = search places depth 11
in_order wrong_tables = search places depth 11

-- a code is of one number
by_code : ℕ → Number
by_code c =
    cond (eqb c 1) small_buffer
    (cond (eqb c 2) bad_table
    (cond (eqb c 3) bad_message
    (cond (eqb c 4) changing
    (cond (eqb c 5) other_body
    (cond (eqb c 6) contradiction (cond (eqb c 7) full (cond (eqb c 8) unknown (cond (eqb c 9) other_view (cond (eqb c 10) old_view wrong_tables)))))))))

by_code_lem : (k : Number) → by_code (number_code k) ≡ k
unfolding by_code
by_code_lem small_buffer = refl
by_code_lem bad_table = refl
by_code_lem bad_message = refl
by_code_lem changing = refl
by_code_lem other_body = refl
by_code_lem contradiction = refl
by_code_lem full = refl
by_code_lem unknown = refl
by_code_lem other_view = refl
by_code_lem old_view = refl
by_code_lem wrong_tables = refl

one_code : (j k : Number) → number_code j ≡ number_code k → j ≡ k
one_code j k e = sym (by_code_lem j) ∙ ap by_code e ∙ by_code_lem k

listed : (cs : List Circumstance) (k : Number) → applies cs k ≡ true → (k, true) ∈ cs
unfolding applies
listed [] k h = impossible h refl
listed ((j, b) ∷ cs) k h = go (either_cases _ _ h) (listed cs k)
  where
    go : (both (eqb (number_code j) (number_code k)) b ≡ true) ⊎ (applies cs k ≡ true) → (applies cs k ≡ true → (k, true) ∈ cs) → (k, true) ∈ ((j, b) ∷ cs)
    go (inl e) below = rw (one_code j k (eqb-true _ _ (both_left _ _ e)), both_right (eqb (number_code j) (number_code k)) b e) (Memᴰ.head refl)
    go (inr e) below = Memᴰ.tail (below e)

given : (cs : List Circumstance) (k : Number) → (k, true) ∈ cs → applies cs k ≡ true
unfolding applies
given [] k m = absurd (Memᴰ.not-nil m)
given (c ∷ cs) k m = go (Memᴰ.cases_cons m) (given cs k)
  where
    go : ((k, true) ≡ c) ⊎ ((k, true) ∈ cs) → ((k, true) ∈ cs → applies cs k ≡ true) → applies (c ∷ cs) k ≡ true
    go (inl e) below = rw (← e) (either_first _ _ (both_true (eqb_self (number_code k)) refl))
    go (inr n) below = either_second _ _ (below n)

-- a number applies exactly if it stands in the list with its circumstances given
pub applies_exactly : (cs : List Circumstance) (k : Number) → (applies cs k ≡ true → (k, true) ∈ cs) × ((k, true) ∈ cs → applies cs k ≡ true)
applies_exactly cs k = (listed cs k, given cs k)

module _ (cs : List Circumstance) where
  -- ---- a number that is given wins

  first_wins : (ks : List Number) (k : Number) → first ks cs ≡ number_code k → (applies cs k ≡ true) × ((j : Number) → j ∈ before k ks → applies cs j ≡ false)
  unfolding first before
  first_wins [] k e = absurd (omega (arith, positive k))
  first_wins (i ∷ ks) k e = go (applies cs i) refl e (λ d. first_wins ks k d)
    where
      later : (b : Bool) → applies cs i ≡ false → ((j : Number) → j ∈ before k ks → applies cs j ≡ false) → (j : Number) → j ∈ cond b [] (i ∷ before k ks) → applies cs j ≡ false
      later true a h j m = absurd (Memᴰ.not-nil m)
      later false a h j m = pick (Memᴰ.cases_cons m)
        where
          pick : (j ≡ i) ⊎ (j ∈ before k ks) → applies cs j ≡ false
          pick (inl q) = ap (applies cs) q ∙ a
          pick (inr n) = h j n

      go : (b : Bool) → applies cs i ≡ b → cond b (number_code i) (first ks cs) ≡ number_code k → (first ks cs ≡ number_code k → (applies cs k ≡ true) × ((j : Number) → j ∈ before k ks → applies cs j ≡ false)) → (applies cs k ≡ true) × ((j : Number) → j ∈ cond (eqb (number_code i) (number_code k)) [] (i ∷ before k ks) → applies cs j ≡ false)
      go true a d below = (sym (ap (applies cs) (one_code i k d)) ∙ a, λ j m. absurd (Memᴰ.not-nil (rw (d, eqb_self (number_code k)) at m)))
      go false a d below = let (w, h) = below d in (w, later (eqb (number_code i) (number_code k)) a h)

  -- ---- and one that wins is given

  wins_first : (ks : List Number) (k : Number) → k ∈ ks → applies cs k ≡ true → ((j : Number) → j ∈ before k ks → applies cs j ≡ false) → first ks cs ≡ number_code k
  unfolding first before
  wins_first [] k m w h = absurd (Memᴰ.not-nil m)
  wins_first (i ∷ ks) k m w h = go (cases (eqb (number_code i) (number_code k))) (Memᴰ.cases_cons m) (λ n l. wins_first ks k n w l)
    where
      go : (eqb (number_code i) (number_code k) ≡ true) ⊎ (eqb (number_code i) (number_code k) ≡ false) → (k ≡ i) ⊎ (k ∈ ks) → (k ∈ ks → ((j : Number) → j ∈ before k ks → applies cs j ≡ false) → first ks cs ≡ number_code k) → cond (applies cs i) (number_code i) (first ks cs) ≡ number_code k
      go (inl c) n below = let d = eqb-true (number_code i) (number_code k) c in rw (one_code i k d, w) refl
      go (inr c) (inl q) below = impossible (eqb_self (number_code k)) (rw (← q) at c)
      go (inr c) (inr n) below =
          let inside : (j : Number) → j ∈ (i ∷ before k ks) → applies cs j ≡ false = rw c at h in
          rw (inside i (Memᴰ.head refl)) (below n (λ j l. inside j (Memᴰ.tail l)))

  -- each number exactly in its circumstances
  pub number_exactly : (k : Number) → (number cs ≡ number_code k → Wins cs k) × (Wins cs k → number cs ≡ number_code k)
  unfolding number
  number_exactly k = (first_wins order k, λ (w, h). wins_first order k (in_order k) w h)

  -- ---- 0, "done": "none below applies"

  pub zero_exactly : (number cs ≡ 0 → (k : Number) → applies cs k ≡ false) × (((k : Number) → applies cs k ≡ false) → number cs ≡ 0)
  unfolding number
  zero_exactly = (λ e k. first_done order cs e k (in_order k), done_first order cs)

  -- a call is done, or it is refused by one of the numbers
  pub zero_or_one : (number cs ≡ 0) ⊎ ((k : Number) × (number cs ≡ number_code k))
  unfolding number first
  zero_or_one = go order
    where
      go : (ks : List Number) → (first ks cs ≡ 0) ⊎ ((k : Number) × (first ks cs ≡ number_code k))
      go [] = inl refl
      go (k ∷ ks) = pick (applies cs k) (go ks)
        where
          pick : (b : Bool) → (first ks cs ≡ 0) ⊎ ((j : Number) × (first ks cs ≡ number_code j)) → (cond b (number_code k) (first ks cs) ≡ 0) ⊎ ((j : Number) × (cond b (number_code k) (first ks cs) ≡ number_code j))
          pick true r = inr (k, refl)
          pick false r = r

-- ---- a circumstance that is not given changes nothing

not_given : (k : Number) (cs : List Circumstance) (ks : List Number) → first ks ((k, false) ∷ cs) ≡ first ks cs
unfolding first applies either
not_given k cs [] = refl
not_given k cs (j ∷ ks) = rw (both_false (eqb (number_code k) (number_code j)), not_given k cs ks)

-- 1 comes before all others
pub small_first : (small : Bool) (cs : List Circumstance) → number ((small_buffer, small) ∷ cs) ≡ cond small 1 (number cs)
unfolding number first applies both either
small_first true cs = refl
small_first false cs = refl

-- 2 comes before all but 1, whatever else applies
pub table_first : (small : Bool) (others : List Circumstance) → applies others small_buffer ≡ false → number ((small_buffer, small) ∷ (bad_table, true) ∷ others) ≡ cond small 1 2
unfolding number first applies both either
table_first true others n = refl
table_first false others n = rw n

-- and 3 before all but 1 and 2
pub message_first : (small : Bool) (others : List Circumstance) → applies others small_buffer ≡ false → applies others bad_table ≡ false → number ((small_buffer, small) ∷ (bad_message, true) ∷ others) ≡ cond small 1 3
unfolding number first applies both either
message_first true others n o = refl
message_first false others n o = rw (n, o)

pub number_not_given : (k : Number) (cs : List Circumstance) → number ((k, false) ∷ cs) ≡ number cs
unfolding number
number_not_given k cs = not_given k cs order

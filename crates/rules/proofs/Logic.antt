-- Laws of the tests: what follows from `both` and `either`, and cases on a test that keep their equation.
use mathlib.Core.Path.{◌≡◌, refl, sym, ◌∙◌, subst}
use mathlib.Core.Bool.{Bool, true, false, not}
use mathlib.Core.Logic.{◌⊎◌, inl, inr}
use mathlib.Core.Option.{none, some}
use Prim.Native.Nat.{ℕ}
use native.Mathlib.Omega.{arith}
use lib.Dec.{eqb, T}
use borrow.Author.Tests.{eqb-true, eq-eqb}
use Rattle.rules.specs.Tests.{both, either}

-- a test cannot be true and false
pub impossible : {A : Type 0} {b : Bool} → b ≡ true → b ≡ false → A
impossible {A} {b} p q = absurd (subst T (sym p ∙ q) tt)

pub none_some : {A B : Type 0} {a : A} → none ≡ some a → B
none_some e = let z : ◌≡◌ {A = ℕ} 0 1 = cc in absurd (omega arith)

pub cases : (b : Bool) → (b ≡ true) ⊎ (b ≡ false)
cases true = inl refl
cases false = inr refl

pub both_left : (a b : Bool) → both a b ≡ true → a ≡ true
unfolding both
both_left true b h = refl
both_left false b h = h

pub both_right : (a b : Bool) → both a b ≡ true → b ≡ true
unfolding both
both_right true b h = h
both_right false b h = impossible h refl

pub both_true : {a b : Bool} → a ≡ true → b ≡ true → both a b ≡ true
unfolding both
both_true {a} {b} p q = rw (p, q) refl

pub both_false : (a : Bool) → both a false ≡ false
unfolding both
both_false true = refl
both_false false = refl

pub both_whole : (a : Bool) → both a true ≡ a
unfolding both
both_whole true = refl
both_whole false = refl

pub both_swap : (a b c : Bool) → both a (both b c) ≡ both b (both a c)
unfolding both
both_swap true b c = refl
both_swap false true c = refl
both_swap false false c = refl

pub both_comm : (a b : Bool) → both a b ≡ both b a
unfolding both
both_comm true true = refl
both_comm true false = refl
both_comm false true = refl
both_comm false false = refl

pub either_cases : (a b : Bool) → either a b ≡ true → (a ≡ true) ⊎ (b ≡ true)
unfolding either
either_cases true b h = inl refl
either_cases false b h = inr h

pub either_left : (a b : Bool) → either a b ≡ false → a ≡ false
unfolding either
either_left true b h = h
either_left false b h = refl

pub either_right : (a b : Bool) → either a b ≡ false → b ≡ false
unfolding either
either_right true b h = impossible refl h
either_right false b h = h

pub either_false : {a b : Bool} → a ≡ false → b ≡ false → either a b ≡ false
unfolding either
either_false {a} {b} p q = rw (p, q) refl

pub either_none : (a : Bool) → either a false ≡ a
unfolding either
either_none true = refl
either_none false = refl

pub either_first : (a b : Bool) → a ≡ true → either a b ≡ true
unfolding either
either_first a b p = rw p refl

pub either_second : (a b : Bool) → b ≡ true → either a b ≡ true
unfolding either
either_second true b p = refl
either_second false b p = p

pub either_assoc : (a b c : Bool) → either (either a b) c ≡ either a (either b c)
unfolding either
either_assoc true b c = refl
either_assoc false b c = refl

pub either_comm : (a b : Bool) → either a b ≡ either b a
unfolding either
either_comm true true = refl
either_comm true false = refl
either_comm false true = refl
either_comm false false = refl

pub both_assoc : (a b c : Bool) → both (both a b) c ≡ both a (both b c)
unfolding both
both_assoc true b c = refl
both_assoc false b c = refl

-- two tests that hold together are equal
pub same_test : (a b : Bool) → (a ≡ true → b ≡ true) → (b ≡ true → a ≡ true) → a ≡ b
same_test true true f g = refl
same_test true false f g = sym (f refl)
same_test false true f g = g refl
same_test false false f g = refl

-- what would have to hold besides does not, so neither does this
pub so_neither : (a b : Bool) → (a ≡ true → b ≡ true) → b ≡ false → a ≡ false
so_neither true b h n = impossible (h refl) n
so_neither false b h n = refl

pub not_false_of : (b : Bool) → b ≡ true → not b ≡ false
not_false_of b p = rw p refl

pub not_true_of : (b : Bool) → b ≡ false → not b ≡ true
not_true_of b p = rw p refl

-- two numbers are equal, or their test is false
pub same? : (m n : ℕ) → (m ≡ n) ⊎ (eqb m n ≡ false)
same? m n = go (cases (eqb m n))
  where
    go : (eqb m n ≡ true) ⊎ (eqb m n ≡ false) → (m ≡ n) ⊎ (eqb m n ≡ false)
    go (inl e) = inl (eqb-true m n e)
    go (inr e) = inr e

pub eqb_self : (n : ℕ) → eqb n n ≡ true
eqb_self n = eq-eqb n n refl

pub eqb_sym : (m n : ℕ) → eqb m n ≡ eqb n m
eqb_sym m n = same_test (eqb m n) (eqb n m) (λ h. eq-eqb n m (sym (eqb-true m n h))) (λ h. eq-eqb m n (sym (eqb-true n m h)))

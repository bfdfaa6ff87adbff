-- The number of a call: 0 says that none of its circumstances is given, and it is 0 if none is.
use mathlib.Core.Path.{◌≡◌, refl, ap, ◌∙◌, sym}
use mathlib.Core.Bool.{Bool, true, false, cond}
use mathlib.Core.Logic.{◌⊎◌, inl, inr}
use mathlib.Core.List.Memᴰ
use mathlib.Core.List.{List, [], ◌∷◌}
use Prim.Native.Nat.{◌<◌}
use native.Mathlib.Omega.{arith}
use lib.Dec.{eqb}
use Rattle.rules.specs.Tests.{both, either, any}
use Rattle.rules.specs.Numbers.{Number, Number.small_buffer, Number.bad_table, Number.bad_message, Number.changing, Number.other_body, Number.contradiction, Number.full, Number.unknown, Number.other_view, Number.old_view, Number.wrong_tables, number_code, order, Circumstance, applies, first, number}
use Rattle.rules.proofs.Logic.{both_false, eqb_self}
use Rattle.rules.proofs.Lists.{◌∈◌, any_none, none_any}

applies_is : (cs : List Circumstance) (k : Number) → applies cs k ≡ any (λ c. both (eqb (number_code c.0) (number_code k)) c.1) cs
unfolding applies any
applies_is [] k = refl
applies_is (c ∷ cs) k = ap (either (both (eqb (number_code c.0) (number_code k)) c.1)) (applies_is cs k)

-- no refusal has the code of "done"
pub positive : (k : Number) → 0 < number_code k
positive small_buffer = omega arith
positive bad_table = omega arith
positive bad_message = omega arith
positive changing = omega arith
positive other_body = omega arith
positive contradiction = omega arith
positive full = omega arith
positive unknown = omega arith
positive other_view = omega arith
positive old_view = omega arith
positive wrong_tables = omega arith

pub first_done : (ks : List Number) (cs : List Circumstance) → first ks cs ≡ 0 → (k : Number) → k ∈ ks → applies cs k ≡ false
unfolding first
first_done [] cs e k m = absurd (Memᴰ.not-nil m)
first_done (j ∷ ks) cs e k m = go (applies cs j) refl e (Memᴰ.cases_cons m) (λ e' m'. first_done ks cs e' k m')
  where
    go : (b : Bool) → applies cs j ≡ b → cond b (number_code j) (first ks cs) ≡ 0 → (k ≡ j) ⊎ (k ∈ ks) → (first ks cs ≡ 0 → k ∈ ks → applies cs k ≡ false) → applies cs k ≡ false
    go false ea e' (inl q) below = ap (applies cs) q ∙ ea
    go false ea e' (inr m') below = below e' m'
    go true ea e' m' below = absurd (omega (arith, positive j))

-- a call that is done meets none of its circumstances
pub number_done : (cs : List Circumstance) → number cs ≡ 0 → (k : Number) (given : Bool) → k ∈ order → (k, given) ∈ cs → given ≡ false
unfolding number both
number_done cs e k given l m =
    rw (eqb_self (number_code k)) at (any_none (λ c. both (eqb (number_code c.0) (number_code k)) c.1) cs (sym (applies_is cs k) ∙ first_done order cs e k l) (k, given) m)

pub done_first : (ks : List Number) (cs : List Circumstance) → ((k : Number) → applies cs k ≡ false) → first ks cs ≡ 0
unfolding first
done_first [] cs h = refl
done_first (k ∷ ks) cs h = rw (h k) (done_first ks cs h)

-- and one that meets none of them is done
pub done_number : (cs : List Circumstance) → ((k : Number) (given : Bool) → (k, given) ∈ cs → given ≡ false) → number cs ≡ 0
unfolding number
done_number cs h = done_first order cs (λ k. applies_is cs k ∙ none_any _ cs (λ c m. rw (h c.0 c.1 m) (both_false (eqb (number_code c.0) (number_code k)))))

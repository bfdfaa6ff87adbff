-- For functions that test one thing after another: each way out of them, by what was tested on the way.
use mathlib.Core.Path.{◌≡◌, sym, ap, ◌∙◌}
use mathlib.Core.Bool.{Bool, true, false}
use borrow.Author.Tests.{lt-ltb, le-ltb, le-leb, lt-leb, eq-eqb, ne_eqb}
use Rattle.rules.specs.Tests.{both}

-- the first test held, so the second is the answer
pub both_yes : (x y a b : Bool) → x ≡ a → x ≡ true → y ≡ b → y ≡ both a b
unfolding both
both_yes x y a b p q r = r ∙ ap (λ (t : Bool). both t b) (sym q ∙ p)

-- the first test did not hold
pub both_no : (x a b : Bool) → x ≡ a → x ≡ false → false ≡ both a b
unfolding both
both_no x a b p q = ap (λ (t : Bool). both t b) (sym q ∙ p)

-- comparisons of numbers, and chains of tests
pub ruleset tests = (lt-ltb, le-ltb, le-leb, lt-leb, eq-eqb, ne_eqb)

pub ruleset chain = (tests, both_yes, both_no)

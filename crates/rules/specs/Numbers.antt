-- 01, 'Numbers returned': the numbers by their names, and their order. The circumstances of each stand in Circumstances, in Merge and in Count.
use Rattle.std.specs.Prelude.{Bool, false, cond, List, [], ◌∷◌, ℕ, eqb}
use Rattle.rules.specs.Tests.{both, either}

-- what a call is refused for, in the order of the list
pub data Number : Type 0 where
  small_buffer bad_table bad_message changing other_body contradiction full unknown other_view old_view wrong_tables : Number

abbrev pub number_code : Number → ℕ
number_code small_buffer = 1
number_code bad_table = 2
number_code bad_message = 3
number_code changing = 4
number_code other_body = 5
number_code contradiction = 6
number_code full = 7
number_code unknown = 8
number_code other_view = 9
number_code old_view = 10
number_code wrong_tables = 11

-- "in this order: 1, 2, 3, 4, 9, 10, 11, 8, 5, 6, 7"
abbrev pub order : List Number
order = small_buffer ∷ bad_table ∷ bad_message ∷ changing ∷ other_view ∷ old_view ∷ wrong_tables ∷ unknown ∷ other_body ∷ contradiction ∷ full ∷ []

-- a refusal, and whether its circumstances are given
abbrev pub Circumstance : Type 0
Circumstance = Number × Bool

unfoldable pub applies : List Circumstance → Number → Bool
applies [] k = false
applies ((j, given) ∷ cs) k = either (both (eqb (number_code j) (number_code k)) given) (applies cs k)

-- 0, "done", if "none below applies"
unfoldable pub first : List Number → List Circumstance → ℕ
first [] cs = 0
first (k ∷ ks) cs = cond (applies cs k) (number_code k) (first ks cs)

-- "The first that applies wins, in this order"
unfoldable pub number : List Circumstance → ℕ
number cs = first order cs

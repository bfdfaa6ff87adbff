-- The word of an answer with the rows that were compared: it has room for both, and the answer in it is that of the call without them.
use mathlib.Core.Path.{◌≡◌, sym, ◌∙◌}
use mathlib.Core.Bool.{Bool, true, false, cond}
use mathlib.Core.List.{List, [], ◌∷◌}
use Prim.Native.Nat.{ℕ, ◌%◌, ◌/◌, ◌≤◌}
use native.Mathlib.Omega.{arith}
use Rattle.rules.specs.Numbers.{Number, Number.small_buffer, Number.bad_table, Number.bad_message, Number.changing, Number.other_body, Number.contradiction, Number.full, Number.unknown, Number.other_view, Number.old_view, Number.wrong_tables, number_code, order, Circumstance, applies, first, number}
use Rattle.rules.specs.Tables.{valley}
use Rattle.answer.specs.Calls.{call_circumstances, call_number, call_table, call_reply, call_compared}
use Rattle.answer.proofs.AnswerCompared.{compared_at_most_ten}
use Rattle.sprondilu.specs.Calls.{compared_answer}

-- ---- the numbers of the list end with 11

code_most : (k : Number) → number_code k ≤ 11
code_most small_buffer = omega arith
code_most bad_table = omega arith
code_most bad_message = omega arith
code_most changing = omega arith
code_most other_body = omega arith
code_most contradiction = omega arith
code_most full = omega arith
code_most unknown = omega arith
code_most other_view = omega arith
code_most old_view = omega arith
code_most wrong_tables = omega arith

first_most : (ks : List Number) (cs : List Circumstance) → first ks cs ≤ 11
unfolding first
first_most [] cs = omega arith
first_most (k ∷ ks) cs = go (applies cs k) (first_most ks cs)
  where
    go : (b : Bool) → first ks cs ≤ 11 → cond b (number_code k) (first ks cs) ≤ 11
    go true l = code_most k
    go false l = l

-- ---- the word

module _ (table message reply : List ℕ) where
  number_most : call_number valley table message reply ≤ 11
  unfolding call_number number
  number_most = first_most order (call_circumstances valley table message reply)

  pub compared_most : {n : ℕ} → n ≡ call_compared valley table message reply → n ≤ 10
  compared_most e = let l = compared_at_most_ten valley table message reply (omega arith) in omega arith

  -- the word of any three buffers
  abbrev pub word : ℕ
  word = compared_answer (call_number valley table message reply) (call_compared valley table message reply)

  -- both are taken out of it again by their bits, no other bit is set, and 10 rows at most are told
  pub compared_fits : (word % 256 ≡ call_number valley table message reply) × (word / 256 % 256 ≡ 0) × (word / 65536 ≡ call_compared valley table message reply) × (word / 65536 ≤ 10)
  compared_fits =
      let k = number_most in
      let l = compared_at_most_ten valley table message reply (omega arith) in
      (omega arith, omega arith, omega arith, omega arith)

  -- both calls give the same number, and leave the same bytes in both buffers
  pub same_answer : {k w : ℕ} {after later said other : List ℕ} →
      k ≡ call_number valley table message reply → after ≡ call_table valley table message reply → said ≡ call_reply valley table message reply →
      w ≡ word → later ≡ call_table valley table message reply → other ≡ call_reply valley table message reply →
      (k ≡ w % 256) × (after ≡ later) × (said ≡ other)
  same_answer a b c d e f = (a ∙ rw d (sym compared_fits.0), b ∙ sym e, c ∙ sym f)

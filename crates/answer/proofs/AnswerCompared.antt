-- How many rows the answer says were compared: none where the search has not run, else its steps, of 512 rows 10 at most.
use mathlib.Core.Path.{◌≡◌, refl, sym, ◌∙◌}
use mathlib.Core.Bool.{Bool, true, false, cond}
use mathlib.Core.List.Memᴰ
use mathlib.Core.List.{List, [], ◌∷◌}
use mathlib.Core.Option.{Option, none, some}
use Prim.Native.Nat.{ℕ, ◌≤◌}
use native.Mathlib.Omega.{arith}
use Rattle.rules.specs.Tests.{both, either}
use Rattle.rules.specs.Tables.{Model, Table}
use Rattle.rules.specs.Messages.{Message, Message.propose_prepare, Message.finalise_prepare, Message.propose_outcome, Message.finalise_outcome, Message.change_view, Message.start_view, Message.read_register}
use Rattle.rules.specs.Circumstances.{keeps_room, is_changing, for_other_view, held_with_other_body, held_unequal_final, held_opposite_outcome, new_but_full, prepare_not_held, outcome_not_held}
use Rattle.rules.proofs.Logic.{none_some}
use Rattle.rules.proofs.Lists.{◌∈◌}
use Rattle.rules.proofs.Tables.{table_facts}
use Rattle.rows.specs.Halving.{steps}
use Rattle.rows.proofs.HalvingSteps.{at_most_ten, none_of_none}
use Rattle.table.specs.Images.{format_one}
use Rattle.table.specs.Parse.{parse}
use Rattle.table.proofs.Images.{parse_by_rule}
use Rattle.message.specs.Messages.{message_at}
use Rattle.seek.specs.Inner.Compared.{compared_to_finalise, compared_to_propose}
use Rattle.transact.specs.Inner.Served.{served_number, served_compared}
use Rattle.transact.proofs.Serving.{number_1, number_2, number_3, number_4}
use Rattle.answer.specs.Calls.{call_number, search_steps, steps_of, compares_none, call_compared}

-- ---- by the number: 4 and 9 come before the search, every other number of messages 1 to 4 behind it

proposed : (changing other against full : Bool) (n : ℕ) → cond changing 0 n ≡ cond (compares_none (cond changing 4 (cond other 5 (cond against 6 (cond full 7 0))))) 0 n
unfolding both either
proposed true other against full n = refl
proposed false true against full n = refl
proposed false false true full n = refl
proposed false false false true n = refl
proposed false false false false n = refl

finalised : (changing elsewhere missing against : Bool) (n : ℕ) → cond changing 0 (cond elsewhere 0 n) ≡ cond (compares_none (cond changing 4 (cond elsewhere 9 (cond missing 8 (cond against 6 0))))) 0 n
unfolding both either
finalised true elsewhere missing against n = refl
finalised false true missing against n = refl
finalised false false true against n = refl
finalised false false false true n = refl
finalised false false false false n = refl

either_way : (b : Bool) → ◌≡◌ {A = ℕ} (cond b 0 0) 0
either_way true = refl
either_way false = refl

-- what a message's function counts is what the number says
pub served_compared_lem : (M : Model) (T : Table) (m : Message) → served_compared T m ≡ cond (compares_none (served_number M T m)) 0 (search_steps T m)
unfolding served_compared compared_to_propose compared_to_finalise
served_compared_lem M T (propose_prepare s x) = rw (number_1 M T s x) (proposed (is_changing T) (held_with_other_body T s x) false (new_but_full M keeps_room T s) (steps T.rows s))
served_compared_lem M T (finalise_prepare s v r) = rw (number_2 M T s v r) (finalised (is_changing T) (for_other_view T v) (prepare_not_held T s) (held_unequal_final T s r) (steps T.rows s))
served_compared_lem M T (propose_outcome s o x) = rw (number_3 M T s o x) (proposed (is_changing T) (held_with_other_body T s x) (held_opposite_outcome T s o) (new_but_full M keeps_room T s) (steps T.rows s))
served_compared_lem M T (finalise_outcome s v o) = rw (number_4 M T s v o) (finalised (is_changing T) (for_other_view T v) (outcome_not_held T s) (held_opposite_outcome T s o) (steps T.rows s))
served_compared_lem M T (change_view v) = sym (either_way (compares_none (served_number M T (change_view v))))
served_compared_lem M T (start_view v I) = sym (either_way (compares_none (served_number M T (start_view v I))))
served_compared_lem M T (read_register s k) = sym (either_way (compares_none (served_number M T (read_register s k))))

-- ---- for any three buffers

-- messages 1 to 4, and the stamp of each
abbrev pub seeks : Message → Option ℕ
seeks (propose_prepare s x) = some s
seeks (finalise_prepare s v r) = some s
seeks (propose_outcome s o x) = some s
seeks (finalise_outcome s v o) = some s
seeks (change_view v) = none
seeks (start_view v I) = none
seeks (read_register s k) = none

steps_sought : (T : Table) (m : Message) (s : ℕ) → seeks m ≡ some s → search_steps T m ≡ steps T.rows s
steps_sought T (propose_prepare s x) t e = let f : s ≡ t = cc in rw f
steps_sought T (finalise_prepare s v r) t e = let f : s ≡ t = cc in rw f
steps_sought T (propose_outcome s o x) t e = let f : s ≡ t = cc in rw f
steps_sought T (finalise_outcome s v o) t e = let f : s ≡ t = cc in rw f
steps_sought T (change_view v) t e = none_some e
steps_sought T (start_view v I) t e = none_some e
steps_sought T (read_register s k) t e = none_some e

none_sought : (T : Table) (m : Message) → seeks m ≡ none → search_steps T m ≡ 0
none_sought T (propose_prepare s x) e = none_some (sym e)
none_sought T (finalise_prepare s v r) e = none_some (sym e)
none_sought T (propose_outcome s o x) e = none_some (sym e)
none_sought T (finalise_outcome s v o) e = none_some (sym e)
none_sought T (change_view v) e = refl
none_sought T (start_view v I) e = refl
none_sought T (read_register s k) e = refl

-- a bound on the steps in any table by the rules is one on what any answer says
steps_at_most : (T : Table) (m : Message) (k : ℕ) → ((s : ℕ) → steps T.rows s ≤ k) → search_steps T m ≤ k
steps_at_most T (propose_prepare s x) k h = h s
steps_at_most T (finalise_prepare s v r) k h = h s
steps_at_most T (propose_outcome s o x) k h = h s
steps_at_most T (finalise_outcome s v o) k h = h s
steps_at_most T (change_view v) k h = omega arith
steps_at_most T (start_view v I) k h = omega arith
steps_at_most T (read_register s k) j h = omega arith

cond_at_most : (b : Bool) (n k : ℕ) → n ≤ k → cond b 0 n ≤ k
cond_at_most true n k l = omega arith
cond_at_most false n k l = l

module _ (M : Model) (table message reply : List ℕ) where
  -- "with 0 for refusals numbered 1 to 4 and 9"
  pub compared_zero : call_number M table message reply ∈ (1 ∷ 2 ∷ 3 ∷ 4 ∷ 9 ∷ []) → call_compared M table message reply ≡ 0
  unfolding call_compared both either
  compared_zero m = go m
    where
      said : (k : ℕ) → call_number M table message reply ≡ k → compares_none k ≡ true → cond (compares_none (call_number M table message reply)) 0 (steps_of (parse format_one M table) (message_at format_one message)) ≡ 0
      said k e n = rw (e, n)

      go : call_number M table message reply ∈ (1 ∷ 2 ∷ 3 ∷ 4 ∷ 9 ∷ []) → cond (compares_none (call_number M table message reply)) 0 (steps_of (parse format_one M table) (message_at format_one message)) ≡ 0
      go (Memᴰ.head e) = said 1 e refl
      go (Memᴰ.tail (Memᴰ.head e)) = said 2 e refl
      go (Memᴰ.tail (Memᴰ.tail (Memᴰ.head e))) = said 3 e refl
      go (Memᴰ.tail (Memᴰ.tail (Memᴰ.tail (Memᴰ.head e)))) = said 4 e refl
      go (Memᴰ.tail (Memᴰ.tail (Memᴰ.tail (Memᴰ.tail (Memᴰ.head e))))) = said 9 e refl
      go (Memᴰ.tail (Memᴰ.tail (Memᴰ.tail (Memᴰ.tail (Memᴰ.tail x))))) = elim x [ ]

  module _ (T : Table) (m : Message) (parses : parse format_one M table ≡ some T) (reads : message_at format_one message ≡ some m) where
    -- messages 5 to 7 seek no stamp
    pub compared_unsought : seeks m ≡ none → call_compared M table message reply ≡ 0
    unfolding call_compared
    compared_unsought e = rw (parses, reads, none_sought T m e) (either_way (compares_none (call_number M table message reply)))

    -- 0, 5, 6, 7 and 8 of messages 1 to 4: the steps of the search
    pub compared_steps : (s : ℕ) → seeks m ≡ some s → call_number M table message reply ∈ (0 ∷ 5 ∷ 6 ∷ 7 ∷ 8 ∷ []) → call_compared M table message reply ≡ steps T.rows s
    unfolding call_compared both either
    compared_steps s e k = go k
      where
        said : (k : ℕ) → call_number M table message reply ≡ k → compares_none k ≡ false → cond (compares_none (call_number M table message reply)) 0 (steps_of (parse format_one M table) (message_at format_one message)) ≡ steps T.rows s
        said k is n = rw (is, n, parses, reads) (steps_sought T m s e)

        go : call_number M table message reply ∈ (0 ∷ 5 ∷ 6 ∷ 7 ∷ 8 ∷ []) → cond (compares_none (call_number M table message reply)) 0 (steps_of (parse format_one M table) (message_at format_one message)) ≡ steps T.rows s
        go (Memᴰ.head is) = said 0 is refl
        go (Memᴰ.tail (Memᴰ.head is)) = said 5 is refl
        go (Memᴰ.tail (Memᴰ.tail (Memᴰ.head is))) = said 6 is refl
        go (Memᴰ.tail (Memᴰ.tail (Memᴰ.tail (Memᴰ.head is)))) = said 7 is refl
        go (Memᴰ.tail (Memᴰ.tail (Memᴰ.tail (Memᴰ.tail (Memᴰ.head is))))) = said 8 is refl
        go (Memᴰ.tail (Memᴰ.tail (Memᴰ.tail (Memᴰ.tail (Memᴰ.tail x))))) = elim x [ ]

    -- "an empty table gives 0"
    pub empty_compares_none : T.rows ≡ [] → call_compared M table message reply ≡ 0
    unfolding call_compared
    empty_compares_none e =
        let l = steps_at_most T m 0 (λ s. rw (e, none_of_none s) (omega arith)) in
        let n = cond_at_most (compares_none (call_number M table message reply)) (search_steps T m) 0 l in
        rw (parses, reads) (omega arith)

  -- "at most 10 for 512 rows"
  pub compared_at_most_ten : M.row_limit ≤ 512 → call_compared M table message reply ≤ 10
  unfolding call_compared
  compared_at_most_ten few = cond_at_most (compares_none (call_number M table message reply)) _ 10 (go (parse format_one M table) refl (message_at format_one message))
    where
      go : (o : Option Table) → parse format_one M table ≡ o → (p : Option Message) → steps_of o p ≤ 10
      go none e p = omega arith
      go (some T) e none = omega arith
      go (some T) e (some m) =
          let l = (table_facts M T (parse_by_rule format_one M table T e)).1 in
          steps_at_most T m 10 (λ s. at_most_ten T.rows s (omega arith))

  -- two counts that the promise allows for one input are equal
  pub compared_determined : {n k : ℕ} → n ≡ call_compared M table message reply → k ≡ call_compared M table message reply → n ≡ k
  compared_determined a b = a ∙ sym b

-- 01, number 7, "full", as 02 amends it: a box refuses a new stamp once its share of rows is added, and no other message; whatever is not about a new stamp is answered as ever.
use mathlib.Core.Path.{◌≡◌, refl, sym, ◌∙◌}
use mathlib.Core.Bool.{true, cond}
use mathlib.Core.List.{List}
use mathlib.Core.Option.{Option, none, some}
use Prim.Native.Nat.{ℕ, ◌+◌, ◌-◌, ◌/◌, ◌≤◌}
use native.Mathlib.Omega.{arith}
use lib.ListN.{length}
use borrow.Author.Tests.{ltb-false, le-ltb, not-true}
use Rattle.rules.specs.Tests.{both, either}
use Rattle.rules.specs.Groups.{f_of}
use Rattle.rules.specs.Stamps.{Body}
use Rattle.rules.specs.Tables.{Result, Verdict, Row, Model, Table}
use Rattle.rules.specs.Numbers.{Number.full, applies}
use Rattle.rules.specs.Messages.{Message, Message.propose_prepare, Message.finalise_prepare, Message.propose_outcome, Message.finalise_outcome, Message.change_view, Message.start_view, Message.read_register, Check, held}
use Rattle.rules.specs.Circumstances.{Room, too_small, reply_too_small, keeps_room, message_by_rule, is_changing, held_with_other_body, held_opposite_outcome, new_but_full, further_circumstances, circumstances}
use Rattle.rules.specs.Answers.{answer_number, answer}
use Rattle.rules.proofs.Logic.{impossible, none_some, both_right, both_true, not_true_of, either_none}
use Rattle.rules.proofs.NumberExactly.{number_exactly}
use Rattle.table.specs.Images.{format_one}
use Rattle.table.specs.Parse.{parse}
use Rattle.message.specs.Messages.{message_at}
use Rattle.transact.specs.Inner.Served.{served_number}
use Rattle.transact.proofs.Proposals.{new_unheld}
use Rattle.transact.proofs.Serving.{number_1, number_3}
use Rattle.answer.specs.Calls.{call_number}
use Rattle.answer.proofs.AnswerCall.{number_for, call_number_lem, not_small}
use Rattle.answer.proofs.AnswerWays.{own_rule}

-- ---- messages about a stamp

-- messages 1 and 3 propose for a stamp, and may add a row
pub data Proposes : Message → ℕ → Type 0 where
  prepare : (s : ℕ) (x : Body) → Proposes (propose_prepare s x) s
  outcome : (s : ℕ) (o : Verdict) (x : Body) → Proposes (propose_outcome s o x) s

-- messages 1 to 4 are about a stamp
pub data About : Message → ℕ → Type 0 where
  proposed : {m : Message} {s : ℕ} → Proposes m s → About m s
  prepare_final : (s v : ℕ) (r : Result) → About (finalise_prepare s v r) s
  outcome_final : (s v : ℕ) (o : Verdict) → About (finalise_outcome s v o) s

-- ---- a new stamp in a full table, as a test

-- "the rows added since its view began reach 512 less the start rows, divided by f+1 and rounded down"
abbrev pub ShareAdded : Model → Table → Type 0
ShareAdded M T = (M.row_limit - T.start) / (f_of T.n + 1) ≤ length T.rows - T.start

module _ (M : Model) (T : Table) (s : ℕ) where
  new_but_full_lem : new_but_full M keeps_room T s ≡ true → (held T.rows s ≡ none) × ShareAdded M T
  unfolding new_but_full keeps_room
  new_but_full_lem h = (new_unheld M T s h, ltb-false _ _ (not-true _ (both_right _ _ h)))

  full_and_new : held T.rows s ≡ none → ShareAdded M T → new_but_full M keeps_room T s ≡ true
  unfolding new_but_full keeps_room
  full_and_new e l = both_true (rw e) (not_true_of _ (le-ltb _ _ l))

-- ---- 7 is given for nothing else

full_applies : (M : Model) (T : Table) (m : Message) → applies (circumstances M keeps_room T m) full ≡ true → (s : ℕ) × Proposes m s × (new_but_full M keeps_room T s ≡ true)
unfolding circumstances further_circumstances applies both either
full_applies M T (propose_prepare s x) h = (s, prepare s x, sym (either_none (new_but_full M keeps_room T s)) ∙ h)
full_applies M T (finalise_prepare s v r) h = impossible h refl
full_applies M T (propose_outcome s o x) h = (s, outcome s o x, sym (either_none (new_but_full M keeps_room T s)) ∙ h)
full_applies M T (finalise_outcome s v o) h = impossible h refl
full_applies M T (change_view v) h = impossible h refl
full_applies M T (start_view v I) h = impossible h refl
full_applies M T (read_register s k) h = impossible h refl

-- a box answers 7 only to a proposal for a stamp that it does not hold
answer_full : (M : Model) (T : Table) (m : Message) → answer_number M keeps_room T m ≡ 7 → (s : ℕ) × Proposes m s × (new_but_full M keeps_room T s ≡ true)
unfolding answer_number
answer_full M T m e = full_applies M T m ((number_exactly (circumstances M keeps_room T m) full).0 e).0

-- a proposal for a new stamp, in a full table
served_full : (M : Model) (T : Table) (m : Message) (s : ℕ) → Proposes m s → held T.rows s ≡ none → ShareAdded M T → served_number M T m ≡ cond (is_changing T) 4 7
unfolding held_with_other_body held_opposite_outcome
served_full M T m s (prepare _ x) n l = rw (number_1 M T s x, full_and_new M T s n l, n)
served_full M T m s (outcome _ o x) n l = rw (number_3 M T s o x, full_and_new M T s n l, n)

-- a message is about one stamp
one_stamp : {m : Message} {s t : ℕ} → Proposes m t → About m s → t ≡ s
one_stamp (prepare _ x) (proposed (prepare _ y)) = refl
one_stamp (outcome _ o x) (proposed (outcome _ u y)) = refl

-- ---- 7, "full": "a new stamp with 512 rows held", and since 02 already once the share is added

module _ (M : Model) (table message reply : List ℕ) where
  -- the stamp of a proposal, new in a table that has added as many rows as it may
  pub record NewInFull : Type 0 where
    pub before : Table
    pub heard : Message
    pub stamp : ℕ
    pub read : parse format_one M table ≡ some before
    pub told : message_at format_one message ≡ some heard
    pub proposes : Proposes heard stamp
    pub new : held before.rows stamp ≡ none
    pub is_full : (M.row_limit - before.start) / (f_of before.n + 1) ≤ length before.rows - before.start

  pub full_only_new : call_number M table message reply ≡ 7 → NewInFull
  full_only_new e = go (parse format_one M table) (message_at format_one message) refl refl (sym (not_small M table message reply (λ d. let z : ◌≡◌ {A = ℕ} 7 1 = sym e ∙ d in absurd (omega arith))).2 ∙ e)
    where
      go : (p : Option Table) (q : Option Message) → parse format_one M table ≡ p → message_at format_one message ≡ q → number_for M p q ≡ 7 → NewInFull
      go none q a b d = absurd (omega arith)
      go (some T) none a b d = absurd (omega arith)
      go (some T) (some m) a b d =
          let (s, p, f) = answer_full M T m d in
          let (n, l) = new_but_full_lem M T s f in
          record { before = T; heard = m; stamp = s; read = a; told = b; proposes = p; new = n; is_full = l }

  -- and such a stamp is always refused: by 7, unless 1, 3 or 4 applies, which come before it in the order
  pub new_is_full : (T : Table) (m : Message) (s : ℕ) → parse format_one M table ≡ some T → message_at format_one message ≡ some m → Proposes m s → held T.rows s ≡ none → ShareAdded M T →
      call_number M table message reply ≡ cond (either (too_small M (length table)) (reply_too_small (length reply))) 1 (cond (message_by_rule M T.n m) (cond (is_changing T) 4 7) 3)
  new_is_full T m s a b p n l = rw (call_number_lem M table message reply, a, b, own_rule M T m, served_full M T m s p n l)

  -- a stamp that the table holds is never refused as full
  pub held_never_full : (T : Table) (m : Message) (s : ℕ) (r : Row) → parse format_one M table ≡ some T → message_at format_one message ≡ some m → About m s → held T.rows s ≡ some r → call_number M table message reply ≡ 7 → ⊥
  held_never_full T m s r a b p h e = go (full_only_new e)
    where
      go : NewInFull → ⊥
      go w =
          let i : some w.before ≡ some T = sym w.read ∙ a in
          let j : some w.heard ≡ some m = sym w.told ∙ b in
          let t : w.before ≡ T = cc in
          let u : w.heard ≡ m = cc in
          none_some (sym (rw (t, one_stamp (rw u at w.proposes) p) at w.new) ∙ h)

-- ---- 02: "A group with no room left still reads, finalises and changes view."

-- a message proposes for a stamp that the table does not hold
abbrev pub ProposesNew : Message → Table → Type 0
ProposesNew m T = (s : ℕ) × Proposes m s × (held T.rows s ≡ none)

module _ (M : Model) (room other : Room) (T : Table) where
  held_stamp : (m : Message) (s : ℕ) → (ProposesNew m T → ⊥) → Proposes m s → new_but_full M room T s ≡ new_but_full M other T s
  unfolding new_but_full both
  held_stamp m s nothing-new p = go (held T.rows s) refl
    where
      go : (h : Option Row) → held T.rows s ≡ h → new_but_full M room T s ≡ new_but_full M other T s
      go (some r) e = rw e
      go none e = absurd (nothing-new (s, p, e))

  same_number : (m : Message) → (ProposesNew m T → ⊥) → answer_number M room T m ≡ answer_number M other T m
  unfolding answer_number circumstances further_circumstances
  same_number (propose_prepare s x) nothing-new = rw (held_stamp (propose_prepare s x) s nothing-new (prepare s x))
  same_number (finalise_prepare s v r) nothing-new = refl
  same_number (propose_outcome s o x) nothing-new = rw (held_stamp (propose_outcome s o x) s nothing-new (outcome s o x))
  same_number (finalise_outcome s v o) nothing-new = refl
  same_number (change_view v) nothing-new = refl
  same_number (start_view v I) nothing-new = refl
  same_number (read_register s k) nothing-new = refl

  -- only a new stamp asks for room: any other message is answered alike by boxes of every rule of room, with the same number, table and reply
  pub only_new_asks_room : (check : Check) (m : Message) → (ProposesNew m T → ⊥) → answer M room check T m ≡ answer M other check T m
  unfolding answer
  only_new_asks_room check m nothing-new = rw (same_number m nothing-new)

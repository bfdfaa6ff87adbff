-- A message that breaks no rule of its own: its number by its kind, and what is then in the reply and in the buffer.
use mathlib.Core.Path.{◌≡◌, refl, sym, ap, ◌∙◌}
use mathlib.Core.Bool.{false, cond}
use mathlib.Core.List.{List}
use Prim.Native.Nat.{ℕ}
use lib.Dec.{eqb}
use Rattle.rules.specs.Tests.{both, either}
use Rattle.rules.specs.Stamps.{Body}
use Rattle.std.specs.Prelude.{Result, Ok, Err}
use Rattle.numbers.specs.declared.Refusal.{Refusal}
use Rattle.numbers.specs.declared.Refusal.TheVariants.{SmallBuffer, BadTable, BadMessage, Changing, OtherBody, Contradiction, Full, Unknown, OtherView, OldView, WrongTables}
use Rattle.numbers.specs.Refusals.{refusal_code}
use Rattle.rules.specs.Tables as rules
use Rattle.rules.specs.Tables.{Verdict, Model, Table}
use Rattle.rules.specs.Numbers.{applies, first, number}
use Rattle.rules.specs.Messages.{Message, Message.propose_prepare, Message.finalise_prepare, Message.propose_outcome, Message.finalise_outcome, Message.change_view, Message.start_view, Message.read_register, table_after}
use Rattle.rules.specs.Circumstances.{keeps_room, further_circumstances, is_changing, held_with_other_body, held_unequal_final, held_opposite_outcome, new_but_full, prepare_not_held, outcome_not_held, for_other_view, changes_to_old_view, starts_old_view}
use Rattle.rules.specs.Answers.{Answer, refusal, refused, taken, reply_from, proposal_check}
use Rattle.rules.proofs.Logic.{either_none}
use Rattle.table.specs.Images.{format_one}
use Rattle.table.specs.Parse.{table_at}
use Rattle.edit.specs.Inner.Holding.{Holds}
use Rattle.edit.specs.Edited.{edited}
use Rattle.edit.proofs.EditedBuffers.{edited_same, edited_as}
use Rattle.transact.specs.declared.reply.Reply.{Reply}
use Rattle.transact.specs.Replies.{reply_as}
use Rattle.transact.specs.Inner.DoneReplies.{Tells}
use Rattle.transact.specs.Inner.Served.{served_number, served, served_reply, served_buffer}

-- ---- the number of each kind: what may refuse it, in 01's order

module _ (M : Model) (T : Table) where
  pub number_1 : (s : ℕ) (x : Body) → served_number M T (propose_prepare s x) ≡ cond (is_changing T) 4 (cond (held_with_other_body T s x) 5 (cond (new_but_full M keeps_room T s) 7 0))
  unfolding served_number further_circumstances number first applies both either
  number_1 s x = rw (either_none (is_changing T), either_none (held_with_other_body T s x), either_none (new_but_full M keeps_room T s))

  pub number_2 : (s v : ℕ) (r : rules.Result) → served_number M T (finalise_prepare s v r) ≡ cond (is_changing T) 4 (cond (for_other_view T v) 9 (cond (prepare_not_held T s) 8 (cond (held_unequal_final T s r) 6 0)))
  unfolding served_number further_circumstances number first applies both either
  number_2 s v r = rw (either_none (is_changing T), either_none (for_other_view T v), either_none (prepare_not_held T s), either_none (held_unequal_final T s r))

  pub number_3 : (s : ℕ) (o : Verdict) (x : Body) → served_number M T (propose_outcome s o x) ≡ cond (is_changing T) 4 (cond (held_with_other_body T s x) 5 (cond (held_opposite_outcome T s o) 6 (cond (new_but_full M keeps_room T s) 7 0)))
  unfolding served_number further_circumstances number first applies both either
  number_3 s o x = rw (either_none (is_changing T), either_none (held_with_other_body T s x), either_none (held_opposite_outcome T s o), either_none (new_but_full M keeps_room T s))

  pub number_4 : (s v : ℕ) (o : Verdict) → served_number M T (finalise_outcome s v o) ≡ cond (is_changing T) 4 (cond (for_other_view T v) 9 (cond (outcome_not_held T s) 8 (cond (held_opposite_outcome T s o) 6 0)))
  unfolding served_number further_circumstances number first applies both either
  number_4 s v o = rw (either_none (is_changing T), either_none (for_other_view T v), either_none (outcome_not_held T s), either_none (held_opposite_outcome T s o))

  pub number_5 : (v : ℕ) → served_number M T (change_view v) ≡ cond (changes_to_old_view T v) 10 0
  unfolding served_number further_circumstances number first applies both either
  number_5 v = rw (either_none (changes_to_old_view T v))

  pub number_6 : (v : ℕ) (I : Table) → served_number M T (start_view v I) ≡ cond (starts_old_view T v) 10 0
  unfolding served_number further_circumstances number first applies both either
  number_6 v I = rw (either_none (starts_old_view T v))

  pub number_7 : (s k : ℕ) → served_number M T (read_register s k) ≡ cond (is_changing T) 4 0
  unfolding served_number further_circumstances number first applies both either
  number_7 s k = rw (either_none (is_changing T))

-- a refusal has zeros behind its number
pub refusal_is : (k : ℕ) → record { number = k; kind = 0; boxnumber = 0; state = 0; view = 0; stamp = 0; value = 0 } ≡ reply_as (refusal k)
unfolding refusal
refusal_is k = refl

-- ---- what is then in the reply and in the buffer

-- both promises of a message's function: what it tells, and the buffer after it
abbrev pub Kept : Model → Message → List ℕ → Result Reply Refusal → List ℕ → Type 0
Kept M m s told after = Tells told (served_reply M m s) × (after ≡ served_buffer M m s)

-- no refusal has the number 0
refusal_counts : (r : Refusal) → eqb (refusal_code r) 0 ≡ false
refusal_counts SmallBuffer = refl
refusal_counts BadTable = refl
refusal_counts BadMessage = refl
refusal_counts Changing = refl
refusal_counts OtherBody = refl
refusal_counts Contradiction = refl
refusal_counts Full = refl
refusal_counts Unknown = refl
refusal_counts OtherView = refl
refusal_counts OldView = refl
refusal_counts WrongTables = refl

-- a refusal that has the reply of an answer has its number
pub tells_refusal : (r : Refusal) (reply : Reply) → reply_as (refusal (refusal_code r)) ≡ reply → Tells (Err r) reply
unfolding refusal
tells_refusal r reply same = (same, ap (λ (a : Reply). a.number) same)

module _ (M : Model) (m : Message) (s : List ℕ) where
  refused_is : (r : Refusal) → served_number M (table_at format_one s) m ≡ refusal_code r → served M (table_at format_one s) m ≡ refused (refusal_code r) (table_at format_one s)
  unfolding served
  refused_is r e = rw (e, refusal_counts r)

  -- refused: the reply is the number, and the buffer stays
  pub kept_refused : (r : Refusal) → Holds format_one s → served_number M (table_at format_one s) m ≡ refusal_code r → Kept M m s (Err r) s
  unfolding refused
  kept_refused r holds e =
      let same = refused_is r e in
      (tells_refusal r _ (ap (λ (a : Answer). reply_as a.reply) (sym same)), sym (edited_same format_one (λ T. (served M T m).table) s holds (ap (λ (a : Answer). a.table) same)))

  taken_is : served_number M (table_at format_one s) m ≡ 0 → served M (table_at format_one s) m ≡ taken (table_after proposal_check (table_at format_one s) m) m
  unfolding served
  taken_is e = rw e

  -- taken: the reply is that of the table after it, and so is the buffer
  pub kept_taken : (change : Table → Table) → served_number M (table_at format_one s) m ≡ 0 → change (table_at format_one s) ≡ table_after proposal_check (table_at format_one s) m →
      Kept M m s (Ok (reply_as (reply_from (table_after proposal_check (table_at format_one s) m) m))) (edited format_one change s)
  unfolding taken reply_from
  kept_taken change e same =
      let is = taken_is e in
      let reply = ap (λ (a : Answer). reply_as a.reply) (sym is) in
      ((reply, ap (λ (r : Reply). r.number) reply), edited_as format_one change (λ T. (served M T m).table) s (same ∙ sym (ap (λ (a : Answer). a.table) is)))

-- ---- the kind of box: it matters to a message that may add a row, and to no other

module _ (M N : Model) (T : Table) where
  pub same_2 : (s v : ℕ) (r : rules.Result) → served M T (finalise_prepare s v r) ≡ served N T (finalise_prepare s v r)
  unfolding served served_number further_circumstances
  same_2 s v r = refl

  pub same_4 : (s v : ℕ) (o : Verdict) → served M T (finalise_outcome s v o) ≡ served N T (finalise_outcome s v o)
  unfolding served served_number further_circumstances
  same_4 s v o = refl

  pub same_5 : (v : ℕ) → served M T (change_view v) ≡ served N T (change_view v)
  unfolding served served_number further_circumstances
  same_5 v = refl

  pub same_6 : (v : ℕ) (I : Table) → served M T (start_view v I) ≡ served N T (start_view v I)
  unfolding served served_number further_circumstances
  same_6 v I = refl

  pub same_7 : (s k : ℕ) → served M T (read_register s k) ≡ served N T (read_register s k)
  unfolding served served_number further_circumstances
  same_7 s k = refl

pub kept_any : (M N : Model) (m : Message) (s : List ℕ) → ((T : Table) → served M T m ≡ served N T m) → (told : Result Reply Refusal) {after : List ℕ} → Kept M m s told after → Kept N m s told after
kept_any M N m s same told (tells, buffer) =
    let reply : served_reply M m s ≡ served_reply N m s = ap (λ (a : Answer). reply_as a.reply) (same (table_at format_one s)) in
    ((tells.0 ∙ reply, tells.1 ∙ ap (λ (r : Reply). r.number) reply), buffer ∙ edited_as format_one (λ T. (served M T m).table) (λ T. (served N T m).table) s (ap (λ (a : Answer). a.table) (same (table_at format_one s))))

-- The ways an answer call goes, each with its circumstances as 01 has them, and its number: one of them applies, and no two give different numbers.
use mathlib.Core.Path.{◌≡◌, refl, sym, ap, ◌∙◌}
use mathlib.Core.Bool.{Bool, true, false, cond, not}
use mathlib.Core.Logic.{◌⊎◌, inl, inr}
use mathlib.Core.List.{List, ◌∷◌}
use mathlib.Core.Option.{Option, none, some}
use Prim.Native.Nat.{ℕ, ◌≤◌, ◌<◌}
use lib.ListN.{length}
use borrow.Author.Tests.{ltb-true, ltb-false, lt-ltb, le-ltb}
use Rattle.wire.specs.Inner.ByteLists.{AllBytes}
use Rattle.rules.specs.Tests.{both, either}
use Rattle.rules.specs.Tables.{Model, Table}
use Rattle.rules.specs.Numbers.{Number.small_buffer, Number.bad_table, Number.bad_message, applies, first, number}
use Rattle.rules.specs.Messages.{Message, Message.propose_prepare, Message.finalise_prepare, Message.propose_outcome, Message.finalise_outcome, Message.change_view, Message.start_view, Message.read_register}
use Rattle.rules.specs.Circumstances.{too_small, reply_too_small, keeps_room, message_by_rule, further_circumstances, circumstances}
use Rattle.rules.specs.Answers.{answer_number}
use Rattle.rules.proofs.Logic.{cases, impossible, either_cases, either_left, either_right, either_first, either_second, either_false}
use Rattle.rules.proofs.NumberExactly.{number_exactly, number_not_given}
use Rattle.table.specs.Images.{format_one}
use Rattle.table.specs.Parse.{parse}
use Rattle.table.proofs.Images.{Sound}
use Rattle.message.specs.Inner.MessageBytes.{message_bytes}
use Rattle.message.specs.Messages.{message_at}
use Rattle.message.proofs.Forms.{message_read, message_bytes_lem}
use Rattle.transact.specs.Inner.Served.{served_number}
use Rattle.answer.specs.Calls.{call_number}
use Rattle.answer.proofs.AnswerCall.{number_for, call_number_lem}

-- ---- a message that breaks a rule of its own is answered 3, and any other by what the table holds

broken : (M : Model) (T : Table) (m : Message) → number ((bad_message, true) ∷ further_circumstances M keeps_room T m) ≡ 3
unfolding further_circumstances number first applies both either
broken M T (propose_prepare s x) = refl
broken M T (finalise_prepare s v r) = refl
broken M T (propose_outcome s o x) = refl
broken M T (finalise_outcome s v o) = refl
broken M T (change_view v) = refl
broken M T (start_view v I) = refl
broken M T (read_register s k) = refl

pub own_rule : (M : Model) (T : Table) (m : Message) → answer_number M keeps_room T m ≡ cond (message_by_rule M T.n m) (served_number M T m) 3
unfolding answer_number circumstances served_number
own_rule M T m = go (message_by_rule M T.n m)
  where
    go : (b : Bool) → number ((bad_message, not b) ∷ further_circumstances M keeps_room T m) ≡ cond b (number (further_circumstances M keeps_room T m)) 3
    go true = number_not_given bad_message (further_circumstances M keeps_room T m)
    go false = broken M T m

-- ---- what the table holds never gives 1, 2 or 3

further_none : (M : Model) (T : Table) (m : Message) →
    let cs = further_circumstances M keeps_room T m in
    (applies cs small_buffer ≡ false) × (applies cs bad_table ≡ false) × (applies cs bad_message ≡ false)
unfolding further_circumstances applies both either
further_none M T (propose_prepare s x) = (refl, refl, refl)
further_none M T (finalise_prepare s v r) = (refl, refl, refl)
further_none M T (propose_outcome s o x) = (refl, refl, refl)
further_none M T (finalise_outcome s v o) = (refl, refl, refl)
further_none M T (change_view v) = (refl, refl, refl)
further_none M T (start_view v I) = (refl, refl, refl)
further_none M T (read_register s k) = (refl, refl, refl)

pub served_other : (M : Model) (T : Table) (m : Message) → (served_number M T m ≡ 1 → ⊥) × (served_number M T m ≡ 2 → ⊥) × (served_number M T m ≡ 3 → ⊥)
unfolding served_number
served_other M T m =
    let (a, b, c) = further_none M T m in
    let cs = further_circumstances M keeps_room T m in
    (λ e. impossible ((number_exactly cs small_buffer).0 e).0 a, λ e. impossible ((number_exactly cs bad_table).0 e).0 b, λ e. impossible ((number_exactly cs bad_message).0 e).0 c)

-- ---- the ways

-- both buffers have their least length
abbrev pub Large : Model → List ℕ → List ℕ → Type 0
Large M table reply = (M.least_buffer ≤ length table) × (24 ≤ length reply)

pub data AnswerWay (M : Model) (table message reply : List ℕ) : ℕ → Type 0 where
  -- 1: "table or output buffer .. below 49,176, or reply buffer below 24"
  small : (length table < M.least_buffer) ⊎ (length reply < 24) → AnswerWay M table message reply 1
  -- 2: "the lent table .. doesn't begin with an image by the rules"
  no_table : Large M table reply → parse format_one M table ≡ none → AnswerWay M table message reply 2
  -- 3: "kind, length, stamp, body, register or code breaks a rule": the bytes are no message, or one that breaks a rule in this group
  no_message : Large M table reply → (T : Table) → parse format_one M table ≡ some T → message_at format_one message ≡ none → AnswerWay M table message reply 3
  breaks_rule : Large M table reply → (T : Table) (m : Message) → parse format_one M table ≡ some T → message_at format_one message ≡ some m → message_by_rule M T.n m ≡ false → AnswerWay M table message reply 3
  -- 0, or 4 to 10 by what the table holds: Serving.number_1 to number_7 compute it for each kind of message
  served : Large M table reply → (T : Table) (m : Message) → parse format_one M table ≡ some T → message_at format_one message ≡ some m → message_by_rule M T.n m ≡ true → AnswerWay M table message reply (served_number M T m)

pub large_enough : (M : Model) (table reply : List ℕ) → M.least_buffer ≤ length table → 24 ≤ length reply → either (too_small M (length table)) (reply_too_small (length reply)) ≡ false
unfolding too_small reply_too_small
large_enough M table reply l r = either_false (le-ltb _ _ l) (le-ltb _ _ r)

module _ (M : Model) (table message reply : List ℕ) where
  -- one of them applies
  pub answer_way : AnswerWay M table message reply (call_number M table message reply)
  unfolding too_small reply_too_small
  answer_way = go (cases (either (too_small M (length table)) (reply_too_small (length reply))))
    where
      whole : (T : Table) (m : Message) → Large M table reply → parse format_one M table ≡ some T → message_at format_one message ≡ some m → (message_by_rule M T.n m ≡ true) ⊎ (message_by_rule M T.n m ≡ false) → AnswerWay M table message reply (answer_number M keeps_room T m)
      whole T m l a b (inl r) = rw (own_rule M T m, r) (served l T m a b r)
      whole T m l a b (inr r) = rw (own_rule M T m, r) (breaks_rule l T m a b r)

      read : (p : Option Table) (q : Option Message) → Large M table reply → parse format_one M table ≡ p → message_at format_one message ≡ q → AnswerWay M table message reply (number_for M p q)
      read none q l a b = no_table l a
      read (some T) none l a b = no_message l T a b
      read (some T) (some m) l a b = whole T m l a b (cases (message_by_rule M T.n m))

      low : (too_small M (length table) ≡ true) ⊎ (reply_too_small (length reply) ≡ true) → (length table < M.least_buffer) ⊎ (length reply < 24)
      low (inl t) = inl (ltb-true _ _ t)
      low (inr t) = inr (ltb-true _ _ t)

      go : (either (too_small M (length table)) (reply_too_small (length reply)) ≡ true) ⊎ (either (too_small M (length table)) (reply_too_small (length reply)) ≡ false) → AnswerWay M table message reply (call_number M table message reply)
      go (inl t) = rw (call_number_lem M table message reply, t) (small (low (either_cases _ _ t)))
      go (inr t) = rw (call_number_lem M table message reply, t) (read (parse format_one M table) (message_at format_one message) (ltb-false _ _ (either_left _ _ t), ltb-false _ _ (either_right _ _ t)) refl refl)

  -- and a way that applies is the call's: its number is given where its circumstances are
  pub way_exactly : {k : ℕ} → AnswerWay M table message reply k → call_number M table message reply ≡ k
  unfolding too_small reply_too_small
  way_exactly (small (inl l)) = rw (call_number_lem M table message reply, either_first (too_small M (length table)) (reply_too_small (length reply)) (lt-ltb _ _ l))
  way_exactly (small (inr l)) = rw (call_number_lem M table message reply, either_second (too_small M (length table)) (reply_too_small (length reply)) (lt-ltb _ _ l))
  way_exactly (no_table (l, r) a) = rw (call_number_lem M table message reply, large_enough M table reply l r, a)
  way_exactly (no_message (l, r) T a b) = rw (call_number_lem M table message reply, large_enough M table reply l r, a, b)
  way_exactly (breaks_rule (l, r) T m a b h) = rw (call_number_lem M table message reply, large_enough M table reply l r, a, b, own_rule M T m, h)
  way_exactly (served (l, r) T m a b h) = rw (call_number_lem M table message reply, large_enough M table reply l r, a, b, own_rule M T m, h)

  -- 3, without a word on how bytes are read: no message by the rules of the box's group has these bytes
  module _ (sound : Sound format_one M) (all : AllBytes message) (large : Large M table reply) (T : Table) (a : parse format_one M table ≡ some T) where
    abbrev pub NoMessage : Type 0
    NoMessage = (m : Message) → message_by_rule M T.n m ≡ true → message_bytes format_one m ≡ message → ⊥

    pub bad_message_exactly : (call_number M table message reply ≡ 3 → NoMessage) × (NoMessage → call_number M table message reply ≡ 3)
    bad_message_exactly = (
      λ e m r is. (served_other M T m).2 (sym (way_exactly (served large T m a (sym (ap (message_at format_one) is) ∙ message_read format_one M T.n m sound r) r)) ∙ e),
      λ none_is. go none_is (message_at format_one message) refl,
    )
      where
        broken_or_not : NoMessage → (m : Message) → message_at format_one message ≡ some m → (message_by_rule M T.n m ≡ true) ⊎ (message_by_rule M T.n m ≡ false) → call_number M table message reply ≡ 3
        broken_or_not h m b (inl r) = absurd (h m r (message_bytes_lem format_one sound.starts message all m b))
        broken_or_not h m b (inr r) = way_exactly (breaks_rule large T m a b r)

        go : NoMessage → (q : Option Message) → message_at format_one message ≡ q → call_number M table message reply ≡ 3
        go h none b = way_exactly (no_message large T a b)
        go h (some m) b = broken_or_not h m b (cases (message_by_rule M T.n m))

-- One call of `answer` is the answer of `rules` to what the bytes say: number, table and reply, taken or refused.
use mathlib.Core.Path.{◌≡◌, refl, sym, ap, ◌∙◌}
use mathlib.Core.Bool.{true, false, cond}
use mathlib.Core.Logic.{◌⊎◌, inl, inr}
use mathlib.Core.List.{List}
use mathlib.Core.Option.{Option, none, some}
use Prim.Native.Nat.{ℕ, ◌+◌, ◌*◌, ◌≤◌}
use native.Mathlib.Omega.{arith}
use lib.Dec.{eqb}
use lib.ListN.{length}
use borrow.Author.Tests.{eqb-false}
use Rattle.wire.specs.Parts.{replaced}
use Rattle.rules.specs.Tests.{both}
use Rattle.rules.specs.Stamps.{is_stamp}
use Rattle.rules.specs.Tables.{Model, Table}
use Rattle.rules.specs.Messages.{Message, table_after}
use Rattle.rules.specs.Circumstances.{keeps_room, message_by_rule}
use Rattle.rules.specs.Answers as rules
use Rattle.rules.specs.Answers.{Answer, reply_from, refusal, taken, refused, answer_number, proposal_check}
use Rattle.rules.proofs.Logic.{cases, same?}
use Rattle.rules.proofs.Answers.{answer_same_box, proposal_by_rule}
use Rattle.history_cases.specs.Today.{answer}
use Rattle.table.specs.Images.{format_one}
use Rattle.table.specs.Parse.{parse}
use Rattle.table.proofs.Images.{Sound, parse_by_rule}
use Rattle.message.specs.Messages.{message_at, message_to}
use Rattle.transact.specs.Replies.{reply_as, reply_bytes}
use Rattle.answer.specs.Calls.{call_number, call_table, call_reply}
use Rattle.answer.proofs.AnswerCall.{refusal_bytes, answer_refused, refused_reply, answer_as_rules, answer_length}
use Rattle.answer.proofs.AnswerWays.{Large, AnswerWay.no_message, AnswerWay.breaks_rule, AnswerWay.served, own_rule, served_other, way_exactly}
use Rattle.group.specs.Inner.StandIns as bytes
use Rattle.group.specs.Said.{message_in}
use Rattle.group.specs.Inner.StandIns.{said}

-- ---- what bytes are said to be

-- bytes that are a message by the rules of the group
pub message_is : (M : Model) (n : ℕ) (message : List ℕ) (m : Message) → message_at format_one message ≡ some m → message_by_rule M n m ≡ true → message_in M n message ≡ some m
unfolding message_to
message_is M n message m b r = rw (b, r) refl

message_none : (M : Model) (n : ℕ) (message : List ℕ) → message_at format_one message ≡ none → message_in M n message ≡ none
unfolding message_to
message_none M n message b = rw b refl

message_broken : (M : Model) (n : ℕ) (message : List ℕ) (m : Message) → message_at format_one message ≡ some m → message_by_rule M n m ≡ false → message_in M n message ≡ none
unfolding message_to
message_broken M n message m b r = rw (b, r) refl

-- what no box takes is answered with 3, and the table stays
no_message_lem : (M : Model) (T : Table) → answer M T bytes.no_message ≡ refused 3 T
unfolding rules.answer message_by_rule both is_stamp
no_message_lem M T = rw (own_rule M T bytes.no_message)

-- a reply has the number of its answer, and one numbered 0 has the box of the table after it
pub taken_reply : (M : Model) (T : Table) (m : Message) →
    let a = answer M T m in
    (a.reply.number ≡ a.number) × (a.reply.number ≡ 0 → a.reply.box ≡ a.table.box)
unfolding rules.answer taken refused reply_from refusal
taken_reply M T m = go (answer_number M keeps_room T m) (same? (answer_number M keeps_room T m) 0)
  where
    go : (k : ℕ) → (k ≡ 0) ⊎ (eqb k 0 ≡ false) →
        let a = cond (eqb k 0) (taken (table_after proposal_check T m) m) (refused k T) in
        (a.reply.number ≡ a.number) × (a.reply.number ≡ 0 → a.reply.box ≡ a.table.box)
    go k (inl e) = rw e (refl, λ z. refl)
    go k (inr e) = rw e (refl, λ z. absurd (eqb-false k 0 e z))

module _ (M : Model) (table message reply : List ℕ) where
  -- number, table and reply of the call are those of an answer of `rules`
  abbrev pub AnsweredAs : Answer → Type 0
  AnsweredAs a = (call_number M table message reply ≡ a.number) × (parse format_one M (call_table M table message reply) ≡ some a.table) × (call_reply M table message reply ≡ replaced reply 0 (reply_bytes (reply_as a.reply)))

  module _ (sound : Sound format_one M) (n : ℕ) (T : Table) (large : Large M table reply) (a : parse format_one M table ≡ some T) (group : T.n ≡ n) where
    bad : call_number M table message reply ≡ 3 → AnsweredAs (refused 3 T)
    unfolding refused
    bad e =
        let other : (k : ℕ) → (3 ≡ k → ⊥) → call_number M table message reply ≡ k → ⊥ = λ k d z. d (sym e ∙ z) in (
          e,
          ap (parse format_one M) (answer_refused M table message reply (other 0 (λ z. absurd (omega arith)))) ∙ a,
          refused_reply M table message reply 3 e (λ z. absurd (omega arith)) (λ z. absurd (omega arith)) ∙ ap (replaced reply 0) (sym (refusal_bytes 3)),
        )

    as_none : message_in M n message ≡ none → call_number M table message reply ≡ 3 → (call_number M table message reply ≡ 1 → ⊥) × AnsweredAs (answer M T (said M n message))
    as_none h e = (λ z. let d : ◌≡◌ {A = ℕ} 3 1 = sym e ∙ z in absurd (omega arith), rw (h, no_message_lem M T) (bad e))

    -- and it is not numbered 1
    pub answered_as_said : (call_number M table message reply ≡ 1 → ⊥) × AnsweredAs (answer M T (said M n message))
    answered_as_said = go (message_at format_one message) refl
      where
        by : (m : Message) → message_at format_one message ≡ some m → (message_by_rule M n m ≡ true) ⊎ (message_by_rule M n m ≡ false) → (call_number M table message reply ≡ 1 → ⊥) × AnsweredAs (answer M T (said M n message))
        by m b (inl r) =
            let is = way_exactly M table message reply (served large T m a b (rw group r)) in
            let other : call_number M table message reply ≡ 1 → ⊥ = λ z. (served_other M T m).0 (sym is ∙ z) in
            (other, rw (message_is M n message m b r) (answer_as_rules M table message reply sound other T m a b))
        by m b (inr r) = as_none (message_broken M n message m b r) (way_exactly M table message reply (breaks_rule large T m a b (rw group r)))

        go : (q : Option Message) → message_at format_one message ≡ q → (call_number M table message reply ≡ 1 → ⊥) × AnsweredAs (answer M T (said M n message))
        go none b = as_none (message_none M n message b) (way_exactly M table message reply (no_message large T a b))
        go (some m) b = by m b (cases (message_by_rule M n m))

    -- the table buffer keeps its length, and its table stays that of its box and group
    pub kept_after : 24 + 96 * M.row_limit ≤ M.least_buffer →
        let U = (answer M T (said M n message)).table in
        (M.least_buffer ≤ length (call_table M table message reply)) × (U.box ≡ T.box) × (U.n ≡ n)
    kept_after room =
        let (box, same) = answer_same_box M keeps_room proposal_check proposal_by_rule T (said M n message) (parse_by_rule format_one M table T a) in
        let l = answer_length M table message reply sound room in
        let k = large.0 in
        (omega arith, box, same ∙ group)

-- The answer call: its numbers, each exactly in its circumstances, and what it leaves in the table buffer and in the reply buffer.
use mathlib.Core.Path.{◌≡◌, refl, sym, ap, ◌∙◌}
use mathlib.Core.Bool.{true, false, cond}
use mathlib.Core.Logic.{◌⊎◌, inl, inr}
use mathlib.Core.List.{List, ◌++◌}
use mathlib.Core.Option.{Option, none, some}
use Prim.Native.Nat.{ℕ, ◌+◌, ◌*◌, ◌-◌, ◌≤◌}
use native.Mathlib.Omega.{arith}
use lib.Dec.{eqb}
use lib.ListN.{length, drop, replicate}
use borrow.Author.Tests.{eqb-false, ne_eqb, ltb-false}
use Rattle.wire.specs.Parts.{part, replaced}
use Rattle.wire.specs.Numbers.{bytes}
use Rattle.wire.proofs.Parts.{length-replaced, above_stays}
use Rattle.rules.specs.Tests.{both, either}
use Rattle.rules.specs.Tables.{Model, Table, table_by_rule}
use Rattle.rules.specs.Numbers.{Number, Number.small_buffer, Number.bad_table, number_code, Circumstance, applies, first, number}
use Rattle.rules.specs.Messages.{Message, table_after}
use Rattle.rules.specs.Circumstances.{too_small, reply_too_small, keeps_room, message_by_rule}
use Rattle.rules.specs.Answers.{refusal, reply_from, taken, refused, answer_number, answer, proposal_check}
use Rattle.rules.proofs.Logic.{cases, same?, either_left, either_right}
use Rattle.rules.proofs.Answers.{taken_by_rule, answer_by_rule, answer_same_box, proposal_by_rule}
use Rattle.rules.proofs.Room.{keeps_room_fits}
use Rattle.rules.proofs.NumberExactly.{Wins, number_exactly, zero_exactly, small_first, table_first, message_first}
use Rattle.table.specs.Images.{format_one, image_length}
use Rattle.table.specs.Parse.{parse}
use Rattle.table.proofs.Images.{Sound, length_image, image_at_most, parse_reads, parse_by_rule}
use Rattle.edit.specs.Edited.{edited}
use Rattle.edit.proofs.EditedBuffers.{edited_length, edited_past, edited_given_up, edited_parses}
use Rattle.message.specs.Messages.{message_at}
use Rattle.transact.specs.declared.reply.Reply.{Reply}
use Rattle.transact.specs.Replies.{reply_as, reply_bytes}
use Rattle.transact.proofs.ReplySteps.{length_reply}
use Rattle.answer.specs.Calls.{call_circumstances, call_number, call_table, reply_to, call_reply, read_circumstances}

-- ---- each number exactly in its circumstances

-- what a call is answered with where its buffers are large enough
abbrev pub number_for : Model → Option Table → Option Message → ℕ
number_for M none m = 2
number_for M (some T) none = 3
number_for M (some T) (some m) = answer_number M keeps_room T m

number_for_lem : (M : Model) (T : Option Table) (m : Option Message) → number (read_circumstances M T m) ≡ number_for M T m
unfolding answer_number number first applies both either
number_for_lem M none m = refl
number_for_lem M (some T) none = refl
number_for_lem M (some T) (some m) = refl

-- the bytes of a refusal
pub refusal_bytes : (k : ℕ) → reply_bytes (reply_as (refusal k)) ≡ bytes 1 k ++ replicate 23 0
unfolding reply_bytes refusal bytes
refusal_bytes k = refl

-- a number other than 0 is replied by a refusal, whatever was read
pub to_refusal : (k : ℕ) → eqb k 0 ≡ false → (T : Option Table) (m : Option Message) → reply_to k T m ≡ refusal k
to_refusal k e none m = refl
to_refusal k e (some T) none = refl
to_refusal k e (some T) (some m) = rw e

-- the table of an answer that is not refused
answer_table : (M : Model) (T : Table) (m : Message) → answer_number M keeps_room T m ≡ 0 → (answer M keeps_room proposal_check T m).table ≡ table_after proposal_check T m
unfolding answer taken
answer_table M T m e = rw e

module _ (M : Model) (table message reply : List ℕ) where
  -- a number of the list is given exactly if it applies and none before it in the order does
  pub answer_exactly : (k : Number) → (call_number M table message reply ≡ number_code k → Wins (call_circumstances M table message reply) k) × (Wins (call_circumstances M table message reply) k → call_number M table message reply ≡ number_code k)
  unfolding call_number
  answer_exactly k = number_exactly (call_circumstances M table message reply) k

  -- 0 exactly if "none below applies"
  pub answer_done : (call_number M table message reply ≡ 0 → (k : Number) → applies (call_circumstances M table message reply) k ≡ false) × (((k : Number) → applies (call_circumstances M table message reply) k ≡ false) → call_number M table message reply ≡ 0)
  unfolding call_number
  answer_done = zero_exactly (call_circumstances M table message reply)

  -- the same number, computed: 1, then 2 or 3 for bytes that are no table or no message, then a box's answer to the message
  pub call_number_lem : call_number M table message reply ≡ cond (either (too_small M (length table)) (reply_too_small (length reply))) 1 (number_for M (parse format_one M table) (message_at format_one message))
  unfolding call_number
  call_number_lem =
      small_first (either (too_small M (length table)) (reply_too_small (length reply))) (read_circumstances M (parse format_one M table) (message_at format_one message))
      ∙ ap (cond (either (too_small M (length table)) (reply_too_small (length reply))) 1) (number_for_lem M (parse format_one M table) (message_at format_one message))

  -- rows that call_circumstances leaves out: bytes that are no table may be no message either, and more may be said of them, but 2 comes before it
  pub bad_table_wins : parse format_one M table ≡ none → (others : List Circumstance) → applies others small_buffer ≡ false → number (call_circumstances M table message reply ++ others) ≡ call_number M table message reply
  bad_table_wins a others n = rw (call_number_lem, a) (table_first _ others n)

  -- and so does 3 before all that the table may say of bytes that are no message
  pub bad_message_wins : (T : Table) → parse format_one M table ≡ some T → message_at format_one message ≡ none → (others : List Circumstance) → applies others small_buffer ≡ false → applies others bad_table ≡ false → number (call_circumstances M table message reply ++ others) ≡ call_number M table message reply
  bad_message_wins T a b others n o = rw (call_number_lem, a, b) (message_first _ others n o)

  -- any number but 1: both buffers are large enough, and it is the one of what they hold
  pub not_small : (call_number M table message reply ≡ 1 → ⊥) → (M.least_buffer ≤ length table) × (24 ≤ length reply) × (call_number M table message reply ≡ number_for M (parse format_one M table) (message_at format_one message))
  unfolding too_small reply_too_small
  not_small h = go (cases (either (too_small M (length table)) (reply_too_small (length reply))))
    where
      go : (either (too_small M (length table)) (reply_too_small (length reply)) ≡ true) ⊎ (either (too_small M (length table)) (reply_too_small (length reply)) ≡ false) → (M.least_buffer ≤ length table) × (24 ≤ length reply) × (call_number M table message reply ≡ number_for M (parse format_one M table) (message_at format_one message))
      go (inl b) = absurd (h (rw (call_number_lem, b)))
      go (inr b) = (ltb-false _ _ (either_left _ _ b), ltb-false _ _ (either_right _ _ b), rw (call_number_lem, b))

  -- ---- refusals

  -- "Refusals keep the table"
  pub answer_refused : (call_number M table message reply ≡ 0 → ⊥) → call_table M table message reply ≡ table
  unfolding call_table
  answer_refused h = rw (ne_eqb (call_number M table message reply) 0 h)

  -- "except number 1, which writes nothing"
  pub small_silent : call_number M table message reply ≡ 1 → call_reply M table message reply ≡ reply
  unfolding call_reply
  small_silent e = rw e

  -- "the reply has the number in byte 0 and 23 zero bytes"
  pub refused_reply : (k : ℕ) → call_number M table message reply ≡ k → (k ≡ 0 → ⊥) → (k ≡ 1 → ⊥) → call_reply M table message reply ≡ replaced reply 0 (bytes 1 k ++ replicate 23 0)
  unfolding call_reply
  refused_reply k e zero one =
      rw (e, ne_eqb k 1 one, to_refusal k (ne_eqb k 0 zero) (parse format_one M table) (message_at format_one message), refusal_bytes k)

  -- ---- a message that is taken

  -- both were read: the table before, and the message
  pub record AnswerTaken : Type 0 where
    pub before : Table
    pub heard : Message
    pub read : parse format_one M table ≡ some before
    pub told : message_at format_one message ≡ some heard
    pub keeps_rules : message_by_rule M before.n heard ≡ true
    -- the buffer then begins with the table after the message, which is by the rules and of the same box and group
    pub after : parse format_one M (call_table M table message reply) ≡ some (table_after proposal_check before heard)
    pub by_rule : table_by_rule M (table_after proposal_check before heard) ≡ true
    pub box : (table_after proposal_check before heard).box ≡ before.box
    pub n : (table_after proposal_check before heard).n ≡ before.n
    -- and the reply is the one from that table
    pub said : call_reply M table message reply ≡ replaced reply 0 (reply_bytes (reply_as (reply_from (table_after proposal_check before heard) heard)))

  -- what was read, if a call is done
  taken_read : call_number M table message reply ≡ 0 → (T : Table) × (m : Message) × (parse format_one M table ≡ some T) × (message_at format_one message ≡ some m) × (answer_number M keeps_room T m ≡ 0)
  taken_read e = go (parse format_one M table) (message_at format_one message) refl refl (sym (not_small (λ d. let z : ◌≡◌ {A = ℕ} 0 1 = sym e ∙ d in absurd (omega arith))).2 ∙ e)
    where
      go : (p : Option Table) (q : Option Message) → parse format_one M table ≡ p → message_at format_one message ≡ q → number_for M p q ≡ 0 → (T : Table) × (m : Message) × (parse format_one M table ≡ some T) × (message_at format_one message ≡ some m) × (answer_number M keeps_room T m ≡ 0)
      go none q a b d = absurd (omega arith)
      go (some T) none a b d = absurd (omega arith)
      go (some T) (some m) a b d = (T, m, a, b, d)

  -- the two buffers after it
  taken_table : (m : Message) → call_number M table message reply ≡ 0 → message_at format_one message ≡ some m → call_table M table message reply ≡ edited format_one (λ T. table_after proposal_check T m) table
  unfolding call_table
  taken_table m e b = rw (e, b)

  taken_reply : (T : Table) (m : Message) → call_number M table message reply ≡ 0 → parse format_one M table ≡ some T → message_at format_one message ≡ some m → call_reply M table message reply ≡ replaced reply 0 (reply_bytes (reply_as (reply_from (table_after proposal_check T m) m)))
  unfolding call_reply
  taken_reply T m e a b = rw (e, a, b)

  pub answer_taken : Sound format_one M → call_number M table message reply ≡ 0 → AnswerTaken
  answer_taken sound e =
      let (T, m, a, b, d) = taken_read e in
      let same : (answer M keeps_room proposal_check T m).table ≡ table_after proposal_check T m = answer_table M T m d in
      let t = parse_by_rule format_one M table T a in
      let r : table_by_rule M (table_after proposal_check T m) ≡ true = rw same at (answer_by_rule M keeps_room proposal_check keeps_room_fits proposal_by_rule T m t) in
      let (x, y) = answer_same_box M keeps_room proposal_check proposal_by_rule T m t in
      let (i, h) = parse_reads format_one M table T a in
      record {
        before = T;
        heard = m;
        read = a;
        told = b;
        keeps_rules = taken_by_rule M keeps_room T m d;
        after = rw (taken_table m e b) (edited_parses format_one M (λ T. table_after proposal_check T m) table sound (rw i r) ∙ ap (λ U. some (table_after proposal_check U m)) i);
        by_rule = r;
        box = rw same at x;
        n = rw same at y;
        said = taken_reply T m e a b;
      }

  -- ---- a call whose table and message were read, taken or refused: it is `rules`' answer, of which the group's history speaks

  module _ (sound : Sound format_one M) (large : call_number M table message reply ≡ 1 → ⊥) (T : Table) (m : Message) (a : parse format_one M table ≡ some T) (b : message_at format_one message ≡ some m) where
    number_by_rules : call_number M table message reply ≡ answer_number M keeps_room T m
    number_by_rules = (not_small large).2 ∙ rw (a, b)

    parses_taken : AnswerTaken → parse format_one M (call_table M table message reply) ≡ some (table_after proposal_check T m)
    parses_taken w =
        let p : some w.before ≡ some T = sym w.read ∙ a in
        let q : some w.heard ≡ some m = sym w.told ∙ b in
        let i : w.before ≡ T = cc in
        let j : w.heard ≡ m = cc in
        rw (i, j) at w.after

    -- number, table and reply
    pub answer_as_rules :
        let said = answer M keeps_room proposal_check T m in
        (call_number M table message reply ≡ said.number) × (parse format_one M (call_table M table message reply) ≡ some said.table) × (call_reply M table message reply ≡ replaced reply 0 (reply_bytes (reply_as said.reply)))
    unfolding answer taken refused
    answer_as_rules = rw (← number_by_rules) (go (same? (call_number M table message reply) 0))
      where
        go : (call_number M table message reply ≡ 0) ⊎ (eqb (call_number M table message reply) 0 ≡ false) →
            let said = cond (eqb (call_number M table message reply) 0) (taken (table_after proposal_check T m) m) (refused (call_number M table message reply) T) in
            (call_number M table message reply ≡ said.number) × (parse format_one M (call_table M table message reply) ≡ some said.table) × (call_reply M table message reply ≡ replaced reply 0 (reply_bytes (reply_as said.reply)))
        go (inl e) = (rw e, rw e (parses_taken (answer_taken sound e)), rw e (taken_reply T m e a b))
        go (inr e) =
            let n = eqb-false (call_number M table message reply) 0 e in
            let k : ℕ = call_number M table message reply in
            (rw e, rw e (ap (parse format_one M) (answer_refused n) ∙ a), rw e (refused_reply k refl n large ∙ ap (replaced reply 0) (sym (refusal_bytes k))))

  -- ---- bytes that stay

  -- the table after a message that is taken, where the buffer has room for any table by the rules
  taken_fits : Sound format_one M → 24 + 96 * M.row_limit ≤ M.least_buffer → (T : Table) (m : Message) → parse format_one M table ≡ some T → message_at format_one message ≡ some m → call_number M table message reply ≡ 0 → image_length format_one (table_after proposal_check T m) ≤ length table
  taken_fits sound room T m a b e = go (answer_taken sound e)
    where
      go : AnswerTaken → image_length format_one (table_after proposal_check T m) ≤ length table
      go w =
          let p : some w.before ≡ some T = sym w.read ∙ a in
          let q : some w.heard ≡ some m = sym w.told ∙ b in
          let i : w.before ≡ T = cc in
          let j : w.heard ≡ m = cc in
          let r : table_by_rule M (table_after proposal_check T m) ≡ true = rw (i, j) at w.by_rule in
          let x = image_at_most format_one M (table_after proposal_check T m) sound r in
          let y = length_image format_one (table_after proposal_check T m) sound.starts in
          let z = (not_small (λ d. let z : ◌≡◌ {A = ℕ} 0 1 = sym e ∙ d in absurd (omega arith))).0 in
          omega arith

  module _ (sound : Sound format_one M) (room : 24 + 96 * M.row_limit ≤ M.least_buffer) (T : Table) (m : Message) (a : parse format_one M table ≡ some T) (b : message_at format_one message ≡ some m) (e : call_number M table message reply ≡ 0) where
    -- "After a call, bytes past the longer of the old and new image are unchanged"
    pub answer_past : (at : ℕ) → image_length format_one T ≤ at → image_length format_one (table_after proposal_check T m) ≤ at → drop at (call_table M table message reply) ≡ drop at table
    answer_past at x y =
        let (i, h) = parse_reads format_one M table T a in
        rw (taken_table m e b) (edited_past format_one (λ U. table_after proposal_check U m) table sound.starts h (rw i (taken_fits sound room T m a b e)) at (rw i x) (rw i y))

    -- "if the image shrank, the bytes given up are zero"
    pub answer_given_up :
        let gone = image_length format_one T - image_length format_one (table_after proposal_check T m) in
        part (call_table M table message reply) (image_length format_one (table_after proposal_check T m)) gone ≡ replicate gone 0
    answer_given_up =
        let (i, h) = parse_reads format_one M table T a in
        rw (taken_table m e b) (rw i at (edited_given_up format_one (λ U. table_after proposal_check U m) table sound.starts))

  -- the table buffer is as long as before
  pub answer_length : Sound format_one M → 24 + 96 * M.row_limit ≤ M.least_buffer → length (call_table M table message reply) ≡ length table
  answer_length sound room = go (same? (call_number M table message reply) 0)
    where
      go : (call_number M table message reply ≡ 0) ⊎ (eqb (call_number M table message reply) 0 ≡ false) → length (call_table M table message reply) ≡ length table
      go (inl e) =
          let (T, m, a, b, d) = taken_read e in
          let (i, h) = parse_reads format_one M table T a in
          rw (taken_table m e b) (edited_length format_one (λ U. table_after proposal_check U m) table sound.starts h (rw i (taken_fits sound room T m a b e)))
      go (inr e) = ap length (answer_refused (eqb-false (call_number M table message reply) 0 e))

  -- "Bytes of a reply buffer past 24 never change."
  pub reply_past : (drop 24 (call_reply M table message reply) ≡ drop 24 reply) × (length (call_reply M table message reply) ≡ length reply)
  unfolding call_reply
  reply_past = go (same? (call_number M table message reply) 1)
    where
      go : (call_number M table message reply ≡ 1) ⊎ (eqb (call_number M table message reply) 1 ≡ false) → (drop 24 (call_reply M table message reply) ≡ drop 24 reply) × (length (call_reply M table message reply) ≡ length reply)
      go (inl e) = rw (small_silent e) (refl, refl)
      go (inr e) =
          let r : Reply = reply_as (reply_to (call_number M table message reply) (parse format_one M table) (message_at format_one message)) in
          let l = (not_small (eqb-false (call_number M table message reply) 1 e)).1 in
          let n = length_reply r in
          rw e (above_stays reply 0 (reply_bytes r) 24 (omega arith) (omega arith), length-replaced reply 0 (reply_bytes r) (omega arith))

  -- ---- two outcomes that the promise allows for one input are equal

  pub answer_determined : {k j : ℕ} {after later said other : List ℕ} →
      k ≡ call_number M table message reply → after ≡ call_table M table message reply → said ≡ call_reply M table message reply →
      j ≡ call_number M table message reply → later ≡ call_table M table message reply → other ≡ call_reply M table message reply →
      (k ≡ j) × (after ≡ later) × (said ≡ other)
  answer_determined a b c d e f = (a ∙ sym d, b ∙ sym e, c ∙ sym f)

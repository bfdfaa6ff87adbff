-- From what a look at the buffer and at the message gives to what the call leaves.
use mathlib.Core.Path.{◌≡◌, refl, sym, ap, ◌∙◌}
use mathlib.Core.Bool.{true, false, cond}
use mathlib.Core.List.{List}
use mathlib.Core.Logic.{◌⊎◌, inl, inr}
use mathlib.Core.Option.{Option, none, some}
use Rattle.std.specs.Prelude as code
use Rattle.std.specs.Prelude.{Result, Ok, Err, MatchResult, is_ok}
use Rattle.numbers.specs.declared.Refusal.{Refusal}
use Rattle.numbers.specs.declared.Refusal.TheVariants.{BadMessage}
use Rattle.numbers.specs.Inner.Ended.{ended_with}
use Prim.Native.Nat.{ℕ, ◌≤◌, ◌<◌}
use native.Mathlib.Omega.{arith}
use lib.Dec.{eqb}
use lib.ListN.{length}
use borrow.Author.Tests.{eqb-true, ne_eqb}
use Rattle.wire.specs.Parts.{replaced}
use Rattle.rules.specs.Tests.{both, either}
use Rattle.rules.specs.Tables.{Model, Table, valley, table_by_rule}
use Rattle.rules.specs.Messages.{Message, table_after}
use Rattle.rules.specs.Circumstances.{too_small, reply_too_small, message_by_rule}
use Rattle.rules.specs.Answers.{Answer, refusal, refused, taken, reply_from, proposal_check}
use Rattle.rules.proofs.Logic.{cases, impossible}
use Rattle.rules.proofs.Tables.{table_by}
use Rattle.table.specs.Headers.{header_at}
use Rattle.table.specs.Images.{format_one}
use Rattle.table.specs.Parse.{parse, table_at, image_found, BeginsWithImage}
use Rattle.table.proofs.Images.{parse_reads}
use Rattle.edit.specs.Edited.{edited}
use Rattle.edit.proofs.EditedBuffers.{edited_same, edited_as}
use Rattle.message.specs.Messages.{message_at, keeping_rules, message_to}
use Rattle.seek.specs.Inner.Limits.{limited}
use Rattle.seek.proofs.HeldRows.{image_holds, image_regular}
use Rattle.transact.specs.declared.reply.Reply.{Reply}
use Rattle.transact.specs.Replies.{reply_as, reply_bytes}
use Rattle.transact.specs.Inner.DoneReplies.{Tells}
use Rattle.transact.specs.Inner.Served.{served_number, served, served_reply, served_buffer, served_compared}
use Rattle.edit.specs.Inner.Holding.{Holds}
use Rattle.transact.proofs.Serving.{tells_refusal}
use Rattle.answer.specs.Inner.BoxAnswers.{answer_to, answer_reply, answer_buffer, answer_compared, heard, heard_reply, heard_buffer, heard_compared}
use Rattle.answer.specs.Calls.{call_number, call_table, call_reply, change_by, search_steps, steps_of, compares_none, call_compared}
use Rattle.answer.proofs.AnswerCall.{number_for, call_number_lem, to_refusal}
use Rattle.answer.proofs.AnswerCompared.{served_compared_lem}
use Rattle.answer.proofs.AnswerWays.{own_rule, served_other, AnswerWay.small, way_exactly}

-- ---- the table that was looked for

pub found_nothing : (o : Option Table) → code.None ≡ image_found format_one o → o ≡ none
found_nothing none e = refl
found_nothing (some T) e = let z : ◌≡◌ {A = ℕ} 0 1 = cc in absurd (omega arith)

module _ (M : Model) (s : List ℕ) (l : ℕ) (found : code.Some l ≡ image_found format_one (parse format_one M s)) where
  pub found_begins : BeginsWithImage M s
  found_begins = go (parse format_one M s) refl found
    where
      go : (o : Option Table) → parse format_one M s ≡ o → code.Some l ≡ image_found format_one o → parse format_one M s ≡ some (table_at format_one s)
      go none e f = let z : ◌≡◌ {A = ℕ} 0 1 = cc in absurd (omega arith)
      go (some T) e f = e ∙ ap some (sym (parse_reads format_one M s T e).0)

pub widened : (limit : ℕ) (s : List ℕ) → limit ≤ 512 → BeginsWithImage (limited limit) s → BeginsWithImage valley s
unfolding parse both
widened limit s kind keeping_rules =
    let (regular, few) = image_regular (limited limit) s keeping_rules in
    let b : table_by_rule valley (table_at format_one s) ≡ true = table_by valley regular (omega arith) in
    rw (b, image_holds (limited limit) s keeping_rules)

-- ---- what was heard is what was read of the message

module _ (M : Model) (s message : List ℕ) (asked : Option Message) (keeping_rules : BeginsWithImage M s) (told : asked ≡ message_to format_one M (header_at s).n message) where
  same_heard : answer_to M asked (table_at format_one s) ≡ heard M message (table_at format_one s)
  unfolding table_at
  same_heard = ap (λ o. answer_to M o (table_at format_one s)) told

  pub heard_so : (answer_reply M asked s ≡ heard_reply M message (parse format_one M s)) × (answer_buffer M asked s ≡ heard_buffer M message s (parse format_one M s))
  heard_so =
      rw keeping_rules (
        ap (λ (a : Answer). reply_as a.reply) same_heard,
        edited_as format_one (λ U. (answer_to M asked U).table) (λ U. (heard M message U).table) s (ap (λ (a : Answer). a.table) same_heard),
      )

  pub heard_compared_lem : answer_compared asked (table_at format_one s) ≡ heard_compared M message (parse format_one M s)
  unfolding table_at
  heard_compared_lem = rw keeping_rules (ap (λ o. answer_compared o (table_at format_one s)) told)

-- no message: 3, and nothing is changed
pub none_answered : (M : Model) (s : List ℕ) → Holds format_one s → Tells (Err BadMessage) (answer_reply M none s) × (s ≡ answer_buffer M none s)
unfolding refused
none_answered M s holds = (tells_refusal BadMessage _ refl, sym (edited_same format_one (λ T. T) s holds refl))

-- ---- what a call promises that hears the bytes of a message, by what was read of them

module _ (M : Model) (s message : List ℕ) (keeping_rules : BeginsWithImage M s) where
  -- what is promised of a call that hears it
  abbrev pub Heard : Result Reply Refusal → List ℕ → ℕ → Type 0
  Heard told after n = Tells told (heard_reply M message (parse format_one M s)) × (after ≡ heard_buffer M message s (parse format_one M s)) × (n ≡ heard_compared M message (parse format_one M s))

  -- what is answered to what was read is what is promised of the bytes
  pub heard_answered : (asked : Option Message) → asked ≡ message_to format_one M (header_at s).n message → (told : Result Reply Refusal) (after : List ℕ) (n : ℕ) →
      Tells told (answer_reply M asked s) → after ≡ answer_buffer M asked s → n ≡ answer_compared asked (table_at format_one s) → Heard told after n
  heard_answered asked read told after n tells buffer compared =
      let (reply, is) = heard_so M s message asked keeping_rules read in
      ((tells.0 ∙ reply, tells.1 ∙ ap (λ (r : Reply). r.number) reply), buffer ∙ is, compared ∙ heard_compared_lem M s message asked keeping_rules read)

  -- no message: 3, and nothing is changed
  pub heard_none : none ≡ message_to format_one M (header_at s).n message → Heard (Err BadMessage) s 0
  heard_none told =
      let (tells, after) = none_answered M s (image_holds M s keeping_rules) in
      heard_answered none told (Err BadMessage) s 0 tells after refl

  pub heard_message : (m : Message) → some m ≡ message_to format_one M (header_at s).n message → (told : Result Reply Refusal) (after : List ℕ) (n : ℕ) →
      Tells told (served_reply M m s) → after ≡ served_buffer M m s → n ≡ served_compared (table_at format_one s) m → Heard told after n
  heard_message m asked told after n tells buffer compared = heard_answered (some m) asked told after n tells buffer compared

-- ---- the call's three promises, of a call with buffers that are large enough

module _ (M : Model) (table message reply : List ℕ) where
  -- what the call returns and leaves
  abbrev pub Left : Reply → List ℕ → Type 0
  Left said after = (said.number ≡ call_number M table message reply) × (after ≡ call_table M table message reply) × (replaced reply 0 (reply_bytes said) ≡ call_reply M table message reply)

  left_refused : (k : ℕ) → eqb k 0 ≡ false → eqb k 1 ≡ false → call_number M table message reply ≡ k → Left (reply_as (refusal k)) table
  unfolding call_table call_reply refusal
  left_refused k other large is = rw (is, other, large, to_refusal k other (parse format_one M table) (message_at format_one message)) (refl, refl, refl)

  left_taken : (T : Table) (m : Message) → parse format_one M table ≡ some T → message_at format_one message ≡ some m → call_number M table message reply ≡ 0 →
      Left (reply_as (reply_from (table_after proposal_check T m) m)) (edited format_one (change_by (some m)) table)
  unfolding call_table call_reply reply_from
  left_taken T m parses reads is = rw (is, parses, reads) (refl, refl, refl)

  module _ (large : either (too_small M (length table)) (reply_too_small (length reply)) ≡ false) where
    number_is : call_number M table message reply ≡ number_for M (parse format_one M table) (message_at format_one message)
    number_is = call_number_lem M table message reply ∙ rw large

    no_table : parse format_one M table ≡ none → Left (heard_reply M message none) (heard_buffer M message table none)
    no_table e = left_refused 2 refl refl (number_is ∙ rw e)

    module _ (T : Table) (parses : parse format_one M table ≡ some T) where
      read_off : table_at format_one table ≡ T
      read_off = (parse_reads format_one M table T parses).0

      begins_here : BeginsWithImage M table
      begins_here = parses ∙ ap some (sym read_off)

      -- the buffer stays where the table does
      stays : (a : Answer) → heard M message T ≡ a → a.table ≡ T → heard_buffer M message table (some T) ≡ table
      stays a e same =
          edited_same format_one (λ U. (heard M message U).table) table (image_holds M table begins_here)
          (ap (λ U. (heard M message U).table) read_off ∙ ap (λ (a : Answer). a.table) e ∙ same ∙ sym read_off)

      refuses : (k : ℕ) → eqb k 0 ≡ false → eqb k 1 ≡ false → call_number M table message reply ≡ k → heard M message T ≡ refused k T → Left (heard_reply M message (some T)) (heard_buffer M message table (some T))
      unfolding refused
      refuses k other big is e = rw (stays (refused k T) e refl, e) (left_refused k other big is)

      bad : (call_number M table message reply ≡ 3) → message_to format_one M T.n message ≡ none → Left (heard_reply M message (some T)) (heard_buffer M message table (some T))
      bad is e = refuses 3 refl refl is (rw e)

      module _ (m : Message) (reads : message_at format_one message ≡ some m) where
        by_own_rule : call_number M table message reply ≡ cond (message_by_rule M T.n m) (served_number M T m) 3
        by_own_rule = number_is ∙ rw (parses, reads) (own_rule M T m)

        breaks : message_by_rule M T.n m ≡ false → Left (heard_reply M message (some T)) (heard_buffer M message table (some T))
        unfolding message_to
        breaks e = bad (by_own_rule ∙ rw e) (rw (reads, e))

        module _ (by_rule : message_by_rule M T.n m ≡ true) where
          heard_is : heard M message T ≡ served M T m
          unfolding message_to
          heard_is = rw (reads, by_rule)

          given : call_number M table message reply ≡ served_number M T m
          given = by_own_rule ∙ rw by_rule

          not_one : eqb (served_number M T m) 1 ≡ false
          not_one = ne_eqb _ _ (served_other M T m).0

          serves : (eqb (served_number M T m) 0 ≡ true) ⊎ (eqb (served_number M T m) 0 ≡ false) → Left (heard_reply M message (some T)) (heard_buffer M message table (some T))
          unfolding served taken
          serves (inr e) = refuses (served_number M T m) e not_one given (heard_is ∙ rw e)
          serves (inl e) =
              let is : heard M message T ≡ taken (table_after proposal_check T m) m = heard_is ∙ rw e in
              let after : heard_buffer M message table (some T) ≡ edited format_one (change_by (some m)) table =
              edited_as format_one (λ U. (heard M message U).table) (change_by (some m)) table (ap (λ U. (heard M message U).table) read_off ∙ ap (λ (a : Answer). a.table) is ∙ ap (λ U. table_after proposal_check U m) (sym read_off)) in
              rw (after, is) (left_taken T m parses reads (given ∙ eqb-true _ _ e))

      by_test : (m : Message) → message_at format_one message ≡ some m → (message_by_rule M T.n m ≡ true) ⊎ (message_by_rule M T.n m ≡ false) → Left (heard_reply M message (some T)) (heard_buffer M message table (some T))
      by_test m reads (inl e) = serves m reads e (cases (eqb (served_number M T m) 0))
      by_test m reads (inr e) = breaks m reads e

      no_message_lem : message_at format_one message ≡ none → message_to format_one M T.n message ≡ none
      unfolding message_to
      no_message_lem e = rw e

    pub left_so : Left (heard_reply M message (parse format_one M table)) (heard_buffer M message table (parse format_one M table))
    left_so = go (parse format_one M table) refl (message_at format_one message) refl
      where
        go : (o : Option Table) → parse format_one M table ≡ o → (p : Option Message) → message_at format_one message ≡ p → Left (heard_reply M message (parse format_one M table)) (heard_buffer M message table (parse format_one M table))
        go none e p f = rw e (no_table e)
        go (some T) e none f = rw e (bad T e (number_is ∙ rw (e, f)) (no_message_lem T e f))
        go (some T) e (some m) f = rw e (by_test T e m f (cases (message_by_rule M T.n m)))

    -- how many rows were compared for it
    pub compared_so : heard_compared M message (parse format_one M table) ≡ call_compared M table message reply
    unfolding call_compared message_to both either
    compared_so = go (parse format_one M table) refl (message_at format_one message) refl
      where
        by_rule_lem : (T : Table) (m : Message) → (message_by_rule M T.n m ≡ true) ⊎ (message_by_rule M T.n m ≡ false) → answer_compared (keeping_rules M T.n (some m)) T ≡ cond (compares_none (cond (message_by_rule M T.n m) (served_number M T m) 3)) 0 (search_steps T m)
        by_rule_lem T m (inl e) = rw e (served_compared_lem M T m)
        by_rule_lem T m (inr e) = rw e

        go : (o : Option Table) → parse format_one M table ≡ o → (p : Option Message) → message_at format_one message ≡ p → heard_compared M message (parse format_one M table) ≡ cond (compares_none (call_number M table message reply)) 0 (steps_of (parse format_one M table) (message_at format_one message))
        go none e p f = rw (number_is, e)
        go (some T) e none f = rw (number_is, e, f)
        go (some T) e (some m) f = rw (by_own_rule T e m f, e, f) (by_rule_lem T m (cases (message_by_rule M T.n m)))

-- what is told of a call beside its reply ends as what was heard
pub ended_same : (said : Result Reply Refusal) (ended : Result (Unit {0}) Refusal) (P : Reply → Type 0) → MatchResult said P (λ r. ended ≡ Err r) → is_ok ended ≡ is_ok said → ended_with ended ≡ ended_with said
ended_same (Ok reply) (Ok done) P told same = refl
ended_same (Ok reply) (Err r) P told same = impossible same refl
ended_same (Err r) ended P told same = ap ended_with told

-- ---- buffers too small

module _ (M : Model) (table message reply : List ℕ) (short : (length table < M.least_buffer) ⊎ (length reply < 24)) where
  pub left_small : (1 ≡ call_number M table message reply) × (table ≡ call_table M table message reply) × (reply ≡ call_reply M table message reply)
  unfolding call_table call_reply
  left_small = rw (way_exactly M table message reply (small short)) (refl, refl, refl)

  pub compared_small : 0 ≡ call_compared M table message reply
  unfolding call_compared both either
  compared_small = rw (way_exactly M table message reply (small short))

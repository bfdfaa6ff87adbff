-- A call of `answer` by a box of the group is one answer in the group that the bytes say.
use mathlib.Core.Path.{◌≡◌, refl, sym, ap, ◌∙◌}
use mathlib.Core.Bool.{true, false}
use mathlib.Core.Logic.{◌⊎◌, inl, inr}
use mathlib.Core.List.{List, [], ◌∷◌, ◌++◌, map}
use Prim.Native.Nat.{ℕ, ◌+◌, ◌*◌, ◌≤◌, ◌<◌}
use lib.Dec.{eqb}
use lib.ListN.{length}
use borrow.Author.Tests.{ne_eqb, lt-ltb}
use Rattle.rules.specs.Tables.{Table, Model, table_by_rule}
use Rattle.rules.specs.Answers.{Answer}
use Rattle.rules.proofs.Logic.{eqb_self, same?}
use Rattle.table.specs.Images.{format_one}
use Rattle.table.specs.Parse.{table_at, BeginsWithImage}
use Rattle.table.proofs.Images.{Sound, parse_reads, parse_by_rule}
use Rattle.answer.specs.Calls.{call_number, call_table, call_reply}
use Rattle.history.specs.Survival as history
use Rattle.history.specs.Survival.{put}
use Rattle.history.proofs.Follow.Follows.{and_last}
use Rattle.history_cases.specs.Today.{answer}
use Rattle.group.specs.Inner.StandIns.{said}
use Rattle.group.specs.Said.{reply_in}
use Rattle.group.specs.Acts.{Sent, GroupInBuffers, answering}
use Rattle.group.proofs.Reading.{sent_as, answered_as, tables_in, reading}
use Rattle.group.proofs.Listed.{map_last}
use Rattle.group.proofs.ImagesIn.{begins_with}
use Rattle.group.proofs.AnswerSaid.{AnsweredAs, taken_reply, answered_as_said, kept_after}
use Rattle.group.proofs.RepliesRead.{answer_read}
use Rattle.group.proofs.Good.{Kept, Good}

module _ (M : Model) (sound : Sound format_one M) (room : 24 + 96 * M.row_limit ≤ M.least_buffer) (B : GroupInBuffers) (good : Good M B) (x : Sent) (inside : x.box < B.n) (reply : List ℕ) (long : 24 ≤ length reply) where
  abbrev buffer : List ℕ
  buffer = B.buffer x.box

  abbrev before : Table
  before = table_at format_one buffer

  abbrev pub answer_of : Answer
  answer_of = answer M before (said M B.n x.message)

  abbrev pub table_now : List ℕ
  table_now = call_table M buffer x.message reply

  abbrev pub reply_now : List ℕ
  reply_now = call_reply M buffer x.message reply

  abbrev pub answered_now : GroupInBuffers
  answered_now = answering B x table_now reply_now

  kept : Kept M B.n x.box buffer
  kept = good.buffers x.box inside

  by_rule_lem : table_by_rule M before ≡ true
  by_rule_lem = parse_by_rule format_one M buffer before kept.image

  is_answer : (call_number M buffer x.message reply ≡ 1 → ⊥) × AnsweredAs M buffer x.message reply answer_of
  is_answer = answered_as_said M buffer x.message reply sound B.n before (kept.large, long) kept.image kept.group

  pub not_small : eqb (call_number M buffer x.message reply) 1 ≡ false
  not_small = ne_eqb _ 1 is_answer.0

  table_read : table_at format_one table_now ≡ answer_of.table
  table_read = (parse_reads format_one M table_now answer_of.table is_answer.1.1).0

  reply_is : reply_in reply_now ≡ answer_of.reply
  reply_is = ap reply_in is_answer.1.2 ∙ answer_read M before (said M B.n x.message) by_rule_lem reply

  -- the box that answers has the table of the answer, and every other the one that it had
  tables_then : (b : ℕ) → tables_in M B.n (put B.buffer x.box table_now) b ≡ put (tables_in M B.n B.buffer) x.box answer_of.table b
  tables_then b = go (same? x.box b)
    where
      go : (x.box ≡ b) ⊎ (eqb x.box b ≡ false) → tables_in M B.n (put B.buffer x.box table_now) b ≡ put (tables_in M B.n B.buffer) x.box answer_of.table b
      go (inl e) = rw (← e, eqb_self x.box, lt-ltb x.box B.n inside) table_read
      go (inr e) = rw e refl

  pub answering_read : reading M answered_now ≡ history.answering (reading M B) (sent_as M B.n x) answer_of
  answering_read = λ i. record {
    n = B.n;
    table = λ b. tables_then b i;
    had = (map_last (table_at format_one) B.had table_now ∙ ap (λ T. map (table_at format_one) B.had ++ (T ∷ [])) table_read) i;
    sent = map (sent_as M B.n) B.sent;
    answers = (map_last (answered_as M B.n) B.answers _ ∙ ap (λ p. map (answered_as M B.n) B.answers ++ (record { box = x.box; message = said M B.n x.message; reply = p } ∷ [])) reply_is) i;
    declared = B.declared;
    merged = (reading M B).merged;
  }

  kept_now : Kept M B.n x.box table_now
  kept_now =
      let (large, box, group) = kept_after M buffer x.message reply sound B.n before (kept.large, long) kept.image kept.group room in
      record {
        large = large;
        image = begins_with M table_now answer_of.table is_answer.1.1;
        box = ap (λ T. T.box) table_read ∙ box ∙ kept.box;
        group = ap (λ T. T.n) table_read ∙ group;
      }

  buffers_then : (b : ℕ) → b < B.n → Kept M B.n b (put B.buffer x.box table_now b)
  buffers_then b l = go (same? x.box b)
    where
      go : (x.box ≡ b) ⊎ (eqb x.box b ≡ false) → Kept M B.n b (put B.buffer x.box table_now b)
      go (inl e) = rw (← e, eqb_self x.box) kept_now
      go (inr e) = rw e (good.buffers b l)

  named : (reply_in reply_now).number ≡ 0 → (reply_in reply_now).box ≡ x.box
  named z =
      ap (λ p. p.box) reply_is ∙ (taken_reply M before (said M B.n x.message)).1 (sym (ap (λ p. p.number) reply_is) ∙ z)
      ∙ sym (ap (λ T. T.box) table_read) ∙ kept_now.box

  pub answering_good : Good M answered_now
  answering_good = record {
    group = good.group;
    buffers = buffers_then;
    had = and_last (BeginsWithImage M) B.had table_now good.had kept_now.image;
    replies = and_last (λ a. (reply_in a.reply).number ≡ 0 → (reply_in a.reply).box ≡ a.box) B.answers _ good.replies named;
    outputs = good.outputs;
  }

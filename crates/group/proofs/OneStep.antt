-- One call on bytes is one step of a group that is held in buffers. No rule is asked of what came to pass in it, or of the call.
use mathlib.Core.Path.{◌≡◌, refl, sym, ap, subst, ◌∙◌}
use mathlib.Core.Bool.{true, false}
use mathlib.Core.Logic.{◌⊎◌, inl, inr}
use mathlib.Core.List.Memᴰ
use mathlib.Core.List.{List, [], ◌∷◌, ◌++◌, map}
use mathlib.Core.Option.{some}
use Prim.Native.Nat.{ℕ, ◌+◌, ◌*◌, ◌≤◌, ◌<◌}
use lib.Dec.{eqb}
use lib.ListN.{length}
use borrow.Author.Tests.{lt-ltb}
use Rattle.wire.specs.Parts.{replaced}
use Rattle.rules.specs.Tests.{all_of}
use Rattle.rules.specs.Tables.{Table, Model, table_by_rule}
use Rattle.rules.specs.Answers.{Answer}
use Rattle.rules.specs.Check.{check}
use Rattle.rules.specs.Merge as rules
use Rattle.rules.proofs.Logic.{eqb_self, same?}
use Rattle.table.specs.Images.{format_one}
use Rattle.table.specs.Parse.{parse}
use Rattle.table.proofs.Images.{Sound, parse_by_rule}
use Rattle.image_run.specs.Inner.WholeRuns.{laid_out}
use Rattle.image_run.specs.Runs.{images}
use Rattle.image_run.proofs.RunTurns.{images_laid}
use Rattle.transact.specs.Replies.{reply_as, reply_bytes}
use Rattle.answer.specs.Calls.{call_number, call_table, call_reply}
use Rattle.merge.specs.Calls as merge
use Rattle.history.specs.Survival as history
use Rattle.history.specs.Survival.{◌∈◌, Group, Sent, Event.arrives, Event.merges, at, put}
use Rattle.history_cases.specs.Today as today
use Rattle.history_cases.specs.Today.{answer, step}
use Rattle.group.specs.Inner.StandIns.{said}
use Rattle.group.specs.Inner.HeldGroups.{Holds, after_message, answer_to, Leaves}
use Rattle.group.proofs.Listed.{at_last, places_of, each_mapped}
use Rattle.group.proofs.AnswerSaid.{AnsweredAs, taken_reply, answered_as_said, kept_after}
use Rattle.group.proofs.MergeLaid.{merge_laid}

module _ (M : Model) (sound : Sound format_one M) (room : 24 + 96 * M.row_limit ≤ M.least_buffer) (G : Group) (buffers : ℕ → List ℕ) (holds : Holds M G buffers) where
  -- ---- a box answers

  module _ (x : Sent) (inside : x.box < G.n) (message reply : List ℕ) (says : said M G.n message ≡ x.message) (long : 24 ≤ length reply) where
    -- the answer that the step adds
    abbrev pub the_answer : Answer
    the_answer = answer M (G.table x.box) x.message

    abbrev pub table_then : List ℕ
    table_then = call_table M (buffers x.box) message reply

    -- number, table and reply of the call are those of the step
    pub call_is_answer : AnsweredAs M (buffers x.box) message reply the_answer
    call_is_answer =
        rw says at (answered_as_said M (buffers x.box) message reply sound G.n (G.table x.box) (holds.large x.box inside, long) (holds.begins x.box inside) (holds.group x.box inside)).1

    held_then : (b : ℕ) → b < G.n → (x.box ≡ b) ⊎ (eqb x.box b ≡ false) →
        let T = put G.table x.box the_answer.table b in
        let s = put buffers x.box table_then b in
        (M.least_buffer ≤ length s) × (parse format_one M s ≡ some T) × (T.n ≡ G.n) × (T ∈ (G.had ++ (the_answer.table ∷ [])))
    held_then b l (inl e) =
        let (large, box, group) = rw says at (kept_after M (buffers x.box) message reply sound G.n (G.table x.box) (holds.large x.box inside, long) (holds.begins x.box inside) (holds.group x.box inside) room) in
        rw (← e, eqb_self x.box) (large, call_is_answer.1, group, Memᴰ.append_right G.had (Memᴰ.head refl))
    held_then b l (inr e) = rw e (holds.large b l, holds.begins b l, holds.group b l, Memᴰ.append_left (the_answer.table ∷ []) (holds.had b l))

    pub answer_held : Holds M (history.answering G x the_answer) (put buffers x.box table_then)
    answer_held =
        record {
          large = λ b l. (held_then b l (same? x.box b)).0;
          begins = λ b l. (held_then b l (same? x.box b)).1;
          group = λ b l. (held_then b l (same? x.box b)).2;
          had = λ b l. (held_then b l (same? x.box b)).3;
        }

    -- the message at a place among those sent arrives
    pub arrives_steps : (k : ℕ) → at G.sent k ≡ some x → step M G (arrives k) ≡ history.answering G x the_answer
    arrives_steps k e = rw (e, lt-ltb x.box G.n inside)

  -- ---- a merge

  -- of tables that boxes have now: the places where the group has had them
  pub merges_steps : (v : ℕ) (boxes : List ℕ) → ((b : ℕ) → b ∈ boxes → b < G.n) → (ks : List ℕ) × (step M G (merges v ks) ≡ today.merging_as M G v (rules.merge M check v (map G.table boxes)))
  merges_steps v boxes inside = (found.0, ap (λ Ts. today.merging_as M G v (rules.merge M check v Ts)) found.1)
    where
      found : (ks : List ℕ) × (all_of (at G.had) ks ≡ map G.table boxes)
      found = places_of G.had (map G.table boxes) (each_mapped (λ T. T ∈ G.had) G.table boxes (λ b i. holds.had b (inside b i)))

  -- and the call on their images, laid end to end
  pub merge_is_merge : (v : ℕ) (boxes : List ℕ) (out : List ℕ) → ((b : ℕ) → b ∈ boxes → b < G.n) → M.least_buffer ≤ length out → Leaves M out (merge.call_number M (laid_out (map G.table boxes)) v out) (merge.call_output M (laid_out (map G.table boxes)) v out) (rules.merge M check v (map G.table boxes))
  merge_is_merge v boxes out inside large =
      merge_laid M (laid_out (map G.table boxes)) v out sound room (map G.table boxes) (images_laid M sound (map G.table boxes) by_rules) large
    where
      by_rules : (T : Table) → T ∈ map G.table boxes → table_by_rule M T ≡ true
      by_rules = each_mapped (λ T. table_by_rule M T ≡ true) G.table boxes (λ b i. parse_by_rule format_one M (buffers b) (G.table b) (holds.begins b (inside b i)))

-- bytes that are sent change no table
sending_held : (M : Model) (G : Group) (x : Sent) (buffers : ℕ → List ℕ) → Holds M G buffers → Holds M (history.sending G x) buffers
sending_held M G x buffers holds = record { large = holds.large; begins = holds.begins; group = holds.group; had = holds.had }

-- bytes are sent to a box, and arrive at once
module _ (M : Model) (sound : Sound format_one M) (room : 24 + 96 * M.row_limit ≤ M.least_buffer) (G : Group) (buffers : ℕ → List ℕ) (holds : Holds M G buffers) (box : ℕ) (inside : box < G.n) (message reply : List ℕ) (long : 24 ≤ length reply) where
  abbrev pub sent_then : Sent
  sent_then = record { box = box; message = said M G.n message }

  pub then_is : after_message M G box message ≡ history.answering (history.sending G sent_then) sent_then (answer_to M G box message)
  then_is = arrives_steps M sound room (history.sending G sent_then) buffers (sending_held M G sent_then buffers holds) sent_then inside message reply refl long (length G.sent) (at_last G.sent sent_then)

  -- the call has the number and the reply of the answer that the two steps add, and leaves the buffers of the group after them
  pub sent_and_answered : ((after_message M G box message).answers ≡ G.answers ++ (record { box = box; message = said M G.n message; reply = (answer_to M G box message).reply } ∷ [])) × (call_number M (buffers box) message reply ≡ (answer_to M G box message).reply.number) × (call_reply M (buffers box) message reply ≡ replaced reply 0 (reply_bytes (reply_as (answer_to M G box message).reply))) × Holds M (after_message M G box message) (put buffers box (call_table M (buffers box) message reply))
  sent_and_answered =
      let H : Group = history.sending G sent_then in
      let held : Holds M H buffers = sending_held M G sent_then buffers holds in
      let (number, table, replied) = call_is_answer M sound room H buffers held sent_then inside message reply refl long in (
        ap (λ K. K.answers) then_is,
        number ∙ sym (taken_reply M (G.table box) (said M G.n message)).0,
        replied,
        subst (λ K. Holds M K (put buffers box (call_table M (buffers box) message reply))) (sym then_is) (answer_held M sound room H buffers held sent_then inside message reply refl long),
      )

-- From call to call: a merge that is done, sent as message 6 for its view, is taken by every box of the group that has not gone further.
use mathlib.Core.Path.{◌≡◌, sym, ap, ◌∙◌}
use mathlib.Core.Bool.{true, false}
use mathlib.Core.List.{List, ◌++◌}
use mathlib.Core.Option.{some}
use Prim.Native.Nat.{ℕ, ◌≤◌, ◌<◌}
use lib.ListN.{length, take, drop}
use lib.Seq.{take_at}
use borrow.Author.Tests.{eqb-true, le-ltb, lt-leb}
use Rattle.wire.specs.Numbers.{bytes}
use Rattle.rules.specs.Tables.{Table, valley, is_view}
use Rattle.rules.specs.Messages.{Message.start_view, keeping_box, table_after}
use Rattle.rules.specs.Circumstances.{starts_view, starts_old_view, message_by_rule}
use Rattle.rules.proofs.Logic.{both_left, both_right, both_true, either_false}
use Rattle.rules.proofs.Tables.{table_facts}
use Rattle.table.specs.Images.{format_one, image_length, image}
use Rattle.table.specs.Parse.{parse}
use Rattle.table.proofs.Images.{valley_sound, length_image}
use Rattle.message.specs.Inner.MessageBytes.{message_bytes}
use Rattle.message.specs.Messages.{message_at}
use Rattle.message.proofs.Forms.{message_read}
use Rattle.transact.proofs.Serving.{number_6}
use Rattle.answer.specs.Calls as answer
use Rattle.answer.proofs.AnswerCall.{answer_taken}
use Rattle.answer.proofs.AnswerWays.{AnswerWay.served, way_exactly}
use Rattle.merge.specs.Calls as merge
use Rattle.merge.proofs.MergeCall.{MergeDone, valley_done}

-- "6 start view: kind, v 4, image": the image that a merge of this table left in its output
abbrev pub start_bytes : ℕ → Table → List ℕ → List ℕ
start_bytes v U output = bytes 1 6 ++ (bytes 4 v ++ take (image_length format_one U) output)

-- ---- what is sent is the message, and it keeps every rule in its group

module _ (run : List ℕ) (v : ℕ) (out : List ℕ) (w : MergeDone valley run v out) where
  sent_is : start_bytes v w.merged (merge.call_output valley run v out) ≡ message_bytes format_one (start_view v w.merged)
  unfolding message_bytes
  sent_is =
      let l : ℕ = image_length format_one w.merged in
      let n = length_image format_one w.merged valley_sound.starts in
      rw (w.holds, take_at (image format_one w.merged) (drop l out) l n)

  -- the view is one of 4 bytes, since the merged table has it
  sent_view : is_view v ≡ true
  unfolding starts_view
  sent_view =
      let i : w.merged.view ≡ v = eqb-true _ _ (both_left _ _ (both_right _ _ w.starts)) in
      rw i at (table_facts valley w.merged w.by_rule).0.view

  sent_by_rule : message_by_rule valley w.merged.n (start_view v w.merged) ≡ true
  unfolding message_by_rule
  sent_by_rule = both_true sent_view (both_true w.by_rule (ap (λ n. starts_view n v w.merged) w.group ∙ w.starts))

  sent_read : message_at format_one (start_bytes v w.merged (merge.call_output valley run v out)) ≡ some (start_view v w.merged)
  sent_read = ap (message_at format_one) sent_is ∙ message_read format_one valley w.merged.n (start_view v w.merged) valley_sound sent_by_rule

-- 10, "6 with v below promised or at or below view", does not apply
not_old : (T : Table) (v : ℕ) → T.promised ≤ v → T.view < v → starts_old_view T v ≡ false
unfolding starts_old_view
not_old T v p l = either_false (le-ltb _ _ p) (lt-leb _ _ l)

-- ---- a merge that is done, sent for its view

module _ (run : List ℕ) (v : ℕ) (out : List ℕ) (e : merge.call_number valley run v out ≡ 0) where
  -- the table that was merged, and message 6 with its image
  abbrev pub started : Table
  started = (valley_done run v out e).merged

  abbrev pub start_message : List ℕ
  start_message = start_bytes v started (merge.call_output valley run v out)

  -- a box of the same n that promised nothing above v and is in an earlier view answers 0: "The box takes it whole, keeping its own box number."
  pub merge_accepted : (table reply : List ℕ) (T : Table) → parse format_one valley table ≡ some T → T.n ≡ started.n → T.promised ≤ v → T.view < v → 49176 ≤ length table → 24 ≤ length reply →
      (answer.call_number valley table start_message reply ≡ 0) × (parse format_one valley (answer.call_table valley table start_message reply) ≡ some (keeping_box started T.box))
  unfolding table_after
  merge_accepted table reply T a n p l large room =
      let w = valley_done run v out e in
      let b : message_at format_one start_message ≡ some (start_view v started) = sent_read run v out w in
      let k = way_exactly valley table start_message reply (served (large, room) T (start_view v started) a b (rw n (sent_by_rule run v out w))) in
      let z : answer.call_number valley table start_message reply ≡ 0 = k ∙ number_6 valley T v started ∙ rw (not_old T v p l) in
      let t = answer_taken valley table start_message reply valley_sound z in
      let i : some t.before ≡ some T = sym t.read ∙ a in
      let j : some t.heard ≡ some (start_view v started) = sym t.told ∙ b in
      let x : t.before ≡ T = cc in
      let y : t.heard ≡ start_view v started = cc in
      (z, rw (x, y) at t.after)

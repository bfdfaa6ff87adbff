-- Demand 3 in buffers and calls: whatever is done by the rules, from buffers on which the fresh call was made.
use mathlib.Core.Path.{◌≡◌, sym, ap, subst, ◌∙◌}
use mathlib.Core.Bool.{true}
use mathlib.Core.Logic.{◌⊎◌, inl, inr}
use mathlib.Core.List.Memᴰ
use mathlib.Core.List.{List}
use Prim.Native.Nat.{ℕ, ◌+◌, ◌*◌, ◌≤◌, ◌<◌}
use native.Mathlib.Omega.{arith}
use Rattle.rules.specs.Groups.{is_group}
use Rattle.rules.specs.Tables.{Verdict, Row, Model, valley}
use Rattle.rules.specs.Messages.{Message.propose_prepare, Message.propose_outcome}
use Rattle.rules.specs.Merge.{holds_verdict}
use Rattle.rules.specs.Circumstances.{keeps_room}
use Rattle.table.specs.Headers.{header_at}
use Rattle.table.specs.Images.{format_one}
use Rattle.table.specs.Parse.{table_at, BeginsWithImage}
use Rattle.table.specs.Fresh.{fresh_number}
use Rattle.table.proofs.Images.{Sound, valley_sound}
use Rattle.history.specs.Survival as history
use Rattle.history.specs.Survival.{◌∈◌, fresh_group}
use Rattle.history.proofs.Survival.{survival}
use Rattle.history_cases.specs.Today.{after, Lawful}
use Rattle.group.specs.Inner.StandIns.{said}
use Rattle.group.specs.Acts.{Sent, Merged, GroupInBuffers, fresh_boxes, Act, after_acts}
use Rattle.group.specs.Rules.{Says, ByTheRules}
use Rattle.group.specs.Survival.{rows_in, CallsSurvive}
use Rattle.group.proofs.Reading.{sent_as, merged_as, reading}
use Rattle.group.proofs.Good.{Good}
use Rattle.group.proofs.Says.{says, sent_said}
use Rattle.group.proofs.RulesRead.{accepted_said}
use Rattle.group.proofs.Following.{acts_good, acts_followed}
use Rattle.group.proofs.FreshStart.{fresh_read, fresh_good}

-- ---- what survives in the group that the bytes say survives in the buffers

module _ (M : Model) (B : GroupInBuffers) (good : Good M B) (S : history.Survival (reading M B)) where
  of_own_box : (b : ℕ) → b < B.n → BeginsWithImage M (B.buffer b) × ((header_at (B.buffer b)).boxnumber ≡ b) × ((header_at (B.buffer b)).n ≡ B.n)
  unfolding table_at
  of_own_box b l = let k = good.buffers b l in (k.image, k.box, k.group)

  -- what the merge of the group holds was sent in bytes by then
  sent_by_then_lem : (m : Merged) (x : history.Sent) → x ∈ (merged_as M B.n m).sent_by_then → (y : Sent) × (y ∈ m.sent_by_then) × (said M B.n y.message ≡ x.message)
  sent_by_then_lem m x i = let (y, j, e) = Memᴰ.of_map (sent_as M B.n) m.sent_by_then i in (y, j, ap (λ z. z.message) e)

  rows_sent_lem : (m : Merged) (r : Row) → m ∈ B.merged → r ∈ rows_in m.output → (x : Sent) × (x ∈ m.sent_by_then) × (Says M B x.message (propose_prepare r.stamp r.body) ⊎ ((o : Verdict) × Says M B x.message (propose_outcome r.stamp o r.body)))
  rows_sent_lem m r i j =
      let (x, k, carries) = S.rows_sent (merged_as M B.n m) r (Memᴰ.map (merged_as M B.n) i) j in
      let (y, l, e) = sent_by_then_lem m x k in
      (y, l, go y (subst (history.Carries r.stamp r.body) (sym e) carries))
    where
      go : (y : Sent) → history.Carries r.stamp r.body (said M B.n y.message) → Says M B y.message (propose_prepare r.stamp r.body) ⊎ ((o : Verdict) × Says M B y.message (propose_outcome r.stamp o r.body))
      go y (inl e) = inl (says M B y.message _ e (λ z. absurd (omega arith)))
      go y (inr (o, e)) = inr (o, says M B y.message _ e (λ z. absurd (omega arith)))

  outcomes_sent_lem : (m : Merged) (r : Row) (o : Verdict) → m ∈ B.merged → r ∈ rows_in m.output → holds_verdict o r.outcome ≡ true → (x : Sent) × (x ∈ m.sent_by_then) × Says M B x.message (propose_outcome r.stamp o r.body)
  outcomes_sent_lem m r o i j h =
      let (x, k, is) = S.outcomes_sent (merged_as M B.n m) r o (Memᴰ.map (merged_as M B.n) i) j h in
      let (y, l, e) = sent_by_then_lem m x k in
      (y, l, says M B y.message (propose_outcome r.stamp o r.body) (e ∙ is) (λ z. absurd (omega arith)))

  pub survives : CallsSurvive M B
  survives =
      record {
        tables = of_own_box;
        outputs = good.outputs;
        declared = λ m s u r i. S.declared (merged_as M B.n m) s u r (Memᴰ.map (merged_as M B.n) i);
        accepted = λ m s u o i on. S.accepted (merged_as M B.n m) s u o (Memᴰ.map (merged_as M B.n) i) (accepted_said M B s u o on);
        rows_sent = rows_sent_lem;
        outcomes_sent = outcomes_sent_lem;
        no_clash = λ s t x y one other. S.no_clash s t x y (sent_said M B one) (sent_said M B other);
      }

-- ---- the corollary

-- for boxes of any row limit whose buffers have room for it
module _ (M : Model) (sound : Sound format_one M) (room : 24 + 96 * M.row_limit ≤ M.least_buffer) (n : ℕ) (group : is_group n ≡ true) (buffers : ℕ → List ℕ) (fresh : (b : ℕ) → b < n → fresh_number M (buffers b) n b ≡ 0) where
  -- what was done by the rules is a lawful history of a fresh group, and after it the bytes say that group
  pub lawfully : (acts : List Act) → ByTheRules M (fresh_boxes M n buffers) acts → (es : List history.Event) × Lawful M (fresh_group n) es × (reading M (after_acts M (fresh_boxes M n buffers) acts) ≡ after M (fresh_group n) es)
  lawfully acts law =
      let f = acts_followed M sound room (fresh_boxes M n buffers) (fresh_good M sound room n group buffers fresh) acts law in
      let is = fresh_read M sound room n group buffers fresh in
      (f.events, subst (λ G. Lawful M G f.events) is f.lawful, f.same ∙ ap (λ G. after M G f.events) is)

  pub still_good : (acts : List Act) → Good M (after_acts M (fresh_boxes M n buffers) acts)
  still_good acts = acts_good M sound room (fresh_boxes M n buffers) (fresh_good M sound room n group buffers fresh) acts

  pub all_survive : (acts : List Act) → ByTheRules M (fresh_boxes M n buffers) acts → CallsSurvive M (after_acts M (fresh_boxes M n buffers) acts)
  all_survive acts law =
      let (es, lawful, same) = lawfully acts law in
      survives M (after_acts M (fresh_boxes M n buffers) acts) (still_good acts) (subst history.Survival (sym same) (survival n group M keeps_room es lawful))

-- valley boxes: in a group of 3, 5 or 7, each has called `sprondilu_fresh` on its table buffer, which answered 0; then, whatever bytes are sent, arrive, are lost, repeated or reordered, and whatever is declared and merged, if it is by the rules
pub calls_survive : (n : ℕ) → is_group n ≡ true → (buffers : ℕ → List ℕ) → ((b : ℕ) → b < n → fresh_number valley (buffers b) n b ≡ 0) →
    (acts : List Act) → ByTheRules valley (fresh_boxes valley n buffers) acts → CallsSurvive valley (after_acts valley (fresh_boxes valley n buffers) acts)
calls_survive n group buffers fresh = all_survive valley valley_sound (omega arith) n group buffers fresh

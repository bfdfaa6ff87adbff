-- What keeps the rules in the group that the bytes say keeps them in buffers and calls: the rules are the same.
use mathlib.Core.Path.{◌≡◌, refl, sym, ap, ap₂, ◌∙◌}
use mathlib.Core.Bool.{Bool, true, false, cond}
use mathlib.Core.Logic.{◌⊎◌, inl, inr}
use mathlib.Core.Option.{some}
use mathlib.Core.List.Memᴰ
use mathlib.Core.List.{List, [], ◌∷◌, map}
use Prim.Native.Nat.{ℕ, ◌-◌}
use native.Mathlib.Omega.{arith}
use lib.Dec.{eqb, ltb}
use borrow.Author.Tests.{eqb-false}
use Rattle.rules.specs.Tests.{bit}
use Rattle.rules.specs.Stamps.{Body}
use Rattle.rules.specs.Tables.{Result, Result.OK, Result.ABORT, Result.ABSTAIN, Result.RETRY, Prepare.tentative, Prepare.final, result_code, result_retry, prepare_code, prepare_retry, Verdict, Table, Model}
use Rattle.rules.specs.Messages.{Message, Message.propose_prepare, Message.finalise_prepare, Message.propose_outcome, Message.finalise_outcome, Message.change_view, Message.start_view, Message.read_register, kind}
use Rattle.rules.specs.Answers.{Reply}
use Rattle.rules.specs.Count.{Heard, bad_replies, count_number, Counted, Counted.fast, Counted.slow, Counted.refused, counted}
use Rattle.rules.specs.Inner.CountAnswers.{counted_number}
use Rattle.rules.proofs.Logic.{same?}
use Rattle.rules.proofs.Orders.{count_good}
use Rattle.count.specs.Inner.RecordBytes.{reply_of}
use Rattle.count.specs.Calls.{count_of}
use Rattle.count.proofs.Decisions.{by_rule_lem}
use Rattle.count.proofs.HeardBytes.{count_of_records}
use Rattle.history.specs.Survival as history
use Rattle.history.specs.Survival.{◌∈◌, Event}
use Rattle.group.specs.Said.{reply_in, record_of}
use Rattle.group.specs.Inner.StandIns.{said}
use Rattle.group.specs.Acts.{GroupInBuffers, Act.declares}
use Rattle.group.specs.Rules as bytes
use Rattle.group.proofs.Reading.{answered_as, merged_as, reading}
use Rattle.group.proofs.Good.{Good}
use Rattle.group.proofs.Says.{says, sent_said}

-- the state byte of what is heard, taken apart again
state_back : (r : Result) (b : Bool) →
    let c = prepare_code (cond b (final r) (tentative r)) in
    (cond (ltb 4 c) (c - 4) c ≡ result_code r) × (bit (ltb 4 c) ≡ bit b)
state_back OK true = (refl, refl)
state_back OK false = (refl, refl)
state_back ABORT true = (refl, refl)
state_back ABORT false = (refl, refl)
state_back ABSTAIN true = (refl, refl)
state_back ABSTAIN false = (refl, refl)
state_back (RETRY t) true = (refl, refl)
state_back (RETRY t) false = (refl, refl)

retry_back : (r : Result) (b : Bool) → prepare_retry (cond b (final r) (tentative r)) ≡ result_retry r
retry_back r true = refl
retry_back r false = refl

-- replies that are answered with no refusal are not bad
not_bad : (n : ℕ) (hs : List Heard) (c : Counted) → counted n hs ≡ c → counted_number c ≡ 0 → bad_replies n hs ≡ false
unfolding counted
not_bad n hs c e z = go (same? (count_number n hs) 0)
  where
    go : (count_number n hs ≡ 0) ⊎ (eqb (count_number n hs) 0 ≡ false) → bad_replies n hs ≡ false
    go (inl k) = count_good n hs k
    go (inr k) =
        let d : counted n hs ≡ refused (count_number n hs) = rw k refl in
        absurd (eqb-false (count_number n hs) 0 k (ap counted_number (sym d ∙ e) ∙ z))

module _ (M : Model) (B : GroupInBuffers) where
  -- an answer in the group was given in bytes
  gave_back : (b : ℕ) (m : Message) (p : Reply) → history.Gave (reading M B) b m p → (message : List ℕ) × (reply : List ℕ) × bytes.Gave M B b message reply × (said M B.n message ≡ m) × (reply_in reply ≡ p)
  gave_back b m p (i, z) =
      let (a, j, e) = Memᴰ.of_map (answered_as M B.n) B.answers i in
      let here : record { box = b; message = a.message; reply = a.reply } ≡ a = λ k. record { box = (sym (ap (λ x. x.box) e)) k; message = a.message; reply = a.reply } in
      let is : reply_in a.reply ≡ p = ap (λ x. x.reply) e in
      (a.message, a.reply, (Memᴰ.cast here j, ap (λ q. q.number) is ∙ z), ap (λ x. x.message) e, is)

  one_body_lem : (s : ℕ) (x : Body) → history.OneBody (reading M B) s x → bytes.OneBody M B s x
  one_body_lem s x one y (inl sent) = one (propose_prepare s y) y (sent_said M B sent) (inl refl)
  one_body_lem s x one y (inr (o, sent)) = one (propose_outcome s o y) y (sent_said M B sent) (inr (o, refl))

  one_result_lem : (s v : ℕ) (r : Result) → history.OneResult (reading M B) s v r → bytes.OneResult M B s v r
  one_result_lem s v r (sent, declared) = (λ q i. sent q (sent_said M B i), declared)

  before_outcome_lem : (s : ℕ) → history.BeforeOutcome (reading M B) s → bytes.BeforeOutcome M B s
  before_outcome_lem s none_sent o x i = none_sent o x (sent_said M B i)

  never_both : (s : ℕ) (o : Verdict) → history.NeverBoth (reading M B) s o → bytes.NeverBoth M B s o
  never_both s o never u x i = never u x (sent_said M B i)

  commit_after_lem : (b s : ℕ) (o : Verdict) → history.CommitAfterOK (reading M B) b s o → bytes.CommitAfterOK M B b s o
  commit_after_lem b s o after e =
      let (u, declared, (m, p, gave, later)) = after e in
      let (message, reply, given, told, is) = gave_back b m p gave in
      (u, declared, (message, reply, given, rw is later))

  accepted_back : (s v : ℕ) (o : Verdict) → history.QuorumOf (reading M B) (history.Accepted (reading M B) s v o) → bytes.QuorumOf M B (bytes.Accepted M B s v o)
  accepted_back s v o (bs, different, enough, each) = (bs, different, enough, λ b i. by b (each b i))
    where
      by : (b : ℕ) → history.Accepted (reading M B) s v o b → bytes.Accepted M B s v o b
      by b (x, p, gave, in_view) =
          let (message, reply, given, told, is) = gave_back b (propose_outcome s o x) p gave in
          (message, reply, x, given, says M B message (propose_outcome s o x) told (λ z. absurd (omega arith)), rw is in_view)

  confirmed_back : (s v : ℕ) (r : Result) → history.QuorumOf (reading M B) (history.Confirmed (reading M B) s v r) → bytes.QuorumOf M B (bytes.Confirmed M B s v r)
  confirmed_back s v r (bs, different, enough, each) = (bs, different, enough, λ b i. by b (each b i))
    where
      by : (b : ℕ) → history.Confirmed (reading M B) s v r b → bytes.Confirmed M B s v r b
      by b (u, p, gave, in_view) =
          let (message, reply, given, told, is) = gave_back b (finalise_prepare s u r) p gave in
          (message, reply, u, given, says M B message (finalise_prepare s u r) told (λ z. absurd (omega arith)), rw is in_view)

  the_merged_lem : (v : ℕ) (I : Table) → history.TheMerged (reading M B) v I → bytes.TheMerged M B v I
  the_merged_lem v I ((m, i, view, table), one) =
      let (w, j, e) = Memᴰ.of_map (merged_as M B.n) B.merged i in
      ((w, j, ap (λ x. x.view) e ∙ view, ap (λ x. x.table) e ∙ table), λ J sent. one J (sent_said M B sent))

  -- ---- what was counted

  -- a reply that is counted was given in bytes, and its record is what is heard
  reply_back : Good M B → (s v : ℕ) (h : Heard) → history.Replied (reading M B) s v h → (p : List ℕ) × bytes.ReplyFor M B s v p × (record_of p ≡ reply_of h)
  unfolding record_of
  reply_back good s v h k =
      let (message, reply, given, told, is) = gave_back h.box k.message k.reply k.gave in
      let state : (reply_in reply).state ≡ prepare_code (history.prepare_heard h) = ap (λ p. p.state) is ∙ k.state in
      let view : (reply_in reply).view ≡ v = ap (λ p. p.view) is ∙ k.in_view.0 in
      let (result, finality) = state_back h.result h.is_final in (
        reply,
        (h.box, message, k.message, given, asked_says message k.message told k.asked, k.asked, view),
        λ i. record {
          boxnumber = good.replies _ given.0 given.1 i;
          result = (ap (λ c. cond (ltb 4 c) (c - 4) c) state ∙ result) i;
          finality = (ap (λ c. bit (ltb 4 c)) state ∙ finality) i;
          view = (view ∙ sym k.in_view.1) i;
          retry = (ap (λ p. p.value) is ∙ k.retry ∙ retry_back h.result h.is_final) i;
        },
      )
    where
      asked_says : (message : List ℕ) (m : Message) → said M B.n message ≡ m → history.AsksPrepare s m → bytes.Says M B message m
      asked_says message m told (inl (x, e)) = says M B message m told (λ z. let d : kind m ≡ 1 = ap kind e in absurd (omega arith))
      asked_says message m told (inr (u, r, e)) = says M B message m told (λ z. let d : kind m ≡ 2 = ap kind e in absurd (omega arith))

  replies_back : Good M B → (s v : ℕ) (hs : List Heard) → history.Replies (reading M B) s v hs → (replies : List (List ℕ)) × bytes.Counting M B s v replies × (map record_of replies ≡ map reply_of hs)
  replies_back good s v [] each = ([], (λ p i. absurd (Memᴰ.not-nil i)), refl)
  replies_back good s v (h ∷ hs) each =
      let (p, for, is) = reply_back good s v h (each h (Memᴰ.head refl)) in
      let (more, all, are) = replies_back good s v hs (λ g m. each g (Memᴰ.tail m)) in
      (p ∷ more, (λ q i. go q p more for (all q) (Memᴰ.cases_cons i)), ap₂ ◌∷◌ is are)
    where
      go : (q p : List ℕ) (more : List (List ℕ)) → bytes.ReplyFor M B s v p → (q ∈ more → bytes.ReplyFor M B s v q) → (q ≡ p) ⊎ (q ∈ more) → bytes.ReplyFor M B s v q
      go q p more for all (inl e) = rw e for
      go q p more for all (inr i) = all i

  -- an answer of the count in the group is one of the call
  counted_back : Good M B → (s v : ℕ) (hs : List Heard) → history.Replies (reading M B) s v hs → (c : Counted) → counted B.n hs ≡ c → counted_number c ≡ 0 → (replies : List (List ℕ)) × bytes.Counting M B s v replies × (count_of B.n (map record_of replies) ≡ c)
  counted_back good s v hs each c e z =
      let (replies, all, are) = replies_back good s v hs each in
      (replies, all, ap (count_of B.n) are ∙ count_of_records B.n hs (by_rule_lem B.n hs (not_bad B.n hs c e z)) ∙ e)

  module _ (good : Good M B) where
    on_an_answer_lem : (s v : ℕ) (r : Result) → history.OnAnAnswer (reading M B) s v r → bytes.OnAnAnswer M B s v r
    on_an_answer_lem s v r (hs, each, inl e) = let (replies, all, is) = counted_back good s v hs each (fast r) e refl in (replies, all, inl is)
    on_an_answer_lem s v r (hs, each, inr e) = let (replies, all, is) = counted_back good s v hs each (slow r) e refl in (replies, all, inr is)

    on_fast_or_confirmed_lem : (s v : ℕ) (r : Result) → history.OnFastOrConfirmed (reading M B) s v r → bytes.OnFastOrConfirmed M B s v r
    on_fast_or_confirmed_lem s v r (inl (hs, each, e)) = inl (counted_back good s v hs each (fast r) e refl)
    on_fast_or_confirmed_lem s v r (inr confirmed) = inr (confirmed_back s v r confirmed)

    -- ---- act by act

    pub may_send_back : (b : ℕ) (m : Message) → history.MaySend (reading M B) b m → bytes.MaySend M B b (some m)
    may_send_back b (propose_prepare s x) one = one_body_lem s x one
    may_send_back b (finalise_prepare s v r) (one, on, before) = (one_result_lem s v r one, on_an_answer_lem s v r on, before_outcome_lem s before)
    may_send_back b (propose_outcome s o x) (one, (after, never)) = (one_body_lem s x one, commit_after_lem b s o after, never_both s o never)
    may_send_back b (finalise_outcome s v o) on = accepted_back s v o on
    may_send_back b (change_view v) may = tt
    may_send_back b (start_view v I) the = the_merged_lem v I the
    may_send_back b (read_register s k) may = tt

    pub may_declare_back : (s v : ℕ) (r : Result) → history.May (reading M B) (Event.declares s v r) → bytes.MayAct M B (declares s v r)
    may_declare_back s v r (one, on, before) = (one_result_lem s v r one, on_fast_or_confirmed_lem s v r on, before_outcome_lem s before)

-- What keeps the rules in buffers and calls keeps them in the group that the bytes say.
use mathlib.Core.Path.{refl, subst}
use mathlib.Core.Logic.{inl, inr}
use mathlib.Core.List.Memᴰ
use mathlib.Core.List.{List, map}
use mathlib.Core.Option.{Option, none, some}
use Prim.Native.Nat.{ℕ}
use native.Mathlib.Omega.{arith}
use Rattle.rules.specs.Stamps.{Body}
use Rattle.rules.specs.Tables.{Result, Verdict, Table, Model}
use Rattle.rules.specs.Messages.{Message, Message.propose_prepare, Message.finalise_prepare, Message.propose_outcome, Message.finalise_outcome, Message.change_view, Message.start_view, Message.read_register}
use Rattle.rules.specs.Count.{Counted.fast, Counted.slow}
use Rattle.replies.specs.PlainReplies.{all_heard}
use Rattle.history.specs.Survival as history
use Rattle.history.specs.Survival.{Event}
use Rattle.group.specs.Said.{reply_in, record_of, message_in}
use Rattle.group.specs.Inner.StandIns.{or_no_message, said}
use Rattle.group.specs.Acts.{GroupInBuffers, Act.sends, Act.declares}
use Rattle.group.specs.Rules as bytes
use Rattle.group.proofs.Reading.{answered_as, merged_as, reading}
use Rattle.group.proofs.Good.{Good}
use Rattle.group.proofs.Says.{said_sent, gave_said}
use Rattle.group.proofs.Counting.{counted_said}

module _ (M : Model) (B : GroupInBuffers) where
  -- ---- rule by rule

  one_body_lem : (s : ℕ) (x : Body) → bytes.OneBody M B s x → history.OneBody (reading M B) s x
  one_body_lem s x one m y sent (inl e) = one y (inl (said_sent M B (propose_prepare s y) (λ z. absurd (omega arith)) (subst (history.WasSent (reading M B)) e sent)))
  one_body_lem s x one m y sent (inr (o, e)) = one y (inr (o, said_sent M B (propose_outcome s o y) (λ z. absurd (omega arith)) (subst (history.WasSent (reading M B)) e sent)))

  one_result_lem : (s v : ℕ) (r : Result) → bytes.OneResult M B s v r → history.OneResult (reading M B) s v r
  one_result_lem s v r (sent, declared) = (λ q i. sent q (said_sent M B (finalise_prepare s v q) (λ z. absurd (omega arith)) i), declared)

  before_outcome_lem : (s : ℕ) → bytes.BeforeOutcome M B s → history.BeforeOutcome (reading M B) s
  before_outcome_lem s none_sent o x i = none_sent o x (said_sent M B (propose_outcome s o x) (λ z. absurd (omega arith)) i)

  never_both : (s : ℕ) (o : Verdict) → bytes.NeverBoth M B s o → history.NeverBoth (reading M B) s o
  never_both s o never u x i = never u x (said_sent M B (propose_outcome s u x) (λ z. absurd (omega arith)) i)

  commit_after_lem : (b s : ℕ) (o : Verdict) → bytes.CommitAfterOK M B b s o → history.CommitAfterOK (reading M B) b s o
  commit_after_lem b s o after e =
      let (u, declared, (bytes, reply, (given, numbered), later)) = after e in
      (u, declared, (said M B.n bytes, reply_in reply, (Memᴰ.map (answered_as M B.n) given, numbered), later))

  pub accepted_said : (s v : ℕ) (o : Verdict) → bytes.QuorumOf M B (bytes.Accepted M B s v o) → history.QuorumOf (reading M B) (history.Accepted (reading M B) s v o)
  accepted_said s v o (bs, different, enough, each) = (bs, different, enough, λ b i. by b (each b i))
    where
      by : (b : ℕ) → bytes.Accepted M B s v o b → history.Accepted (reading M B) s v o b
      by b (bytes, reply, x, gave, is, in_view) = (x, reply_in reply, gave_said M B gave is, in_view)

  confirmed_said : (s v : ℕ) (r : Result) → bytes.QuorumOf M B (bytes.Confirmed M B s v r) → history.QuorumOf (reading M B) (history.Confirmed (reading M B) s v r)
  confirmed_said s v r (bs, different, enough, each) = (bs, different, enough, λ b i. by b (each b i))
    where
      by : (b : ℕ) → bytes.Confirmed M B s v r b → history.Confirmed (reading M B) s v r b
      by b (bytes, reply, u, gave, is, in_view) = (u, reply_in reply, gave_said M B gave is, in_view)

  the_merged_lem : (v : ℕ) (I : Table) → bytes.TheMerged M B v I → history.TheMerged (reading M B) v I
  the_merged_lem v I ((m, i, view, table), one) = ((merged_as M B.n m, Memᴰ.map (merged_as M B.n) i, view, table), λ J sent. one J (said_sent M B (start_view v J) (λ z. absurd (omega arith)) sent))

  module _ (good : Good M B) where
    on_an_answer_lem : (s v : ℕ) (r : Result) → bytes.OnAnAnswer M B s v r → history.OnAnAnswer (reading M B) s v r
    on_an_answer_lem s v r (replies, given, inl e) = let (all, is) = counted_said M B good s v replies given (fast r) e refl in (all_heard (map record_of replies), all, inl is)
    on_an_answer_lem s v r (replies, given, inr e) = let (all, is) = counted_said M B good s v replies given (slow r) e refl in (all_heard (map record_of replies), all, inr is)

    on_fast_or_confirmed_lem : (s v : ℕ) (r : Result) → bytes.OnFastOrConfirmed M B s v r → history.OnFastOrConfirmed (reading M B) s v r
    on_fast_or_confirmed_lem s v r (inl (replies, given, e)) = let (all, is) = counted_said M B good s v replies given (fast r) e refl in inl (all_heard (map record_of replies), all, is)
    on_fast_or_confirmed_lem s v r (inr confirmed) = inr (confirmed_said s v r confirmed)

    -- ---- act by act

    may_say : (b : ℕ) (o : Option Message) → bytes.MaySend M B b o → history.MaySend (reading M B) b (or_no_message o)
    may_say b none may = tt
    may_say b (some (propose_prepare s x)) one = one_body_lem s x one
    may_say b (some (finalise_prepare s v r)) (one, on, before) = (one_result_lem s v r one, on_an_answer_lem s v r on, before_outcome_lem s before)
    may_say b (some (propose_outcome s o x)) (one, after, never) = (one_body_lem s x one, (commit_after_lem b s o after, never_both s o never))
    may_say b (some (finalise_outcome s v o)) on = accepted_said s v o on
    may_say b (some (change_view v)) may = tt
    may_say b (some (start_view v I)) the = the_merged_lem v I the
    may_say b (some (read_register s k)) may = tt

    pub may_send_lem : (b : ℕ) (message : List ℕ) → bytes.MayAct M B (sends b message) → history.May (reading M B) (Event.sends b (said M B.n message))
    may_send_lem b message may = may_say b (message_in M B.n message) may

    pub may_declare : (s v : ℕ) (r : Result) → bytes.MayAct M B (declares s v r) → history.May (reading M B) (Event.declares s v r)
    may_declare s v r (one, on, before) = (one_result_lem s v r one, on_fast_or_confirmed_lem s v r on, before_outcome_lem s before)

-- One act in buffers is one step of the group that the bytes say, so whatever is done by the rules in buffers is a lawful history.
use mathlib.Core.Path.{◌≡◌, refl, sym, ap, subst, ◌∙◌}
use mathlib.Core.Bool.{true, false, not}
use mathlib.Core.Logic.{◌⊎◌, inl, inr}
use mathlib.Core.List.{List, [], ◌∷◌, ◌++◌}
use mathlib.Core.Option.{Option, none, some}
use Prim.Native.Nat.{ℕ, ◌+◌, ◌*◌, ◌≤◌, ◌<◌}
use native.Mathlib.Omega.{arith}
use lib.Dec.{eqb, ltb}
use lib.ListN.{length}
use borrow.Author.Tests.{ltb-true, ltb-false}
use Rattle.rules.specs.Tests.{both}
use Rattle.rules.specs.Tables.{Model}
use Rattle.rules.proofs.Logic.{cases, same?, both_false}
use Rattle.table.specs.Images.{format_one}
use Rattle.table.proofs.Images.{Sound}
use Rattle.answer.specs.Calls.{call_number}
use Rattle.answer.proofs.AnswerWays.{AnswerWay.small, way_exactly}
use Rattle.merge.specs.Calls as merge
use Rattle.merge.proofs.MergeCall as merges
use Rattle.history.specs.Survival.{Group, Event, at}
use Rattle.history_cases.specs.Today as today
use Rattle.history_cases.specs.Today.{step, after, Lawful}
use Rattle.group.specs.Inner.StandIns.{said}
use Rattle.group.specs.Acts.{Sent, GroupInBuffers, Act, Act.sends, Act.arrives, Act.declares, Act.merges, arriving, act, after_acts}
use Rattle.group.specs.Rules.{MayAct, ByTheRules}
use Rattle.group.proofs.Reading.{sent_as, reading}
use Rattle.group.proofs.Listed.{map_last, mapped, map_at}
use Rattle.group.proofs.Good.{Good, sending_good, declaring_good}
use Rattle.group.proofs.RulesRead.{may_send_lem, may_declare}
use Rattle.group.proofs.Answering.{not_small, answering_read, answering_good}
use Rattle.group.proofs.Merging.{merges_good, places, merges_read}

-- ---- each act

module _ (M : Model) (sound : Sound format_one M) (room : 24 + 96 * M.row_limit ≤ M.least_buffer) where
  -- the same group, one step on
  abbrev pub stepped : Group → Event → Group
  stepped G e = step M G e

  -- bytes that are sent
  pub sends_read : (B : GroupInBuffers) (b : ℕ) (bytes : List ℕ) → reading M (act M B (sends b bytes)) ≡ stepped (reading M B) (Event.sends b (said M B.n bytes))
  sends_read B b bytes = λ i. record {
    n = B.n;
    table = (reading M B).table;
    had = (reading M B).had;
    sent = map_last (sent_as M B.n) B.sent (record { box = b; message = bytes }) i;
    answers = (reading M B).answers;
    declared = B.declared;
    merged = (reading M B).merged;
  }

  module _ (B : GroupInBuffers) (good : Good M B) where
    -- bytes that arrive where the reply buffer is large enough, at whatever place: the call is not numbered 1
    pub arrives_read : (k : ℕ) (reply : List ℕ) → 24 ≤ length reply → (reading M (act M B (arrives k reply)) ≡ stepped (reading M B) (Event.arrives k)) × Good M (act M B (arrives k reply))
    unfolding both
    arrives_read k reply long = rw (map_at (sent_as M B.n) B.sent k) (go (at B.sent k))
      where
        by : (x : Sent) → (ltb x.box B.n ≡ true) ⊎ (ltb x.box B.n ≡ false) → (reading M (arriving M B reply (some x)) ≡ today.arriving M (reading M B) (some (sent_as M B.n x))) × Good M (arriving M B reply (some x))
        by x (inl t) =
            let l = ltb-true _ _ t in
            rw (t, not_small M sound room B good x l reply long) (answering_read M sound room B good x l reply long, answering_good M sound room B good x l reply long)
        by x (inr t) = rw t (refl, good)

        go : (o : Option Sent) → (reading M (arriving M B reply o) ≡ today.arriving M (reading M B) (mapped (sent_as M B.n) o)) × Good M (arriving M B reply o)
        go none = (refl, good)
        go (some x) = by x (cases (ltb x.box B.n))

  -- ---- what changes nothing

  -- a reply buffer that is too small: the call is numbered 1, and the message counts as lost
  arrives_lost : (B : GroupInBuffers) (k : ℕ) (reply : List ℕ) → length reply < 24 → act M B (arrives k reply) ≡ B
  arrives_lost B k reply short = go (at B.sent k)
    where
      go : (o : Option Sent) → arriving M B reply o ≡ B
      go none = refl
      go (some x) = rw (way_exactly M (B.buffer x.box) x.message reply (small (inr short)), both_false (ltb x.box B.n))

  -- a merge that is refused
  merges_refused : (B : GroupInBuffers) (v : ℕ) (run out : List ℕ) → eqb (merge.call_number M run v out) 0 ≡ false → act M B (merges v run out) ≡ B
  merges_refused B v run out e = rw e

  -- ---- whatever is done, by the rules or not

  act_good : (B : GroupInBuffers) → Good M B → (a : Act) → Good M (act M B a)
  act_good B good (sends b bytes) = sending_good M B _ good
  act_good B good (arrives k reply) = go (cases (ltb (length reply) 24))
    where
      go : (ltb (length reply) 24 ≡ true) ⊎ (ltb (length reply) 24 ≡ false) → Good M (act M B (arrives k reply))
      go (inl t) = rw (arrives_lost B k reply (ltb-true _ _ t)) good
      go (inr t) = (arrives_read B good k reply (ltb-false _ _ t)).1
  act_good B good (declares s v r) = declaring_good M B _ good
  act_good B good (merges v run out) = merges_good M sound room B good v run out

  pub acts_good : (B : GroupInBuffers) → Good M B → (acts : List Act) → Good M (after_acts M B acts)
  acts_good B good [] = good
  acts_good B good (a ∷ more) = acts_good (act M B a) (act_good B good a) more

  -- ---- what is done by the rules is a lawful history

  pub record Followed (B C : GroupInBuffers) : Type 0 where
    pub events : List Event
    pub lawful : Lawful M (reading M B) events
    pub same : reading M C ≡ after M (reading M B) events

  nothing_done : (B C : GroupInBuffers) → C ≡ B → Followed B C
  nothing_done B C e = record { events = []; lawful = tt; same = ap (reading M) e }

  act_followed : (B : GroupInBuffers) → Good M B → (a : Act) → MayAct M B a → Followed B (act M B a)
  act_followed B good (sends b bytes) may = record { events = Event.sends b (said M B.n bytes) ∷ []; lawful = (may_send_lem M B good b bytes may, tt); same = sends_read B b bytes }
  act_followed B good (arrives k reply) may = go (cases (ltb (length reply) 24))
    where
      go : (ltb (length reply) 24 ≡ true) ⊎ (ltb (length reply) 24 ≡ false) → Followed B (act M B (arrives k reply))
      go (inl t) = nothing_done B (act M B (arrives k reply)) (arrives_lost B k reply (ltb-true _ _ t))
      go (inr t) = record { events = Event.arrives k ∷ []; lawful = (tt, tt); same = (arrives_read B good k reply (ltb-false _ _ t)).0 }
  act_followed B good (declares s v r) may = record { events = Event.declares s v r ∷ []; lawful = (may_declare M B good s v r may, tt); same = refl }
  act_followed B good (merges v run out) may = go (same? (merge.call_number M run v out) 0)
    where
      go : (merge.call_number M run v out ≡ 0) ⊎ (eqb (merge.call_number M run v out) 0 ≡ false) → Followed B (act M B (merges v run out))
      go (inl e) =
          let large = (merges.not_small M run v out (λ z. let d : ◌≡◌ {A = ℕ} 0 1 = sym e ∙ z in absurd (omega arith))).0 in
          let (ks, is) = places M sound room B good v run out (may e) large in
          record { events = Event.merges v ks ∷ []; lawful = (tt, tt); same = merges_read M sound room B good v run out (may e) large ks is }
      go (inr e) = nothing_done B (act M B (merges v run out)) (merges_refused B v run out e)

  -- ---- one after the other

  after_both : (G : Group) (es fs : List Event) → after M G (es ++ fs) ≡ after M (after M G es) fs
  after_both G [] fs = refl
  after_both G (e ∷ es) fs = after_both (step M G e) es fs

  lawful_both : (G : Group) (es fs : List Event) → Lawful M G es → Lawful M (after M G es) fs → Lawful M G (es ++ fs)
  lawful_both G [] fs law more = more
  lawful_both G (e ∷ es) fs (may, law) more = (may, lawful_both (step M G e) es fs law more)

  then_followed : (B C D : GroupInBuffers) → Followed B C → Followed C D → Followed B D
  then_followed B C D one more =
      record {
        events = one.events ++ more.events;
        lawful = lawful_both (reading M B) one.events more.events one.lawful (subst (λ G. Lawful M G more.events) one.same more.lawful);
        same = more.same ∙ ap (λ G. after M G more.events) one.same ∙ sym (after_both (reading M B) one.events more.events);
      }

  pub acts_followed : (B : GroupInBuffers) → Good M B → (acts : List Act) → ByTheRules M B acts → Followed B (after_acts M B acts)
  acts_followed B good [] law = nothing_done B B refl
  acts_followed B good (a ∷ more) (may, law) =
      then_followed B (act M B a) (after_acts M (act M B a) more) (act_followed B good a may) (acts_followed (act M B a) (act_good B good a) more law)

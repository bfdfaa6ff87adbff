-- A message arrives: the box's answer by the rules is followed by the abstract group, whether it is taken or refused.
use mathlib.Core.Path.{◌≡◌, refl}
use mathlib.Core.Bool.{true, false, cond}
use mathlib.Core.Logic.{◌⊎◌, inl, inr}
use mathlib.Core.Option.{Option, none, some}
use mathlib.Core.List.Memᴰ
use mathlib.Core.List.{List, [], ◌∷◌}
use Prim.Native.Nat.{ℕ, zero, suc, ◌<◌}
use native.Mathlib.Omega.{arith}
use lib.Dec.{eqb, ltb}
use borrow.Author.Tests.{eqb-true, eqb-false, ltb-true}
use Rattle.rules.specs.Tests.{all_of}
use Rattle.rules.specs.Tables.{Table}
use Rattle.rules.specs.Messages.{Message, Message.propose_prepare, Message.finalise_prepare, Message.propose_outcome, Message.finalise_outcome, Message.change_view, Message.start_view, Message.read_register, table_after}
use Rattle.rules.specs.Answers.{reply_from, refusal, refused, taken, answer_number, answer}
use Rattle.rules.proofs.Logic.{none_some, cases}
use Rattle.rules.proofs.Lists.{◌∈◌, all_from}
use Rattle.history.specs.Survival.{Sent, Group, at, answering, arriving}
use Rattle.history.proofs.Group.Acts.{State, Sound}
use Rattle.rules.proofs.Taken.{taken_1, taken_2, taken_3, taken_4, taken_5, taken_6}
use Rattle.history.proofs.Follow.World.{World, setup}
use Rattle.history.proofs.Follow.Boxes.{onward_stay}
use Rattle.history.proofs.Follow.Answering.{TakenAs, taken_prepare, taken_final, taken_outcome, taken_finish}
use Rattle.history.proofs.Follow.Views.{start_facts, taken_change, taken_start}
use Rattle.history.proofs.Follow.Follows.{Named, Backed, Follows, answer_follows}

-- what stands at a place of a list is in it
pub at_in : {A : Type 0} (xs : List A) (i : ℕ) (x : A) → at xs i ≡ some x → x ∈ xs
unfolding at
at_in [] i x e = none_some e
at_in (y ∷ ys) zero x e = let z : x ≡ y = cc in Memᴰ.head z
at_in (y ∷ ys) (suc i) x e = Memᴰ.tail (at_in ys i x e)

pub chosen_in : {A : Type 0} (xs : List A) (places : List ℕ) (x : A) → x ∈ all_of (at xs) places → x ∈ xs
chosen_in xs places x m = let (i, j, e) = all_from (at xs) places x m in at_in xs i x e

-- a state of the abstract group that follows a group of the history
abbrev pub Followed : World → Group → Type 0
Followed W G = (s : State) × Sound (setup W) s × Follows W G s

module _ (W : World) (G : Group) (s : State) (k : Sound (setup W) s) (F : Follows W G s) where
  -- a message that the box takes
  taken_message : (b : ℕ) (m : Message) → Backed W s b m → Named W m → answer_number W.model W.room (G.table b) m ≡ 0 → TakenAs W s b m (table_after W.proposals (G.table b) m)
  unfolding table_after reply_from
  taken_message b (propose_prepare t x) back named h =
      taken_prepare W b t x (G.table b) (taken_1 W.model W.room (G.table b) t x h) s k (F.boxes b) back named
  taken_message b (finalise_prepare t v r) back named h =
      let (n, e, q) = taken_2 W.model W.room (G.table b) t v r h in
      rw e (taken_final W b t (G.table b) n s k (F.boxes b) r (rw e at back) q)
  taken_message b (propose_outcome t o x) (prop, why, sent) named h =
      let (n, q) = taken_3 W.model W.room (G.table b) t o x h in
      taken_outcome W b t (G.table b) n s k (F.boxes b) o x (prop, why) sent named q
  taken_message b (finalise_outcome t v o) back named h =
      let (n, e, q) = taken_4 W.model W.room (G.table b) t v o h in
      rw e (taken_finish W b t (G.table b) n s k (F.boxes b) o (rw e at back) q)
  taken_message b (change_view v) back named h = taken_change W b (G.table b) s k (F.boxes b) v (taken_5 W.model W.room (G.table b) v h)
  taken_message b (start_view v I) (began, own) named h =
      let (l, u, rule, starts) = taken_6 W.model W.room (G.table b) v I h in
      let shut = (start_facts W b (G.table b) s k (F.boxes b) v I l u rule starts).3 in
      taken_start W b (G.table b) s k (F.boxes b) v I l u rule starts (F.above b) own (named shut (omega arith)) began
  taken_message b (read_register t r) back named h = record { next = s; sound = k; onward = onward_stay b s; is = F.boxes b; echo = tt }

  -- taken or refused
  answer_followed : (x : Sent) → x ∈ G.sent → x.box < W.n → Followed W (answering G x (answer W.model W.room W.proposals (G.table x.box) x.message))
  unfolding answer taken refused refusal reply_from
  answer_followed x m inside = go (cases (eqb number 0))
    where
      T : Table
      T = G.table x.box

      number : ℕ
      number = answer_number W.model W.room T x.message

      after : Table
      after = table_after W.proposals T x.message

      go : (eqb number 0 ≡ true) ⊎ (eqb number 0 ≡ false) → Followed W (answering G x (cond (eqb number 0) (taken after x.message) (refused number T)))
      go (inl e) =
          let (back, named) = F.sent x m in
          let z = taken_message x.box x.message back named (eqb-true number 0 e) in
          rw e (z.next, z.sound, answer_follows W G s z.next x (taken after x.message) F inside z.sound z.onward z.is (λ n. record { reached = omega (arith, z.is.view); echo = z.echo }))
      go (inr e) = rw e (s, k, answer_follows W G s s x (refused number T) F inside k (onward_stay x.box s) (F.boxes x.box) (λ n. absurd (eqb-false number 0 e n)))

  pub arrival_followed : (place : ℕ) → Followed W (arriving W.model W.room W.proposals G (at G.sent place))
  arrival_followed place = go (at G.sent place) refl
    where
      reaches : (x : Sent) → x ∈ G.sent → (ltb x.box G.n ≡ true) ⊎ (ltb x.box G.n ≡ false) → Followed W (cond (ltb x.box G.n) (answering G x (answer W.model W.room W.proposals (G.table x.box) x.message)) G)
      reaches x m (inl e) = rw e (answer_followed x m (rw F.size at (ltb-true x.box G.n e)))
      reaches x m (inr e) = rw e (s, k, F)

      go : (x : Option Sent) → at G.sent place ≡ x → Followed W (arriving W.model W.room W.proposals G x)
      go none e = (s, k, F)
      go (some x) e = reaches x (at_in G.sent place x e) (cases (ltb x.box G.n))

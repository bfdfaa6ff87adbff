-- Demand 3: every lawful history is followed by the abstract group, so what is kept there survives here.
use mathlib.Core.Path.{◌≡◌, refl}
use mathlib.Core.Bool.{true}
use mathlib.Core.List.{List}
use Prim.Native.Nat.{ℕ, ◌<◌}
use borrow.Author.Tests.{eq-eqb}
use Rattle.rules.specs.Groups.{is_group}
use Rattle.rules.specs.Stamps.{Access, Body}
use Rattle.rules.specs.Tables.{Verdict.commit, Model}
use Rattle.rules.specs.Messages.{Message, Message.propose_prepare, Message.finalise_prepare, Message.propose_outcome, Message.finalise_outcome, Message.change_view, Message.start_view, Message.read_register, Check}
use Rattle.rules.specs.Circumstances.{Room}
use Rattle.rules.specs.Answers.{proposal_check}
use Rattle.rules.specs.Inner.Clashes.{clash}
use Rattle.rules.proofs.Logic.{either_first, eqb_self}
use Rattle.rules.proofs.Lists.{◌∈◌}
use Rattle.rules.proofs.Check.{overwrites_if}
use Rattle.rules.proofs.Answers.{proposal_clear}
use Rattle.history.specs.Survival.{Sent, Merged, Group, fresh_group, Event, after, WasSent, Lawful, Survival}
use Rattle.history.proofs.Group.Acts.{State, Sound}
use Rattle.history.proofs.Group.Kept.{KeptIn, any_merge, committed_apart}
use Rattle.history.proofs.Follow.World.{Clear, World, setup, cells_in}
use Rattle.history.proofs.Follow.Follows.{Named, Follows}
use Rattle.history.proofs.Follow.Arrivals.{Followed}
use Rattle.history.proofs.Follow.Coordinators.{accepted_crowd}
use Rattle.history.proofs.Follow.Following.{fresh_followed, history_followed}
use Rattle.history.proofs.Follow.Names.{carried_body, body_named, rows_named, OneEach, one_each, none_sent, named_shut, named_empty, body_named_lem, rows_named_lem}

-- ---- what survives in a group that is followed

module _ (W : World) (G : Group) (s : State) (k : Sound (setup W) s) (F : Follows W G s) where
  kept_in : (m : Merged) → m ∈ G.merged → KeptIn (setup W) s.facts s.entry m.view (cells_in m.table.rows)
  kept_in m i = any_merge (setup W) s.facts s.entry k.invariant m.view (cells_in m.table.rows) (F.merged m i).grounded.0

  -- no write of t lies between a version that a read and a
  no_clash_lem : (a t : ℕ) (x y : Body) → WasSent G (propose_outcome a commit x) → WasSent G (propose_outcome t commit y) → (read write : Access) → read ∈ x.reads → write ∈ y.writes → read.register ≡ write.register → read.number < t → t < a → ⊥
  unfolding clash
  no_clash_lem a t x y (b, i) (c, j) read write m n e l h =
      let ((p, q, z), named) = F.sent _ i in
      let ((p', q', z'), named') = F.sent _ j in
      committed_apart (setup W) s.facts s.entry k.invariant a t p p' (rw (← named, ← named') (either_first _ _ (overwrites_if t y.writes a x.reads read write m n (eq-eqb _ _ e, l, h))))

  pub survives : Survival G
  survives =
      record {
        declared = λ m t u r i d l. (kept_in m i).results t u r l (F.declared _ d);
        accepted = λ m t u o i q l. (kept_in m i).outcomes t u o l (accepted_crowd W G s k F t u o q);
        rows_sent = λ m r i. (F.merged m i).rows_sent r;
        outcomes_sent = λ m r o i. (F.merged m i).outcomes_sent r o;
        no_clash = no_clash_lem;
      }

-- ---- the theorem

pub fresh_one : (n : ℕ) → OneEach (fresh_group n).sent
unfolding fresh_group
fresh_one n = none_sent

module _ (n : ℕ) (group : is_group n ≡ true) (M : Model) (room : Room) (proposals : Check) (clear : Clear proposals) where
  abbrev pub world_of : List Sent → World
  world_of xs =
      record {
        n = n;
        group = group;
        model = M;
        room = room;
        proposals = proposals;
        clear = clear;
        bodies = body_named xs;
        begun = rows_named xs;
        shut = named_shut xs;
        empty = named_empty xs;
      }

  all_named : (xs : List Sent) → OneEach xs → (b : ℕ) (m : Message) → record { box = b; message = m } ∈ xs → Named (world_of xs) m
  unfolding carried_body
  all_named xs one b (propose_prepare t y) i = body_named_lem xs one b t (propose_prepare t y) y i (rw (eqb_self t) refl)
  all_named xs one b (finalise_prepare t v r) i = tt
  all_named xs one b (propose_outcome t o y) i = body_named_lem xs one b t (propose_outcome t o y) y i (rw (eqb_self t) refl)
  all_named xs one b (finalise_outcome t v o) i = tt
  all_named xs one b (change_view v) i = tt
  all_named xs one b (start_view v I) i = rows_named_lem xs one b v I i
  all_named xs one b (read_register t k) i = tt

  abbrev pub from_fresh : List Event → Group
  from_fresh es = after M room proposals (fresh_group n) es

  pub followed : (es : List Event) → Lawful M room proposals (fresh_group n) es → Followed (world_of (from_fresh es).sent) (from_fresh es)
  followed es law = history_followed W es (fresh_group n) law (λ x i. all_named xs one x.box x.message i) (fresh_followed W)
    where
      xs : List Sent
      xs = (from_fresh es).sent

      W : World
      W = world_of xs

      one : OneEach xs
      one = one_each M room proposals es (fresh_group n) law (fresh_one n)

  -- whatever check message 1 uses, if its OK clashes with no accepted row
  pub survival_with : (es : List Event) → Lawful M room proposals (fresh_group n) es → Survival (from_fresh es)
  survival_with es law = let (s, k, F) = followed es law in survives (world_of (from_fresh es).sent) (from_fresh es) s k F

-- by the check that boxes answer message 1 by, for every group, every row limit and every rule of room
pub survival : (n : ℕ) → is_group n ≡ true → (M : Model) (room : Room) (es : List Event) → Lawful M room proposal_check (fresh_group n) es → Survival (after M room proposal_check (fresh_group n) es)
survival n group M room = survival_with n group M room proposal_check proposal_clear

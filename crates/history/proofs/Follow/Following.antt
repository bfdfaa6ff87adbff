-- A lawful history is followed by the abstract group, event by event, from the fresh start.
use mathlib.Core.Path.{◌≡◌, refl, sym, ap, subst}
use mathlib.Core.Bool.{Bool, true, false, cond}
use mathlib.Core.Logic.{◌⊎◌, inl, inr}
use mathlib.Core.Option.{Option, none, some}
use mathlib.Core.List.Memᴰ
use mathlib.Core.List.{List, [], ◌∷◌}
use Prim.Native.Nat.{ℕ, zero, suc, ◌<◌}
use native.Mathlib.Omega.{arith}
use lib.Dec.{ltb}
use Rattle.rules.specs.Tests.{both, either, all_of}
use Rattle.rules.specs.Tables.{Row, Table, Model, changing_mode, mode_by_rule, fresh_table}
use Rattle.rules.specs.Messages.{Check, held, prepare_of, outcome_of}
use Rattle.rules.specs.Circumstances.{Room}
use Rattle.rules.specs.Answers.{answer}
use Rattle.rules.specs.Check.{check}
use Rattle.rules.specs.Merge.{merge}
use Rattle.rules.proofs.Lists.{◌∈◌}
use Rattle.history.specs.Survival.{Sent, Group, boxes_below, fresh_group, Event, Event.sends, Event.arrives, Event.declares, Event.merges, at, answering, arriving, merging_as, step, after, May, Lawful}
use Rattle.history.proofs.Group.Steps.{fresh_state, fresh_sound}
use Rattle.history.proofs.Follow.World.{World, setup}
use Rattle.history.proofs.Follow.Gathered.{HadIs}
use Rattle.history.proofs.Follow.Follows.{Named, last_or}
use Rattle.history.proofs.Follow.Arrivals.{Followed, arrival_followed}
use Rattle.history.proofs.Follow.Coordinators.{declare_followed, send_followed}
use Rattle.history.proofs.Follow.Merging.{merge_followed}

-- ---- the start

pub below_from : (n b : ℕ) → b ∈ boxes_below n → b < n
unfolding boxes_below
below_from zero b m = absurd (Memᴰ.not-nil m)
below_from (suc n) b m = go (λ k. below_from n b k) (last_or (boxes_below n) m)
  where
    go : (b ∈ boxes_below n → b < n) → (b ∈ boxes_below n) ⊎ (b ≡ n) → b < suc n
    go below (inl k) = let l = below k in omega arith
    go below (inr e) = omega arith

fresh_mode : mode_by_rule 0 0 0 ≡ true
unfolding mode_by_rule either both
fresh_mode = refl

pub fresh_followed : (W : World) → Followed W (fresh_group W.n)
unfolding fresh_group fresh_table
fresh_followed W = (
  fresh_state (setup W),
  fresh_sound (setup W),
  record {
    size = refl;
    boxes = λ b.
        record {
          box = refl;
          group = refl;
          view = refl;
          promise = refl;
          mode = fresh_mode;
          prepare = λ t. ap (λ (rows : List Row). prepare_of (held rows t)) (sym W.empty);
          outcome = λ t. ap (λ (rows : List Row). outcome_of (held rows t)) (sym W.empty);
          owned = λ r m. absurd (Memᴰ.not-nil m);
          handed = λ e. normal e;
        };
    above = λ b v t l. (refl, refl);
    sent = λ x m. absurd (Memᴰ.not-nil m);
    answers = λ a m. absurd (Memᴰ.not-nil m);
    declared = λ d m. absurd (Memᴰ.not-nil m);
    had = λ T m. let (b, i, e) = Memᴰ.of_map (fresh_table W.n) (boxes_below W.n) m in subst (HadIs W []) e (fresh_had b (below_from W.n b i));
    merged = λ m i. absurd (Memᴰ.not-nil i);
    facts = λ φ m. absurd (Memᴰ.not-nil m);
  },
)
  where
    normal : {A : Type 0} → ◌≡◌ {A = ℕ} 0 changing_mode → A
    normal e = absurd (omega arith)

    fresh_had : (b : ℕ) → b < W.n → HadIs W [] (fresh_table W.n b)
    fresh_had b l = record { box = l; group = refl; mode = fresh_mode; owned = λ r m. absurd (Memᴰ.not-nil m); handed = λ e. normal e }

-- ---- one event, and all of them

module _ (M : Model) (room : Room) (proposals : Check) where
  -- an arrival or a merge sends nothing
  pub arriving_sent : (G : Group) (x : Option Sent) → (arriving M room proposals G x).sent ≡ G.sent
  arriving_sent G none = refl
  arriving_sent G (some x) = either_group (ltb x.box G.n) (answering G x (answer M room proposals (G.table x.box) x.message)) refl
    where
      either_group : (c : Bool) (H : Group) → H.sent ≡ G.sent → (cond c H G).sent ≡ G.sent
      either_group true H e = e
      either_group false H e = refl

  pub merging_sent : (G : Group) (v : ℕ) (o : Option Table) → (merging_as M room proposals G v o).sent ≡ G.sent
  merging_sent G v none = refl
  merging_sent G v (some T) = refl

  step_sent : (G : Group) (e : Event) (x : Sent) → x ∈ G.sent → x ∈ (step M room proposals G e).sent
  step_sent G (sends b m) x i = Memᴰ.append_left _ i
  step_sent G (arrives k) x i = rw (arriving_sent G (at G.sent k)) i
  step_sent G (declares s v r) x i = i
  step_sent G (merges v ks) x i = rw (merging_sent G v (merge M check v (all_of (at G.had) ks))) i

  pub after_sent : (es : List Event) (G : Group) (x : Sent) → x ∈ G.sent → x ∈ (after M room proposals G es).sent
  after_sent [] G x i = i
  after_sent (e ∷ es) G x i = after_sent es (step M room proposals G e) x (step_sent G e x i)

module _ (W : World) where
  abbrev Next : Group → Event → Group
  Next G e = step W.model W.room W.proposals G e

  event_followed : (G : Group) (e : Event) → May G e → ((x : Sent) → x ∈ (Next G e).sent → Named W x.message) → Followed W G → Followed W (Next G e)
  event_followed G (sends b m) may named (s, k, F) = send_followed W G s k F b m may (named _ (Memᴰ.append_right G.sent (Memᴰ.head refl)))
  event_followed G (arrives i) may named (s, k, F) = arrival_followed W G s k F i
  event_followed G (declares t v r) (one, crowd, free) named (s, k, F) = declare_followed W G s k F t v r one crowd free
  event_followed G (merges v places) may named (s, k, F) = merge_followed W G s k F v places

  pub history_followed : (es : List Event) (G : Group) → Lawful W.model W.room W.proposals G es → ((x : Sent) → x ∈ (after W.model W.room W.proposals G es).sent → Named W x.message) → Followed W G → Followed W (after W.model W.room W.proposals G es)
  history_followed [] G law named F = F
  history_followed (e ∷ es) G (may, rest) named F =
      history_followed es (Next G e) rest named (event_followed G e may (λ x i. named x (after_sent W.model W.room W.proposals es (Next G e) x i)) F)

-- The steps of the group, one lemma for each: what it asks, and that it keeps the state sound.
use mathlib.Core.Path.{◌≡◌, refl, sym, ap, subst}
use mathlib.Core.Bool.{Bool, true, false, cond}
use mathlib.Core.Logic.{◌⊎◌, inl, inr}
use mathlib.Core.List.Memᴰ
use mathlib.Core.List.{[], ◌∷◌}
use Prim.Native.Nat.{ℕ, ◌≤◌, ◌<◌}
use native.Mathlib.Omega.{arith}
use lib.Dec.{eqb}
use Rattle.rules.specs.Tables.{Result, Result.OK, Prepare.final, Verdict, Verdict.commit, Outcome.done}
use Rattle.rules.proofs.Logic.{impossible, cases, same?, eqb_self}
use Rattle.rules.proofs.Lists.{◌∈◌}
use Rattle.rules.proofs.Groups.{fast_quorum}
use Rattle.history.proofs.Group.Below.{search_below, at_least_map, at_least_fewer, at_least_below}
use Rattle.history.proofs.Group.Cells.{Holds}
use Rattle.history.proofs.Group.Entries.{Cells, Fact, Fact.gave_result, Fact.declared_final, Fact.proposed, Fact.finalised, Fact.promised, Fact.body_sent, Fact.started, Said, Said.said, OKReason, Good}
use Rattle.history.proofs.Group.Invariant.{Setup, Quorum, Began, Entries, Rests, Crowds, Promise}
use Rattle.history.proofs.Group.Kept.{keeps, held_proposed}
use Rattle.history.proofs.Group.Growth.{still}
use Rattle.history.proofs.Group.Acts.{State, Bound, Sound}
use Rattle.history.proofs.Group.Facts.{Duty, invariant_more}

-- ---- the states after a step

-- one value of a function changed
abbrev pub set_at : (ℕ → ℕ) → ℕ → ℕ → ℕ → ℕ
set_at f b x c = cond (eqb b c) x (f c)

pub set_at-here : (f : ℕ → ℕ) (b x c : ℕ) → b ≡ c → set_at f b x c ≡ x
set_at-here f b x c e = rw (← e, eqb_self b) refl

pub set_at-off : (f : ℕ → ℕ) (b x c : ℕ) → eqb b c ≡ false → set_at f b x c ≡ f c
set_at-off f b x c e = rw e refl

pub set_at-at : (f : ℕ → ℕ) (b x c : ℕ) → ((b ≡ c) × (set_at f b x c ≡ x)) ⊎ (set_at f b x c ≡ f c)
set_at-at f b x c = go (same? b c)
  where
    go : (b ≡ c) ⊎ (eqb b c ≡ false) → ((b ≡ c) × (set_at f b x c ≡ x)) ⊎ (set_at f b x c ≡ f c)
    go (inl e) = inl (e, set_at-here f b x c e)
    go (inr e) = inr (set_at-off f b x c e)

abbrev pub cells_of : State → ℕ → Cells
cells_of s b t = record { prepare = (s.entry b (s.view b) t).prepare; outcome = (s.entry b (s.view b) t).outcome }

abbrev pub with_fact : State → Fact → State
with_fact s φ = record { view = s.view; promised = s.promised; entry = s.entry; facts = φ ∷ s.facts }

abbrev pub promising : State → ℕ → ℕ → State
promising s b v = record { view = s.view; promised = set_at s.promised b v; entry = s.entry; facts = promised b v (s.view b) (cells_of s b) ∷ s.facts }

abbrev pub adopting : State → ℕ → ℕ → State
adopting s b v = record { view = set_at s.view b v; promised = set_at s.promised b v; entry = s.entry; facts = s.facts }

-- what the coordinators' rules ask before a result is sent or declared: none other in that view, and no outcome proposed
pub record May (X : Setup) (s : State) (t w : ℕ) (r : Result) : Type 0 where
  pub only : (q : Result) → gave_result t w q ∈ s.facts → q ≡ r
  pub before : (o : Verdict) → proposed t o ∈ s.facts → ⊥

-- the count's duty for OK: a final OK among the replies, or f+1 that said OK
abbrev pub CountedOK : Setup → State → ℕ → ℕ → Type 0
CountedOK X s t w = ((b : ℕ) × (said OK true ∈ (s.entry b w t).answers)) ⊎ Quorum X (λ b. (x : Bool) × (said OK x ∈ (s.entry b w t).answers))

-- what a new fact says of the boxes' views: a promise binds its box
abbrev Binds : State → Fact → Type 0
Binds s (promised b v x cells) = Bound s b v x
Binds s (gave_result t w r) = Unit {0}
Binds s (declared_final t w r) = Unit {0}
Binds s (proposed t o) = Unit {0}
Binds s (finalised t w o) = Unit {0}
Binds s (started v) = Unit {0}
Binds s (body_sent t) = Unit {0}

-- every box of every view has at first the table that the view begins with
abbrev pub fresh_entries : Setup → Entries
fresh_entries X b w t = record { prepare = (X.begun w t).prepare; outcome = (X.begun w t).outcome; checked = false; answers = []; acceptances = [] }

abbrev pub fresh_state : Setup → State
fresh_state X = record { view = λ b. 0; promised = λ b. 0; entry = fresh_entries X; facts = [] }

module _ (X : Setup) where
  -- ---- the start

  fresh_good : (w t : ℕ) → Good [] w t (X.begun w t) (fresh_entries X 0 w t)
  fresh_good w t =
      record {
        final_stays = λ r h. h;
        done_stays = λ o h. h;
        final_from = λ r h. inl h;
        tentative_new = λ r h. absurd ((X.settled w t).no_tentative r h);
        tentative_from = λ h. absurd ((X.settled w t).no_tentative OK h);
        answer_final = λ r m. absurd (Memᴰ.not-nil m);
        answer_tentative = λ r m. absurd (Memᴰ.not-nil m);
        answer_ok = λ m. absurd (Memᴰ.not-nil m);
        acceptance_held = λ o m. absurd (Memᴰ.not-nil m);
        done_from = λ o h. inl h;
        held_from = λ o h. inl (held o h);
        checked_new = λ h. impossible h refl;
        checked_placed = λ h. impossible h refl;
      }
    where
      held : (o : Verdict) → Holds o (X.begun w t).outcome → (X.begun w t).outcome ≡ done o
      held o (inl h) = absurd ((X.settled w t).no_noted o h)
      held o (inr h) = h

  pub fresh_sound : Sound X (fresh_state X)
  fresh_sound =
      record {
        invariant =
            record {
              good = λ b w t. fresh_good w t;
              clear_of_begun = λ b w t u cl ac k. impossible k refl;
              checked_apart = λ b w t u cl k k'. impossible k refl;
              result_ok = λ t w m. absurd (Memᴰ.not-nil m);
              result_one = λ t w r r' m m'. absurd (Memᴰ.not-nil m);
              declared = λ t w r m. absurd (Memᴰ.not-nil m);
              commit_after = λ t m. absurd (Memᴰ.not-nil m);
              one_verdict = λ t m m'. Memᴰ.not-nil m;
              finished = λ t w o m. absurd (Memᴰ.not-nil m);
              promise = λ b v x cells m. absurd (Memᴰ.not-nil m);
              crossing = λ b v x cells u t m h. absurd (Memᴰ.not-nil m);
              seen = λ b w t h. untouched h;
              began = λ v m. absurd (Memᴰ.not-nil m);
            };
        order = λ b. omega arith;
        based = λ b. inl refl;
        promises = λ b v x cells m. absurd (Memᴰ.not-nil m);
        reached = λ b w t h. untouched h;
      }
    where
      untouched : {A : Type 0} → ((a : Said) × (a ∈ [])) ⊎ ((o : Verdict) × (o ∈ [])) → A
      untouched (inl (a, m)) = absurd (Memᴰ.not-nil m)
      untouched (inr (o, m)) = absurd (Memᴰ.not-nil m)

  -- ---- facts of coordinators
  module _ (s : State) (i : Sound X s) where
    sound_more : (φ : Fact) → Binds s φ → Duty X s.facts s.entry φ → Sound X (with_fact s φ)
    sound_more φ q n =
        record {
          invariant = invariant_more X s.facts s.entry φ i.invariant n;
          order = i.order;
          based = λ b. still φ (i.based b);
          promises = λ b v x cells m. old b v x cells (Memᴰ.cases_cons m);
          reached = i.reached;
        }
      where
        old : (b v x : ℕ) (cells : Cells) → (promised b v x cells ≡ φ) ⊎ (promised b v x cells ∈ s.facts) → Bound s b v x
        old b v x cells (inl e) = subst (λ (y : Fact). Binds s y) (sym e) q
        old b v x cells (inr m) = i.promises b v x cells m

    -- an OK that the count gives rests on checks
    from_final : (b t w : ℕ) → said OK true ∈ (s.entry b w t).answers → Rests X s.entry t w
    from_final b t w m = go ((i.invariant.good b w t).final_from OK ((i.invariant.good b w t).answer_final OK m))
      where
        go : ((X.begun w t).prepare ≡ final OK) ⊎ (gave_result t w OK ∈ s.facts) → Rests X s.entry t w
        go (inl e) = inl e
        go (inr h) = i.invariant.result_ok t w h

    from_answer : (b t w : ℕ) → ((o : Verdict) → proposed t o ∈ s.facts → ⊥) → said OK false ∈ (s.entry b w t).answers → (s.entry b w t).checked ≡ true
    from_answer b t w nb m = go ((i.invariant.good b w t).answer_ok m)
      where
        go : OKReason (s.entry b w t).checked (s.entry b w t).outcome → (s.entry b w t).checked ≡ true
        go (inl k) = k
        go (inr h) = absurd (nb commit (held_proposed X s.facts s.entry i.invariant b w t commit (keeps X s.facts s.entry i.invariant w (i.invariant.seen b w t (inl (said OK false, m)))) h).0)

    rests : (t w : ℕ) → ((o : Verdict) → proposed t o ∈ s.facts → ⊥) → CountedOK X s t w → Rests X s.entry t w
    rests t w nb (inl (b, m)) = from_final b t w m
    rests t w nb (inr q) = end (search_below X.n (λ b. Rests X s.entry t w) (λ b. q.test b ≡ true → (s.entry b w t).checked ≡ true) at)
      where
        at : (b : ℕ) → Rests X s.entry t w ⊎ (q.test b ≡ true → (s.entry b w t).checked ≡ true)
        at b = go (cases (q.test b))
          where
            answered : (x : Bool) → said OK x ∈ (s.entry b w t).answers → Rests X s.entry t w ⊎ (q.test b ≡ true → (s.entry b w t).checked ≡ true)
            answered true m = inl (from_final b t w m)
            answered false m = inr (λ e. from_answer b t w nb m)

            go : (q.test b ≡ true) ⊎ (q.test b ≡ false) → Rests X s.entry t w ⊎ (q.test b ≡ true → (s.entry b w t).checked ≡ true)
            go (inl e) = let (x, m) = q.holds b e in answered x m
            go (inr e) = inr (λ e'. impossible e' e)

        end : ((b : ℕ) × (b < X.n) × Rests X s.entry t w) ⊎ ((b : ℕ) → b < X.n → q.test b ≡ true → (s.entry b w t).checked ≡ true) → Rests X s.entry t w
        end (inl (b, l, r)) = r
        end (inr all) = inr (at_least_map (λ b h. all b h.0 h.1) (at_least_below (record { test = q.test; holds = λ b e. e; enough = q.enough })))

    pub send_keeps : (t w : ℕ) (r : Result) → May X s t w r → (r ≡ OK → CountedOK X s t w) → Sound X (with_fact s (gave_result t w r))
    send_keeps t w r m c = sound_more (gave_result t w r) tt (λ e. rests t w m.before (c e), λ q h. sym (m.only q h))

    pub body_keeps : (t : ℕ) → Sound X (with_fact s (body_sent t))
    body_keeps t = sound_more (body_sent t) tt tt

    pub propose_keeps : (t : ℕ) (o : Verdict) → ((u : Verdict) → proposed t u ∈ s.facts → u ≡ o) → (o ≡ commit → (u : ℕ) × (declared_final t u OK ∈ s.facts)) → Sound X (with_fact s (proposed t o))
    propose_keeps t o only after = sound_more (proposed t o) tt (after, λ u m. sym (only u m))

    pub finish_keeps : (t w : ℕ) (o : Verdict) → Quorum X (λ b. o ∈ (s.entry b w t).acceptances) → Sound X (with_fact s (finalised t w o))
    finish_keeps t w o q = sound_more (finalised t w o) tt q

    pub start_keeps : (v : ℕ) → Began X s.facts v (X.begun v) → Sound X (with_fact s (started v))
    start_keeps v m = sound_more (started v) tt m

  -- a declared result: first it counts as sent, then as declared
  pub declare_keeps : (s : State) (i : Sound X s) (t w : ℕ) (r : Result) → May X s t w r → Crowds X s.entry t w r → Sound X (with_fact (with_fact s (gave_result t w r)) (declared_final t w r))
  declare_keeps s i t w r m c =
      sound_more (with_fact s (gave_result t w r)) (send_keeps s i t w r m (counted c)) (declared_final t w r) tt (Memᴰ.head refl, c)
    where
      final_too : (b : ℕ) → said r true ∈ (s.entry b w t).answers → (x : Bool) × (said r x ∈ (s.entry b w t).answers)
      final_too b h = (true, h)

      counted : Crowds X s.entry t w r → r ≡ OK → CountedOK X s t w
      counted (inl q) e = inr (rw e at (at_least_fewer (fast_quorum X.f) q))
      counted (inr q) e = inr (rw e at (at_least_map final_too q))

  -- ---- promises and adoptions
  pub promise_keeps : (s : State) (i : Sound X s) (b v : ℕ) → s.promised b < v → Sound X (promising s b v)
  promise_keeps s i b v l =
      record {
        invariant = invariant_more X s.facts s.entry φ i.invariant (duty, λ u t h. inl (i.reached b u t h));
        order = λ b'. order_at b' (set_at-at s.promised b v b');
        based = λ b'. still φ (i.based b');
        promises = λ b' v' x cells m. bound_at b' v' x cells (Memᴰ.cases_cons m) (set_at-at s.promised b v b');
        reached = i.reached;
      }
    where
      φ : Fact
      φ = promised b v (s.view b) (cells_of s b)

      duty : Promise s.entry b v (s.view b) (cells_of s b)
      duty = record { later = omega (arith, i.order b); same_prepare = λ t. refl; same_outcome = λ t. refl }

      order_at : (b' : ℕ) → ((b ≡ b') × (set_at s.promised b v b' ≡ v)) ⊎ (set_at s.promised b v b' ≡ s.promised b') → s.view b' ≤ set_at s.promised b v b'
      order_at b' (inl (p, e)) = rw (e, ← p) (omega (arith, i.order b))
      order_at b' (inr e) = rw e (i.order b')

      bound_at : (b' v' x : ℕ) (cells : Cells) → (promised b' v' x cells ≡ φ) ⊎ (promised b' v' x cells ∈ s.facts) → ((b ≡ b') × (set_at s.promised b v b' ≡ v)) ⊎ (set_at s.promised b v b' ≡ s.promised b') → Bound (promising s b v) b' v' x
      bound_at b' v' x cells (inr m) (inr e) = rw e (i.promises b' v' x cells m)
      bound_at b' v' x cells (inr m) (inl (p, e)) = let k = i.promises b' v' x cells m in (rw e (omega (arith, k.0, l, ap s.promised p)), k.1)
      bound_at b' v' x cells (inl h) z = subst (λ (y : Fact). Binds (promising s b v) y) (sym h) (rw (eqb_self b) (omega arith), inl refl)

  pub adopt_keeps : (s : State) (i : Sound X s) (b v : ℕ) → s.promised b ≤ v → s.view b < v → started v ∈ s.facts → Sound X (adopting s b v)
  adopt_keeps s i b v l below st =
      record {
        invariant = i.invariant;
        order = λ b'. order_at b' (same? b b');
        based = λ b'. based_at b' (same? b b');
        promises = λ b' v' x cells m. bound_at b' v' x cells (i.promises b' v' x cells m) (same? b b');
        reached = λ b' w t h. reached_at b' w (i.reached b' w t h) (same? b b');
      }
    where
      order_at : (b' : ℕ) → (b ≡ b') ⊎ (eqb b b' ≡ false) → set_at s.view b v b' ≤ set_at s.promised b v b'
      order_at b' (inl p) = omega (arith, set_at-here s.view b v b' p, set_at-here s.promised b v b' p)
      order_at b' (inr p) = omega (arith, set_at-off s.view b v b' p, set_at-off s.promised b v b' p, i.order b')

      based_at : (b' : ℕ) → (b ≡ b') ⊎ (eqb b b' ≡ false) → (set_at s.view b v b' ≡ 0) ⊎ (started (set_at s.view b v b') ∈ s.facts)
      based_at b' (inl p) = rw (set_at-here s.view b v b' p) (inr st)
      based_at b' (inr p) = rw (set_at-off s.view b v b' p) (i.based b')

      bound_at : (b' v' x : ℕ) (cells : Cells) → Bound s b' v' x → (b ≡ b') ⊎ (eqb b b' ≡ false) → Bound (adopting s b v) b' v' x
      bound_at b' v' x cells k (inr p) = rw (set_at-off s.view b v b' p, set_at-off s.promised b v b' p) k
      bound_at b' v' x cells k (inl p) = rw (set_at-here s.view b v b' p, set_at-here s.promised b v b' p) (omega (arith, k.0, ap s.promised p), inr (omega (arith, k.0, ap s.promised p)))

      reached_at : (b' w : ℕ) → w ≤ s.view b' → (b ≡ b') ⊎ (eqb b b' ≡ false) → w ≤ set_at s.view b v b'
      reached_at b' w h (inl p) = omega (arith, set_at-here s.view b v b' p, ap s.view p)
      reached_at b' w h (inr p) = omega (arith, set_at-off s.view b v b' p)

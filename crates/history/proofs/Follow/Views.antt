-- Messages 5 and 6 as steps of the abstract group: a box promises a view, and it takes the table that a view began with.
use mathlib.Core.Path.{◌≡◌, refl, sym, ap, subst, ◌∙◌}
use mathlib.Core.Bool.{true, false}
use mathlib.Core.Logic.{◌⊎◌, inl, inr}
use mathlib.Core.List.Memᴰ
use mathlib.Core.List.{List, ◌∷◌}
use Prim.Native.Nat.{ℕ, ◌≤◌, ◌<◌}
use native.Mathlib.Omega.{arith}
use lib.Dec.{eqb}
use lib.ListN.{length}
use borrow.Author.Tests.{eqb-true, lt-ltb}
use Rattle.rules.specs.Tests.{every}
use Rattle.rules.specs.Tables.{Row, Table, changing_mode, normal_mode, mode_by_rule, table_by_rule}
use Rattle.rules.specs.Messages.{Message.change_view, Message.start_view, held, prepare_of, outcome_of, promising, keeping_box}
use Rattle.rules.specs.Circumstances.{settled, starts_view, is_changing}
use Rattle.rules.proofs.Logic.{both_left, both_right, both_true, either_second}
use Rattle.rules.proofs.Lists.{◌∈◌}
use Rattle.rules.proofs.Tables.{table_facts}
use Rattle.history.proofs.Group.Entries.{Cells, Fact, Fact.promised, Fact.started}
use Rattle.history.proofs.Group.Invariant.{Began}
use Rattle.history.proofs.Group.Acts.{State, Sound}
use Rattle.history.proofs.Group.Steps.{set_at-here, set_at-off, set_at-at, cells_of, with_fact, start_keeps, promise_keeps, adopt_keeps}
use Rattle.history.proofs.Group.Steps as Steps
use Rattle.history.proofs.Follow.World.{World, setup, cells_in}
use Rattle.history.proofs.Follow.Boxes.{Owned, owned_wider, BoxIs, normal_promise, OfBoxes}
use Rattle.history.proofs.Follow.Answering.{TakenAs}

-- one more fact that is no coordinator's
fact_from : (φ ψ : Fact) (facts : List Fact) → OfBoxes φ → ψ ∈ (φ ∷ facts) → (ψ ∈ facts) ⊎ OfBoxes ψ
fact_from φ ψ facts o m = go (Memᴰ.cases_cons m)
  where
    go : (ψ ≡ φ) ⊎ (ψ ∈ facts) → (ψ ∈ facts) ⊎ OfBoxes ψ
    go (inl e) = inr (subst OfBoxes (sym e) o)
    go (inr k) = inl k

module _ (W : World) (b : ℕ) (T : Table) (s : State) (k : Sound (setup W) s) (i : BoxIs W s b T) where
  -- ---- message 5

  cells_same : cells_of s b ≡ cells_in T.rows
  cells_same = λ j t. record { prepare = sym (i.prepare t) j; outcome = sym (i.outcome t) j }

  changing_by_rule : (v : ℕ) → T.view < v → mode_by_rule changing_mode T.view v ≡ true
  unfolding mode_by_rule
  changing_by_rule v l = either_second _ _ (both_true refl (lt-ltb T.view v l))

  pub taken_change : (v : ℕ) → T.promised < v → TakenAs W s b (change_view v) (promising T v)
  taken_change v l =
      record {
        next = Steps.promising s b v;
        sound = promise_keeps (setup W) s k b v (rw i.promise at l);
        onward =
            record {
              facts = λ φ m. Memᴰ.tail m;
              facts_from = λ φ m. fact_from _ φ s.facts tt m;
              views = λ c. omega arith;
              answers = λ c w t a m. m;
              acceptances = λ c w t o m. m;
              others = λ c d. (refl, set_at-off s.promised b v c d, λ w t. refl);
              above = λ c w t h. refl;
            };
        is =
            record {
              box = i.box;
              group = i.group;
              view = i.view;
              promise = sym (set_at-here s.promised b v b refl);
              mode = changing_by_rule v (omega (arith, l, i.view, i.promise, k.order b));
              prepare = i.prepare;
              outcome = i.outcome;
              owned = owned_wider W (λ φ m. Memᴰ.tail m) T.rows i.owned;
              handed = λ e. subst (λ (y : ℕ). promised b v y (cells_in T.rows) ∈ (Steps.promising s b v).facts) (sym i.view) (subst (λ (y : Cells). promised b v (s.view b) y ∈ (Steps.promising s b v).facts) cells_same (Memᴰ.head refl));
            };
        echo = tt;
      }

  -- ---- message 6

  module _ (v : ℕ) (I : Table) (later : T.promised ≤ v) (higher : T.view < v) (rule : table_by_rule W.model I ≡ true) (starts : starts_view T.n v I ≡ true) where
    abbrev Started : Table → Type 0
    Started J = (J.mode ≡ normal_mode) × (J.view ≡ v) × (J.n ≡ T.n) × (every settled J.rows ≡ true)

    pub start_facts : Started I
    unfolding starts_view
    start_facts =
        let a = both_right (eqb I.mode normal_mode) _ starts in
        let c = both_right (eqb I.view v) _ a in
        let d = both_right (eqb I.box _) _ c in
        let e = both_right (eqb I.n T.n) _ d in
        (eqb-true I.mode normal_mode (both_left _ _ starts), eqb-true I.view v (both_left _ _ a), eqb-true I.n T.n (both_left _ _ d), both_right (eqb I.start (length I.rows)) _ e)

    module _ (above : (w t : ℕ) → s.view b < w → ((s.entry b w t).prepare ≡ ((setup W).begun w t).prepare) × ((s.entry b w t).outcome ≡ ((setup W).begun w t).outcome)) (own : Owned W s.facts I.rows) (rows : W.begun v ≡ I.rows) (began : Began (setup W) s.facts v (cells_in I.rows)) where
      abbrev after : State
      after = Steps.adopting (with_fact s (started v)) b v

      at_begun : Began (setup W) s.facts v ((setup W).begun v)
      at_begun = subst (λ (y : List Row). Began (setup W) s.facts v (cells_in y)) (sym rows) began

      low : s.view b < v
      low = rw i.view at higher

      normal_start : is_changing I ≡ false
      unfolding is_changing
      normal_start = rw start_facts.0 refl

      pub taken_start : TakenAs W s b (start_view v I) (keeping_box I T.box)
      taken_start =
          record {
            next = after;
            sound = adopt_keeps (setup W) (with_fact s (started v)) (start_keeps (setup W) s k v at_begun) b v (rw i.promise at later) low (Memᴰ.head refl);
            onward =
                record {
                  facts = λ φ m. Memᴰ.tail m;
                  facts_from = λ φ m. fact_from _ φ s.facts tt m;
                  views = λ c. up c (set_at-at s.view b v c);
                  answers = λ c w t a m. m;
                  acceptances = λ c w t o m. m;
                  others = λ c d. (set_at-off s.view b v c d, set_at-off s.promised b v c d, λ w t. refl);
                  above = λ c w t h. refl;
                };
            is =
                record {
                  box = i.box;
                  group = start_facts.2 ∙ i.group;
                  view = start_facts.1 ∙ sym (set_at-here s.view b v b refl);
                  promise = normal_promise I (table_facts W.model I rule).0.mode normal_start ∙ start_facts.1 ∙ sym (set_at-here s.promised b v b refl);
                  mode = (table_facts W.model I rule).0.mode;
                  prepare = λ t. rw (set_at-here s.view b v b refl) (prepare_at t);
                  outcome = λ t. rw (set_at-here s.view b v b refl) (outcome_at t);
                  owned = owned_wider W (λ φ m. Memᴰ.tail m) I.rows own;
                  handed = λ e. let z : ◌≡◌ {A = ℕ} 0 1 = sym start_facts.0 ∙ e in absurd (omega arith);
                };
            echo = tt;
          }
        where
          up : (c : ℕ) → ((b ≡ c) × (Steps.set_at s.view b v c ≡ v)) ⊎ (Steps.set_at s.view b v c ≡ s.view c) → s.view c ≤ Steps.set_at s.view b v c
          up c (inl (p, e)) = omega (arith, e, low, ap s.view p)
          up c (inr e) = omega arith

          prepare_at : (t : ℕ) → prepare_of (held I.rows t) ≡ (s.entry b v t).prepare
          prepare_at t = ap (λ (y : List Row). prepare_of (held y t)) (sym rows) ∙ sym (above v t low).0

          outcome_at : (t : ℕ) → outcome_of (held I.rows t) ≡ (s.entry b v t).outcome
          outcome_at t = ap (λ (y : List Row). outcome_of (held y t)) (sym rows) ∙ sym (above v t low).1

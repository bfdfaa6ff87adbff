-- A box of the history beside its entries in the abstract group, and one act of the abstract group seen at the box.
use mathlib.Core.Path.{◌≡◌, refl, sym, ap, ap₂, subst, ◌∙◌}
use mathlib.Core.Bool.{true, false}
use mathlib.Core.Logic.{◌⊎◌, inl, inr}
use mathlib.Core.Option.{Option, none, some}
use mathlib.Core.List.Memᴰ
use mathlib.Core.List.{List}
use Prim.Native.Nat.{ℕ, ◌≤◌, ◌<◌}
use native.Mathlib.Omega.{arith}
use lib.Dec.{eqb, ltb}
use borrow.Author.Tests.{eqb-true, eq-eqb}
use Rattle.rules.specs.Tests.{both}
use Rattle.rules.specs.Tables.{Result.OK, Verdict, Row, Table, normal_mode, changing_mode, mode_by_rule}
use Rattle.rules.specs.Messages.{held, prepare_of, outcome_of, changed, added, with_rows}
use Rattle.rules.specs.Circumstances.{is_changing}
use Rattle.rules.specs.Inner.Clashes.{clash}
use Rattle.rules.proofs.Logic.{impossible, cases, both_left, both_right, either_cases, same?, eqb_self}
use Rattle.rules.proofs.Lists.{◌∈◌}
use Rattle.rules.proofs.Rows.{held_from_lem, changed_from, added_from}
use Rattle.history.proofs.Group.Cells.{is_accepted, accepted_is}
use Rattle.history.proofs.Group.Entries.{Fact, Fact.gave_result, Fact.declared_final, Fact.proposed, Fact.finalised, Fact.promised, Fact.body_sent, Fact.started, Said, Entry, Act, Act.add_row, Act.fill_row, Act.make_final, Act.note_outcome, Act.finish_outcome, Act.answer_result, Act.accept_outcome, apply}
use Rattle.history.proofs.Group.Growth.{Place, place}
use Rattle.history.proofs.Group.Acts.{State, Passed, acting}
use Rattle.history.proofs.Follow.World.{World, setup, cells_in, Looks}

-- ---- rows whose bodies are those of their stamps, and were sent

abbrev pub Owned : World → List Fact → List Row → Type 0
Owned W facts rows = (r : Row) → r ∈ rows → (r.body ≡ W.bodies r.stamp) × (body_sent r.stamp ∈ facts)

pub owned_wider : (W : World) {facts more : List Fact} → ((φ : Fact) → φ ∈ facts → φ ∈ more) → (rows : List Row) → Owned W facts rows → Owned W more rows
owned_wider W up rows h r m = let (e, k) = h r m in (e, up _ k)

pub owned_changed : (W : World) {facts : List Fact} (t : ℕ) (change : Row → Row) → ((r : Row) → (change r).stamp ≡ r.stamp) → ((r : Row) → (change r).body ≡ r.body) → (rows : List Row) → Owned W facts rows → Owned W facts (changed t change rows)
owned_changed W {facts} t change stamp body rows h q m = go (changed_from t change rows q m)
  where
    go : (r : Row) × (r ∈ rows) × (((r.stamp ≡ t) × (q ≡ change r)) ⊎ ((eqb r.stamp t ≡ false) × (q ≡ r))) → (q.body ≡ W.bodies q.stamp) × (body_sent q.stamp ∈ facts)
    go (r, i, inl (k, e)) = rw (e, stamp r, body r) (h r i)
    go (r, i, inr (k, e)) = rw e (h r i)

pub owned_added : (W : World) {facts : List Fact} (r : Row) → (r.body ≡ W.bodies r.stamp) × (body_sent r.stamp ∈ facts) → (rows : List Row) → Owned W facts rows → Owned W facts (added r rows)
owned_added W {facts} r k rows h q m = go (added_from r rows q m)
  where
    go : (q ≡ r) ⊎ (q ∈ rows) → (q.body ≡ W.bodies q.stamp) × (body_sent q.stamp ∈ facts)
    go (inl e) = rw e k
    go (inr i) = h q i

-- ---- a box

pub record BoxIs (W : World) (s : State) (b : ℕ) (T : Table) : Type 0 where
  pub box : T.box ≡ b
  pub group : T.n ≡ W.n
  pub view : T.view ≡ s.view b
  pub promise : T.promised ≡ s.promised b
  pub mode : mode_by_rule T.mode T.view T.promised ≡ true
  pub prepare : (t : ℕ) → prepare_of (held T.rows t) ≡ (s.entry b (s.view b) t).prepare
  pub outcome : (t : ℕ) → outcome_of (held T.rows t) ≡ (s.entry b (s.view b) t).outcome
  pub owned : Owned W s.facts T.rows
  -- while it changes view, it has promised the rows that it holds
  pub handed : T.mode ≡ changing_mode → promised b T.promised T.view (cells_in T.rows) ∈ s.facts

-- in normal mode the promised view is the last normal one
pub normal_promise : (T : Table) → mode_by_rule T.mode T.view T.promised ≡ true → is_changing T ≡ false → T.promised ≡ T.view
unfolding mode_by_rule is_changing
normal_promise T h c = go (either_cases _ _ h)
  where
    go : (both (eqb T.mode normal_mode) (eqb T.promised T.view) ≡ true) ⊎ (both (eqb T.mode changing_mode) (ltb T.view T.promised) ≡ true) → T.promised ≡ T.view
    go (inl k) = eqb-true T.promised T.view (both_right _ _ k)
    go (inr k) = impossible (both_left _ _ k) c

pub not_changing : {A : Type 0} (T : Table) → is_changing T ≡ false → T.mode ≡ changing_mode → A
unfolding is_changing
not_changing T c e = impossible (eq-eqb T.mode changing_mode e) c

-- ---- what a step of box b leaves as it was

-- facts that say nothing of coordinators
abbrev pub OfBoxes : Fact → Type 0
OfBoxes (gave_result t w r) = ⊥
OfBoxes (declared_final t w r) = ⊥
OfBoxes (proposed t o) = ⊥
OfBoxes (finalised t w o) = ⊥
OfBoxes (promised b v x cells) = Unit {0}
OfBoxes (body_sent t) = ⊥
OfBoxes (started v) = Unit {0}

pub record Onward (b : ℕ) (s next : State) : Type 0 where
  pub facts : (φ : Fact) → φ ∈ s.facts → φ ∈ next.facts
  pub facts_from : (φ : Fact) → φ ∈ next.facts → (φ ∈ s.facts) ⊎ OfBoxes φ
  pub views : (c : ℕ) → s.view c ≤ next.view c
  pub answers : (c w t : ℕ) (a : Said) → a ∈ (s.entry c w t).answers → a ∈ (next.entry c w t).answers
  pub acceptances : (c w t : ℕ) (o : Verdict) → o ∈ (s.entry c w t).acceptances → o ∈ (next.entry c w t).acceptances
  pub others : (c : ℕ) → eqb b c ≡ false → (next.view c ≡ s.view c) × (next.promised c ≡ s.promised c) × ((w t : ℕ) → next.entry c w t ≡ s.entry c w t)
  pub above : (c w t : ℕ) → next.view c < w → next.entry c w t ≡ s.entry c w t

pub onward_stay : (b : ℕ) (s : State) → Onward b s s
onward_stay b s =
    record {
      facts = λ φ m. m;
      facts_from = λ φ m. inl m;
      views = λ c. omega arith;
      answers = λ c w t a m. m;
      acceptances = λ c w t o m. m;
      others = λ c d. (refl, refl, λ w t. refl);
      above = λ c w t l. refl;
    }

pub onward_then : {b : ℕ} {s next last : State} → Onward b s next → Onward b next last → Onward b s last
onward_then {b} {s} {next} {last} p q =
    record {
      facts = λ φ m. q.facts φ (p.facts φ m);
      facts_from = λ φ m. from φ (q.facts_from φ m);
      views = λ c. omega (arith, p.views c, q.views c);
      answers = λ c w t a m. q.answers c w t a (p.answers c w t a m);
      acceptances = λ c w t o m. q.acceptances c w t o (p.acceptances c w t o m);
      others = λ c d. both_kept c (p.others c d) (q.others c d);
      above = λ c w t l. q.above c w t l ∙ p.above c w t (omega (arith, q.views c));
    }
  where
    from : (φ : Fact) → (φ ∈ next.facts) ⊎ OfBoxes φ → (φ ∈ s.facts) ⊎ OfBoxes φ
    from φ (inl m) = p.facts_from φ m
    from φ (inr k) = inr k

    both_kept : (c : ℕ) → (next.view c ≡ s.view c) × (next.promised c ≡ s.promised c) × ((w t : ℕ) → next.entry c w t ≡ s.entry c w t) → (last.view c ≡ next.view c) × (last.promised c ≡ next.promised c) × ((w t : ℕ) → last.entry c w t ≡ next.entry c w t) → (last.view c ≡ s.view c) × (last.promised c ≡ s.promised c) × ((w t : ℕ) → last.entry c w t ≡ s.entry c w t)
    both_kept c (a, d, e) (x, y, z) = (x ∙ a, y ∙ d, λ w t. z w t ∙ e w t)

-- ---- an act

answers_stay : (a : Act) (e : Entry) (x : Said) → x ∈ e.answers → x ∈ (apply a e).answers
answers_stay (add_row r) e x m = m
answers_stay (fill_row o) e x m = m
answers_stay (make_final r) e x m = m
answers_stay (note_outcome o) e x m = m
answers_stay (finish_outcome o) e x m = m
answers_stay (answer_result r f) e x m = Memᴰ.tail m
answers_stay (accept_outcome o) e x m = m

acceptances_stay_lem : (a : Act) (e : Entry) (o : Verdict) → o ∈ e.acceptances → o ∈ (apply a e).acceptances
acceptances_stay_lem (add_row r) e o m = m
acceptances_stay_lem (fill_row u) e o m = m
acceptances_stay_lem (make_final r) e o m = m
acceptances_stay_lem (note_outcome u) e o m = m
acceptances_stay_lem (finish_outcome u) e o m = m
acceptances_stay_lem (answer_result r f) e o m = m
acceptances_stay_lem (accept_outcome u) e o m = Memᴰ.tail m

module _ (s : State) (b t : ℕ) (a : Act) where
  abbrev entry : Entry
  entry = s.entry b (s.view b) t

  abbrev At : ℕ → ℕ → ℕ → Type 0
  At c w u = Place s.entry b (s.view b) t (apply a entry) c w u

  place_of_lem : (c w u : ℕ) → At c w u
  place_of_lem = place s.entry b (s.view b) t (apply a entry)

  same_place : {c w u : ℕ} → b ≡ c → s.view b ≡ w → t ≡ u → s.entry c w u ≡ s.entry b (s.view b) t
  same_place p q r = rw (q, p, r) refl

  pub act_onward : Onward b s (acting s b t a)
  unfolding both
  act_onward =
      record {
        facts = λ φ m. m;
        facts_from = λ φ m. inl m;
        views = λ c. omega arith;
        answers = λ c w u x m. said_still c w u x m (place_of_lem c w u);
        acceptances = λ c w u o m. took_still c w u o m (place_of_lem c w u);
        others = λ c d. (refl, refl, λ w u. rw d refl);
        above = λ c w u l. high c w u l (place_of_lem c w u);
      }
    where
      said_still : (c w u : ℕ) (x : Said) → x ∈ (s.entry c w u).answers → At c w u → x ∈ ((acting s b t a).entry c w u).answers
      said_still c w u x m (inl (p, q, r, e)) = rw e (answers_stay a entry x (subst (λ (y : Entry). x ∈ y.answers) (same_place p q r) m))
      said_still c w u x m (inr e) = rw e m

      took_still : (c w u : ℕ) (o : Verdict) → o ∈ (s.entry c w u).acceptances → At c w u → o ∈ ((acting s b t a).entry c w u).acceptances
      took_still c w u o m (inl (p, q, r, e)) = rw e (acceptances_stay_lem a entry o (subst (λ (y : Entry). o ∈ y.acceptances) (same_place p q r) m))
      took_still c w u o m (inr e) = rw e m

      high : (c w u : ℕ) → s.view c < w → At c w u → (acting s b t a).entry c w u ≡ s.entry c w u
      high c w u l (inl (p, q, r, e)) = absurd (omega (arith, ap s.view p))
      high c w u l (inr e) = e

  -- the entry that was acted on
  pub acted : (acting s b t a).entry b (s.view b) t ≡ apply a entry
  unfolding both
  acted = rw (eqb_self b, eqb_self (s.view b), eqb_self t) refl

module _ (W : World) (s : State) (b t : ℕ) (a : Act) (T : Table) (i : BoxIs W s b T) (normal : is_changing T ≡ false) where
  -- the box after an act that its rows show
  pub act_box : (rows : List Row) → Owned W s.facts rows → Looks T.rows rows t (apply a (entry s b t a)).prepare (apply a (entry s b t a)).outcome → BoxIs W (acting s b t a) b (with_rows T rows)
  unfolding both
  act_box rows own (lp, lo) =
      record {
        box = i.box;
        group = i.group;
        view = i.view;
        promise = i.promise;
        mode = i.mode;
        prepare = λ u. prepare_at u (same? t u);
        outcome = λ u. outcome_at u (same? t u);
        owned = own;
        handed = λ e. not_changing T normal e;
      }
    where
      prepare_at : (u : ℕ) → (t ≡ u) ⊎ (eqb t u ≡ false) → prepare_of (held rows u) ≡ ((acting s b t a).entry b (s.view b) u).prepare
      prepare_at u (inl e) = rw (lp u, ← e, eqb_self t, eqb_self b, eqb_self (s.view b)) refl
      prepare_at u (inr e) = rw (lp u, e, eqb_self b, eqb_self (s.view b)) (i.prepare u)

      outcome_at : (u : ℕ) → (t ≡ u) ⊎ (eqb t u ≡ false) → outcome_of (held rows u) ≡ ((acting s b t a).entry b (s.view b) u).outcome
      outcome_at u (inl e) = rw (lo u, ← e, eqb_self t, eqb_self b, eqb_self (s.view b)) refl
      outcome_at u (inr e) = rw (lo u, e, eqb_self b, eqb_self (s.view b)) (i.outcome u)

-- a check that says OK passes
pub check_passed : (W : World) (s : State) (b t : ℕ) (T : Table) → BoxIs W s b T → W.proposals T.rows t (W.bodies t) ≡ OK → Passed (setup W) s b t
check_passed W s b t T i ok u c = go (held T.rows u) refl (cases (is_accepted (prepare_of (held T.rows u)) (outcome_of (held T.rows u))))
  where
    Clashes : Row → Type 0
    Clashes r = clash t (W.bodies t) r.stamp r.body ≡ true

    from : (r : Row) → held T.rows u ≡ some r → Clashes r
    from r e = let (m, k) = held_from_lem T.rows u r e in rw ((i.owned r m).0, k) c

    here : is_accepted (prepare_of (held T.rows u)) (outcome_of (held T.rows u)) ≡ false → is_accepted (s.entry b (s.view b) u).prepare (s.entry b (s.view b) u).outcome ≡ false
    here h = sym (ap₂ is_accepted (i.prepare u) (i.outcome u)) ∙ h

    go : (q : Option Row) → held T.rows u ≡ q → (is_accepted (prepare_of (held T.rows u)) (outcome_of (held T.rows u)) ≡ true) ⊎ (is_accepted (prepare_of (held T.rows u)) (outcome_of (held T.rows u)) ≡ false) → is_accepted (s.entry b (s.view b) u).prepare (s.entry b (s.view b) u).outcome ≡ false
    go q e (inr h) = here h
    go none e (inl h) = here (rw e refl)
    go (some r) e (inl h) = impossible (from r e) (W.clear T.rows t (W.bodies t) ok r (held_from_lem T.rows u r e).0 (accepted_is r ∙ (rw e at h)))

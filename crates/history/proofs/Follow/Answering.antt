-- Each message that a box takes is a few acts of the abstract group, and the reply is what the entry then says.
use mathlib.Core.Path.{◌≡◌, refl, sym, ap, ap₂, subst, ◌∙◌}
use mathlib.Core.Bool.{Bool, true, false, cond}
use mathlib.Core.Logic.{◌⊎◌, inl, inr}
use mathlib.Core.Option.{Option, none, some}
use mathlib.Core.List.Memᴰ
use mathlib.Core.List.{List}
use Prim.Native.Nat.{ℕ}
use native.Mathlib.Omega.{arith}
use lib.Dec.{eqb}
use Rattle.rules.specs.Tests.{is_some}
use Rattle.rules.specs.Stamps.{Body}
use Rattle.rules.specs.Tables.{Result, Result.OK, Result.ABORT, Result.ABSTAIN, Result.RETRY, Prepare, Prepare.no_prepare, Prepare.tentative, Prepare.final, Verdict, Outcome, Outcome.no_outcome, Outcome.noted, Outcome.done, prepare_code, prepare_retry, Row, Table}
use Rattle.rules.specs.Messages.{Message, Message.propose_prepare, Message.finalise_prepare, Message.propose_outcome, Message.finalise_outcome, Message.change_view, Message.start_view, Message.read_register, held, prepare_of, outcome_of, changed, added, with_prepare, with_outcome, with_rows, result_for, answered, noted_as, prepare_proposed, prepare_finalised, outcome_proposed, outcome_finalised}
use Rattle.rules.specs.Circumstances.{is_changing}
use Rattle.rules.specs.Answers.{Reply, reply_from, state_byte, reply_value}
use Rattle.rules.proofs.Logic.{impossible, eqb_self}
use Rattle.rules.proofs.Lists.{◌∈◌}
use Rattle.history.proofs.Group.Cells.{Holds}
use Rattle.history.proofs.Group.Entries.{Fact.gave_result, Fact.finalised, Fact.body_sent, Said, Said.said, Entry, Act, Act.add_row, Act.fill_row, Act.make_final, Act.note_outcome, Act.finish_outcome, Act.answer_result, Act.accept_outcome, apply, Can, as_prepare, Proposed}
use Rattle.history.proofs.Group.Acts.{State, Sound, Passed, acting, act_keeps}
use Rattle.rules.proofs.Taken.{RowHeld, HasVerdict}
use Rattle.history.proofs.Follow.World.{World, setup, Looks, looks_changed, looks_added, looks_same, kept_value}
use Rattle.history.proofs.Follow.Boxes.{Owned, owned_changed, owned_added, BoxIs, normal_promise, not_changing, Onward, onward_stay, onward_then, act_onward, acted, act_box, check_passed}

-- ---- what a reply says of a box's entries

-- a prepare byte and retry stamp in a reply were an answer of that box in that view
abbrev pub PrepareEcho : State → ℕ → ℕ → Reply → Type 0
PrepareEcho s b t p = (r : Result) (f : Bool) → p.state ≡ prepare_code (as_prepare r f) → p.value ≡ prepare_retry (as_prepare r f) → said r f ∈ (s.entry b p.view t).answers

abbrev pub Echo : State → ℕ → Message → Reply → Type 0
Echo s b (propose_prepare t x) p = PrepareEcho s b t p
Echo s b (finalise_prepare t v r) p = PrepareEcho s b t p × (said r true ∈ (s.entry b p.view t).answers)
Echo s b (propose_outcome t o x) p = o ∈ (s.entry b p.view t).acceptances
Echo s b (finalise_outcome t v o) p = Unit {0}
Echo s b (change_view v) p = Unit {0}
Echo s b (start_view v I) p = Unit {0}
Echo s b (read_register t k) p = Unit {0}

-- a prepare is known by its code and its retry stamp
decoded : ℕ → ℕ → Prepare
decoded c k =
    cond (eqb c 1) (tentative OK)
    (cond (eqb c 2) (tentative ABORT)
    (cond (eqb c 3) (tentative ABSTAIN)
    (cond (eqb c 4) (tentative (RETRY k)) (cond (eqb c 5) (final OK) (cond (eqb c 6) (final ABORT) (cond (eqb c 7) (final ABSTAIN) (cond (eqb c 8) (final (RETRY k)) no_prepare)))))))

decoded_is : (p : Prepare) → decoded (prepare_code p) (prepare_retry p) ≡ p
unfolding decoded
decoded_is no_prepare = refl
decoded_is (tentative OK) = refl
decoded_is (tentative ABORT) = refl
decoded_is (tentative ABSTAIN) = refl
decoded_is (tentative (RETRY s)) = refl
decoded_is (final OK) = refl
decoded_is (final ABORT) = refl
decoded_is (final ABSTAIN) = refl
decoded_is (final (RETRY s)) = refl

pub same_prepare_lem : (p q : Prepare) → prepare_code p ≡ prepare_code q → prepare_retry p ≡ prepare_retry q → p ≡ q
same_prepare_lem p q c k = sym (decoded_is p) ∙ ap₂ decoded c k ∙ decoded_is q

-- what is said by a prepare that is not none
said_by : Prepare → Said
said_by no_prepare = said OK false
said_by (tentative r) = said r false
said_by (final r) = said r true

said_by_lem : (r : Result) (f : Bool) → said_by (as_prepare r f) ≡ said r f
unfolding said_by
said_by_lem r true = refl
said_by_lem r false = refl

echoed : {answers : List Said} (p : Prepare) (r q : Result) (f g : Bool) → p ≡ as_prepare r f → said r f ∈ answers → prepare_code p ≡ prepare_code (as_prepare q g) → prepare_retry p ≡ prepare_retry (as_prepare q g) → said q g ∈ answers
echoed {answers} p r q f g e m c k = subst (λ (x : Said). x ∈ answers) (sym (said_by_lem r f) ∙ ap said_by (sym e ∙ same_prepare_lem p (as_prepare q g) c k) ∙ said_by_lem q g) m

none_said : {A : Type 0} (q : Result) (g : Bool) → prepare_code no_prepare ≡ prepare_code (as_prepare q g) → A
none_said q g c = absurd (none_is q g (same_code q g c))
  where
    same_code : (q : Result) (g : Bool) → prepare_code no_prepare ≡ prepare_code (as_prepare q g) → 0 ≡ prepare_code (as_prepare q g)
    same_code q g c = c

    none_is : (q : Result) (g : Bool) → 0 ≡ prepare_code (as_prepare q g) → ⊥
    none_is OK true c = omega arith
    none_is ABORT true c = omega arith
    none_is ABSTAIN true c = omega arith
    none_is (RETRY s) true c = omega arith
    none_is OK false c = omega arith
    none_is ABORT false c = omega arith
    none_is ABSTAIN false c = omega arith
    none_is (RETRY s) false c = omega arith

-- ---- a message taken

pub record TakenAs (W : World) (s : State) (b : ℕ) (m : Message) (T : Table) : Type 0 where
  pub next : State
  pub sound : Sound (setup W) next
  pub onward : Onward b s next
  pub is : BoxIs W next b T
  pub echo : Echo next b m (reply_from T m)

-- a state on the way: the box shows these rows
pub record Shows (W : World) (s : State) (b : ℕ) (T : Table) (rows : List Row) : Type 0 where
  pub next : State
  pub sound : Sound (setup W) next
  pub onward : Onward b s next
  pub is : BoxIs W next b (with_rows T rows)

-- only an added row is checked
abbrev is_addition : Act → Bool
is_addition (add_row r) = true
is_addition (fill_row o) = false
is_addition (make_final r) = false
is_addition (note_outcome o) = false
is_addition (finish_outcome o) = false
is_addition (answer_result r f) = false
is_addition (accept_outcome o) = false

no_check : {A : Type 0} {a : Act} → is_addition a ≡ false → a ≡ add_row OK → A
no_check e z = impossible (ap is_addition z) e

-- one step after another
shows_then : {W : World} {s : State} {b : ℕ} {T : Table} {rows : List Row} → (h : Shows W s b T rows) → Shows W h.next b (with_rows T rows) rows → Shows W s b T rows
shows_then h k = record { next = k.next; sound = k.sound; onward = onward_then h.onward k.onward; is = k.is }

module _ (W : World) (b t : ℕ) (T : Table) (normal : is_changing T ≡ false) (s : State) (k : Sound (setup W) s) (i : BoxIs W s b T) where
  abbrev before : Entry
  before = s.entry b (s.view b) t

  -- one act
  abbrev pub act : (a : Act) → Can s.facts (s.view b) t a before → (a ≡ add_row OK → Passed (setup W) s b t) → (rows : List Row) → Owned W s.facts rows → Looks T.rows rows t (apply a before).prepare (apply a before).outcome → Shows W s b T rows
  act a can passed rows own looks =
      record {
        next = acting s b t a;
        sound = act_keeps (setup W) s k b t a (sym i.promise ∙ normal_promise T i.mode normal ∙ i.view) can passed;
        onward = act_onward s b t a;
        is = act_box W s b t a T i normal rows own looks;
      }

  -- what the entry says after an act at the box's view
  logged : (a : Act) (P : Entry → Type 0) → P (apply a before) → P ((acting s b t a).entry b T.view t)
  logged a P h = subst (λ (w : ℕ). P ((acting s b t a).entry b w t)) (sym i.view) (subst P (sym (acted s b t a)) h)

  -- the box says what it holds, or accepts the outcome that it holds
  say : (rows : List Row) → Owned W s.facts rows → Looks T.rows rows t before.prepare before.outcome → (r : Result) (f : Bool) → before.prepare ≡ as_prepare r f → (h : Shows W s b T rows) × (said r f ∈ (h.next.entry b T.view t).answers)
  say rows own looks r f e = (act (answer_result r f) e (no_check refl) rows own looks, logged (answer_result r f) (λ (y : Entry). said r f ∈ y.answers) (Memᴰ.head refl))

  accept : (rows : List Row) → Owned W s.facts rows → Looks T.rows rows t before.prepare before.outcome → (o : Verdict) → Holds o before.outcome → (h : Shows W s b T rows) × (o ∈ (h.next.entry b T.view t).acceptances)
  accept rows own looks o e = (act (accept_outcome o) e (no_check refl) rows own looks, logged (accept_outcome o) (λ (y : Entry). o ∈ y.acceptances) (Memᴰ.head refl))

  -- rows that show p and o for t, where the entry holds them
  shown : (rows : List Row) (p : Prepare) (o : Outcome) → before.prepare ≡ p → before.outcome ≡ o → Looks T.rows rows t p o → Looks T.rows rows t before.prepare before.outcome
  shown rows p o ep eo (lp, lo) = (λ u. lp u ∙ ap (λ (q : Prepare). cond (eqb t u) q (prepare_of (held T.rows u))) (sym ep), λ u. lo u ∙ ap (λ (q : Outcome). cond (eqb t u) q (outcome_of (held T.rows u))) (sym eo))

  -- the rows as they are
  as_held : Looks T.rows T.rows t before.prepare before.outcome
  as_held = shown T.rows (prepare_of (held T.rows t)) (outcome_of (held T.rows t)) (sym (i.prepare t)) (sym (i.outcome t)) (looks_same T.rows t)

  -- no act at all
  unmoved : (rows : List Row) → Owned W s.facts rows → Looks T.rows rows t before.prepare before.outcome → BoxIs W s b (with_rows T rows)
  unmoved rows own (lp, lo) =
      record {
        box = i.box;
        group = i.group;
        view = i.view;
        promise = i.promise;
        mode = i.mode;
        prepare = λ u. lp u ∙ kept_value t (λ (z : ℕ). prepare_of (held T.rows z)) _ (sym (i.prepare t)) u ∙ i.prepare u;
        outcome = λ u. lo u ∙ kept_value t (λ (z : ℕ). outcome_of (held T.rows z)) _ (sym (i.outcome t)) u ∙ i.outcome u;
        owned = own;
        handed = λ e. not_changing T normal e;
      }

  -- what the entry holds, from the row
  entry_prepare : (q : Row) → held T.rows t ≡ some q → before.prepare ≡ q.prepare
  entry_prepare q e = sym (i.prepare t) ∙ ap prepare_of e

  entry_outcome : (q : Row) → held T.rows t ≡ some q → before.outcome ≡ q.outcome
  entry_outcome q e = sym (i.outcome t) ∙ ap outcome_of e

module _ (W : World) (b t : ℕ) (T : Table) (normal : is_changing T ≡ false) (s : State) where
  -- after a step that the rows show, the box says what it then holds, or accepts the outcome
  then_say : (rows : List Row) (h : Shows W s b T rows) (r : Result) (f : Bool) → prepare_of (held rows t) ≡ as_prepare r f → (z : Shows W s b T rows) × (said r f ∈ (z.next.entry b T.view t).answers)
  unfolding is_changing shows_then say
  then_say rows h r f e =
      let (z, m) = say W b t (with_rows T rows) normal h.next h.sound h.is rows h.is.owned (as_held W b t (with_rows T rows) normal h.next h.sound h.is) r f (sym (h.is.prepare t) ∙ e) in
      (shows_then h z, m)

  then_accept : (rows : List Row) (h : Shows W s b T rows) (o : Verdict) → Holds o (outcome_of (held rows t)) → (z : Shows W s b T rows) × (o ∈ (z.next.entry b T.view t).acceptances)
  unfolding is_changing shows_then accept
  then_accept rows h o e =
      let (z, m) = accept W b t (with_rows T rows) normal h.next h.sound h.is rows h.is.owned (as_held W b t (with_rows T rows) normal h.next h.sound h.is) o (rw (← h.is.outcome t) e) in
      (shows_then h z, m)

-- ---- message 1

module _ (W : World) (b t : ℕ) (x : Body) (T : Table) (normal : is_changing T ≡ false) (s : State) (k : Sound (setup W) s) (i : BoxIs W s b T) where
  abbrev row_change : Row → Row
  row_change r = with_prepare (answered r.prepare r.outcome) r

  -- the box's answer to message 1, if it holds a prepare then
  replied_1 : (rows : List Row) (r : Result) (f : Bool) → prepare_of (held rows t) ≡ as_prepare r f → (h : Shows W s b T rows) × (said r f ∈ (h.next.entry b T.view t).answers) → TakenAs W s b (propose_prepare t x) (with_rows T rows)
  unfolding reply_from state_byte reply_value
  replied_1 rows r f e (h, m) = record { next = h.next; sound = h.sound; onward = h.onward; is = h.is; echo = λ q g c n. echoed (prepare_of (held rows t)) r q f g e m c n }

  -- the stamp is known
  module _ (q : Row) (e : held T.rows t ≡ some q) where
    abbrev rows : List Row
    rows = changed t row_change T.rows

    own : Owned W s.facts rows
    own = owned_changed W t row_change (λ r. refl) (λ r. refl) T.rows i.owned

    holds_p : (before W b t T normal s k i).prepare ≡ q.prepare
    holds_p = entry_prepare W b t T normal s k i q e

    holds_o : (before W b t T normal s k i).outcome ≡ q.outcome
    holds_o = entry_outcome W b t T normal s k i q e

    shows : Looks T.rows rows t (answered q.prepare q.outcome) q.outcome
    shows = looks_changed T.rows t row_change (λ r. refl) q e

    now : prepare_of (held rows t) ≡ answered q.prepare q.outcome
    now = shows.0 t ∙ rw (eqb_self t) refl

    -- a prepare is held: it is answered
    same : (r : Result) (f : Bool) → q.prepare ≡ as_prepare r f → answered q.prepare q.outcome ≡ as_prepare r f → TakenAs W s b (propose_prepare t x) (with_rows T rows)
    same r f h a =
        replied_1 rows r f (now ∙ a)
        (say W b t T normal s k i rows own (shown W b t T normal s k i rows (answered q.prepare q.outcome) q.outcome (holds_p ∙ h ∙ sym a) holds_o shows) r f (holds_p ∙ h))

    -- only an outcome is held: the prepare that follows from it is stored and answered
    filled : (v : Verdict) → q.prepare ≡ no_prepare → Holds v q.outcome → answered q.prepare q.outcome ≡ tentative (result_for v) → TakenAs W s b (propose_prepare t x) (with_rows T rows)
    filled v h j a =
        replied_1 rows (result_for v) false (now ∙ a)
        (then_say W b t T normal s rows (act W b t T normal s k i (fill_row v) (holds_p ∙ h, rw holds_o j) (no_check refl) rows own (ap_looks a)) (result_for v) false (now ∙ a))
      where
        ap_looks : answered q.prepare q.outcome ≡ tentative (result_for v) → Looks T.rows rows t (tentative (result_for v)) (before W b t T normal s k i).outcome
        ap_looks a = rw (← a, holds_o) shows

    -- nothing is held in the row: nothing changes, and the answer has no prepare
    blank : q.prepare ≡ no_prepare → q.outcome ≡ no_outcome → answered q.prepare q.outcome ≡ no_prepare → TakenAs W s b (propose_prepare t x) (with_rows T rows)
    unfolding reply_from state_byte reply_value
    blank h j a =
        let z = unmoved W b t T normal s k i rows own (shown W b t T normal s k i rows (answered q.prepare q.outcome) q.outcome (holds_p ∙ h ∙ sym a) holds_o shows) in
        record { next = s; sound = k; onward = onward_stay b s; is = z; echo = λ r f c n. none_said r f (sym (ap prepare_code (now ∙ a)) ∙ c) }

    known : (p : Prepare) (o : Outcome) → q.prepare ≡ p → q.outcome ≡ o → TakenAs W s b (propose_prepare t x) (with_rows T rows)
    known (tentative r) o ep eo = same r false ep (ap₂ answered ep eo)
    known (final r) o ep eo = same r true ep (ap₂ answered ep eo)
    known no_prepare (noted v) ep eo = filled v ep (inl eo) (ap₂ answered ep eo)
    known no_prepare (done v) ep eo = filled v ep (inr eo) (ap₂ answered ep eo)
    known no_prepare no_outcome ep eo = blank ep eo (ap₂ answered ep eo)

  -- a new stamp: the check's result is stored and answered
  new_1 : held T.rows t ≡ none → body_sent t ∈ s.facts → x ≡ W.bodies t → TakenAs W s b (propose_prepare t x) (with_rows T (added (record { stamp = t; body = x; prepare = tentative (W.proposals T.rows t x); outcome = no_outcome }) T.rows))
  new_1 e sent own =
      replied_1 rows r false now (then_say W b t T normal s rows (act W b t T normal s k i (add_row r) (sym (i.prepare t) ∙ ap prepare_of e, sym (i.outcome t) ∙ ap outcome_of e) (λ z. check_passed W s b t T i (sym (ap (W.proposals T.rows t) own) ∙ cc)) rows (owned_added W new (own, sent) T.rows i.owned) (rw (← i.outcome t, ap outcome_of e) shows)) r false now)
    where
      r : Result
      r = W.proposals T.rows t x

      new : Row
      new = record { stamp = t; body = x; prepare = tentative (W.proposals T.rows t x); outcome = no_outcome }

      rows : List Row
      rows = added new T.rows

      shows : Looks T.rows rows t (tentative r) no_outcome
      shows = looks_added T.rows new e

      now : prepare_of (held rows t) ≡ tentative r
      now = shows.0 t ∙ rw (eqb_self t) refl

  pub taken_prepare : body_sent t ∈ s.facts → x ≡ W.bodies t → TakenAs W s b (propose_prepare t x) (with_rows T (prepare_proposed W.proposals T.rows t x))
  unfolding prepare_proposed
  taken_prepare sent own = go (held T.rows t) refl
    where
      go : (q : Option Row) → held T.rows t ≡ q → TakenAs W s b (propose_prepare t x) (with_rows T (cond (is_some q) (changed t row_change T.rows) (added (record { stamp = t; body = x; prepare = tentative (W.proposals T.rows t x); outcome = no_outcome }) T.rows)))
      go none e = new_1 e sent own
      go (some q) e = known q e q.prepare q.outcome refl refl

-- ---- message 2

module _ (W : World) (b t : ℕ) (T : Table) (normal : is_changing T ≡ false) (s : State) (k : Sound (setup W) s) (i : BoxIs W s b T) where
  pub taken_final : (r : Result) → gave_result t T.view r ∈ s.facts → RowHeld T t (λ q. ((p : Result) × (q.prepare ≡ tentative p)) ⊎ (q.prepare ≡ final r)) → TakenAs W s b (finalise_prepare t T.view r) (with_rows T (prepare_finalised T.rows t r))
  unfolding prepare_finalised reply_from state_byte reply_value
  taken_final r sent (q, e, h) =
      let (z, m) = then_say W b t T normal s rows (act W b t T normal s k i (make_final r) (rw i.view at sent, held_as h) (no_check refl) rows own (rw (entry_outcome W b t T normal s k i q e) shows)) r true now in
      record { next = z.next; sound = z.sound; onward = z.onward; is = z.is; echo = (λ p g c n. echoed (prepare_of (held rows t)) r p true g now m c n, m) }
    where
      rows : List Row
      rows = changed t (with_prepare (final r)) T.rows

      own : Owned W s.facts rows
      own = owned_changed W t (with_prepare (final r)) (λ p. refl) (λ p. refl) T.rows i.owned

      shows : Looks T.rows rows t (final r) q.outcome
      shows = looks_changed T.rows t (with_prepare (final r)) (λ p. refl) q e

      now : prepare_of (held rows t) ≡ final r
      now = shows.0 t ∙ rw (eqb_self t) refl

      held_as : ((p : Result) × (q.prepare ≡ tentative p)) ⊎ (q.prepare ≡ final r) → ((p : Result) × ((s.entry b (s.view b) t).prepare ≡ tentative p)) ⊎ ((s.entry b (s.view b) t).prepare ≡ final r)
      held_as (inl (p, z)) = inl (p, entry_prepare W b t T normal s k i q e ∙ z)
      held_as (inr z) = inr (entry_prepare W b t T normal s k i q e ∙ z)

  -- ---- message 3

  module _ (o : Verdict) (x : Body) where
    abbrev outcome_change : Row → Row
    outcome_change r = with_outcome (noted_as o r.outcome) r

    accepted_3 : (rows : List Row) → (h : Shows W s b T rows) × (o ∈ (h.next.entry b T.view t).acceptances) → TakenAs W s b (propose_outcome t o x) (with_rows T rows)
    unfolding reply_from
    accepted_3 rows (h, m) = record { next = h.next; sound = h.sound; onward = h.onward; is = h.is; echo = m }

    module _ (prop : Proposed s.facts t (s.view b) o) (sent : body_sent t ∈ s.facts) where
      -- noted now
      noted_3 : (rows : List Row) (p : Prepare) → Owned W s.facts rows → (s.entry b (s.view b) t).prepare ≡ p → (s.entry b (s.view b) t).outcome ≡ no_outcome → Looks T.rows rows t p (noted o) → TakenAs W s b (propose_outcome t o x) (with_rows T rows)
      noted_3 rows p own ep eo shows =
          accepted_3 rows
          (then_accept W b t T normal s rows (act W b t T normal s k i (note_outcome o) (eo, prop) (no_check refl) rows own (rw ep shows)) o (inl (shows.1 t ∙ rw (eqb_self t) refl)))

      known_3 : (q : Row) → held T.rows t ≡ some q → (q.outcome ≡ no_outcome) ⊎ HasVerdict o q → TakenAs W s b (propose_outcome t o x) (with_rows T (changed t outcome_change T.rows))
      known_3 q e h = by h
        where
          rows : List Row
          rows = changed t outcome_change T.rows

          own : Owned W s.facts rows
          own = owned_changed W t outcome_change (λ r. refl) (λ r. refl) T.rows i.owned

          shows : Looks T.rows rows t q.prepare (noted_as o q.outcome)
          shows = looks_changed T.rows t outcome_change (λ r. refl) q e

          -- an equal outcome is held: it stays
          stays : noted_as o q.outcome ≡ q.outcome → Holds o q.outcome → TakenAs W s b (propose_outcome t o x) (with_rows T rows)
          stays same j =
              accepted_3 rows
              (accept W b t T normal s k i rows own (shown W b t T normal s k i rows q.prepare (noted_as o q.outcome) (entry_prepare W b t T normal s k i q e) (entry_outcome W b t T normal s k i q e ∙ sym same) shows) o (rw (entry_outcome W b t T normal s k i q e) j))

          by : (q.outcome ≡ no_outcome) ⊎ HasVerdict o q → TakenAs W s b (propose_outcome t o x) (with_rows T rows)
          by (inl z) = noted_3 rows q.prepare own (entry_prepare W b t T normal s k i q e) (entry_outcome W b t T normal s k i q e ∙ z) (rw z at shows)
          by (inr (inl z)) = stays (rw z refl) (inl z)
          by (inr (inr z)) = stays (rw z refl) (inr z)

      pub taken_outcome : x ≡ W.bodies t → (held T.rows t ≡ none) ⊎ RowHeld T t (λ q. (q.outcome ≡ no_outcome) ⊎ HasVerdict o q) → TakenAs W s b (propose_outcome t o x) (with_rows T (outcome_proposed T.rows t o x))
      unfolding outcome_proposed
      taken_outcome own (inr (q, e, h)) = rw e (known_3 q e h)
      taken_outcome own (inl e) = rw e (noted_3 (added new T.rows) no_prepare (owned_added W new (own, sent) T.rows i.owned) (sym (i.prepare t) ∙ ap prepare_of e) (sym (i.outcome t) ∙ ap outcome_of e) (looks_added T.rows new e))
        where
          new : Row
          new = record { stamp = t; body = x; prepare = no_prepare; outcome = noted o }

  -- ---- message 4

  pub taken_finish : (o : Verdict) → finalised t T.view o ∈ s.facts → RowHeld T t (HasVerdict o) → TakenAs W s b (finalise_outcome t T.view o) (with_rows T (outcome_finalised T.rows t o))
  unfolding outcome_finalised
  taken_finish o sent (q, e, h) = by h
    where
      rows : List Row
      rows = changed t (with_outcome (done o)) T.rows

      own : Owned W s.facts rows
      own = owned_changed W t (with_outcome (done o)) (λ r. refl) (λ r. refl) T.rows i.owned

      shows : Looks T.rows rows t q.prepare (done o)
      shows = looks_changed T.rows t (with_outcome (done o)) (λ r. refl) q e

      by : HasVerdict o q → TakenAs W s b (finalise_outcome t T.view o) (with_rows T rows)
      by (inl z) =
          let h = act W b t T normal s k i (finish_outcome o) (entry_outcome W b t T normal s k i q e ∙ z, rw i.view at sent) (no_check refl) rows own (rw (entry_prepare W b t T normal s k i q e) shows) in
          record { next = h.next; sound = h.sound; onward = h.onward; is = h.is; echo = tt }
      by (inr z) =
          record {
            next = s;
            sound = k;
            onward = onward_stay b s;
            is = unmoved W b t T normal s k i rows own (shown W b t T normal s k i rows q.prepare (done o) (entry_prepare W b t T normal s k i q e) (entry_outcome W b t T normal s k i q e ∙ z) shows);
            echo = tt;
          }

-- What a message that was taken says of the table that took it, message by message.
use mathlib.Core.Path.{◌≡◌, refl, sym, ap, ◌∙◌}
use mathlib.Core.Bool.{Bool, true, false, not}
use mathlib.Core.Logic.{◌⊎◌, inl, inr}
use mathlib.Core.Option.{Option, none, some}
use Prim.Native.Nat.{ℕ, ◌≤◌, ◌<◌}
use lib.Dec.{eqb, leb, ltb}
use borrow.Author.Tests.{eqb-true, ltb-false, leb-false, not-false}
use Rattle.rules.specs.Tests.{either}
use Rattle.rules.specs.Stamps.{Body}
use Rattle.rules.specs.Tables.{Result, Prepare, Prepare.no_prepare, Prepare.tentative, Prepare.final, Verdict, Outcome, Outcome.no_outcome, Outcome.noted, Outcome.done, prepare_code, outcome_code, Row, Table, Model, table_by_rule}
use Rattle.rules.specs.Numbers.{Number.changing, Number.contradiction, Number.unknown, Number.other_view, Number.old_view}
use Rattle.rules.specs.Messages.{Message, Message.propose_prepare, Message.finalise_prepare, Message.propose_outcome, Message.finalise_outcome, Message.change_view, Message.start_view, held, prepare_of, outcome_of}
use Rattle.rules.specs.Circumstances.{Room, starts_view, message_by_rule, is_changing, unequal_final, opposite_outcome, held_unequal_final, held_opposite_outcome, prepare_not_held, outcome_not_held, for_other_view, changes_to_old_view, starts_old_view, further_circumstances, circumstances}
use Rattle.rules.specs.Answers.{answer_number}
use Rattle.rules.proofs.Logic.{impossible, both_left, both_right, either_left, either_right}
use Rattle.rules.proofs.Lists.{◌∈◌, places}
use Rattle.rules.proofs.Same.{not_other_result, same_verdict}
use Rattle.rules.proofs.Answers.{met_none, taken_by_rule}

-- the row of a stamp, with what it holds
abbrev pub RowHeld : Table → ℕ → (Row → Type 0) → Type 0
RowHeld T s P = (r : Row) × (held T.rows s ≡ some r) × P r

-- an outcome is held, noted or done
abbrev pub HasVerdict : Verdict → Row → Type 0
HasVerdict o r = (r.outcome ≡ noted o) ⊎ (r.outcome ≡ done o)

verdict_from : (o : Verdict) (r : Row) → opposite_outcome o r.outcome ≡ false → (r.outcome ≡ no_outcome) ⊎ HasVerdict o r
verdict_from o r h = go r.outcome refl h
  where
    go : (x : Outcome) → r.outcome ≡ x → opposite_outcome o x ≡ false → (r.outcome ≡ no_outcome) ⊎ HasVerdict o r
    go no_outcome e k = inl e
    go (noted u) e k = inr (inl (e ∙ ap noted (sym (same_verdict o u (not-false _ k)))))
    go (done u) e k = inr (inr (e ∙ ap done (sym (same_verdict o u (not-false _ k)))))

module _ (M : Model) (room : Room) (T : Table) where
  normal_if : (m : Message) → answer_number M room T m ≡ 0 → (changing, is_changing T) ∈ circumstances M room T m → is_changing T ≡ false
  normal_if m h i = met_none M room T m h changing (is_changing T) (search places depth 11) i

  -- a message that finalises is for the box's view, and what it finalises is held and no other
  finalises : (m : Message) (v : ℕ) (lacking opposed : Bool) → answer_number M room T m ≡ 0 → (changing, is_changing T) ∈ circumstances M room T m → (other_view, for_other_view T v) ∈ circumstances M room T m → (unknown, lacking) ∈ circumstances M room T m → (contradiction, opposed) ∈ circumstances M room T m → (is_changing T ≡ false) × (v ≡ T.view) × (lacking ≡ false) × (opposed ≡ false)
  unfolding for_other_view
  finalises m v lacking opposed h a b c d =
      (normal_if m h a, eqb-true v T.view (not-false _ (met_none M room T m h other_view (not (eqb v T.view)) (search places depth 11) b)), met_none M room T m h unknown lacking (search places depth 11) c, met_none M room T m h contradiction opposed (search places depth 11) d)

  pub taken_1 : (s : ℕ) (x : Body) → answer_number M room T (propose_prepare s x) ≡ 0 → is_changing T ≡ false
  unfolding circumstances further_circumstances
  taken_1 s x h = normal_if (propose_prepare s x) h (search places)

  pub taken_2 : (s v : ℕ) (r : Result) → answer_number M room T (finalise_prepare s v r) ≡ 0 → (is_changing T ≡ false) × (v ≡ T.view) × RowHeld T s (λ q. ((p : Result) × (q.prepare ≡ tentative p)) ⊎ (q.prepare ≡ final r))
  unfolding circumstances further_circumstances for_other_view prepare_not_held held_unequal_final
  taken_2 s v r h =
      let (n, e, k, l) = finalises (finalise_prepare s v r) v (prepare_not_held T s) (held_unequal_final T s r) h (search places) (search places) (search places) (search places) in
      (n, e, go (held T.rows s) refl k l)
    where
      at : (q : Row) → held T.rows s ≡ some q → (p : Prepare) → q.prepare ≡ p → eqb (prepare_code p) 0 ≡ false → unequal_final r p ≡ false → RowHeld T s (λ q. ((p : Result) × (q.prepare ≡ tentative p)) ⊎ (q.prepare ≡ final r))
      at q e no_prepare i k l = impossible refl k
      at q e (tentative p) i k l = (q, e, inl (p, i))
      at q e (final p) i k l = (q, e, inr (i ∙ ap final (sym (not_other_result r p l))))

      go : (q : Option Row) → held T.rows s ≡ q → eqb (prepare_code (prepare_of q)) 0 ≡ false → unequal_final r (prepare_of q) ≡ false → RowHeld T s (λ q. ((p : Result) × (q.prepare ≡ tentative p)) ⊎ (q.prepare ≡ final r))
      go none e k l = impossible refl k
      go (some q) e k l = at q e q.prepare refl k l

  pub taken_3 : (s : ℕ) (o : Verdict) (x : Body) → answer_number M room T (propose_outcome s o x) ≡ 0 → (is_changing T ≡ false) × ((held T.rows s ≡ none) ⊎ RowHeld T s (λ q. (q.outcome ≡ no_outcome) ⊎ HasVerdict o q))
  unfolding circumstances further_circumstances held_opposite_outcome
  taken_3 s o x h = (normal_if m h (search places), go (held T.rows s) refl (met_none M room T m h contradiction _ (search places depth 11) (search places)))
    where
      m : Message
      m = propose_outcome s o x

      go : (q : Option Row) → held T.rows s ≡ q → opposite_outcome o (outcome_of q) ≡ false → (held T.rows s ≡ none) ⊎ RowHeld T s (λ q. (q.outcome ≡ no_outcome) ⊎ HasVerdict o q)
      go none e k = inl e
      go (some q) e k = inr (q, e, verdict_from o q k)

  pub taken_4 : (s v : ℕ) (o : Verdict) → answer_number M room T (finalise_outcome s v o) ≡ 0 → (is_changing T ≡ false) × (v ≡ T.view) × RowHeld T s (HasVerdict o)
  unfolding circumstances further_circumstances for_other_view outcome_not_held held_opposite_outcome
  taken_4 s v o h =
      let (n, e, k, l) = finalises (finalise_outcome s v o) v (outcome_not_held T s) (held_opposite_outcome T s o) h (search places) (search places) (search places) (search places) in
      (n, e, go (held T.rows s) refl k l)
    where
      at : (q : Row) → held T.rows s ≡ some q → eqb (outcome_code q.outcome) 0 ≡ false → (q.outcome ≡ no_outcome) ⊎ HasVerdict o q → RowHeld T s (HasVerdict o)
      at q e k (inl i) = impossible (rw i refl) k
      at q e k (inr i) = (q, e, i)

      go : (q : Option Row) → held T.rows s ≡ q → eqb (outcome_code (outcome_of q)) 0 ≡ false → opposite_outcome o (outcome_of q) ≡ false → RowHeld T s (HasVerdict o)
      go none e k l = impossible refl k
      go (some q) e k l = at q e k (verdict_from o q l)

  pub taken_5 : (v : ℕ) → answer_number M room T (change_view v) ≡ 0 → T.promised < v
  unfolding circumstances further_circumstances changes_to_old_view
  taken_5 v h = leb-false v T.promised (met_none M room T (change_view v) h old_view _ (search places depth 11) (search places))

  pub taken_6 : (v : ℕ) (I : Table) → answer_number M room T (start_view v I) ≡ 0 → (T.promised ≤ v) × (T.view < v) × (table_by_rule M I ≡ true) × (starts_view T.n v I ≡ true)
  unfolding circumstances further_circumstances starts_old_view message_by_rule
  taken_6 v I h =
      let k = met_none M room T (start_view v I) h old_view (either (ltb v T.promised) (leb v T.view)) (search places depth 11) (search places) in
      let i = both_right _ _ (taken_by_rule M room T (start_view v I) h) in
      (ltb-false v T.promised (either_left _ _ k), leb-false v T.view (either_right _ _ k), both_left _ _ i, both_right _ _ i)

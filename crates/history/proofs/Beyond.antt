-- No merge is refused with 5 or 6, and every start-view message that was sent is a good one.
use mathlib.Core.Path.{◌≡◌, refl, sym, ap, ◌∙◌}
use mathlib.Core.Bool.{true, false, not}
use mathlib.Core.Logic.{◌⊎◌, inl, inr}
use mathlib.Core.List.{List, []}
use Prim.Native.Nat.{ℕ}
use lib.Dec.{eqb, ltb}
use lib.ListN.{length}
use Rattle.rules.specs.Tests.{both, either, all_of, greatest}
use Rattle.rules.specs.Groups.{is_group}
use Rattle.rules.specs.Stamps.{same_body}
use Rattle.rules.specs.Tables.{same_result, Prepare, Prepare.no_prepare, Prepare.tentative, Prepare.final, Verdict, Outcome, Outcome.no_outcome, Outcome.noted, Outcome.done, verdict_code, Row, Table, Model}
use Rattle.rules.specs.Numbers.{applies, first, number}
use Rattle.rules.specs.Messages.{Check, held, prepare_of, outcome_of}
use Rattle.rules.specs.Circumstances.{Room}
use Rattle.rules.specs.Answers.{proposal_check}
use Rattle.rules.specs.Merge.{used, stamps, rows_of, are_wrong, unequal_finals, opposite_outcomes, two_bodies, contradictory, merge_circumstances, merge_number}
use Rattle.rules.proofs.Logic.{cases, either_false, not_false_of, eqb_self}
use Rattle.rules.proofs.Lists.{◌∈◌, none_any, none_pair, all_from}
use Rattle.rules.proofs.Same.{body_same, result_same}
use Rattle.rules.proofs.Rows.{held_from_lem}
use Rattle.rules.proofs.Used.{used_newest}
use Rattle.rules.proofs.Check.{CheckByRule}
use Rattle.rules.proofs.Answers.{proposal_by_rule, proposal_clear}
use Rattle.history.specs.Survival.{Group, Event, fresh_group, at, after, Lawful}
use Rattle.history.specs.Beyond.{DoneOrNoMerge, GoesThrough}
use Rattle.history.proofs.Group.Cells.{Holds}
use Rattle.history.proofs.Group.Acts.{State, Sound}
use Rattle.history.proofs.Group.Entries.{Fact.started}
use Rattle.history.proofs.Group.Kept.{same_finals, same_outcomes}
use Rattle.history.proofs.Follow.World.{Clear, World, setup, cells_in}
use Rattle.history.proofs.Follow.Gathered.{HadIs, handed_over}
use Rattle.history.proofs.Follow.Follows.{Follows}
use Rattle.history.proofs.Follow.Arrivals.{chosen_in}
use Rattle.history.proofs.Regular.{fresh_regular, all_regular}
use Rattle.history.proofs.Survival.{world_of, followed, from_fresh}

module _ (W : World) (G : Group) (s : State) (k : Sound (setup W) s) (F : Follows W G s) (v : ℕ) (Ts : List Table) (had : (T : Table) → T ∈ Ts → T ∈ G.had) (right : are_wrong v Ts ≡ false) where
  abbrev w : ℕ
  w = greatest (λ T. T.view) Ts

  tables : (T : Table) → T ∈ Ts → HadIs W s.facts T
  tables T m = F.had T (had T m)

  -- a row of a used table is what its box holds in the newest view
  pub record RowIs (t : ℕ) (r : Row) : Type 0 where
    pub box : ℕ
    pub begun : (w ≡ 0) ⊎ (started w ∈ s.facts)
    pub prepare : r.prepare ≡ (s.entry box w t).prepare
    pub outcome : r.outcome ≡ (s.entry box w t).outcome
    pub body : r.body ≡ W.bodies t

  row_is : (t : ℕ) (r : Row) → r ∈ rows_of (used Ts) t → RowIs t r
  unfolding rows_of
  row_is t r m =
      let (T, i, e) = all_from (λ T. held T.rows t) (used Ts) r m in
      let (j, newest) = used_newest Ts T i in
      let (fact, begun, l) = handed_over W s.facts v Ts [] tables right T j in
      let p = k.invariant.promise T.box v T.view (cells_in T.rows) fact in
      let (n, d) = held_from_lem T.rows t r e in
      record {
        box = T.box;
        begun = rw newest at begun;
        prepare = sym (ap prepare_of e) ∙ p.same_prepare t ∙ ap (λ (x : ℕ). (s.entry T.box x t).prepare) newest;
        outcome = sym (ap outcome_of e) ∙ p.same_outcome t ∙ ap (λ (x : ℕ). (s.entry T.box x t).outcome) newest;
        body = ((tables T j).owned r n).0 ∙ ap W.bodies d;
      }

  one_body_lem : (t : ℕ) → two_bodies (rows_of (used Ts) t) ≡ false
  unfolding two_bodies
  one_body_lem t = none_pair _ (rows_of (used Ts) t) (λ r q m n. not_false_of (same_body r.body q.body) (rw ((row_is t r m).body, (row_is t q n).body) (body_same (W.bodies t))))

  finals_equal : (t : ℕ) (r q : Row) → RowIs t r → RowIs t q → (a b : Prepare) → r.prepare ≡ a → q.prepare ≡ b → unequal_finals a b ≡ false
  finals_equal t r q i j no_prepare b e h = refl
  finals_equal t r q i j (tentative x) b e h = refl
  finals_equal t r q i j (final x) no_prepare e h = refl
  finals_equal t r q i j (final x) (tentative y) e h = refl
  finals_equal t r q i j (final x) (final y) e h =
      not_false_of (same_result x y) (rw (same_finals (setup W) s.facts s.entry k.invariant i.box j.box w t x y (sym i.prepare ∙ e) (sym j.prepare ∙ h)) (result_same y))

  -- an outcome held by a row is held by its box
  verdicts_equal : (t : ℕ) (r q : Row) → RowIs t r → RowIs t q → (x y : Verdict) → Holds x r.outcome → Holds y q.outcome → not (eqb (verdict_code x) (verdict_code y)) ≡ false
  verdicts_equal t r q i j x y e h =
      not_false_of (eqb (verdict_code x) (verdict_code y)) (rw (same_outcomes (setup W) s.facts s.entry k.invariant i.box j.box w t x y i.begun (rw i.outcome at e) (rw j.outcome at h)) (eqb_self (verdict_code y)))

  outcomes_equal : (t : ℕ) (r q : Row) → RowIs t r → RowIs t q → (a b : Outcome) → r.outcome ≡ a → q.outcome ≡ b → opposite_outcomes a b ≡ false
  outcomes_equal t r q i j no_outcome b e h = refl
  outcomes_equal t r q i j (noted x) no_outcome e h = refl
  outcomes_equal t r q i j (done x) no_outcome e h = refl
  outcomes_equal t r q i j (noted x) (noted y) e h = verdicts_equal t r q i j x y (inl e) (inl h)
  outcomes_equal t r q i j (noted x) (done y) e h = verdicts_equal t r q i j x y (inl e) (inr h)
  outcomes_equal t r q i j (done x) (noted y) e h = verdicts_equal t r q i j x y (inr e) (inl h)
  outcomes_equal t r q i j (done x) (done y) e h = verdicts_equal t r q i j x y (inr e) (inr h)

  not_contradictory : (t : ℕ) → contradictory (rows_of (used Ts) t) ≡ false
  unfolding contradictory
  not_contradictory t =
      either_false (none_pair _ (rows_of (used Ts) t) (λ r q m n. finals_equal t r q (row_is t r m) (row_is t q n) r.prepare q.prepare refl refl))
      (none_pair _ (rows_of (used Ts) t) (λ r q m n. outcomes_equal t r q (row_is t r m) (row_is t q n) r.outcome q.outcome refl refl))

-- without 5 and 6 a merge is done, full, or of wrong tables
number_left : (M : Model) (v : ℕ) (Ts : List Table) → (are_wrong v Ts ≡ false → (t : ℕ) → (two_bodies (rows_of (used Ts) t) ≡ false) × (contradictory (rows_of (used Ts) t) ≡ false)) → DoneOrNoMerge (merge_number M v Ts)
unfolding merge_number merge_circumstances number first applies both either
number_left M v Ts h = go (cases (are_wrong v Ts)) (cases (ltb M.row_limit (length (stamps (used Ts)))))
  where
    go : (are_wrong v Ts ≡ true) ⊎ (are_wrong v Ts ≡ false) → (ltb M.row_limit (length (stamps (used Ts))) ≡ true) ⊎ (ltb M.row_limit (length (stamps (used Ts))) ≡ false) → DoneOrNoMerge (merge_number M v Ts)
    go (inl e) c = inr (inr (rw e refl))
    go (inr e) (inl c) = inr (inl (rw (e, none_any (λ t. two_bodies (rows_of (used Ts) t)) (stamps (used Ts)) (λ t m. (h e t).0), none_any (λ t. contradictory (rows_of (used Ts) t)) (stamps (used Ts)) (λ t m. (h e t).1), c) refl))
    go (inr e) (inr c) = inl (rw (e, none_any (λ t. two_bodies (rows_of (used Ts) t)) (stamps (used Ts)) (λ t m. (h e t).0), none_any (λ t. contradictory (rows_of (used Ts) t)) (stamps (used Ts)) (λ t m. (h e t).1), c) refl)

pub merge_goes_through : (W : World) (G : Group) (s : State) → Sound (setup W) s → Follows W G s → (M : Model) (v : ℕ) (places : List ℕ) → DoneOrNoMerge (merge_number M v (all_of (at G.had) places))
merge_goes_through W G s k F M v places = number_left M v Ts (λ right t. (one_body_lem W G s k F v Ts had right t, not_contradictory W G s k F v Ts had right t))
  where
    Ts : List Table
    Ts = all_of (at G.had) places

    had : (T : Table) → T ∈ Ts → T ∈ G.had
    had = chosen_in G.had places

-- under the premises of `survival` and no other, for any check of message 1 that is clear and by the rules
pub goes_through_with : (n : ℕ) → is_group n ≡ true → (M : Model) (room : Room) (proposals : Check) → Clear proposals → CheckByRule proposals → (es : List Event) → Lawful M room proposals (fresh_group n) es → GoesThrough M (after M room proposals (fresh_group n) es)
goes_through_with n group M room proposals clear by_rule_lem es law =
    let (s, k, F) = followed n group M room proposals clear es law in
    let R = all_regular M room proposals by_rule_lem n es (fresh_group n) law (fresh_regular M n group) in
    record { merges = merge_goes_through (world_of n group M room proposals clear (from_fresh n group M room proposals clear es).sent) _ s k F M; starts = λ v I i. rw R.size (R.starts v I i) }

-- the one of boxes is
pub goes_through : (n : ℕ) → is_group n ≡ true → (M : Model) (room : Room) (es : List Event) → Lawful M room proposal_check (fresh_group n) es → GoesThrough M (after M room proposal_check (fresh_group n) es)
goes_through n group M room = goes_through_with n group M room proposal_check proposal_clear proposal_by_rule

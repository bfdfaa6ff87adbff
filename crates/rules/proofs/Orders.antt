-- Neither a count nor a merge depends on the order of its list.
use mathlib.Core.Path.{◌≡◌, refl, sym, ap, ap₂, fun_ext, ◌∙◌}
use mathlib.Core.Bool.{Bool, true, false, not}
use mathlib.Core.Logic.{◌⊎◌, inl, inr}
use mathlib.Core.List.{List}
use mathlib.Core.Option.{Option, none, some}
use Prim.Native.Nat.{ℕ}
use lib.Dec.{eqb, leb}
use borrow.Author.Tests.{eqb-true, not-false}
use Rattle.rules.specs.Tests.{both, either, any, provided, first_of}
use Rattle.rules.specs.Groups.{f_of, fast_count, agreement_count}
use Rattle.rules.specs.Tables.{Result, Result.OK, Result.ABORT, result_code, result_retry, same_result, Row, Model, Table}
use Rattle.rules.specs.Numbers.{Number.bad_message, Number.contradiction}
use Rattle.rules.specs.Messages.{Check}
use Rattle.rules.specs.Merge.{used, stamps, rows_of, merged_outcome, final_result, final_of, holds_tentative, is_agreed, tentative_result, if_agreed, agreed_of, holds_prepare, standing, body_of, unchecked_row, unchecked_rows, to_check, merged_rows, group_of, merged_table, are_wrong, two_bodies, contradictory, merge_circumstances, merge_number, merge}
use Rattle.rules.specs.Count.{Heard, unequal_views, bad_replies, agreeing, is_fast, unequal_final_heard, fast_beside_final, count_circumstances, count_number, fast_of, final_heard, greatest_retry, slow_result, decided, counted}
use Rattle.rules.proofs.Logic.{none_some, cases, either_left, either_right, either_first, either_second}
use Rattle.rules.proofs.Lists.{◌∈◌, places, any_none, pair_none, provided_some}
use Rattle.rules.proofs.Same.{not_other_result, not_other_body}
use Rattle.rules.proofs.Reordered.{Reordered, reordered_in, reordered_back, head_kept, any_kept, count_kept, twice_kept, some_pair-kept, greatest_kept, length_kept, those_reordered, all_of-reordered, GiveOne, first_of-kept}
use Rattle.rules.proofs.Numbers.{number_done}
use Rattle.rules.proofs.Used.{merge_right, merge_one_body, merge_clear}
use Rattle.rules.proofs.Standings.{is_final_lem}
use Rattle.rules.proofs.Votes.{fast_one, merge_agreed_once}
use Rattle.rules.proofs.Stamps.{stamps_rising, stamps_from, in_stamps, rising_same}

-- ---- the count

pub count_good : (n : ℕ) (hs : List Heard) → count_number n hs ≡ 0 → bad_replies n hs ≡ false
unfolding count_number count_circumstances
count_good n hs done = number_done (count_circumstances n hs) done bad_message (bad_replies n hs) (search places depth 11) (search places)

pub count_clear : (n : ℕ) (hs : List Heard) → count_number n hs ≡ 0 → either (unequal_final_heard hs) (fast_beside_final n hs) ≡ false
unfolding count_number count_circumstances
count_clear n hs done = number_done (count_circumstances n hs) done contradiction _ (search places depth 11) (search places)

module _ (n : ℕ) {hs gs : List Heard} (p : Reordered hs gs) where
  agreeing_kept : (r : Result) → agreeing hs r ≡ agreeing gs r
  unfolding agreeing
  agreeing_kept r = count_kept (λ h. same_result r h.result) p

  fast_kept : (r : Result) → is_fast n hs r ≡ is_fast n gs r
  unfolding is_fast
  fast_kept r = ap (leb (fast_count (f_of n))) (agreeing_kept r)

  bad_kept : bad_replies n hs ≡ bad_replies n gs
  unfolding bad_replies unequal_views
  bad_kept = ap (either _) (ap₂ either (any_kept _ p) (ap₂ either (twice_kept _ p) (ap₂ either (some_pair-kept _ p) (any_kept _ p))))

  beside_kept : fast_beside_final n hs ≡ fast_beside_final n gs
  unfolding fast_beside_final
  beside_kept = simp fast_kept (some_pair-kept _ p)

  count_number_kept : count_number n hs ≡ count_number n gs
  unfolding count_number count_circumstances unequal_final_heard
  count_number_kept = rw (bad_kept, beside_kept, some_pair-kept (λ h g. both (both h.is_final g.is_final) (not (same_result h.result g.result))) p)

  fast_of_kept : bad_replies n hs ≡ false → fast_of n hs ≡ fast_of n gs
  unfolding fast_of
  fast_of_kept good = first_of-kept give one p ∙ ap (λ g. first_of g gs) (fun_ext (λ h. ap (λ b. provided b h.result) (fast_kept h.result)))
    where
      give : Heard → Option Result
      give h = provided (is_fast n hs h.result) h.result

      one : GiveOne give hs
      one h g r q mh mg eh eg =
          let (fh, ih) = provided_some (is_fast n hs h.result) h.result r eh in
          let (fg, ig) = provided_some (is_fast n hs g.result) g.result q eg in
          fast_one n hs r q good (rw ih at fh) (rw ig at fg)

  final_heard_kept : unequal_final_heard hs ≡ false → final_heard hs ≡ final_heard gs
  unfolding unequal_final_heard final_heard both
  final_heard_kept equal = first_of-kept give one p
    where
      give : Heard → Option Result
      give h = provided h.is_final h.result

      one : GiveOne give hs
      one h g r q mh mg eh eg =
          let (fh, ih) = provided_some h.is_final h.result r eh in
          let (fg, ig) = provided_some g.is_final g.result q eg in
          sym ih ∙ not_other_result h.result g.result (rw (fh, fg) at (pair_none _ hs equal h g mh mg)) ∙ ig

  slow_kept : slow_result n hs ≡ slow_result n gs
  unfolding slow_result greatest_retry
  slow_kept = rw (any_kept (λ h. same_result ABORT h.result) p, agreeing_kept OK, any_kept (λ h. eqb (result_code h.result) 4) p, greatest_kept (λ h. result_retry h.result) p)

  decided_kept : count_number n hs ≡ 0 → decided n hs ≡ decided n gs
  unfolding decided
  decided_kept done = rw (fast_of_kept (count_good n hs done), length_kept p, final_heard_kept (either_left _ _ (count_clear n hs done)), slow_kept)

pub count-any_order : (n : ℕ) {hs gs : List Heard} → Reordered hs gs → counted n hs ≡ counted n gs
unfolding counted
count-any_order n {hs} {gs} p = go (cases (eqb (count_number n hs) 0))
  where
    go : (eqb (count_number n hs) 0 ≡ true) ⊎ (eqb (count_number n hs) 0 ≡ false) → counted n hs ≡ counted n gs
    go (inl e) = rw (← (count_number_kept n p), e) (decided_kept n p (eqb-true _ 0 e))
    go (inr e) = rw (← (count_number_kept n p), e)

-- ---- the merge: the rows of one stamp

abbrev AgreedOnce : ℕ → List Row → Type 0
AgreedOnce agreement rs = (r q : Result) → is_agreed agreement rs r ≡ true → is_agreed agreement rs q ≡ true → r ≡ q

module _ {rs qs : List Row} (p : Reordered rs qs) where
  outcome_kept_lem : merged_outcome rs ≡ merged_outcome qs
  unfolding merged_outcome
  outcome_kept_lem = rw (any_kept _ p, any_kept _ p)

  bodies_kept : two_bodies rs ≡ two_bodies qs
  unfolding two_bodies
  bodies_kept = some_pair-kept _ p

  contradictory_kept : contradictory rs ≡ contradictory qs
  unfolding contradictory
  contradictory_kept = ap₂ either (some_pair-kept _ p) (some_pair-kept _ p)

  final_kept_lem : contradictory rs ≡ false → final_of rs ≡ final_of qs
  unfolding final_of contradictory
  final_kept_lem clear = first_of-kept (λ r. final_result r.prepare) one p
    where
      one : GiveOne (λ r. final_result r.prepare) rs
      one r q a b mr mq er eq =
          let u = pair_none _ rs (either_left _ _ clear) r q mr mq in
          not_other_result a b (rw (is_final_lem r.prepare a er, is_final_lem q.prepare b eq) at u)

  agreed_kept : (agreement : ℕ) → AgreedOnce agreement rs → agreed_of agreement rs ≡ agreed_of agreement qs
  unfolding agreed_of is_agreed
  agreed_kept agreement once = first_of-kept give one p ∙ ap (λ g. first_of g qs) (fun_ext (λ r. alike (tentative_result r.prepare)))
    where
      give : Row → Option Result
      give r = if_agreed agreement rs (tentative_result r.prepare)

      agreed : (t : Option Result) (a : Result) → if_agreed agreement rs t ≡ some a → is_agreed agreement rs a ≡ true
      agreed none a e = none_some e
      agreed (some r) a e = let (h, i) = provided_some (is_agreed agreement rs r) r a e in rw i at h

      one : GiveOne give rs
      one r q a b mr mq er eq = once a b (agreed (tentative_result r.prepare) a er) (agreed (tentative_result q.prepare) b eq)

      alike : (t : Option Result) → if_agreed agreement rs t ≡ if_agreed agreement qs t
      alike none = refl
      alike (some r) = rw (count_kept (λ q. holds_tentative r q.prepare) p)

  body_kept : two_bodies rs ≡ false → body_of rs ≡ body_of qs
  unfolding two_bodies
  body_kept h = head_kept body_of (λ r. r.body) (λ r more. refl) rs qs p (λ r q mr mq. not_other_body r.body q.body (pair_none _ rs h r q mr mq))

  standing_kept : (agreement : ℕ) → AgreedOnce agreement rs → contradictory rs ≡ false → standing agreement rs ≡ standing agreement qs
  unfolding standing
  standing_kept agreement once clear = rw (final_kept_lem clear, agreed_kept agreement once, any_kept (λ r. holds_prepare r.prepare) p)

-- ---- the merge: the tables

-- tables of different groups: which one is meant changes with the first of them, and in any order they are wrong
abbrev mixed : List Table → Bool
mixed Ts = any (λ T. not (eqb T.n (group_of Ts))) Ts

mixed_wrong : (v : ℕ) (Ts : List Table) → mixed Ts ≡ true → are_wrong v Ts ≡ true
unfolding are_wrong
mixed_wrong v Ts h = either_second _ _ (either_first _ _ h)

right_group : (v : ℕ) (Ts : List Table) → are_wrong v Ts ≡ false → mixed Ts ≡ false
unfolding are_wrong
right_group v Ts h = either_left _ _ (either_right _ _ h)

module _ {Ts Us : List Table} (p : Reordered Ts Us) where
  used_reordered : Reordered (used Ts) (used Us)
  unfolding used
  used_reordered = rw (greatest_kept (λ U. U.view) p) (those_reordered _ p)

  rows_reordered : (s : ℕ) → Reordered (rows_of Ts s) (rows_of Us s)
  unfolding rows_of
  rows_reordered s = all_of-reordered _ p

  stamps_in : (s : ℕ) → s ∈ stamps Ts → s ∈ stamps Us
  stamps_in s m =
      let (T, n, (r, k, e)) = stamps_from Ts s m in
      rw e at (in_stamps Us T r (reordered_in p n) k)

  group_kept : mixed Ts ≡ false → group_of Ts ≡ group_of Us
  group_kept h = head_kept group_of (λ T. T.n) (λ T more. refl) Ts Us p (λ T U m_t m_u. is T m_t ∙ sym (is U m_u))
    where
      is : (T : Table) → T ∈ Ts → T.n ≡ group_of Ts
      is T m = eqb-true _ _ (not-false _ (any_none _ Ts h T m))

  wrong_same : (v : ℕ) → mixed Ts ≡ false → are_wrong v Ts ≡ are_wrong v Us
  unfolding are_wrong
  wrong_same v h =
      rw (group_kept h, length_kept p) (ap (either _) (ap₂ either (any_kept _ p) (ap₂ either (twice_kept _ p) (ap₂ either (any_kept _ p) (any_kept _ p)))))

pub stamps_kept : {Ts Us : List Table} → Reordered Ts Us → stamps Ts ≡ stamps Us
stamps_kept {Ts} {Us} p = rising_same 0 (stamps Ts) (stamps_rising Ts) 0 (stamps Us) (stamps_rising Us) (stamps_in p) (stamps_in (reordered_back p))

wrong_kept : (v : ℕ) {Ts Us : List Table} → Reordered Ts Us → are_wrong v Ts ≡ are_wrong v Us
wrong_kept v {Ts} {Us} p = go (cases (mixed Ts)) (cases (mixed Us))
  where
    go : (mixed Ts ≡ true) ⊎ (mixed Ts ≡ false) → (mixed Us ≡ true) ⊎ (mixed Us ≡ false) → are_wrong v Ts ≡ are_wrong v Us
    go (inr h) k = wrong_same p v h
    go (inl h) (inr k) = sym (wrong_same (reordered_back p) v k)
    go (inl h) (inl k) = mixed_wrong v Ts h ∙ sym (mixed_wrong v Us k)

pub merge_number_any_order : (M : Model) (v : ℕ) {Ts Us : List Table} → Reordered Ts Us → merge_number M v Ts ≡ merge_number M v Us
unfolding merge_number merge_circumstances
merge_number_any_order M v {Ts} {Us} p = simp (wrong_kept v p, stamps_kept (used_reordered p), bodies, contradictions)
  where
    bodies : (s : ℕ) → two_bodies (rows_of (used Ts) s) ≡ two_bodies (rows_of (used Us) s)
    bodies s = bodies_kept (rows_reordered (used_reordered p) s)

    contradictions : (s : ℕ) → contradictory (rows_of (used Ts) s) ≡ contradictory (rows_of (used Us) s)
    contradictions s = contradictory_kept (rows_reordered (used_reordered p) s)

-- with one result agreed at most, no contradiction and one body in each stamp, the rows of the merged table
merged_rows_kept : (check : Check) (agreement : ℕ) {Ts Us : List Table} → Reordered Ts Us → ((s : ℕ) → AgreedOnce agreement (rows_of Ts s)) → ((s : ℕ) → two_bodies (rows_of Ts s) ≡ false) → ((s : ℕ) → contradictory (rows_of Ts s) ≡ false) → merged_rows check agreement Ts ≡ merged_rows check agreement Us
unfolding merged_rows to_check unchecked_rows unchecked_row
merged_rows_kept check agreement {Ts} {Us} p once bodies clear = simp (stamps_kept p, standings, outcomes, body)
  where
    standings : (s : ℕ) → standing agreement (rows_of Ts s) ≡ standing agreement (rows_of Us s)
    standings s = standing_kept (rows_reordered p s) agreement (once s) (clear s)

    outcomes : (s : ℕ) → merged_outcome (rows_of Ts s) ≡ merged_outcome (rows_of Us s)
    outcomes s = outcome_kept_lem (rows_reordered p s)

    body : (s : ℕ) → body_of (rows_of Ts s) ≡ body_of (rows_of Us s)
    body s = body_kept (rows_reordered p s) (bodies s)

merged_kept : (M : Model) (check : Check) (v : ℕ) {Ts Us : List Table} → Reordered Ts Us → merge_number M v Ts ≡ 0 → merged_table check v Ts ≡ merged_table check v Us
unfolding merged_table
merged_kept M check v {Ts} {Us} p done =
    let right = merge_right M v Ts done in
    rw (merged_rows_kept check (agreement_count (f_of (group_of Ts))) (used_reordered p) (merge_agreed_once v Ts right) (merge_one_body M v Ts done) (merge_clear M v Ts done), group_kept p (right_group v Ts right))

pub merge_any_order : (M : Model) (check : Check) (v : ℕ) {Ts Us : List Table} → Reordered Ts Us → merge M check v Ts ≡ merge M check v Us
unfolding merge
merge_any_order M check v {Ts} {Us} p = go (cases (eqb (merge_number M v Ts) 0))
  where
    go : (eqb (merge_number M v Ts) 0 ≡ true) ⊎ (eqb (merge_number M v Ts) 0 ≡ false) → merge M check v Ts ≡ merge M check v Us
    go (inl e) = rw (← (merge_number_any_order M v p), e) (ap some (merged_kept M check v p (eqb-true _ 0 e)))
    go (inr e) = rw (← (merge_number_any_order M v p), e)

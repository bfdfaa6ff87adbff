-- Every merge that is not refused is fair, whatever its tables are.
use mathlib.Core.Path.{◌≡◌, refl, sym, ap, ◌∙◌}
use mathlib.Core.Bool.{true, false}
use mathlib.Core.Logic.{◌⊎◌, inl, inr}
use mathlib.Core.Option.{Option, none, some}
use mathlib.Core.List.Memᴰ
use mathlib.Core.List.{List, [], ◌∷◌}
use Prim.Native.Nat.{ℕ, ◌<◌}
use native.Mathlib.Omega.{arith}
use Rattle.rules.specs.Tests.{both, any}
use Rattle.rules.specs.Groups.{f_of, agreement_count}
use Rattle.rules.specs.Tables.{Result, Result.OK, Result.ABORT, Result.ABSTAIN, Result.RETRY, Prepare.no_prepare, Prepare.final, Verdict, Verdict.commit, Outcome, Outcome.no_outcome, Outcome.done, something_held, Row, Table, Model}
use Rattle.rules.specs.Messages.{held, prepare_of, outcome_of}
use Rattle.rules.specs.Check.{check}
use Rattle.rules.specs.Inner.Clashes.{accepted}
use Rattle.rules.specs.Merge.{used, stamps, rows_of, holds_verdict, merged_outcome, Standing.has_agreed, standing, agreed_prepare, body_of, unchecked_row, is_settled, among_agreed, merged_rows, group_of, merged_table, contradictory, merge}
use Rattle.rules.proofs.Logic.{impossible, none_some}
use Rattle.rules.proofs.Lists.{◌∈◌, in_all, all_from}
use Rattle.rules.proofs.Rows.{held_from_lem, held_not}
use Rattle.rules.proofs.Stamps.{stamps_rising, stamps_from, in_stamps, rows_from}
use Rattle.rules.proofs.Used.{merge_is, merge_right, merge_clear}
use Rattle.rules.proofs.Standings.{NoneOrDone, outcome_cases}
use Rattle.rules.proofs.Votes.{merge_agreed_once}
use Rattle.rules.proofs.Merge.{merged_stamps, rising-held, stamps_of}
use Rattle.history.proofs.Fairness.Fair.{NoFinal, Agreed, Fixed, ClashesWith, Fair}
use Rattle.history.proofs.Fairness.OneStamp.{outcome_from_lem, outcome_done, stands_final, agreed_by_lem, stands_agreed, agreed_is, waiting_empty, agreed_waits, unchecked_accepted}
use Rattle.history.proofs.Fairness.InTurn.{before, Unchecked, Waits, Stands, Reasoned, waits_unsettled, any_of, all_checked}

-- ---- the rows of a stamp, and the tables that hold them

module _ (Us : List Table) where
  from_table : (s : ℕ) (q : Row) → q ∈ rows_of Us s → (T : Table) × (T ∈ Us) × (held T.rows s ≡ some q)
  unfolding rows_of
  from_table s q n = all_from (λ T. held T.rows s) Us q n

  -- a table holds nothing for a stamp, or one of its rows
  abbrev NothingOrRow : Table → ℕ → Type 0
  NothingOrRow T s = (held T.rows s ≡ none) ⊎ ((q : Row) × (q ∈ rows_of Us s) × (held T.rows s ≡ some q))

  in_table : (T : Table) (s : ℕ) → T ∈ Us → NothingOrRow T s
  unfolding rows_of
  in_table T s m = go (held T.rows s) refl
    where
      go : (h : Option Row) → held T.rows s ≡ h → NothingOrRow T s
      go none e = inl e
      go (some q) e = inr (q, in_all (λ U. held U.rows s) Us T q m e, e)

  final_row : (T : Table) (s : ℕ) (a : Result) → T ∈ Us → prepare_of (held T.rows s) ≡ final a → (q : Row) × (q ∈ rows_of Us s) × (q.prepare ≡ final a)
  final_row T s a m e = go (in_table T s m)
    where
      go : NothingOrRow T s → (q : Row) × (q ∈ rows_of Us s) × (q.prepare ≡ final a)
      go (inl h) = let k : no_prepare ≡ final a = rw h at e in let z : ◌≡◌ {A = ℕ} 0 1 = cc in absurd (omega arith)
      go (inr (q, n, h)) = (q, n, rw h at e)

  verdict_row : (T : Table) (s : ℕ) (v : Verdict) → T ∈ Us → holds_verdict v (outcome_of (held T.rows s)) ≡ true → (q : Row) × (q ∈ rows_of Us s) × (holds_verdict v q.outcome ≡ true)
  verdict_row T s v m e = go (in_table T s m)
    where
      go : NothingOrRow T s → (q : Row) × (q ∈ rows_of Us s) × (holds_verdict v q.outcome ≡ true)
      go (inl h) = impossible e (rw h refl)
      go (inr (q, n, h)) = (q, n, rw h at e)

  -- the merge takes the body of the first row of a stamp: a table holds that row
  body_from_lem : (s : ℕ) → s ∈ stamps Us → (T : Table) × (T ∈ Us) × ((q : Row) × (held T.rows s ≡ some q) × (q.body ≡ body_of (rows_of Us s)))
  body_from_lem s m = let (T, i, (r, k, e)) = stamps_from Us s m in go (rows_of Us s) refl T (in_table T s i) (λ h. held_not T.rows s h r k e)
    where
      go : (rs : List Row) → rows_of Us s ≡ rs → (T : Table) → NothingOrRow T s → (held T.rows s ≡ none → ⊥) → (W : Table) × (W ∈ Us) × ((q : Row) × (held W.rows s ≡ some q) × (q.body ≡ body_of (rows_of Us s)))
      go rs e T (inl h) there = absurd (there h)
      go [] e T (inr (q, n, h)) there = absurd (Memᴰ.not-nil (rw e at n))
      go (q ∷ qs) e T (inr x) there = let (W, j, h) = from_table s q (rw e (Memᴰ.head refl)) in (W, j, (q, h, rw e refl))

-- ---- the rows of a merge

refusal_stays : (a : Result) (o : Outcome) → (a ≡ OK → ⊥) → agreed_prepare a o ≡ final a
refusal_stays OK o d = absurd (d refl)
refusal_stays ABORT o d = refl
refusal_stays ABSTAIN o d = refl
refusal_stays (RETRY t) o d = refl

module _ (agreement : ℕ) (Us : List Table) where
  abbrev rows : List Row
  rows = merged_rows check agreement Us

  -- one row for a stamp
  once : (r : Row) → r ∈ rows → held rows r.stamp ≡ some r
  once = rising-held 0 rows (rw (merged_stamps check agreement Us) (stamps_rising Us))

  -- a stamp that some used table holds has its row
  row_of : (s : ℕ) (q : Row) → q ∈ rows_of Us s → (r : Row) × (r ∈ rows) × (r.stamp ≡ s) × (held rows s ≡ some r)
  row_of s q n =
      let (T, m, k, e) = rows_from Us s q n in
      let i : s ∈ stamps_of rows = rw (merged_stamps check agreement Us, ← e) (in_stamps Us T q m k) in
      let (r, j, d) = Memᴰ.of_map (λ (r : Row). r.stamp) rows i in
      (r, j, d, rw d at (once r j))

  -- a check changes neither outcome nor body
  outcome_row : (r : Row) → Stands agreement Us any_of r → r.outcome ≡ merged_outcome (rows_of Us r.stamp)
  unfolding unchecked_row
  outcome_row r (inl e) = ap (λ (x : Row). x.outcome) e
  outcome_row r (inr (w, (a, e))) = ap (λ (x : Row). x.outcome) e

  body_row : (r : Row) → Stands agreement Us any_of r → r.body ≡ body_of (rows_of Us r.stamp)
  unfolding unchecked_row
  body_row r (inl e) = ap (λ (x : Row). x.body) e
  body_row r (inr (w, (a, e))) = ap (λ (x : Row). x.body) e

  outcome_is : (s : ℕ) → outcome_of (held rows s) ≡ merged_outcome (rows_of Us s)
  unfolding merged_outcome any
  outcome_is s = go (held rows s) refl (rows_of Us s) refl
    where
      go : (h : Option Row) → held rows s ≡ h → (rs : List Row) → rows_of Us s ≡ rs → outcome_of h ≡ merged_outcome rs
      go none e [] k = refl
      go none e (q ∷ qs) k = let (r, m, d, h) = row_of s q (rw k (Memᴰ.head refl)) in none_some (sym e ∙ h)
      go (some r) e rs k =
          let (m, d) = held_from_lem rows s r e in
          outcome_row r ((all_checked agreement Us).stands r m) ∙ ap (λ (t : ℕ). merged_outcome (rows_of Us t)) d ∙ ap merged_outcome k

  -- a result that stands without a check is the merge's
  prepare_is : (s : ℕ) (q : Row) (a : Result) → q ∈ rows_of Us s → (before agreement Us s).prepare ≡ final a → prepare_of (held rows s) ≡ final a
  prepare_is s q a n e = let (r, m, d, h) = row_of s q n in rw h (go r (rw d e) ((all_checked agreement Us).stands r m))
    where
      go : (r : Row) → (before agreement Us r.stamp).prepare ≡ final a → Stands agreement Us any_of r → r.prepare ≡ final a
      go r k (inl i) = ap (λ (x : Row). x.prepare) i ∙ k
      go r k (inr (w, i)) =
          let (p, o) = waiting_empty (before agreement Us r.stamp) (waits_unsettled agreement Us any_of r.stamp w) in
          let z : ◌≡◌ {A = ℕ} 0 1 = cc in absurd (omega arith)

  -- a row that is accepted and was not checked
  row_fixed : (r : Row) → Unchecked agreement Us r → accepted r ≡ true → Fixed agreement Us rows r.stamp
  row_fixed r e a = go (unchecked_accepted agreement r.stamp (rows_of Us r.stamp) (sym (ap accepted e) ∙ a))
    where
      go : ((q : Row) × (q ∈ rows_of Us r.stamp) × (q.prepare ≡ final OK)) ⊎ (merged_outcome (rows_of Us r.stamp) ≡ done commit) → Fixed agreement Us rows r.stamp
      go (inl (q, n, k)) = let (T, m, h) = from_table Us r.stamp q n in inl (T, m, rw h k)
      go (inr k) = inr (outcome_is r.stamp ∙ k)

  -- a row that is accepted and was not open
  row_early : (r : Row) → Stands agreement Us among_agreed r → accepted r ≡ true → Fixed agreement Us rows r.stamp ⊎ Agreed agreement Us rows r.stamp OK
  unfolding unchecked_row is_settled
  row_early r (inl e) a = inl (row_fixed r e a)
  row_early r (inr (w, x)) a = inr (agreed_is agreement (rows_of Us r.stamp) OK (agreed_waits (standing agreement (rows_of Us r.stamp)) (merged_outcome (rows_of Us r.stamp)) w))

  -- ---- what a merge that is not refused has

  module _ (positive : 0 < agreement) (clear : (s : ℕ) → contradictory (rows_of Us s) ≡ false) (one : (s : ℕ) (a b : Result) → Agreed agreement Us rows s a → Agreed agreement Us rows s b → a ≡ b) where
    final_kept_lem : (T : Table) (s : ℕ) (a : Result) → T ∈ Us → prepare_of (held T.rows s) ≡ final a → prepare_of (held rows s) ≡ final a
    unfolding unchecked_row
    final_kept_lem T s a m e =
        let (q, n, k) = final_row Us T s a m e in
        prepare_is s q a n (rw (stands_final agreement (rows_of Us s) (clear s) a q n k) refl)

    agreed_stands : (s : ℕ) (a : Result) → NoFinal agreement Us rows s → Agreed agreement Us rows s a → standing agreement (rows_of Us s) ≡ has_agreed a
    agreed_stands s a d h = stands_agreed agreement (rows_of Us s) a positive (λ q b n k. let (T, m, e) = from_table Us s q n in d T b m (rw e k)) (one s) h

    agreed_kept : (s : ℕ) (a : Result) → NoFinal agreement Us rows s → Agreed agreement Us rows s a → agreed_prepare a (merged_outcome (rows_of Us s)) ≡ final a → prepare_of (held rows s) ≡ final a
    unfolding unchecked_row
    agreed_kept s a d h e =
        let (q, n, k) = agreed_by_lem agreement (rows_of Us s) a positive h in
        prepare_is s q a n (rw (agreed_stands s a d h) e)

    abbrev KeptOrClashes : ℕ → Type 0
    KeptOrClashes s = (prepare_of (held rows s) ≡ final OK) ⊎ ((outcome_of (held rows s) ≡ no_outcome) × ((r : Row) × (r ∈ rows) × (r.stamp ≡ s) × ClashesWith agreement Us rows r))

    -- an agreed OK without an outcome waited for its check
    ok_checked : (s : ℕ) → Waits agreement Us among_agreed s → merged_outcome (rows_of Us s) ≡ no_outcome → Agreed agreement Us rows s OK → KeptOrClashes s
    ok_checked s w o h =
        let (q, n, k) = agreed_by_lem agreement (rows_of Us s) OK positive h in
        let (r, m, d, e) = row_of s q n in
        go r m d e ((all_checked agreement Us).reasoned r m (rw d w))
      where
        go : (r : Row) → r ∈ rows → r.stamp ≡ s → held rows s ≡ some r → Reasoned agreement Us [] rows r → KeptOrClashes s
        go r m d e (inl i) = absurd (Memᴰ.not-nil i)
        go r m d e (inr (inl p)) = inl (rw e p)
        go r m d e (inr (inr (q, n, c, a, x))) = inr (outcome_is s ∙ o, (r, m, d, (q, n, c, a, row_early q x a)))

    ok_kept_lem : (s : ℕ) → NoFinal agreement Us rows s → Agreed agreement Us rows s OK → KeptOrClashes s
    unfolding unchecked_row is_settled something_held both
    ok_kept_lem s d h = go (outcome_cases (rows_of Us s))
      where
        go : NoneOrDone (rows_of Us s) → KeptOrClashes s
        go (inl (o, x)) = ok_checked s (rw (agreed_stands s OK d h, o) refl) o h
        go (inr (v, o)) = inl (agreed_kept s OK d h (rw o refl))

    fair : Fair agreement Us rows
    fair =
        record {
          once = once;
          row_from = row_from_lem;
          outcome_kept = λ T s o m e. let (q, n, k) = verdict_row Us T s o m e in outcome_is s ∙ outcome_done (rows_of Us s) (clear s) o q n k;
          outcome_from = outcome_held_lem;
          final_kept = final_kept_lem;
          refusal_kept = λ s a d h x. agreed_kept s a d h (refusal_stays a (merged_outcome (rows_of Us s)) x);
          ok_kept = ok_kept_lem;
          apart = λ r q m n c a b. let (u, v) = (all_checked agreement Us).apart r q m n c a b in (row_fixed r u a, row_fixed q v b);
        }
      where
        row_from_lem : (r : Row) → r ∈ rows → (T : Table) × (T ∈ Us) × ((q : Row) × (held T.rows r.stamp ≡ some q) × (q.body ≡ r.body))
        row_from_lem r m =
            let i : r.stamp ∈ stamps Us = rw (merged_stamps check agreement Us) at (Memᴰ.map (λ (x : Row). x.stamp) m) in
            let (T, j, (q, h, e)) = body_from_lem Us r.stamp i in
            (T, j, (q, h, e ∙ sym (body_row r ((all_checked agreement Us).stands r m))))

        outcome_held_lem : (s : ℕ) (o : Verdict) → holds_verdict o (outcome_of (held rows s)) ≡ true → (T : Table) × (T ∈ Us) × (holds_verdict o (outcome_of (held T.rows s)) ≡ true)
        outcome_held_lem s o e =
            let (q, n, k) = outcome_from_lem (rows_of Us s) o (rw (outcome_is s) at e) in
            let (T, m, h) = from_table Us s q n in
            (T, m, rw h k)

-- ---- every merge

pub merge_fair : (M : Model) (v : ℕ) (Ts : List Table) (U : Table) → merge M check v Ts ≡ some U → Fair (agreement_count (f_of (group_of Ts))) (used Ts) U.rows
unfolding merged_table
merge_fair M v Ts U h =
    let (d, e) = merge_is M check v Ts U h in
    rw e (fair (agreement_count (f_of (group_of Ts))) (used Ts) (omega arith) (merge_clear M v Ts d) (merge_agreed_once v Ts (merge_right M v Ts d)))

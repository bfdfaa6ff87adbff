-- One stamp in a merge, from its rows in the tables used: the outcome and the standing that they give, and what a row that is accepted or that waits has.
use mathlib.Core.Path.{◌≡◌, refl, sym, ap, ap₂, ◌∙◌, subst}
use mathlib.Core.Bool.{Bool, true, false, not, cond}
use mathlib.Core.Logic.{◌⊎◌, inl, inr}
use mathlib.Core.Option.{Option, none, some}
use mathlib.Core.List.{List}
use Prim.Native.Nat.{ℕ, ◌+◌, ◌<◌}
use native.Mathlib.Omega.{arith}
use lib.Dec.{eqb, leb}
use borrow.Author.Tests.{lt-ltb, leb-true, not-false}
use Rattle.rules.specs.Tests.{both, either, any, count}
use Rattle.rules.specs.Tables.{Result, Result.OK, Result.ABORT, Result.ABSTAIN, Result.RETRY, Prepare, Prepare.no_prepare, Prepare.tentative, Prepare.final, prepare_code, result_code, Verdict, Verdict.commit, Verdict.abort, Outcome, Outcome.no_outcome, Outcome.noted, Outcome.done, outcome_code, verdict_code, something_held, Row}
use Rattle.rules.specs.Messages.{with_prepare}
use Rattle.rules.specs.Circumstances.{opposite_outcome}
use Rattle.rules.specs.Check.{committed, prepared}
use Rattle.rules.specs.Inner.Clashes.{accepted}
use Rattle.rules.specs.Merge.{holds_verdict, merged_outcome, final_result, final_of, holds_tentative, is_agreed, tentative_result, if_agreed, agreed_of, holds_prepare, Standing, Standing.has_none, Standing.has_final, Standing.has_agreed, Standing.has_open, standing_from, standing, unchecked_prepare, unchecked_row, is_settled, among_agreed, unequal_finals, opposite_outcomes, contradictory}
use Rattle.rules.proofs.Logic.{impossible, none_some, cases, not_false_of, both_right, either_left, either_right}
use Rattle.rules.proofs.Lists.{◌∈◌, none_any, any_some, some_any, pair_none, provided_some, first_from, first_is, none_first}
use Rattle.rules.proofs.Same.{same_result_lem, same_verdict, not_other_result}
use Rattle.rules.proofs.Tables.{verdict_counts, result_counts}
use Rattle.rules.proofs.Standings.{is_final_lem, NoneOrDone, outcome_cases, Says, standing_says}
use Rattle.rules.proofs.Votes.{count_none}
use Rattle.rules.proofs.Merge.{final_held}

-- ---- verdicts and results, by the tests

not_opposite : (u v : Verdict) (o : Outcome) → holds_verdict v o ≡ true → opposite_outcome u o ≡ false → u ≡ v
not_opposite u v no_outcome h c = impossible h refl
not_opposite u v (noted a) h c = same_verdict u a (not-false _ c) ∙ sym (same_verdict v a h)
not_opposite u v (done a) h c = same_verdict u a (not-false _ c) ∙ sym (same_verdict v a h)

one_verdict_lem : (u v : Verdict) (o p : Outcome) → holds_verdict u o ≡ true → holds_verdict v p ≡ true → opposite_outcomes o p ≡ false → u ≡ v
one_verdict_lem u v no_outcome p h k c = impossible h refl
one_verdict_lem u v (noted a) p h k c = same_verdict u a h ∙ not_opposite a v p k c
one_verdict_lem u v (done a) p h k c = same_verdict u a h ∙ not_opposite a v p k c

pub is_tentative_lem : (a : Result) (p : Prepare) → holds_tentative a p ≡ true → p ≡ tentative a
is_tentative_lem a no_prepare h = impossible h refl
is_tentative_lem a (tentative b) h = ap tentative (sym (same_result_lem a b h))
is_tentative_lem a (final b) h = impossible h refl

pub ok? : (a : Result) → (a ≡ OK) ⊎ (a ≡ OK → ⊥)
ok? OK = inl refl
ok? ABORT = inr (λ e. let z : ◌≡◌ {A = ℕ} 0 1 = cc in omega arith)
ok? ABSTAIN = inr (λ e. let z : ◌≡◌ {A = ℕ} 0 1 = cc in omega arith)
ok? (RETRY s) = inr (λ e. let z : ◌≡◌ {A = ℕ} 0 1 = cc in omega arith)

no_final : (p : Prepare) → ((a : Result) → p ≡ final a → ⊥) → final_result p ≡ none
no_final no_prepare h = refl
no_final (tentative a) h = refl
no_final (final a) h = absurd (h a refl)

-- ---- the outcome

module _ (rs : List Row) where
  abbrev any_holds : Verdict → Bool
  any_holds v = any (λ r. holds_verdict v r.outcome) rs

  outcome_not : (v : Verdict) → any_holds v ≡ false → holds_verdict v (merged_outcome rs) ≡ false
  unfolding merged_outcome
  outcome_not commit e = rw e (go (any_holds abort))
    where
      go : (b : Bool) → holds_verdict commit (cond b (done abort) no_outcome) ≡ false
      go true = refl
      go false = refl
  outcome_not abort e = rw e (go (any_holds commit))
    where
      go : (b : Bool) → holds_verdict abort (cond b (done commit) no_outcome) ≡ false
      go true = refl
      go false = refl

  -- it is held by one of the rows
  pub outcome_from_lem : (v : Verdict) → holds_verdict v (merged_outcome rs) ≡ true → (r : Row) × (r ∈ rs) × (holds_verdict v r.outcome ≡ true)
  outcome_from_lem v h = go (cases (any_holds v))
    where
      go : (any_holds v ≡ true) ⊎ (any_holds v ≡ false) → (r : Row) × (r ∈ rs) × (holds_verdict v r.outcome ≡ true)
      go (inl e) = any_some _ rs e
      go (inr e) = impossible h (outcome_not v e)

  -- one that is held becomes done, since none is opposite
  pub outcome_done : contradictory rs ≡ false → (v : Verdict) (r : Row) → r ∈ rs → holds_verdict v r.outcome ≡ true → merged_outcome rs ≡ done v
  unfolding merged_outcome contradictory
  outcome_done clear commit r m h = rw (some_any _ rs r m h) refl
  outcome_done clear abort r m h = rw (none_any (λ q. holds_verdict commit q.outcome) rs (λ q n. other q n (cases (holds_verdict commit q.outcome))), some_any _ rs r m h) refl
    where
      other : (q : Row) → q ∈ rs → (holds_verdict commit q.outcome ≡ true) ⊎ (holds_verdict commit q.outcome ≡ false) → holds_verdict commit q.outcome ≡ false
      other q n (inr e) = e
      other q n (inl e) =
          let k = one_verdict_lem commit abort q.outcome r.outcome e h (pair_none _ rs (either_right _ _ clear) q r n m) in
          let z : ◌≡◌ {A = ℕ} 0 1 = cc in absurd (omega arith)

-- ---- the standing

module _ (agreement : ℕ) (rs : List Row) where
  -- a final result, since none is unequal
  pub stands_final : contradictory rs ≡ false → (a : Result) (r : Row) → r ∈ rs → r.prepare ≡ final a → standing agreement rs ≡ has_final a
  unfolding standing final_of contradictory
  stands_final clear a r m e = ap (λ (f : Option Result). standing_from f (agreed_of agreement rs) (any (λ q. holds_prepare q.prepare) rs)) (first_is (λ q. final_result q.prepare) rs r a m (rw e refl) one)
    where
      one : (q : Row) (b : Result) → q ∈ rs → final_result q.prepare ≡ some b → b ≡ a
      one q b n k =
          let c = pair_none (λ x y. unequal_finals x.prepare y.prepare) rs (either_left _ _ clear) q r n m in
          not_other_result b a (rw (is_final_lem q.prepare b k, e) at c)

  if_agreed_lem : (p : Prepare) (a : Result) → if_agreed agreement rs (tentative_result p) ≡ some a → is_agreed agreement rs a ≡ true
  if_agreed_lem no_prepare a e = none_some e
  if_agreed_lem (tentative b) a e = let (t, i) = provided_some (is_agreed agreement rs b) b a e in rw i at t
  if_agreed_lem (final b) a e = none_some e

  -- enough rows have an agreed result, so one has it
  pub agreed_by_lem : (a : Result) → 0 < agreement → is_agreed agreement rs a ≡ true → (r : Row) × (r ∈ rs) × (r.prepare ≡ tentative a)
  unfolding is_agreed
  agreed_by_lem a l h = go (cases (any (λ r. holds_tentative a r.prepare) rs))
    where
      go : (any (λ r. holds_tentative a r.prepare) rs ≡ true) ⊎ (any (λ r. holds_tentative a r.prepare) rs ≡ false) → (r : Row) × (r ∈ rs) × (r.prepare ≡ tentative a)
      go (inl e) = let (r, m, k) = any_some _ rs e in (r, m, is_tentative_lem a r.prepare k)
      go (inr e) = absurd (omega (arith, count_none (λ r. holds_tentative a r.prepare) rs e, leb-true agreement (count (λ r. holds_tentative a r.prepare) rs) h))

  -- an agreed result, where there is no final one and no other is agreed
  pub stands_agreed : (a : Result) → 0 < agreement → ((r : Row) (b : Result) → r ∈ rs → r.prepare ≡ final b → ⊥) → ((b c : Result) → is_agreed agreement rs b ≡ true → is_agreed agreement rs c ≡ true → b ≡ c) → is_agreed agreement rs a ≡ true → standing agreement rs ≡ has_agreed a
  unfolding standing final_of agreed_of
  stands_agreed a l none_final one h =
      let (r, m, e) = agreed_by_lem a l h in
      ap₂ (λ (f g : Option Result). standing_from f g (any (λ q. holds_prepare q.prepare) rs))
      (none_first (λ q. final_result q.prepare) rs (λ q n. no_final q.prepare (λ b k. none_final q b n k)))
      (first_is (λ q. if_agreed agreement rs (tentative_result q.prepare)) rs r a m (rw (e, h) refl) (λ q b n k. one b a (if_agreed_lem q.prepare b k) h))

  pub agreed_is : (a : Result) → standing agreement rs ≡ has_agreed a → is_agreed agreement rs a ≡ true
  unfolding standing agreed_of
  agreed_is a e = go (final_of rs) (agreed_of agreement rs) refl (any (λ r. holds_prepare r.prepare) rs) e
    where
      go : (f g : Option Result) → agreed_of agreement rs ≡ g → (h : Bool) → standing_from f g h ≡ has_agreed a → is_agreed agreement rs a ≡ true
      go none (some b) eg h k = let (r, m, i) = first_from _ rs b eg in let j : b ≡ a = cc in rw j at (if_agreed_lem r.prepare b i)
      go (some b) g eg h k = let z : ◌≡◌ {A = ℕ} 0 1 = cc in absurd (omega arith)
      go none none eg true k = let z : ◌≡◌ {A = ℕ} 0 1 = cc in absurd (omega arith)
      go none none eg false k = let z : ◌≡◌ {A = ℕ} 0 1 = cc in absurd (omega arith)

-- ---- a row that waits, and one that is accepted

-- a row that waits holds nothing
pub waiting_empty : (r : Row) → is_settled r ≡ false → (r.prepare ≡ no_prepare) × (r.outcome ≡ no_outcome)
unfolding is_settled something_held
waiting_empty r h = go r.prepare r.outcome h
  where
    go : (p : Prepare) (o : Outcome) → something_held p o ≡ false → (p ≡ no_prepare) × (o ≡ no_outcome)
    go no_prepare no_outcome k = (refl, refl)
    go no_prepare (noted v) k = impossible (lt-ltb 0 (0 + verdict_code v) (omega (arith, verdict_counts v))) k
    go no_prepare (done v) k = impossible (lt-ltb 0 (0 + outcome_code (done v)) (omega arith)) k
    go (tentative a) o k = impossible (lt-ltb 0 (result_code a + outcome_code o) (omega (arith, result_counts a))) k
    go (final a) o k = impossible (final_held a o) k

-- accepted, by the prepare and the outcome
abbrev Accepts : Prepare → Outcome → Type 0
Accepts p o = either (eqb (outcome_code o) 3) (both (either (eqb (prepare_code p) 1) (eqb (prepare_code p) 5)) (leb (outcome_code o) 2)) ≡ true

-- what is done as aborted is not
not_aborted : {A : Type 0} (p : Prepare) → Accepts p (done abort) → A
unfolding both either
not_aborted p h = impossible (both_right (either (eqb (prepare_code p) 1) (eqb (prepare_code p) 5)) (leb (outcome_code (done abort)) 2) h) refl

-- without an outcome, what a check accepts it has found OK
pub checked_ok : (r : Row) (a : Result) → r.outcome ≡ no_outcome → accepted (with_prepare (final a) r) ≡ true → a ≡ OK
unfolding accepted committed prepared both either
checked_ok r a e h = go a (rw e at h)
  where
    go : (a : Result) → Accepts (final a) no_outcome → a ≡ OK
    go OK k = refl
    go ABORT k = impossible k refl
    go ABSTAIN k = impossible k refl
    go (RETRY s) k = impossible k refl

-- an agreed stamp waits only if it is agreed OK
pub agreed_waits : (c : Standing) (o : Outcome) → both (among_agreed c) (not (something_held (unchecked_prepare c o) o)) ≡ true → c ≡ has_agreed OK
unfolding both
agreed_waits has_none o h = impossible h refl
agreed_waits (has_final a) o h = impossible h refl
agreed_waits has_open o h = impossible h refl
agreed_waits (has_agreed OK) o h = refl
agreed_waits (has_agreed ABORT) o h = impossible h (not_false_of _ (final_held ABORT o))
agreed_waits (has_agreed ABSTAIN) o h = impossible h (not_false_of _ (final_held ABSTAIN o))
agreed_waits (has_agreed (RETRY s)) o h = impossible h (not_false_of _ (final_held (RETRY s) o))

-- accepted without a check: a row has a final OK, or the outcome is commit
pub unchecked_accepted : (agreement s : ℕ) (rs : List Row) → accepted (unchecked_row agreement s rs) ≡ true → ((r : Row) × (r ∈ rs) × (r.prepare ≡ final OK)) ⊎ (merged_outcome rs ≡ done commit)
unfolding unchecked_row accepted committed prepared both either
unchecked_accepted agreement s rs h = go (outcome_cases rs)
  where
    with_outcome_lem : {o : Outcome} → merged_outcome rs ≡ o → Accepts (unchecked_prepare (standing agreement rs) o) o
    with_outcome_lem e = subst (λ (o : Outcome). Accepts (unchecked_prepare (standing agreement rs) o) o) e h

    final_ok : (c : Standing) → Accepts (unchecked_prepare c no_outcome) no_outcome → c ≡ has_final OK
    final_ok (has_final OK) k = refl
    final_ok (has_final ABORT) k = impossible k refl
    final_ok (has_final ABSTAIN) k = impossible k refl
    final_ok (has_final (RETRY t)) k = impossible k refl
    final_ok (has_agreed OK) k = impossible k refl
    final_ok (has_agreed ABORT) k = impossible k refl
    final_ok (has_agreed ABSTAIN) k = impossible k refl
    final_ok (has_agreed (RETRY t)) k = impossible k refl
    final_ok has_none k = impossible k refl
    final_ok has_open k = impossible k refl

    go : NoneOrDone rs → ((r : Row) × (r ∈ rs) × (r.prepare ≡ final OK)) ⊎ (merged_outcome rs ≡ done commit)
    go (inl (e, n)) = inl (subst (Says rs) (final_ok (standing agreement rs) (with_outcome_lem e)) (standing_says rs agreement))
    go (inr (commit, e)) = inr e
    go (inr (abort, e)) = not_aborted (unchecked_prepare (standing agreement rs) (done abort)) (with_outcome_lem e)

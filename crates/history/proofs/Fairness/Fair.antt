-- What a merge must be for demand 3 to hold of it: the conditions of request P8 on the tables used and the rows made of them. Which merge it was is not said.
use mathlib.Core.Path.{◌≡◌}
use mathlib.Core.Bool.{true}
use mathlib.Core.Logic.{◌⊎◌}
use mathlib.Core.Option.{some}
use mathlib.Core.List.{List}
use Prim.Native.Nat.{ℕ}
use Rattle.rules.specs.Tables.{Result, Result.OK, Prepare.final, Verdict, Verdict.commit, Outcome.no_outcome, Outcome.done, Row, Table}
use Rattle.rules.specs.Messages.{held, prepare_of, outcome_of}
use Rattle.rules.specs.Inner.Clashes.{clash, accepted}
use Rattle.rules.specs.Merge.{holds_verdict, rows_of, is_agreed}
use Rattle.rules.proofs.Lists.{◌∈◌}

module _ (agreement : ℕ) (Us : List Table) (rows : List Row) where
  abbrev pub NoFinal : ℕ → Type 0
  NoFinal s = (T : Table) (r : Result) → T ∈ Us → prepare_of (held T.rows s) ≡ final r → ⊥

  abbrev pub Agreed : ℕ → Result → Type 0
  Agreed s r = is_agreed agreement (rows_of Us s) r ≡ true

  -- accepted without a check: a used table holds a final OK, or the merge a commit
  abbrev pub Fixed : ℕ → Type 0
  Fixed s = ((T : Table) × (T ∈ Us) × (prepare_of (held T.rows s) ≡ final OK)) ⊎ (outcome_of (held rows s) ≡ done commit)

  -- an accepted row that was final, had an outcome, or was agreed, and that clashes with r
  abbrev pub ClashesWith : Row → Type 0
  ClashesWith r = (q : Row) × (q ∈ rows) × (clash r.stamp r.body q.stamp q.body ≡ true) × (accepted q ≡ true) × (Fixed q.stamp ⊎ Agreed q.stamp OK)

  pub record Fair : Type 0 where
    -- one row for a stamp, with the body that a used table has for it
    pub once : (r : Row) → r ∈ rows → held rows r.stamp ≡ some r
    pub row_from : (r : Row) → r ∈ rows → (T : Table) × (T ∈ Us) × ((q : Row) × (held T.rows r.stamp ≡ some q) × (q.body ≡ r.body))
    -- outcomes are those held, done
    pub outcome_kept : (T : Table) (s : ℕ) (o : Verdict) → T ∈ Us → holds_verdict o (outcome_of (held T.rows s)) ≡ true → outcome_of (held rows s) ≡ done o
    pub outcome_from : (s : ℕ) (o : Verdict) → holds_verdict o (outcome_of (held rows s)) ≡ true → (T : Table) × (T ∈ Us) × (holds_verdict o (outcome_of (held T.rows s)) ≡ true)
    -- a final result and an agreed refusal are kept
    pub final_kept : (T : Table) (s : ℕ) (r : Result) → T ∈ Us → prepare_of (held T.rows s) ≡ final r → prepare_of (held rows s) ≡ final r
    pub refusal_kept : (s : ℕ) (r : Result) → NoFinal s → Agreed s r → (r ≡ OK → ⊥) → prepare_of (held rows s) ≡ final r
    -- an agreed OK is kept, or it has no outcome and clashes
    pub ok_kept : (s : ℕ) → NoFinal s → Agreed s OK → (prepare_of (held rows s) ≡ final OK) ⊎ ((outcome_of (held rows s) ≡ no_outcome) × ((r : Row) × (r ∈ rows) × (r.stamp ≡ s) × ClashesWith r))
    -- no two rows of which one was checked are both accepted and clash
    pub apart : (r q : Row) → r ∈ rows → q ∈ rows → clash r.stamp r.body q.stamp q.body ≡ true → accepted r ≡ true → accepted q ≡ true → Fixed r.stamp × Fixed q.stamp

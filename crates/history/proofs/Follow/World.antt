-- What stays fixed while a history is followed: the group, the boxes' rules, the one body of each stamp, the one table that each view began with.
use mathlib.Core.Path.{◌≡◌, refl, sym, ap, ◌∙◌}
use mathlib.Core.Bool.{Bool, true, false, cond}
use mathlib.Core.Logic.{◌⊎◌, inl, inr}
use mathlib.Core.Option.{Option, none, some}
use mathlib.Core.List.{List, []}
use Prim.Native.Nat.{ℕ}
use native.Mathlib.Omega.{arith}
use lib.Dec.{eqb, leb}
use Rattle.rules.specs.Tests.{either, every, first_of}
use Rattle.rules.specs.Groups.{is_group, f_of}
use Rattle.rules.specs.Stamps.{Body}
use Rattle.rules.specs.Tables.{Result, Result.OK, Result.ABORT, Result.ABSTAIN, Result.RETRY, Prepare, Prepare.no_prepare, Prepare.tentative, Verdict, Verdict.commit, Verdict.abort, Outcome, Outcome.no_outcome, Outcome.noted, prepare_code, outcome_code, Row, Model}
use Rattle.rules.specs.Messages.{Check, held, prepare_of, outcome_of, changed, added}
use Rattle.rules.specs.Circumstances.{Room, settled}
use Rattle.rules.specs.Inner.Clashes.{clash, accepted}
use Rattle.rules.proofs.Logic.{impossible, both_left, both_right, same?, eqb_self}
use Rattle.rules.proofs.Lists.{◌∈◌, every_one}
use Rattle.rules.proofs.Groups.{group_size}
use Rattle.rules.proofs.Check.{clash_sym, clash_irreflexive}
use Rattle.rules.proofs.Rows.{held_from_lem, held-changed, held_unchanged, held-added, changed_held}
use Rattle.history.proofs.Group.Entries.{Cells, Settled}
use Rattle.history.proofs.Group.Invariant.{Setup}

-- all that is asked of the check for message 1: an OK clashes with no accepted row
abbrev pub Clear : Check → Type 0
Clear check = (rows : List Row) (s : ℕ) (x : Body) → check rows s x ≡ OK → (r : Row) → r ∈ rows → accepted r ≡ true → clash s x r.stamp r.body ≡ false

pub record World : Type 0 where
  pub n : ℕ
  pub group : is_group n ≡ true
  pub model : Model
  pub room : Room
  pub proposals : Check
  pub clear : Clear proposals
  pub bodies : ℕ → Body
  pub begun : ℕ → List Row
  pub shut : (v : ℕ) → every settled (begun v) ≡ true
  pub empty : begun 0 ≡ []

-- rows as what each stamp holds
abbrev pub cells_in : List Row → Cells
cells_in rows t = record { prepare = prepare_of (held rows t); outcome = outcome_of (held rows t) }

-- ---- a settled row holds nothing tentative and nothing noted

not_tentative : (r : Result) → either (eqb (prepare_code (tentative r)) 0) (leb 5 (prepare_code (tentative r))) ≡ false
unfolding either
not_tentative OK = refl
not_tentative ABORT = refl
not_tentative ABSTAIN = refl
not_tentative (RETRY s) = refl

not_noted : (o : Verdict) → either (eqb (outcome_code (noted o)) 0) (leb 3 (outcome_code (noted o))) ≡ false
unfolding either
not_noted commit = refl
not_noted abort = refl

pub cells_settled : (rows : List Row) → every settled rows ≡ true → (t : ℕ) → Settled (cells_in rows t)
unfolding settled
cells_settled rows h t = record { no_tentative = λ r e. prepared (held rows t) refl r e; no_noted = λ o e. outcome (held rows t) refl o e }
  where
    prepared : (q : Option Row) → held rows t ≡ q → (r : Result) → prepare_of q ≡ tentative r → ⊥
    prepared none k r e = let z : ◌≡◌ {A = ℕ} 0 1 = cc in omega arith
    prepared (some q) k r e = impossible (both_left _ _ (every_one settled rows h q (held_from_lem rows t q k).0)) (rw e (not_tentative r))

    outcome : (q : Option Row) → held rows t ≡ q → (o : Verdict) → outcome_of q ≡ noted o → ⊥
    outcome none k o e = let z : ◌≡◌ {A = ℕ} 0 1 = cc in omega arith
    outcome (some q) k o e = impossible (both_right _ _ (every_one settled rows h q (held_from_lem rows t q k).0)) (rw e (not_noted o))

pub none_prepared : (t : ℕ) → prepare_of (held [] t) ≡ no_prepare
unfolding held first_of
none_prepared t = refl

pub none_decided : (t : ℕ) → outcome_of (held [] t) ≡ no_outcome
unfolding held first_of
none_decided t = refl

abbrev pub setup : World → Setup
setup W =
    record {
      n = W.n;
      f = f_of W.n;
      size = group_size W.n W.group;
      clash = λ t u. clash t (W.bodies t) u (W.bodies u) ≡ true;
      clash_sym = λ t u h. sym (clash_sym t (W.bodies t) u (W.bodies u)) ∙ h;
      clash_irr = λ t h. impossible h (clash_irreflexive t (W.bodies t) (W.bodies t));
      begun = λ v. cells_in (W.begun v);
      settled = λ v t. cells_settled (W.begun v) (W.shut v) t;
      fresh_prepare = λ t. ap (λ (rows : List Row). prepare_of (held rows t)) W.empty ∙ none_prepared t;
      fresh_outcome = λ t. ap (λ (rows : List Row). outcome_of (held rows t)) W.empty ∙ none_decided t;
    }

-- ---- rows of which one stamp was changed

-- stamp t now holds p and o, and every other stamp what it held
abbrev pub Looks : List Row → List Row → ℕ → Prepare → Outcome → Type 0
Looks rows new t p o = ((u : ℕ) → prepare_of (held new u) ≡ cond (eqb t u) p (prepare_of (held rows u))) × ((u : ℕ) → outcome_of (held new u) ≡ cond (eqb t u) o (outcome_of (held rows u)))

pub looks_changed : (rows : List Row) (t : ℕ) (change : Row → Row) → ((r : Row) → (change r).stamp ≡ r.stamp) → (q : Row) → held rows t ≡ some q → Looks rows (changed t change rows) t (change q).prepare (change q).outcome
looks_changed rows t change keeps q e = (λ u. ap prepare_of (at u (same? t u)) ∙ pick prepare_of u (same? t u), λ u. ap outcome_of (at u (same? t u)) ∙ pick outcome_of u (same? t u))
  where
    Next : (u : ℕ) → (t ≡ u) ⊎ (eqb t u ≡ false) → Option Row
    Next u (inl k) = some (change q)
    Next u (inr k) = held rows u

    at : (u : ℕ) (d : (t ≡ u) ⊎ (eqb t u ≡ false)) → held (changed t change rows) u ≡ Next u d
    at u (inl k) = rw (← k) (held-changed t change keeps rows ∙ ap (changed_held t change keeps) e)
    at u (inr k) = held_unchanged t change keeps rows u k

    pick : {A : Type 0} (of : Option Row → A) (u : ℕ) (d : (t ≡ u) ⊎ (eqb t u ≡ false)) → of (Next u d) ≡ cond (eqb t u) (of (some (change q))) (of (held rows u))
    pick of u (inl k) = rw (← k, eqb_self t) refl
    pick of u (inr k) = rw k refl

pub looks_added : (rows : List Row) (r : Row) → held rows r.stamp ≡ none → Looks rows (added r rows) r.stamp r.prepare r.outcome
looks_added rows r e = (λ u. ap prepare_of (held-added r rows u e) ∙ pick prepare_of u (eqb r.stamp u), λ u. ap outcome_of (held-added r rows u e) ∙ pick outcome_of u (eqb r.stamp u))
  where
    pick : {A : Type 0} (of : Option Row → A) (u : ℕ) (b : Bool) → of (cond b (some r) (held rows u)) ≡ cond b (of (some r)) (of (held rows u))
    pick of u true = refl
    pick of u false = refl

-- a value put in the place of an equal one
pub kept_value : {A : Type 0} (t : ℕ) (old : ℕ → A) (p : A) → p ≡ old t → (u : ℕ) → cond (eqb t u) p (old u) ≡ old u
kept_value t old p e u = go (same? t u)
  where
    go : (t ≡ u) ⊎ (eqb t u ≡ false) → cond (eqb t u) p (old u) ≡ old u
    go (inl k) = rw (← k, eqb_self t) e
    go (inr k) = rw k refl

pub looks_same : (rows : List Row) (t : ℕ) → Looks rows rows t (prepare_of (held rows t)) (outcome_of (held rows t))
looks_same rows t = (λ u. sym (kept_value t (λ (z : ℕ). prepare_of (held rows z)) _ refl u), λ u. sym (kept_value t (λ (z : ℕ). outcome_of (held rows z)) _ refl u))

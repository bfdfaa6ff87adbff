-- One row's state, its prepare and its outcome: when it is accepted, when it never will be; and its cases told apart.
use mathlib.Core.Path.{◌≡◌, refl, sym, ap, ◌∙◌}
use mathlib.Core.Bool.{Bool, true, false}
use mathlib.Core.Logic.{◌⊎◌, inl, inr}
use Prim.Native.Nat.{ℕ}
use native.Mathlib.Omega.{arith}
use lib.Dec.{eqb, leb}
use Rattle.rules.specs.Tests.{both, either}
use Rattle.rules.specs.Tables.{Result, Result.OK, Result.ABORT, Result.ABSTAIN, Result.RETRY, Prepare, Prepare.no_prepare, Prepare.tentative, Prepare.final, Verdict, Verdict.commit, Verdict.abort, Outcome, Outcome.no_outcome, Outcome.noted, Outcome.done, prepare_code, verdict_code, outcome_code, Row}
use Rattle.rules.specs.Inner.Clashes.{accepted}
use Rattle.rules.specs.Check.{committed, prepared}
use Rattle.rules.specs.Merge.{holds_verdict}
use Rattle.rules.proofs.Logic.{impossible, both_false, eqb_self}
use Rattle.rules.proofs.Same.{same_verdict}

-- ---- what is said of a row

abbrev pub is_ok : Result → Bool
is_ok OK = true
is_ok ABORT = false
is_ok ABSTAIN = false
is_ok (RETRY s) = false

abbrev pub is_ok_prepare : Prepare → Bool
is_ok_prepare no_prepare = false
is_ok_prepare (tentative r) = is_ok r
is_ok_prepare (final r) = is_ok r

-- committed or prepared, as the rules count a row
abbrev pub is_accepted : Prepare → Outcome → Bool
is_accepted p no_outcome = is_ok_prepare p
is_accepted p (noted o) = is_ok_prepare p
is_accepted p (done commit) = true
is_accepted p (done abort) = false

-- noted or done
abbrev pub Holds : Verdict → Outcome → Type 0
Holds o x = (x ≡ noted o) ⊎ (x ≡ done o)

-- no later step makes such a row accepted, unless its commit is held
abbrev pub Dead : Prepare → Outcome → Type 0
Dead p x = ((r : Result) × (p ≡ final r) × (is_ok r ≡ false)) ⊎ (x ≡ done abort)

-- where a box answered a tentative result it is there, or a final one since
abbrev pub Stands : Result → Prepare → Type 0
Stands r p = (p ≡ tentative r) ⊎ ((q : Result) × (p ≡ final q))

-- so where a check gave OK
abbrev pub Placed : Prepare → Type 0
Placed p = Stands OK p

-- what message 2 with this result may make final
abbrev pub Finalisable : Result → Prepare → Type 0
Finalisable r p = ((q : Result) × (p ≡ tentative q)) ⊎ (p ≡ final r)

-- ---- cases

pub prepare_cases : (p : Prepare) → (p ≡ no_prepare) ⊎ (((r : Result) × (p ≡ tentative r)) ⊎ ((r : Result) × (p ≡ final r)))
prepare_cases no_prepare = inl refl
prepare_cases (tentative r) = inr (inl (r, refl))
prepare_cases (final r) = inr (inr (r, refl))

pub outcome_cases : (x : Outcome) → (x ≡ no_outcome) ⊎ (((o : Verdict) × (x ≡ noted o)) ⊎ ((o : Verdict) × (x ≡ done o)))
outcome_cases no_outcome = inl refl
outcome_cases (noted o) = inr (inl (o, refl))
outcome_cases (done o) = inr (inr (o, refl))

pub only_OK : (r : Result) → is_ok r ≡ true → r ≡ OK
only_OK OK e = refl
only_OK ABORT e = impossible e refl
only_OK ABSTAIN e = impossible e refl
only_OK (RETRY s) e = impossible e refl

-- constructors told apart, once for each pair that the proofs meet
pub tentative_final : {A : Type 0} {p : Prepare} {r s : Result} → p ≡ tentative r → p ≡ final s → A
tentative_final {A} {p} {r} {s} a b = let z : ◌≡◌ {A = ℕ} 0 1 = cc in absurd (omega arith)

pub none_final : {A : Type 0} {p : Prepare} {s : Result} → p ≡ no_prepare → p ≡ final s → A
none_final {A} {p} {s} a b = let z : ◌≡◌ {A = ℕ} 0 1 = cc in absurd (omega arith)

pub none_tentative : {A : Type 0} {p : Prepare} {s : Result} → p ≡ no_prepare → p ≡ tentative s → A
none_tentative {A} {p} {s} a b = let z : ◌≡◌ {A = ℕ} 0 1 = cc in absurd (omega arith)

pub none_stands : {A : Type 0} {p : Prepare} {r : Result} → p ≡ no_prepare → Stands r p → A
none_stands a (inl b) = none_tentative a b
none_stands a (inr (q, b)) = none_final a b

pub one_final : {p : Prepare} {r s : Result} → p ≡ final r → p ≡ final s → r ≡ s
one_final {p} {r} {s} a b = cc

pub finalisable_same : {p : Prepare} {r q : Result} → Finalisable r p → p ≡ final q → r ≡ q
finalisable_same (inl (k, h)) e = tentative_final h e
finalisable_same (inr h) e = one_final h e

pub one_tentative : {p : Prepare} {r s : Result} → p ≡ tentative r → p ≡ tentative s → r ≡ s
one_tentative {p} {r} {s} a b = cc

pub one_done : {x : Outcome} {o u : Verdict} → x ≡ done o → x ≡ done u → o ≡ u
one_done {x} {o} {u} a b = cc

pub commit_abort : {A : Type 0} → commit ≡ abort → A
commit_abort e = let z : ◌≡◌ {A = ℕ} 0 1 = cc in absurd (omega arith)

pub none_held : {A : Type 0} {x : Outcome} {o : Verdict} → x ≡ no_outcome → Holds o x → A
none_held {A} {x} {o} a (inl b) = let z : ◌≡◌ {A = ℕ} 0 1 = cc in absurd (omega arith)
none_held {A} {x} {o} a (inr b) = let z : ◌≡◌ {A = ℕ} 0 1 = cc in absurd (omega arith)

pub one_held : {x : Outcome} {o u : Verdict} → Holds o x → Holds u x → o ≡ u
one_held {x} {o} {u} (inl a) (inl b) = cc
one_held {x} {o} {u} (inl a) (inr b) = cc
one_held {x} {o} {u} (inr a) (inl b) = cc
one_held {x} {o} {u} (inr a) (inr b) = cc

-- a placed row that is not accepted is dead
pub dead_if_refused : (p : Prepare) (x : Outcome) → Placed p → is_accepted p x ≡ false → Dead p x
dead_if_refused p no_outcome (inl e) n = impossible (rw e) n
dead_if_refused p (noted o) (inl e) n = impossible (rw e) n
dead_if_refused p (done commit) (inl e) n = impossible refl n
dead_if_refused p (done abort) (inl e) n = inr refl
dead_if_refused p no_outcome (inr (r, e)) n = inl (r, e, rw e at n)
dead_if_refused p (noted o) (inr (r, e)) n = inl (r, e, rw e at n)
dead_if_refused p (done commit) (inr (r, e)) n = impossible refl n
dead_if_refused p (done abort) (inr (r, e)) n = inr refl

-- a final OK that is not accepted was aborted
pub ok_or_aborted : (p : Prepare) (x : Outcome) → p ≡ final OK → is_accepted p x ≡ false → x ≡ done abort
ok_or_aborted p no_outcome e n = impossible (rw e) n
ok_or_aborted p (noted o) e n = impossible (rw e) n
ok_or_aborted p (done commit) e n = impossible refl n
ok_or_aborted p (done abort) e n = refl

pub accepted_not_aborted : {A : Type 0} (p : Prepare) (x : Outcome) → is_accepted p x ≡ true → x ≡ done abort → A
accepted_not_aborted p x a e = impossible a (rw e)

pub noted_done : {A : Type 0} {x : Outcome} {o u : Verdict} → x ≡ noted o → x ≡ done u → A
noted_done {A} {x} {o} {u} a b = let z : ◌≡◌ {A = ℕ} 0 1 = cc in absurd (omega arith)

-- ---- the same tests in the words of the rules

ok_prepare : (p : Prepare) → either (eqb (prepare_code p) 1) (eqb (prepare_code p) 5) ≡ is_ok_prepare p
unfolding either
ok_prepare no_prepare = refl
ok_prepare (tentative OK) = refl
ok_prepare (tentative ABORT) = refl
ok_prepare (tentative ABSTAIN) = refl
ok_prepare (tentative (RETRY s)) = refl
ok_prepare (final OK) = refl
ok_prepare (final ABORT) = refl
ok_prepare (final ABSTAIN) = refl
ok_prepare (final (RETRY s)) = refl

both_whole : (b : Bool) → both b true ≡ b
unfolding both
both_whole true = refl
both_whole false = refl

pub accepted_is : (r : Row) → accepted r ≡ is_accepted r.prepare r.outcome
unfolding accepted committed prepared either
accepted_is r = go r.prepare r.outcome
  where
    only : (b c : Bool) → b ≡ c → both b true ≡ c
    only b c e = both_whole b ∙ e

    go : (p : Prepare) (o : Outcome) → either (eqb (outcome_code o) 3) (both (either (eqb (prepare_code p) 1) (eqb (prepare_code p) 5)) (leb (outcome_code o) 2)) ≡ is_accepted p o
    go p no_outcome = only _ _ (ok_prepare p)
    go p (noted commit) = only _ _ (ok_prepare p)
    go p (noted abort) = only _ _ (ok_prepare p)
    go p (done commit) = refl
    go p (done abort) = both_false _

pub verdict_holds : (v : Verdict) (o : Outcome) → holds_verdict v o ≡ true → Holds v o
verdict_holds v no_outcome h = impossible h refl
verdict_holds v (noted u) h = inl (ap noted (sym (same_verdict v u h)))
verdict_holds v (done u) h = inr (ap done (sym (same_verdict v u h)))

pub holds_verdict_lem : (v : Verdict) (o : Outcome) → Holds v o → holds_verdict v o ≡ true
holds_verdict_lem v o (inl e) = rw e (eqb_self (verdict_code v))
holds_verdict_lem v o (inr e) = rw e (eqb_self (verdict_code v))

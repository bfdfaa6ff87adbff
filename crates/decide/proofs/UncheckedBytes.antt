-- What a stamp's row holds before any check, in bytes: what the code puts together is what `rules` says.
use mathlib.Core.Path.{◌≡◌, refl, sym, ap, ◌∙◌}
use mathlib.Core.Bool.{Bool, true, false, cond}
use mathlib.Core.Logic.{inl, inr}
use mathlib.Core.List.{List}
use mathlib.Core.Option.{Option, none, some}
use Rattle.std.specs.Prelude as std
use Rattle.std.specs.Option.{ForSome}
use native.Mathlib.Omega.{arith}
use Prim.Native.Nat.{ℕ, ◌≤◌}
use Rattle.rules.specs.Tests.{both, any, is_some}
use Rattle.rules.specs.Tables.{Result, Result.OK, Result.ABORT, Result.ABSTAIN, Result.RETRY, Prepare, Prepare.final, Verdict.commit, Verdict.abort, Outcome, Outcome.no_outcome, Outcome.noted, Outcome.done, Row, prepare_code, prepare_retry, outcome_code, row_by_rule}
use Rattle.rules.specs.Merge.{merged_outcome, final_of, agreed_of, holds_prepare, standing_from, standing, agreed_prepare, open_prepare, unchecked_prepare}
use Rattle.rules.proofs.Lists.{◌∈◌}
use Rattle.rules.proofs.Merge.{unchecked_retry}
use Rattle.rules.proofs.Standings.{NoneOrDone, outcome_cases, standing_says}
use Rattle.rows.specs.Fields.{prepare_numbered, outcome_numbered, retry_by_code}
use Rattle.rows.proofs.Codes.{prepare_read, outcome_read, retry_of_code, prepare_code_limit, outcome_code_limit}
use Rattle.gather.specs.declared.results.HeldResult.{HeldResult}
use Rattle.gather.specs.declared.state.State.{State}
use Rattle.gather.specs.Inner.State.{final_held, state_of, outcome_held}
use Rattle.gather.specs.Inner.Agreed.{agreed_as}
use Rattle.gather.proofs.StateSeen.{state_outcome}
use Rattle.decide.specs.declared.unchecked.Unchecked.{Unchecked}
use Rattle.decide.specs.Inner.Unsettled.{agreed_byte, open_byte, without_final, unchecked_from, unchecked_as}

-- a prepare with an outcome byte
abbrev coded : Prepare → ℕ → Unchecked
coded p outcome = record { prepare = prepare_code p; retry = prepare_retry p; outcome = outcome }

-- ---- a final result

some_same : {a b : HeldResult} → ◌≡◌ {A = std.Option HeldResult} (std.Some a) (std.Some b) → a ≡ b
some_same e = cc

-- a final result with an outcome byte
abbrev final_bytes : HeldResult → ℕ → Unchecked
final_bytes r outcome = record { prepare = r.code; retry = r.retry; outcome = outcome }

pub with_final : (agreement : ℕ) (rs : List Row) (r : HeldResult) → (state_of rs).final_result ≡ std.Some r → record { prepare = r.code; retry = r.retry; outcome = outcome_held (state_of rs) } ≡ unchecked_as agreement rs
unfolding state_of unchecked_as standing
with_final agreement rs r h = go (final_of rs) refl
  where
    go : (f : Option Result) → final_of rs ≡ f → record { prepare = r.code; retry = r.retry; outcome = outcome_held (state_of rs) } ≡ unchecked_as agreement rs
    go none e = let no : ◌≡◌ {A = std.Option HeldResult} std.None (std.Some r) = ap final_held (sym e) ∙ h in cc
    go (some q) e =
        let held : HeldResult = record { code = prepare_code (final q); retry = prepare_retry (final q) } in
        let same : held ≡ r = some_same (ap final_held (sym e) ∙ h) in
        rw (e, ← same) (ap (coded (final q)) (state_outcome rs))

-- ---- an agreed one, an open one, none

pub agreed_some : (o : Option Result) → std.is_some (agreed_as o) ≡ is_some o
agreed_some none = refl
agreed_some (some r) = refl

pub agreed_code : (o : Option Result) → ForSome (agreed_as o) (λ held. held.code ≤ 4)
agreed_code none held e = cc
agreed_code (some OK) held e = rw (← some_same e) (omega arith)
agreed_code (some ABORT) held e = rw (← some_same e) (omega arith)
agreed_code (some ABSTAIN) held e = rw (← some_same e) (omega arith)
agreed_code (some (RETRY t)) held e = rw (← some_same e) (omega arith)

abbrev together : std.Option HeldResult → Bool → ℕ → Unchecked
together (std.Some r) held outcome = record { prepare = agreed_byte r.code outcome; retry = r.retry; outcome = outcome }
together std.None held outcome = record { prepare = cond held (open_byte outcome) 0; retry = 0; outcome = outcome }

-- a merge has no noted outcome
abbrev Said : Outcome → Type 0
Said no_outcome = Unit {0}
Said (noted v) = ⊥
Said (done v) = Unit {0}

merged_said : (rs : List Row) → Said (merged_outcome rs)
merged_said rs = go (outcome_cases rs)
  where
    go : NoneOrDone rs → Said (merged_outcome rs)
    go (inl (e, h)) = rw e tt
    go (inr (v, e)) = rw e tt

agreed_coded : (q : Result) (held : Bool) (o : Outcome) → Said o → together (agreed_as (some q)) held (outcome_code o) ≡ coded (agreed_prepare q o) (outcome_code o)
unfolding both
agreed_coded OK held no_outcome s = refl
agreed_coded OK held (noted v) s = absurd s
agreed_coded OK held (done commit) s = refl
agreed_coded OK held (done abort) s = refl
agreed_coded ABORT held o s = refl
agreed_coded ABSTAIN held o s = refl
agreed_coded (RETRY t) held o s = refl

open_coded : (o : Outcome) → Said o → together (agreed_as none) true (outcome_code o) ≡ coded (open_prepare o) (outcome_code o)
open_coded no_outcome s = refl
open_coded (noted v) s = absurd s
open_coded (done commit) s = refl
open_coded (done abort) s = refl

not_final : (a : Option Result) (held : Bool) (o : Outcome) → Said o → together (agreed_as a) held (outcome_code o) ≡ coded (unchecked_prepare (standing_from none a held) o) (outcome_code o)
not_final (some q) held o s = agreed_coded q held o s
not_final none true o s = open_coded o s
not_final none false o s = refl

without_as : (x : State) (a : std.Option HeldResult) → without_final x a ≡ together a x.held (outcome_held x)
unfolding without_final
without_as x (std.Some r) = refl
without_as x std.None = refl

pub without_final_lem : (agreement : ℕ) (rs : List Row) → (state_of rs).final_result ≡ std.None → without_final (state_of rs) (agreed_as (agreed_of agreement rs)) ≡ unchecked_as agreement rs
unfolding state_of unchecked_as standing
without_final_lem agreement rs z = without_as (state_of rs) (agreed_as (agreed_of agreement rs)) ∙ go (final_of rs) refl
  where
    go : (f : Option Result) → final_of rs ≡ f → together (agreed_as (agreed_of agreement rs)) (state_of rs).held (outcome_held (state_of rs)) ≡ unchecked_as agreement rs
    go (some r) e = let no : ◌≡◌ {A = std.Option HeldResult} (final_held (some r)) std.None = ap final_held (sym e) ∙ z in cc
    go none e =
        let held = any (λ r. holds_prepare r.prepare) rs in
        rw e (ap (together (agreed_as (agreed_of agreement rs)) held) (state_outcome rs) ∙ not_final (agreed_of agreement rs) held (merged_outcome rs) (merged_said rs))

from_as : (x : State) (a f : std.Option HeldResult) → x.final_result ≡ f → unchecked_from x a ≡ elim f [ std.Some r ↦ final_bytes r (outcome_held x) | std.None ↦ without_final x a ]
unfolding unchecked_from
from_as x a f e = rw (← e) refl

-- a final result as it is held, or what the agreed one says
pub unchecked_from_lem : (agreement : ℕ) (rs : List Row) → unchecked_from (state_of rs) (agreed_as (agreed_of agreement rs)) ≡ unchecked_as agreement rs
unchecked_from_lem agreement rs = go (state_of rs).final_result refl
  where
    go : (f : std.Option HeldResult) → (state_of rs).final_result ≡ f → unchecked_from (state_of rs) (agreed_as (agreed_of agreement rs)) ≡ unchecked_as agreement rs
    go (std.Some r) e = from_as _ _ _ e ∙ with_final agreement rs r e
    go std.None e = from_as _ _ _ e ∙ without_final_lem agreement rs e

-- ---- they can be stored, and are read as what they say

pub unchecked_codes : (agreement : ℕ) (rs : List Row) → ((r : Row) → r ∈ rs → row_by_rule r ≡ true) → ((unchecked_as agreement rs).prepare ≤ 8) × ((unchecked_as agreement rs).outcome ≤ 4) × (retry_by_code (unchecked_as agreement rs).prepare (unchecked_as agreement rs).retry ≡ true)
unfolding unchecked_as
unchecked_codes agreement rs good =
    let p = unchecked_prepare (standing agreement rs) (merged_outcome rs) in
    (prepare_code_limit p, outcome_code_limit (merged_outcome rs), retry_of_code p ∙ unchecked_retry rs good (standing agreement rs) (merged_outcome rs) (standing_says rs agreement))

pub unchecked_numbered : (agreement : ℕ) (rs : List Row) → (prepare_numbered (unchecked_as agreement rs).prepare (unchecked_as agreement rs).retry ≡ unchecked_prepare (standing agreement rs) (merged_outcome rs)) × (outcome_numbered (unchecked_as agreement rs).outcome ≡ merged_outcome rs)
unfolding unchecked_as
unchecked_numbered agreement rs = (prepare_read (unchecked_prepare (standing agreement rs) (merged_outcome rs)), outcome_read (merged_outcome rs))

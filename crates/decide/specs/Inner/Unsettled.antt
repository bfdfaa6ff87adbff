-- What a stamp's row holds before any check, as bytes.
use Rattle.std.specs.Prelude.{cond, List, ℕ, ◌+◌, eqb, Option, Some, None}
use Rattle.rules.specs.Tests.{both}
use Rattle.rules.specs.Tables.{Row, prepare_code, prepare_retry, outcome_code}
use Rattle.rules.specs.Merge.{standing, merged_outcome, unchecked_prepare}
use Rattle.gather.specs.declared.state.State.{State}
use Rattle.gather.specs.declared.results.HeldResult.{HeldResult}
use Rattle.gather.specs.Inner.State.{outcome_held}
use Rattle.decide.specs.declared.unchecked.Unchecked.{Unchecked}

-- "Agreed and not OK stays. Agreed OK with an outcome stays OK. Agreed OK without one is checked."
abbrev pub agreed_byte : ℕ → ℕ → ℕ
agreed_byte code outcome = cond (both (eqb code 1) (eqb outcome 0)) 0 (code + 4)

-- "Open with commit is OK, with abort ABORT, otherwise checked."
abbrev pub open_byte : ℕ → ℕ
open_byte outcome = cond (eqb outcome 0) 0 (cond (eqb outcome 3) 5 6)

-- a stamp of which no final result is held
unfoldable pub without_final : State → Option HeldResult → Unchecked
without_final x (Some a) = record {
  prepare = agreed_byte a.code (outcome_held x);
  retry = a.retry;
  outcome = outcome_held x;
}
without_final x None = record {
  prepare = cond x.held (open_byte (outcome_held x)) 0;
  retry = 0;
  outcome = outcome_held x;
}

-- any stamp: "a final result" stays
unfoldable pub unchecked_from : State → Option HeldResult → Unchecked
unchecked_from x a = elim x.final_result [
  | Some r ↦ record { prepare = r.code; retry = r.retry; outcome = outcome_held x }
  | None ↦ without_final x a
]

-- what `rules` has the row hold before any check
unfoldable pub unchecked_as : ℕ → List Row → Unchecked
unchecked_as agreement rs = record {
  prepare = prepare_code (unchecked_prepare (standing agreement rs) (merged_outcome rs));
  retry = prepare_retry (unchecked_prepare (standing agreement rs) (merged_outcome rs));
  outcome = outcome_code (merged_outcome rs);
}

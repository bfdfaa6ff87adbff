-- What the rows of one stamp hold together.
use Rattle.std.specs.Prelude.{Bool, true, false, cond, not, List, [], ◌∷◌, ℕ, eqb, ltb}
use Rattle.std.specs.Prelude as std
use Rattle.std.proofs.Math.Option.{Option, none, some}
use Rattle.rules.specs.Tests.{both, either, any, some_pair}
use Rattle.rules.specs.Tables.{Result, Prepare.final, Verdict.commit, Verdict.abort, Row, prepare_code, prepare_retry}
use Rattle.rules.specs.Merge.{holds_verdict, holds_prepare, final_of, unequal_finals}
use Rattle.rows.specs.declared.row.RowFields.{RowFields}
use Rattle.gather.specs.declared.results.HeldResult.{HeldResult}
use Rattle.gather.specs.declared.state.State.{State}

-- a final result as a row has it
abbrev pub final_held : Option Result → std.Option HeldResult
final_held none = std.None
final_held (some r) = std.Some (record { code = prepare_code (final r); retry = prepare_retry (final r) })

-- "a final result", "if any table holds one", "two unequal finals", "any commit or abort held"
unfoldable pub state_of : List Row → State
state_of rs = record {
  final_result = final_held (final_of rs);
  held = any (λ r. holds_prepare r.prepare) rs;
  unequal = some_pair (λ r q. unequal_finals r.prepare q.prepare) rs;
  commit = any (λ r. holds_verdict commit r.outcome) rs;
  abort = any (λ r. holds_verdict abort r.outcome) rs;
}

-- ---- row by row

-- a state with a prepare byte seen
abbrev pub saw_tentative : State → State
saw_tentative x = record { final_result = x.final_result; held = true; unequal = x.unequal; commit = x.commit; abort = x.abort }

-- one more final result: the first is kept, and another one is told
abbrev pub first_final : std.Option HeldResult → HeldResult → HeldResult
first_final std.None r = r
first_final (std.Some first) r = first

abbrev pub is_another : std.Option HeldResult → HeldResult → Bool
is_another std.None r = false
is_another (std.Some first) r = not (both (eqb first.code r.code) (eqb first.retry r.retry))

abbrev pub saw_final : HeldResult → State → State
saw_final r x = record { final_result = std.Some (first_final x.final_result r); held = x.held; unequal = either x.unequal (is_another x.final_result r); commit = x.commit; abort = x.abort }

-- "5 to 8 the same, final"
unfoldable pub saw_prepare : ℕ → ℕ → State → State
saw_prepare prepare retry x = cond (eqb prepare 0) x (cond (ltb prepare 5) (saw_tentative x) (saw_final (record { code = prepare; retry = retry }) (saw_tentative x)))

-- a state with an outcome byte seen
abbrev pub saw_commit : State → State
saw_commit x = record { final_result = x.final_result; held = x.held; unequal = x.unequal; commit = true; abort = x.abort }

abbrev pub saw_abort : State → State
saw_abort x = record { final_result = x.final_result; held = x.held; unequal = x.unequal; commit = x.commit; abort = true }

unfoldable pub saw_outcome : ℕ → State → State
saw_outcome outcome x = cond (eqb outcome 0) x (cond (either (eqb outcome 1) (eqb outcome 3)) (saw_commit x) (saw_abort x))

-- nothing seen
abbrev pub none_seen : State
none_seen = record { final_result = std.None; held = false; unequal = false; commit = false; abort = false }

-- rows seen one after the other, by their bytes
unfoldable pub saw_fields : State → List RowFields → State
saw_fields x [] = x
saw_fields x (f ∷ fs) = saw_fields (saw_outcome f.outcome (saw_prepare f.prepare f.retry x)) fs

-- ---- what is told by it

-- "two unequal finals or opposite outcomes"
abbrev pub contradicts : State → Bool
contradicts x = either x.unequal (both x.commit x.abort)

-- "any commit or abort held becomes done", as a byte
abbrev pub outcome_held : State → ℕ
outcome_held x = cond x.commit 3 (cond x.abort 4 0)

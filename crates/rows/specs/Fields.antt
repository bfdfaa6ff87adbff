-- 01, 'The table image: contents first, bodies after': the fields of a row as they stand in bytes, and what they mean.
use Rattle.std.specs.Prelude.{Bool, cond, List, ◌++◌, ℕ, ◌+◌, ◌-◌, eqb, leb, length}
use Rattle.wire.specs.Numbers.{bytes, number_at}
use Rattle.rules.specs.Tests.{either}
use Rattle.rules.specs.Stamps.{is_stamp}
use Rattle.rules.specs.Tables.{Result, Result.OK, Result.ABORT, Result.ABSTAIN, Result.RETRY, Prepare, Prepare.no_prepare, Prepare.tentative, Prepare.final, Verdict, Verdict.commit, Verdict.abort, Outcome, Outcome.no_outcome, Outcome.noted, Outcome.done, prepare_code, prepare_retry, outcome_code, Row}
use Rattle.rows.specs.declared.row.RowFields.{RowFields}

-- "Rows, 24 bytes each": what the widths below come to
abbrev pub row_length : ℕ
row_length = 24

-- "stamp 8, retry stamp 8, body offset 4, read count, write count, prepare byte, outcome byte"
unfoldable pub fields_at : List ℕ → ℕ → RowFields
fields_at s at = record {
  stamp = number_at s at 8;
  retry = number_at s (at + 8) 8;
  offset = number_at s (at + 16) 4;
  reads = number_at s (at + 20) 1;
  writes = number_at s (at + 21) 1;
  prepare = number_at s (at + 22) 1;
  outcome = number_at s (at + 23) 1;
}

-- the fields of a row whose body stands at offset
unfoldable pub fields_of : ℕ → Row → RowFields
fields_of offset r = record {
  stamp = r.stamp;
  retry = prepare_retry r.prepare;
  offset = offset;
  reads = length r.body.reads;
  writes = length r.body.writes;
  prepare = prepare_code r.prepare;
  outcome = outcome_code r.outcome;
}

-- "stamp 8, retry stamp 8, body offset 4, read count, write count, prepare byte, outcome byte", as bytes
unfoldable pub fields_bytes : RowFields → List ℕ
fields_bytes f =
    bytes 8 f.stamp
    ++ (bytes 8 f.retry
    ++ (bytes 4 f.offset ++ (bytes 1 f.reads ++ (bytes 1 f.writes ++ (bytes 1 f.prepare ++ bytes 1 f.outcome)))))

-- ---- codes

-- "1 to 4 .. OK, ABORT, ABSTAIN, RETRY"
unfoldable pub result_numbered : ℕ → ℕ → Result
result_numbered code retry = cond (eqb code 1) OK (cond (eqb code 2) ABORT (cond (eqb code 3) ABSTAIN (RETRY retry)))

-- "Prepare: 0 none; 1 to 4 tentative OK, ABORT, ABSTAIN, RETRY; 5 to 8 the same, final."
unfoldable pub prepare_numbered : ℕ → ℕ → Prepare
prepare_numbered code retry = cond (eqb code 0) no_prepare (cond (leb code 4) (tentative (result_numbered code retry)) (final (result_numbered (code - 4) retry)))

-- "1 commit or 2 abort"
unfoldable pub verdict_numbered : ℕ → Verdict
verdict_numbered code = cond (eqb code 1) commit abort

-- "Outcome: 0 none, 1 commit noted, 2 abort noted, 3 commit done, 4 abort done."
unfoldable pub outcome_numbered : ℕ → Outcome
outcome_numbered code = cond (eqb code 0) no_outcome (cond (leb code 2) (noted (verdict_numbered code)) (done (verdict_numbered (code - 2))))

-- "The retry stamp is a stamp for RETRY and 0 otherwise."
unfoldable pub retry_by_code : ℕ → ℕ → Bool
retry_by_code prepare retry = cond (either (eqb prepare 4) (eqb prepare 8)) (is_stamp retry) (eqb retry 0)

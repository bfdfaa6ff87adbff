-- A row's fields with its state changed.
use Rattle.std.specs.Prelude.{ℕ}
use Rattle.rows.specs.declared.row.RowFields.{RowFields}

-- of the same stamp, offset and counts
abbrev pub with_state : RowFields → ℕ → ℕ → ℕ → RowFields
with_state f retry prepare outcome = record {
  stamp = f.stamp;
  retry = retry;
  offset = f.offset;
  reads = f.reads;
  writes = f.writes;
  prepare = prepare;
  outcome = outcome;
}

-- the retry stamp goes with the prepare byte
abbrev pub with_prepare_byte : RowFields → ℕ → ℕ → RowFields
with_prepare_byte f prepare retry = with_state f retry prepare f.outcome

abbrev pub with_outcome_byte : RowFields → ℕ → RowFields
with_outcome_byte f outcome = with_state f f.retry f.prepare outcome

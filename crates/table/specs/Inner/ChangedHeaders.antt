-- A header with one thing changed.
use Rattle.std.specs.Prelude.{ℕ}
use Rattle.table.specs.declared.header.Header.{Header}

-- of the same format, n and start rows
abbrev pub changed_to : Header → ℕ → ℕ → ℕ → ℕ → ℕ → ℕ → Header
changed_to h box mode rows view promised length = record {
  format = h.format;
  boxnumber = box;
  n = h.n;
  mode = mode;
  rows = rows;
  view = view;
  promised = promised;
  start = h.start;
  length = length;
}

abbrev pub with_view : Header → ℕ → Header
with_view h view = changed_to h h.boxnumber h.mode h.rows view h.promised h.length

abbrev pub with_promised : Header → ℕ → Header
with_promised h promised = changed_to h h.boxnumber h.mode h.rows h.view promised h.length

abbrev pub with_mode : Header → ℕ → Header
with_mode h mode = changed_to h h.boxnumber mode h.rows h.view h.promised h.length

-- the total length goes with the rows
abbrev pub with_rows : Header → ℕ → ℕ → Header
with_rows h rows length = changed_to h h.boxnumber h.mode rows h.view h.promised length

abbrev pub with_box : Header → ℕ → Header
with_box h box = changed_to h box h.mode h.rows h.view h.promised h.length

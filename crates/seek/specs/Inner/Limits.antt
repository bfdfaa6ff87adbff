-- How many rows a kind of box holds.
use Rattle.std.specs.Prelude.{ℕ, ◌+◌, ◌*◌}
use Rattle.rules.specs.Tables.{Model}
use Rattle.table.specs.Headers.{header_length}

-- a row with the greatest body, which has eight accesses of 9 bytes
abbrev pub greatest_row : ℕ
greatest_row = 96

-- a kind of box by how many rows it holds
abbrev pub limited : ℕ → Model
limited limit = record { row_limit = limit; least_buffer = header_length + greatest_row * limit }

-- 01, 'The table image: contents first, bodies after': the header, as numbers and as bytes.
use Rattle.std.specs.Prelude.{List, ◌++◌, ℕ}
use Rattle.wire.specs.Numbers.{bytes, number_at}
use Rattle.table.specs.declared.header.Header.{Header}

-- "format 1; box; n; mode (0 normal, 1 changing)"
unfoldable pub single_bytes : Header → List ℕ
single_bytes h = bytes 1 h.format ++ (bytes 1 h.boxnumber ++ (bytes 1 h.n ++ bytes 1 h.mode))

-- "then 4 bytes each: rows, view (last normal), promised view, rows when this view began, total length"
unfoldable pub four_byte_fields : Header → List ℕ
four_byte_fields h = bytes 4 h.rows ++ (bytes 4 h.view ++ (bytes 4 h.promised ++ (bytes 4 h.start ++ bytes 4 h.length)))

-- "Header, 24 bytes"
abbrev pub header_length : ℕ
header_length = 24

unfoldable pub header_bytes : Header → List ℕ
header_bytes h = single_bytes h ++ four_byte_fields h

-- the header that bytes begin with, whatever they are
unfoldable pub header_at : List ℕ → Header
header_at s = record {
  format = number_at s 0 1;
  boxnumber = number_at s 1 1;
  n = number_at s 2 1;
  mode = number_at s 3 1;
  rows = number_at s 4 4;
  view = number_at s 8 4;
  promised = number_at s 12 4;
  start = number_at s 16 4;
  length = number_at s 20 4;
}

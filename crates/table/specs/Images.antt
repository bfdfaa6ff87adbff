-- 01, 'The table image: contents first, bodies after': the bytes of a table, for any numbers that its header may have.
use Rattle.std.specs.Prelude.{List, [], ◌++◌, ℕ, ◌+◌, ◌*◌, length}
use Rattle.rules.specs.Tables.{Row, Table}
use Rattle.rows.specs.Bytes.{bodies_bytes, bodies_length, rows_bytes}
use Rattle.rows.specs.Fields.{row_length}
use Rattle.table.specs.declared.header.Header.{Header}
use Rattle.table.specs.Headers.{header_length, header_bytes}

-- what an image has before its rows: the format in its header, where the rows begin, and what stands between the header and them
pub record Form : Type 0 where
  pub format : ℕ
  pub begin : ℕ
  pub stored : List Row → List ℕ

-- "format 1": nothing stands between, and the rows begin after "Header, 24 bytes"
abbrev pub format_one : Form
format_one = record { format = 1; begin = header_length; stored = λ rows. [] }

-- where the bodies begin
abbrev pub bodies_at : Form → List Row → ℕ
bodies_at F rows = F.begin + row_length * length rows

-- "total length"
abbrev pub image_length : Form → Table → ℕ
image_length F T = bodies_at F T.rows + bodies_length T.rows

abbrev pub header_of : Form → Table → Header
header_of F T = record {
  format = F.format;
  boxnumber = T.box;
  n = T.n;
  mode = T.mode;
  rows = length T.rows;
  view = T.view;
  promised = T.promised;
  start = T.start;
  length = image_length F T;
}

-- contents first, bodies after; "offsets count from the image's start"
unfoldable pub image : Form → Table → List ℕ
image F T = header_bytes (header_of F T) ++ (F.stored T.rows ++ (rows_bytes (bodies_at F T.rows) T.rows ++ bodies_bytes T.rows))

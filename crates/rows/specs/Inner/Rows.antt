-- Rows in lent bytes: where they and their bodies lie, and when they are by the rules.
use Rattle.std.specs.Prelude.{Bool, List, ◌++◌, ℕ, ◌+◌, ◌*◌, ◌≤◌, ◌<◌, eqb, ltb, leb, length, drop}
use Rattle.wire.specs.Parts.{part}
use Rattle.rules.specs.Tests.{both, every}
use Rattle.rules.specs.Stamps.{contents_by_rule}
use Rattle.rules.specs.Tables.{rising, row_by_rule}
use Rattle.rows.specs.declared.row.RowFields.{RowFields}
use Rattle.rows.specs.Bytes.{body_length, rows_bytes, bodies_bytes, bodies_length}
use Rattle.rows.specs.Fields.{row_length, fields_at}
use Rattle.rows.specs.Inner.FieldTests.{fields_by_rule}
use Rattle.rows.specs.Read.{body_at, rows_at, begins}

abbrev pub size_of : RowFields → ℕ
size_of f = body_length f.reads f.writes

-- "The body of a row is handed out as the part of the lent table where it lies."
unfoldable pub body_part : List ℕ → RowFields → List ℕ
body_part s f = part s f.offset (size_of f)

abbrev pub BodyInside : List ℕ → RowFields → Type 0
BodyInside s f = f.offset + size_of f ≤ length s

-- n rows from begin lie inside, each with its body; of an image more is asked than that
abbrev pub RowsInside : List ℕ → ℕ → ℕ → Type 0
RowsInside s begin n = (begin + row_length * n ≤ length s) × ((i : ℕ) → i < n → BodyInside s (fields_at s (begin + row_length * i)))

-- ---- one row, tested where it stands

-- "without gaps": its body begins where the one before ended; "stamps strictly rising"
unfoldable pub place_by_rule : RowFields → ℕ → ℕ → Bool
place_by_rule f last due = both (eqb f.offset due) (ltb last f.stamp)

-- the body ends by end, and is one by the rules
unfoldable pub body_by_rule_at : List ℕ → RowFields → ℕ → Bool
body_by_rule_at s f end = both (leb (f.offset + size_of f) end) (contents_by_rule f.stamp (body_at s f.offset f.reads f.writes))

unfoldable pub row_by_rule_at : List ℕ → RowFields → ℕ → ℕ → ℕ → Bool
row_by_rule_at s f last due end = both (both (fields_by_rule f) (place_by_rule f last due)) (body_by_rule_at s f end)

-- ---- all rows

-- n rows by the rules stand from begin on, with their bodies behind them up to end
unfoldable pub rows_by_rule_at : List ℕ → ℕ → ℕ → ℕ → Bool
rows_by_rule_at s begin n end =
    let rows = rows_at s begin n in
    let bodies = begin + row_length * n in
    both (both (rising 0 rows) (every row_by_rule rows))
    (both (begins (drop begin s) (rows_bytes bodies rows ++ bodies_bytes rows)) (eqb (bodies + bodies_length rows) end))

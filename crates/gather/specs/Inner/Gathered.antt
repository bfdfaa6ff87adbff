-- The rows of one stamp, gathered from the tables of a run.
use Rattle.std.specs.Prelude.{◌≡◌, List, [], ◌∷◌, ℕ, zero, suc, ◌+◌, get_or, drop}
use Rattle.rules.specs.Tables.{Row, Table, valley}
use Rattle.rules.specs.Merge.{rows_of}
use Rattle.rows.specs.declared.row.RowFields.{RowFields}
use Rattle.table.specs.Images.{format_one, image_length}
use Rattle.image_run.specs.Inner.WholeRuns.{tables_of}
use Rattle.gather.specs.declared.held.Gathered.{Gathered}
use Rattle.gather.specs.Inner.UsedTables.{used_of, place_in, no_fields, fields_for}
use Rattle.gather.specs.Inner.Cursors.{padded, cursors_after}

-- the fields of a stamp's row in each of the tables whose images these bytes hold; zeros where there is none
unfoldable pub fields_in : ℕ → ℕ → List Table → List ℕ → List RowFields
fields_in newest stamp [] s = []
fields_in newest stamp (T ∷ Ts) s = fields_for s (place_in newest T stamp) ∷ fields_in newest stamp Ts (drop (image_length format_one T) s)

-- all of them, with the cursors behind that stamp
abbrev pub gathered_at : ℕ → ℕ → List Table → List ℕ → Gathered
gathered_at newest stamp Ts s = record { rows = padded 4 no_fields (fields_in newest stamp Ts s); cursors = cursors_after newest stamp Ts }

-- what was gathered from the tables of a run
abbrev pub GatheredFrom : List ℕ → Gathered → Type 0
GatheredFrom run g = g ≡ gathered_at g.cursors.newest g.cursors.last (tables_of valley run) run

-- the rows that it is of
abbrev pub rows_in : List ℕ → Gathered → List Row
rows_in run g = rows_of (used_of g.cursors.newest (tables_of valley run)) g.cursors.last

-- so many of the places where they stand, from one on
unfoldable pub fields_from : List RowFields → ℕ → ℕ → List RowFields
fields_from rows k zero = []
fields_from rows k (suc n) = get_or rows k no_fields ∷ fields_from rows (k + 1) n

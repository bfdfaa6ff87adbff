-- What is changed of a table, in the words of `rules` where 01 has a word for it.
use Rattle.std.specs.Prelude.{◌≡◌, true, List, [], ◌∷◌, ℕ, zero, suc, ◌≤◌}
use Rattle.rules.specs.Stamps.{counts_by_rule}
use Rattle.rules.specs.Tables.{Row, Table}
use Rattle.rules.specs.Messages.{added, with_rows, keeping_box}
use Rattle.rows.specs.declared.row.RowFields.{RowFields}
use Rattle.rows.specs.Fields.{retry_by_code}

-- ---- the header

-- "mode (0 normal, 1 changing)", "view (last normal), promised view"
abbrev pub with_views : ℕ → ℕ → ℕ → Table → Table
with_views mode view promised T = record { box = T.box; n = T.n; mode = mode; view = view; promised = promised; start = T.start; rows = T.rows }

-- ---- rows

-- the row at an index changed
unfoldable pub at_index : ℕ → (Row → Row) → List Row → List Row
at_index i change [] = []
at_index zero change (r ∷ rs) = change r ∷ rs
at_index (suc i) change (r ∷ rs) = r ∷ at_index i change rs

abbrev pub on_row : ℕ → (Row → Row) → Table → Table
on_row i change T = with_rows T (at_index i change T.rows)

-- what a row can be stored with: counts of a body, and codes with their retry stamp. That it holds one of the two is not asked
abbrev pub Storable : RowFields → Type 0
Storable f = (counts_by_rule f.reads f.writes ≡ true) × (f.prepare ≤ 8) × (f.outcome ≤ 4) × (retry_by_code f.prepare f.retry ≡ true)

-- "adding a row", in its place by its stamp
abbrev pub adding : Row → Table → Table
adding r T = with_rows T (added r T.rows)

-- ---- another image

-- "The box takes it whole, keeping its own box number."
abbrev pub taking : Table → Table → Table
taking I T = keeping_box I T.box

-- Which tables of a run are used, and where they hold a stamp.
use Rattle.std.specs.Prelude.{Bool, true, false, cond, List, [], ◌∷◌, ℕ, ◌+◌, ◌*◌, eqb, drop}
use Rattle.rules.specs.Tests.{both, those}
use Rattle.rules.specs.Stamps.{Body}
use Rattle.rules.specs.Tables.{Table}
use Rattle.rules.specs.Circumstances.{held_with_other_body}
use Rattle.rows.specs.declared.row.RowFields.{RowFields}
use Rattle.rows.specs.declared.lookup.Place.{Place}
use Rattle.rows.specs.declared.lookup.Place.TheVariants.{Held, Absent}
use Rattle.rows.specs.Fields.{row_length, fields_at}
use Rattle.rows.specs.Inner.Places.{place_of}
use Rattle.table.specs.Images.{format_one, image_length}
use Rattle.table.specs.Headers.{header_length}

-- "only those of the greatest last normal view are used": those of a view
abbrev pub used_of : ℕ → List Table → List Table
used_of newest Ts = those (λ T. eqb T.view newest) Ts

-- where a table holds a stamp; one that is not used holds it nowhere
abbrev pub place_in : ℕ → Table → ℕ → Place
place_in newest T s = cond (eqb T.view newest) (place_of T.rows s) (Absent 0)

abbrev pub is_held : Place → Bool
is_held (Held i) = true
is_held (Absent i) = false

-- fields that hold nothing
abbrev pub no_fields : RowFields
no_fields = record { stamp = 0; retry = 0; offset = 0; reads = 0; writes = 0; prepare = 0; outcome = 0 }

-- the fields of the row that a look-up found, in an image of format 1
abbrev pub fields_for : List ℕ → Place → RowFields
fields_for s (Held i) = fields_at s (header_length + row_length * i)
fields_for s (Absent i) = no_fields

-- the bytes of a run of these tables, from the first image on whose table is used and holds a stamp
unfoldable pub from_first : ℕ → ℕ → List Table → List ℕ → List ℕ
from_first newest stamp [] s = s
from_first newest stamp (T ∷ Ts) s = let later = from_first newest stamp Ts (drop (image_length format_one T) s) in cond (is_held (place_in newest T stamp)) s later

-- a table is used and holds a stamp with another body
abbrev pub other_in : ℕ → ℕ → Body → Table → Bool
other_in newest stamp x T = both (eqb T.view newest) (held_with_other_body T stamp x)

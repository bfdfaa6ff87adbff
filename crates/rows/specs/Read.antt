-- What stands at a place, whatever the bytes are.
use Rattle.std.specs.Prelude.{Bool, true, false, List, [], ◌∷◌, ℕ, zero, suc, ◌+◌, ◌*◌, eqb}
use Rattle.wire.specs.Numbers.{number_at}
use Rattle.rules.specs.Tests.{both}
use Rattle.rules.specs.Stamps.{Access, Body}
use Rattle.rules.specs.Tables.{Row}
use Rattle.rows.specs.declared.row.RowFields.{RowFields}
use Rattle.rows.specs.declared.body.Access as declared
use Rattle.rows.specs.Fields.{row_length, fields_at, prepare_numbered, outcome_numbered}

-- an access as the code has it
unfoldable pub access_at : List ℕ → ℕ → declared.Access
access_at s at = record { register = number_at s at 1; number = number_at s (at + 1) 8 }

abbrev pub access_of : declared.Access → Access
access_of a = record { register = a.register; number = a.number }

unfoldable pub accesses_at : List ℕ → ℕ → ℕ → List Access
accesses_at s at zero = []
accesses_at s at (suc n) = access_of (access_at s at) ∷ accesses_at s (at + 9) n

unfoldable pub body_at : List ℕ → ℕ → ℕ → ℕ → Body
body_at s at reads writes = record { reads = accesses_at s at reads; writes = accesses_at s (at + 9 * reads) writes }

-- a row by its fields, with its body where its offset says
unfoldable pub row_of : List ℕ → RowFields → Row
row_of s f = record {
  stamp = f.stamp;
  body = body_at s f.offset f.reads f.writes;
  prepare = prepare_numbered f.prepare f.retry;
  outcome = outcome_numbered f.outcome;
}

unfoldable pub rows_at : List ℕ → ℕ → ℕ → List Row
rows_at s at zero = []
rows_at s at (suc n) = row_of s (fields_at s at) ∷ rows_at s (at + row_length) n

-- bytes begin with these
unfoldable pub begins : List ℕ → List ℕ → Bool
begins s [] = true
begins [] (b ∷ bs) = false
begins (x ∷ s) (b ∷ bs) = both (eqb x b) (begins s bs)

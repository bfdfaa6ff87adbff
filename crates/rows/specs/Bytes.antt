-- 01, 'The table image: contents first, bodies after': the bytes of rows and of bodies.
use Rattle.std.specs.Prelude.{List, [], ◌∷◌, ◌++◌, ℕ, ◌+◌, ◌*◌, length}
use Rattle.wire.specs.Numbers.{bytes}
use Rattle.rules.specs.Stamps.{Access, Body}
use Rattle.rules.specs.Tables.{Row}
use Rattle.rows.specs.Fields.{fields_of, fields_bytes}

-- ---- bodies

-- 'Stamps and bodies': "each is 9 bytes: register (0 to 63), then for a read the version seen .., for a write any 8-byte value"
unfoldable pub accesses_bytes : List Access → List ℕ
accesses_bytes [] = []
accesses_bytes (a ∷ more) = bytes 1 a.register ++ (bytes 8 a.number ++ accesses_bytes more)

-- "A body is 0 to 4 reads, then 0 to 4 writes"
unfoldable pub body_bytes : Body → List ℕ
body_bytes x = accesses_bytes x.reads ++ accesses_bytes x.writes

-- "each is 9 bytes": how many a body with these counts has
abbrev pub body_length : ℕ → ℕ → ℕ
body_length reads writes = 9 * (reads + writes)

abbrev pub length_of : Body → ℕ
length_of x = body_length (length x.reads) (length x.writes)

-- "Bodies follow in row order without gaps"
unfoldable pub bodies_bytes : List Row → List ℕ
bodies_bytes [] = []
bodies_bytes (r ∷ rs) = body_bytes r.body ++ bodies_bytes rs

-- how many bytes the bodies take together
unfoldable pub bodies_length : List Row → ℕ
bodies_length [] = 0
bodies_length (r ∷ rs) = length_of r.body + bodies_length rs

-- ---- rows

-- "Rows, 24 bytes each, .. : stamp 8, retry stamp 8, body offset 4, read count, write count, prepare byte, outcome byte."
unfoldable pub row_bytes : ℕ → Row → List ℕ
row_bytes offset r = fields_bytes (fields_of offset r)

-- rows whose bodies stand one after the other from offset on
unfoldable pub rows_bytes : ℕ → List Row → List ℕ
rows_bytes offset [] = []
rows_bytes offset (r ∷ rs) = row_bytes offset r ++ rows_bytes (offset + length_of r.body) rs

-- What the functions under the changes write, part by part.
use Rattle.std.specs.Prelude.{cond, List, ◌++◌, ℕ, zero, suc, ◌+◌, ◌-◌, ◌*◌, ltb}
use Rattle.wire.specs.Parts.{part, replaced}
use Rattle.wire.specs.Numbers.{bytes}
use Rattle.rows.specs.Fields.{row_length, fields_at}
use Rattle.rows.specs.Inner.Rows.{size_of}

-- ---- a row and a body put in between

-- the row at `at`, then what stood from there to `middle`, then the body, then what stood from `middle` to `end`
unfoldable pub slipped : List ℕ → ℕ → ℕ → ℕ → List ℕ → List ℕ → List ℕ
slipped s at middle end row body = replaced s at (row ++ (part s at (middle - at) ++ (body ++ part s middle (end - middle))))

-- n rows from `at` with their offsets laid anew by their counts, the first body at `due`: "Bodies follow in row order without gaps"
unfoldable pub laid : List ℕ → ℕ → ℕ → ℕ → List ℕ
laid s at zero due = s
laid s at (suc n) due = laid (replaced s (at + 16) (bytes 4 due)) (at + row_length) n (due + size_of (fields_at s at))

-- where the body of a row that comes to an index goes
unfoldable pub body_place : List ℕ → ℕ → ℕ → ℕ → ℕ → ℕ
body_place s begin rows index end = cond (ltb index rows) (fields_at s (begin + row_length * index)).offset end

-- a row and a body put in between, of rows that begin there and whose bodies end at `end`, and all offsets laid anew
unfoldable pub placed : List ℕ → ℕ → ℕ → ℕ → ℕ → List ℕ → List ℕ → List ℕ
placed s begin rows end index row body =
    let filled = slipped s (begin + row_length * index) (body_place s begin rows index end) end row body in
    laid filled begin (rows + 1) (begin + row_length * (rows + 1))

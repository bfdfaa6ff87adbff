-- What is written of a merge before any check.
use Rattle.std.specs.Prelude.{◌≡◌, List, ℕ, ◌+◌, ◌*◌, ◌%◌, ◌<◌, length, get_or}
use Rattle.wire.specs.Parts.{replaced}
use Rattle.rules.specs.Tests.{is_some}
use Rattle.rules.specs.Tables.{Row, Table, normal_mode}
use Rattle.rules.specs.Merge.{rows_of, stamps, agreed_of}
use Rattle.rows.specs.Bytes.{body_bytes, bodies_bytes, row_bytes, rows_bytes}
use Rattle.rows.specs.Fields.{row_length}
use Rattle.table.specs.Headers.{header_length}
use Rattle.settle.specs.Inner.Marks.{is_marked}
use Rattle.table.specs.declared.header.Header.{Header}

-- rows from where an image's rows begin, with their bodies from `base` on: contents first, bodies after
unfoldable pub laid_down : List ℕ → ℕ → List Row → List ℕ
laid_down out base rows = replaced (replaced out header_length (rows_bytes base rows)) base (bodies_bytes rows)

-- one of them at its index, with its body where it is due
abbrev pub row_laid : List ℕ → ℕ → ℕ → Row → List ℕ
row_laid out index due r = replaced (replaced out (header_length + row_length * index) (row_bytes due r)) due (body_bytes r.body)

-- a mark for each stamp of the tables, in their order: whether its result is "agreed"
abbrev pub MarkAgreed : List ℕ → ℕ → List Table → Type 0
MarkAgreed marks agreement Ts = (i : ℕ) → i < length (stamps Ts) → is_marked marks i ≡ is_some (agreed_of agreement (rows_of Ts (get_or (stamps Ts) i 0)))

-- "The image is normal, view v, box v mod n, start rows equal to rows.": the header of a table that starts view v in a group of n, by how many rows it has and how long its image is
abbrev pub start_header : ℕ → ℕ → ℕ → ℕ → Header
start_header n v rows length = record { format = 1; boxnumber = v % n; n = n; mode = normal_mode; rows = rows; view = v; promised = v; start = rows; length = length }

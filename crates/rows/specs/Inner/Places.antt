-- Where a stamp stands among rows.
use Rattle.std.specs.Prelude.{Bool, true, false, List, [], ℕ, ◌+◌, ◌*◌, ◌≤◌, ltb, length}
use Rattle.std.proofs.Math.Option.{Option, none, some}
use Rattle.rules.specs.Tests.{is_some, count}
use Rattle.rules.specs.Tables.{Row}
use Rattle.rules.specs.Messages.{held}
use Rattle.rows.specs.declared.lookup.Place.{Place}
use Rattle.rows.specs.declared.lookup.Place.TheVariants.{Held, Absent}
use Rattle.rows.specs.Bytes.{body_bytes}
use Rattle.rows.specs.Fields.{row_length, fields_at}
use Rattle.rows.specs.Inner.Rows.{BodyInside, body_part}

-- the rows with a lower stamp: as many as stand before it
unfoldable pub lower : List Row → ℕ → ℕ
lower rows s = count (λ r. ltb r.stamp s) rows

abbrev pub held_or_not : Bool → ℕ → Place
held_or_not true row = Held row
held_or_not false row = Absent row

-- the index of the stamp's row, or the one that its row would have
unfoldable pub place_of : List Row → ℕ → Place
place_of rows s = held_or_not (is_some (held rows s)) (lower rows s)

-- the body of the stamp's row as it stands in the image, or nothing
abbrev pub held_body : Option Row → List ℕ
held_body none = []
held_body (some r) = body_bytes r.body

-- ---- the row that a look-up found, in the image

-- it lies inside, and so does its body
abbrev pub FoundInside : List ℕ → ℕ → Place → Type 0
FoundInside s begin (Held i) = (begin + row_length * i + row_length ≤ length s) × BodyInside s (fields_at s (begin + row_length * i))
FoundInside s begin (Absent i) = Unit {0}

-- "handed out as the part of the lent table where it lies": its body, or nothing
abbrev pub body_found : List ℕ → ℕ → Place → List ℕ
body_found s begin (Held i) = body_part s (fields_at s (begin + row_length * i))
body_found s begin (Absent i) = []

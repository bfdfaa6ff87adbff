-- What a message finds in the table: the row that it is about, or a reason to refuse it.
use Rattle.std.specs.Prelude.{Bool, false, not, cond, List, ℕ, ◌+◌, ◌*◌, ◌≤◌, eqb, length, Result, Ok, Err}
use Rattle.numbers.specs.declared.Refusal.{Refusal}
use Rattle.numbers.specs.declared.Refusal.TheVariants.{Changing, OtherBody, Full, Unknown, OtherView}
use Rattle.rules.specs.Tests.{both}
use Rattle.rules.specs.Stamps.{Body}
use Rattle.rules.specs.Tables.{Model, Table, changing_mode}
use Rattle.rules.specs.Circumstances.{keeps_room, is_changing, held_with_other_body, new_but_full, for_other_view}
use Rattle.rows.specs.declared.row.RowFields.{RowFields}
use Rattle.rows.specs.Fields.{row_length, fields_at}
use Rattle.rows.specs.Inner.Rows.{BodyInside, body_part}
use Rattle.rows.specs.declared.lookup.Place.{Place}
use Rattle.rows.specs.declared.lookup.Place.TheVariants.{Held, Absent}
use Rattle.rows.specs.Inner.Places.{place_of, FoundInside, body_found}
use Rattle.table.specs.declared.header.Header.{Header}
use Rattle.table.specs.Headers.{header_length}

-- ---- messages 2 and 4

-- 8, "unknown", if the table has no row of the stamp
abbrev pub row_or_unknown : Place → Result ℕ Refusal
row_or_unknown (Held i) = Ok i
row_or_unknown (Absent i) = Err Unknown

-- what a header says of them before any row is sought: 4, "changing", and 9, "other view"
abbrev pub in_view : Header → ℕ → Result (Unit {0}) Refusal
in_view h v = cond (eqb h.mode changing_mode) (Err Changing) (cond (not (eqb v h.view)) (Err OtherView) (Ok tt))

-- both come before the row
unfoldable pub to_finalise : Table → ℕ → ℕ → Result ℕ Refusal
to_finalise T s v = cond (is_changing T) (Err Changing) (cond (for_other_view T v) (Err OtherView) (row_or_unknown (place_of T.rows s)))

-- ---- messages 1 and 3

-- of a stamp that is not held: whether there is room for its row
abbrev pub new_or_full : Bool → Place → Result Place Refusal
new_or_full room (Held i) = Err Full
new_or_full room (Absent i) = cond room (Ok (Absent i)) (Err Full)

-- the row that is held, or the place of a new one; 4, "changing"; 5, "other body"; 7, "full"
unfoldable pub to_propose : Model → Table → ℕ → Body → Result Place Refusal
to_propose M T s x =
    cond (is_changing T) (Err Changing)
    (cond (held_with_other_body T s x) (Err OtherBody) (cond (new_but_full M keeps_room T s) (Err Full) (Ok (place_of T.rows s))))

-- ---- the body of either

-- the row that a look-up found lies inside
abbrev pub RowInside : List ℕ → Place → Type 0
RowInside s (Held i) = header_length + row_length * i + row_length ≤ length s
RowInside s (Absent i) = Unit {0}

-- "A body needed for an answer is read from the table if the stamp is known, else from the message."
abbrev pub needed_body : List ℕ → List ℕ → RowFields → Place → List ℕ
needed_body s m given (Held i) = body_found s header_length (Held i)
needed_body s m given (Absent i) = body_part m given

abbrev pub NeededInside : List ℕ → List ℕ → RowFields → Place → Type 0
NeededInside s m given (Held i) = FoundInside s header_length (Held i)
NeededInside s m given (Absent i) = BodyInside m given

-- the counts of a held row are not those of the message
abbrev pub other_counts : List ℕ → RowFields → Place → Bool
other_counts s given (Held i) = not (both (eqb (fields_at s (header_length + row_length * i)).reads given.reads) (eqb (fields_at s (header_length + row_length * i)).writes given.writes))
other_counts s given (Absent i) = false

-- The first used image that holds a stamp: its row, and whether another one has another body.
use mathlib.Core.Path.{◌≡◌, refl, sym, ap, ◌∙◌}
use mathlib.Core.Bool.{not}
use mathlib.Core.List.{List, ◌∷◌}
use Prim.Native.Nat.{ℕ, ◌+◌, ◌*◌}
use Rattle.rules.specs.Tests.{any}
use Rattle.rules.specs.Stamps.{Body, same_body}
use Rattle.rules.specs.Tables.{Row, Table, valley}
use Rattle.rules.specs.Merge.{rows_of, two_bodies}
use Rattle.rules.proofs.Rows.{held_from_lem}
use Rattle.rows.specs.declared.row.RowFields.{RowFields}
use Rattle.rows.specs.Fields.{fields_at}
use Rattle.rows.specs.Read.{body_at, row_of}
use Rattle.rows.specs.Inner.Rows.{BodyInside}
use Rattle.table.specs.Images.{format_one}
use Rattle.table.specs.Parse.{table_at, BeginsWithImage}
use Rattle.seek.proofs.HeldRows.{held_here}
use Rattle.gather.specs.Inner.UsedTables.{used_of, place_in, fields_for, other_in}
use Rattle.gather.proofs.UsedRows.{FirstHeld}
use Rattle.gather.proofs.BodiesSeen.{others_rows, first_other}
use Rattle.gather.proofs.OneTable.{body_there}

other_than_first : (first : List ℕ) (f : RowFields) (others : List Row) → two_bodies (row_of first f ∷ others) ≡ any (λ q. not (same_body (body_at first f.offset f.reads f.writes) q.body)) (row_of first f ∷ others)
unfolding row_of
other_than_first first f others = first_other (row_of first f) others

-- `first` is that image, and f are the fields that were read there
module _ (newest stamp : ℕ) (Ts : List Table) (s t : List ℕ) (held : FirstHeld newest stamp Ts s t) (first : List ℕ) (same : first ≡ t) where
  pub first_begins : BeginsWithImage valley first
  first_begins = rw same held.has_image

  module _ (f : RowFields) (told : f ≡ fields_for first (place_in newest (table_at format_one first) stamp)) where
    pub first_fields : f ≡ fields_at t (24 + 24 * held.i)
    first_fields = told ∙ rw (same, held.place) refl

    pub first_body : BodyInside first f
    first_body = rw (first_fields, same) (body_there t newest stamp held.i held.bytes held.has_image held.place)

    pub first_stamp : f.stamp ≡ stamp
    unfolding row_of
    first_stamp = ap (λ (x : RowFields). x.stamp) first_fields ∙ (held_from_lem (table_at format_one t).rows stamp _ (held_here valley t stamp held.i held.bytes held.has_image held.index)).1

    -- the first of the stamp's rows, as it is read there
    pub first_row : rows_of (used_of newest Ts) stamp ≡ row_of first f ∷ held.others
    first_row = rw (same, first_fields) held.rows

    pub two_told : any (other_in newest stamp (body_at first f.offset f.reads f.writes)) Ts ≡ two_bodies (rows_of (used_of newest Ts) stamp)
    two_told =
        let x : Body = body_at first f.offset f.reads f.writes in
        let b : any (λ q. not (same_body x q.body)) (rows_of (used_of newest Ts) stamp) ≡ two_bodies (rows_of (used_of newest Ts) stamp) = rw first_row (sym (other_than_first first f held.others)) in
        others_rows newest stamp x Ts ∙ b

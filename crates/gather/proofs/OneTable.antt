-- One lent table of a run, by the header h that was read from it.
use mathlib.Core.Path.{◌≡◌, refl, sym, ap, ◌∙◌}
use mathlib.Core.Bool.{true, false}
use mathlib.Core.List.{List}
use Prim.Native.Nat.{ℕ, ◌+◌, ◌*◌, ◌≤◌, ◌<◌, ◌^◌}
use native.Mathlib.Omega.{arith}
use lib.Dec.{eqb}
use lib.ListN.{length}
use borrow.Author.Tests.{eq-eqb, ne_eqb}
use Rattle.std.specs.Prelude.{Some, None}
use Rattle.wire.specs.Inner.ByteLists.{AllBytes}
use Rattle.rules.specs.Tables.{valley, rising}
use Rattle.rules.proofs.Merge.{stamps_of}
use Rattle.rows.specs.declared.lookup.Place.{Place}
use Rattle.rows.specs.declared.lookup.Place.TheVariants.{Held, Absent}
use Rattle.rows.specs.Fields.{fields_at}
use Rattle.rows.specs.Inner.Places.{lower, place_of}
use Rattle.rows.specs.Read.{rows_at}
use Rattle.rows.specs.Inner.Rows.{BodyInside}
use Rattle.rows.proofs.Sought.{not_absent}
use Rattle.table.specs.declared.header.Header.{Header}
use Rattle.table.specs.Headers.{header_at}
use Rattle.table.specs.Images.{format_one}
use Rattle.table.specs.Parse.{table_at, BeginsWithImage}
use Rattle.table.proofs.Images.{valley_sound}
use Rattle.edit.proofs.Holding.{one_starts, holds_least, holds_rows_at, holds_row_inside, holds_rows}
use Rattle.seek.proofs.HeldRows.{image_holds, image_regular, index_here}
use Rattle.seek.proofs.SoughtRows.{can_be_sought, rows_inside}
use Rattle.gather.specs.Inner.UsedTables.{place_in, no_fields, fields_for}
use Rattle.gather.specs.Inner.Cursors.{cursor_in}
use Rattle.gather.specs.Inner.Stamps.{next_after, stamp_above, stamp_or_none}
use Rattle.gather.proofs.UsedRows.{place_not, place_too}
use Rattle.gather.proofs.NextStamps.{Above, stamp_is, no_stamp_is, stamped_at}
use Rattle.gather.proofs.Cursors.{above_lower, under_held, under_not, cursor_most}

pub header_inside : (s : List ℕ) → BeginsWithImage valley s → 24 ≤ length s
header_inside s has_image = holds_least format_one s one_starts (image_holds valley s has_image)

module _ (s : List ℕ) (h : Header) (told : h ≡ header_at s) (newest : ℕ) where
  pub other_view_lem : (h.view ≡ newest → ⊥) → eqb (table_at format_one s).view newest ≡ false
  unfolding table_at
  other_view_lem d = ne_eqb _ _ (λ e. d (ap (λ (x : Header). x.view) told ∙ e))

  pub this_view : h.view ≡ newest → eqb (table_at format_one s).view newest ≡ true
  unfolding table_at
  this_view e = eq-eqb _ _ (sym (ap (λ (x : Header). x.view) told) ∙ e)

  pub sought_in : BeginsWithImage valley s → (24 + 24 * h.rows ≤ length s) × (rising 0 (rows_at s 24 h.rows) ≡ true)
  sought_in has_image = rw told (can_be_sought valley s valley_sound has_image)

  -- the rows are the table's
  pub rows_told : rows_at s 24 h.rows ≡ (table_at format_one s).rows
  rows_told = rw told (sym (holds_rows_at format_one s))

  pub place_elsewhere : (stamp : ℕ) → (h.view ≡ newest → ⊥) → Absent 0 ≡ place_in newest (table_at format_one s) stamp
  place_elsewhere stamp d = sym (place_not newest stamp (table_at format_one s) (other_view_lem d))

  -- what stands above a stamp in a table of another view, as a number
  pub number_elsewhere : (last : ℕ) → (h.view ≡ newest → ⊥) → 2 ^ 48 ≡ stamp_above newest (table_at format_one s) last
  number_elsewhere last d = rw (other_view_lem d) refl

  pub above_elsewhere : (last : ℕ) → (h.view ≡ newest → ⊥) → None ≡ stamp_or_none (stamp_above newest (table_at format_one s) last)
  above_elsewhere last d = rw (other_view_lem d) refl

  -- the cursor stands in the rows that are read
  cursor_here : (stamp : ℕ) → h.view ≡ newest → cursor_in newest stamp (table_at format_one s) ≡ lower (rows_at s 24 h.rows) stamp
  cursor_here stamp e = rw (this_view e, rows_told) refl

  pub cursor_small : (stamp index : ℕ) → BeginsWithImage valley s → index ≡ cursor_in newest stamp (table_at format_one s) → index ≤ h.rows
  cursor_small stamp index has_image e = rw (e, told) (rw (holds_rows format_one s) at (cursor_most newest stamp (table_at format_one s)))

  -- the stamp at the cursor, or none
  module _ (last index : ℕ) (has_image : BeginsWithImage valley s) (e : h.view ≡ newest) (at-cursor : index ≡ cursor_in newest (last + 1) (table_at format_one s)) where
    above : Above s 24 h.rows last index
    above = rw (at-cursor ∙ cursor_here (last + 1) e) (above_lower s 24 h.rows (sought_in has_image).1 last)

    next_is : next_after last (stamps_of (rows_at s 24 h.rows)) ≡ stamp_above newest (table_at format_one s) last
    next_is = rw (this_view e, rows_told)

    -- as numbers
    pub number_there : index < h.rows → (fields_at s (24 + 24 * index)).stamp ≡ stamp_above newest (table_at format_one s) last
    number_there l = above.there l ∙ next_is

    pub number_none : h.rows ≤ index → 2 ^ 48 ≡ stamp_above newest (table_at format_one s) last
    number_none l = sym (above.none_there l) ∙ next_is

    pub above_there : index < h.rows → Some (fields_at s (24 + 24 * index)).stamp ≡ stamp_or_none (stamp_above newest (table_at format_one s) last)
    above_there l =
        let e : (fields_at s (24 + 24 * index)).stamp ≡ stamp_above newest (table_at format_one s) last = number_there l in
        rw (← e) (sym (stamp_is _ (stamped_at s h.rows 24 index (rw rows_told (image_regular valley s has_image).0.rows) l)))

    pub above_none : h.rows ≤ index → None ≡ stamp_or_none (stamp_above newest (table_at format_one s) last)
    above_none l = let e = number_none l in sym (no_stamp_is _ (omega arith))

  -- the row at the cursor, if it has the stamp
  pub row_elsewhere : (stamp : ℕ) → (h.view ≡ newest → ⊥) → no_fields ≡ fields_for s (place_in newest (table_at format_one s) stamp)
  row_elsewhere stamp d = rw (place_not newest stamp (table_at format_one s) (other_view_lem d)) refl

  module _ (stamp index : ℕ) (has_image : BeginsWithImage valley s) (e : h.view ≡ newest) (at-cursor : index ≡ cursor_in newest stamp (table_at format_one s)) (some-stamp : 0 < stamp) (small : stamp < 2 ^ 48) where
    index_is : index ≡ lower (rows_at s 24 h.rows) stamp
    index_is = at-cursor ∙ cursor_here stamp e

    place_is : (p : Place) → place_of (rows_at s 24 h.rows) stamp ≡ p → place_in newest (table_at format_one s) stamp ≡ p
    place_is p k = place_too newest stamp (table_at format_one s) (this_view e) ∙ rw rows_told at k

    pub row_here : index < h.rows → (fields_at s (24 + 24 * index)).stamp ≡ stamp → fields_at s (24 + 24 * index) ≡ fields_for s (place_in newest (table_at format_one s) stamp)
    row_here l k =
        let p : place_of (rows_at s 24 h.rows) stamp ≡ Held index = rw (← index_is) at (under_held s 24 h.rows (sought_in has_image).1 stamp some-stamp small) l k in
        rw (place_is (Held index) p) refl

    pub row_not : (index < h.rows → (fields_at s (24 + 24 * index)).stamp ≡ stamp → ⊥) → no_fields ≡ fields_for s (place_in newest (table_at format_one s) stamp)
    row_not d =
        let p : place_of (rows_at s 24 h.rows) stamp ≡ Absent index = rw (← index_is) at (under_not s 24 h.rows (sought_in has_image).1 stamp some-stamp small) d in
        rw (place_is (Absent index) p) refl

-- ---- a row that was found

-- it is one of a used table
held_used : (s : List ℕ) (newest stamp i : ℕ) → place_in newest (table_at format_one s) stamp ≡ Held i → place_of (table_at format_one s).rows stamp ≡ Held i
held_used s newest stamp i h = go (eqb (table_at format_one s).view newest) refl
  where
    go : (b : _) → eqb (table_at format_one s).view newest ≡ b → place_of (table_at format_one s).rows stamp ≡ Held i
    go true e = sym (place_too newest stamp (table_at format_one s) e) ∙ h
    go false e = absurd (not_absent (sym h ∙ place_not newest stamp (table_at format_one s) e))

module _ (s : List ℕ) (newest stamp i : ℕ) (bytes : AllBytes s) (has_image : BeginsWithImage valley s) (place : place_in newest (table_at format_one s) stamp ≡ Held i) where
  index_there : i < (header_at s).rows
  index_there = index_here valley s stamp i bytes has_image (held_used s newest stamp i place)

  pub row_there : 24 + 24 * i + 24 ≤ length s
  row_there = holds_row_inside format_one s i one_starts (image_holds valley s has_image) index_there

  pub body_there : BodyInside s (fields_at s (24 + 24 * i))
  body_there = (rows_inside valley s valley_sound has_image).1 i index_there

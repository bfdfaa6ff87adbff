-- A row added: from the parts that were written, with the row's fields and its body in a message, to the whole buffer after it.
use mathlib.Core.Path.{◌≡◌, sym, ap, ap₂, ◌∙◌}
use mathlib.Core.Bool.{true}
use mathlib.Core.List.{List, [], ◌∷◌, ◌++◌, append-nil}
use Prim.Native.Nat.{ℕ, suc, ◌+◌, ◌*◌, ◌≤◌, ◌<◌}
use native.Mathlib.Omega.{arith}
use lib.ListN.{length, drop, length-append}
use borrow.Author.Tests.{lt-ltb, le-ltb, leb-true}
use Rattle.wire.specs.Parts.{replaced}
use Rattle.wire.specs.Inner.ByteLists.{AllBytes}
use Rattle.wire.proofs.Stands.{stands_left}
use Rattle.wire.proofs.Fields.{stands_bytes}
use Rattle.rules.specs.Stamps.{counts_by_rule}
use Rattle.rules.specs.Tables.{Row, Table, rising}
use Rattle.rules.specs.Messages.{added, with_rows}
use Rattle.rules.proofs.Logic.{both_left, both_right}
use Rattle.rules.proofs.Rows.{length-added}
use Rattle.rows.specs.declared.row.RowFields.{RowFields}
use Rattle.rows.specs.declared.lookup.Place.TheVariants.{Absent}
use Rattle.rows.specs.Bytes.{length_of, bodies_bytes, bodies_length, row_bytes, rows_bytes}
use Rattle.rows.specs.Fields.{fields_of, fields_bytes}
use Rattle.rows.specs.Read.{body_at, row_of}
use Rattle.rows.specs.Inner.Rows.{size_of, body_part, BodyInside}
use Rattle.rows.specs.Inner.Places.{place_of}
use Rattle.rows.proofs.Bodies.{length_of-body_at, length-accesses_at, body_part_lem}
use Rattle.rows.proofs.FieldsRead.{row_bytes_lem, fields_of_row}
use Rattle.table.specs.Inner.ChangedHeaders as headers
use Rattle.table.specs.declared.header.Header.{Header}
use Rattle.table.specs.Headers.{header_bytes, header_at}
use Rattle.table.specs.Images.{Form, bodies_at, image_length, header_of, image}
use Rattle.table.specs.Parse.{table_at}
use Rattle.table.proofs.Images.{Starts, image_behind}
use Rattle.edit.specs.Inner.Changes.{Storable, adding}
use Rattle.edit.specs.Inner.Holding.{Holds}
use Rattle.edit.specs.Edited.{edited}
use Rattle.edit.specs.Inner.Parts.{body_place, placed}
use Rattle.edit.proofs.Holding.{holds_is, holds_stands, holds_header, holds_rows}
use Rattle.edit.proofs.EditedBuffers.{edited_grown}
use Rattle.edit.proofs.RowsJoined.{bodies_length_joined}
use Rattle.edit.proofs.Indexes.{Between, between}
use Rattle.edit.proofs.LaidRows.{CountsFit, counts_fit, counts_joined}
use Rattle.edit.proofs.AddedRows.{image_longer, row_added}
use Rattle.edit.proofs.EditedParts.{row_fields}

-- ---- where the body goes

body_goes : (F : Form) (s : List ℕ) (index : ℕ) (xs ys : List Row) → Starts F → AllBytes s → Holds F s → (table_at F s).rows ≡ xs ++ ys → length xs ≡ index → body_place s F.begin (header_at s).rows index (header_at s).length ≡ bodies_at F (table_at F s).rows + bodies_length xs
unfolding body_place fields_of
body_goes F s index xs [] starts a h e n =
    let T = table_at F s in
    let k : length T.rows ≡ length xs = ap length (e ∙ append-nil xs) in
    let l = holds_rows F s in
    let b : bodies_length T.rows ≡ bodies_length xs = ap bodies_length (e ∙ append-nil xs) in
    rw (le-ltb index (header_at s).rows (omega arith), holds_header F s a h, b)
body_goes F s index xs (y ∷ ys) starts a h e n =
    let T = table_at F s in
    let k : length T.rows ≡ length xs + suc (length ys) = ap length e ∙ length-append xs (y ∷ ys) in
    let l = holds_rows F s in
    let f = row_fields F s T xs ys y starts a (holds_stands F s h) e in
    rw (lt-ltb index (header_at s).rows (omega arith), ← n, f)

-- ---- the row, as it stands in the message

module _ (m : List ℕ) (row : RowFields) where
  new_row : Storable row → row_bytes row.offset (row_of m row) ≡ fields_bytes row
  new_row h = row_bytes_lem row.offset (row_of m row) ∙ ap fields_bytes (fields_of_row m row h.1 h.2 h.3)

  new_size : length_of (row_of m row).body ≡ size_of row
  unfolding row_of
  new_size = length_of-body_at m row.offset row.reads row.writes

  new_counts : Storable row → (length (row_of m row).body.reads < 256) × (length (row_of m row).body.writes < 256)
  unfolding row_of body_at counts_by_rule
  new_counts h =
      let x : row.reads ≤ 4 = leb-true _ _ (both_left _ _ h.0) in
      let y : row.writes ≤ 4 = leb-true _ _ (both_left _ _ (both_right _ _ h.0)) in
      simp length-accesses_at (omega arith, omega arith)

-- ---- the table with the row in it

module _ (F : Form) (s m : List ℕ) (row : RowFields) (index : ℕ) (starts : Starts F) (a : AllBytes s) (h : Holds F s) (rise : rising 0 (table_at F s).rows ≡ true) (absent : place_of (table_at F s).rows row.stamp ≡ Absent index) where
  abbrev T : Table
  T = table_at F s

  abbrev r : Row
  r = row_of m row

  goes : Between (table_at F s).rows (row_of m row) index
  unfolding row_of
  goes = between T.rows r index rise absent

  -- the index is one of the rows or the next
  pub index_inside : index ≤ (header_at s).rows
  index_inside =
      let k : length T.rows ≡ length goes.before + length goes.behind = ap length goes.is ∙ length-append goes.before goes.behind in
      let l = holds_rows F s in
      let n = goes.index in
      omega arith

  -- and its body goes between the rows and the end
  pub body_inside : (F.begin + 24 * (header_at s).rows ≤ body_place s F.begin (header_at s).rows index (header_at s).length) × (body_place s F.begin (header_at s).rows index (header_at s).length ≤ (header_at s).length)
  body_inside =
      let l = holds_rows F s in
      let k : bodies_length T.rows ≡ bodies_length goes.before + bodies_length goes.behind = ap bodies_length goes.is ∙ bodies_length_joined goes.before goes.behind in
      let e : (header_at s).length ≡ image_length F T = ap (λ (x : Header). x.length) (holds_header F s a h) in
      let p = body_goes F s index goes.before goes.behind starts a h goes.is goes.index in
      rw p (omega arith, omega arith)

  counts : Storable row → CountsFit (goes.before ++ (r ∷ goes.behind))
  counts k =
      let due : ℕ = bodies_at F T.rows in
      let w = stands_left s F.begin (rows_bytes due T.rows) (bodies_bytes T.rows) (image_behind F s T starts (holds_stands F s h)) in
      let old : CountsFit T.rows = counts_fit due T.rows (stands_bytes s F.begin (rows_bytes due T.rows) a w) in
      let (x, y) = new_counts m row k in
      counts_joined goes.before goes.behind r (rw goes.is at old) x y

  longer : image_length F (adding r T) ≡ image_length F T + 24 + size_of row
  longer =
      let e : image_length F (adding r T) ≡ image_length F (with_rows T (goes.before ++ (r ∷ goes.behind))) = ap (λ (z : List Row). image_length F (with_rows T z)) goes.added in
      let f : image_length F T ≡ image_length F (with_rows T (goes.before ++ goes.behind)) = ap (λ (z : List Row). image_length F (with_rows T z)) goes.is in
      let l = image_longer F T goes.before goes.behind r in
      let z = new_size m row in
      omega arith

  header_after : headers.with_rows (header_at s) ((header_at s).rows + 1) ((header_at s).length + 24 + size_of row) ≡ header_of F (adding r T)
  header_after =
      let n : length T.rows + 1 ≡ length (added r T.rows) = let j = length-added r T.rows in omega arith in
      rw (holds_header F s a h) (ap₂ (λ (rows total : ℕ). headers.with_rows (header_of F T) rows total) n (sym longer))

  pub row_edited : AllBytes m → Storable row → BodyInside m row → F.stored (added r T.rows) ≡ F.stored T.rows →
      replaced (placed s F.begin (header_at s).rows (header_at s).length index (fields_bytes row) (body_part m row)) 0 (header_bytes (headers.with_rows (header_at s) ((header_at s).rows + 1) ((header_at s).length + 24 + size_of row)))
      ≡ edited F (adding (row_of m row)) s
  unfolding placed
  row_edited b fit inside stored =
      let xs : List Row = goes.before in
      let ys : List Row = goes.behind in
      let rest : List ℕ = drop (length (image F T)) s in
      let k : F.stored (xs ++ (r ∷ ys)) ≡ F.stored (xs ++ ys) = ap F.stored (sym goes.added) ∙ stored ∙ ap F.stored goes.is in
      let whole = rw (← goes.is, ← goes.added, goes.index, ← holds_is F s h, new_row m row fit, ← body_part_lem m row b inside) at (row_added F T xs ys r row.offset rest starts k (counts fit)) in
      let grown : image_length F T ≤ image_length F (adding r T) = let e = longer in omega arith in
      rw (header_after, body_goes F s index xs ys starts a h goes.is goes.index, holds_header F s a h, edited_grown F (adding r) s grown) whole

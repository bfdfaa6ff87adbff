-- From "this part was replaced" to "the image of the changed table": once for the header, and once for a row.
use mathlib.Core.Path.{◌≡◌, refl, sym, ◌∙◌}
use mathlib.Core.List.{List, [], ◌∷◌, ◌++◌, append_assoc}
use Prim.Native.Nat.{ℕ, ◌+◌, ◌*◌}
use native.Mathlib.Omega.{arith}
use lib.ListN.{length, length-append}
use Rattle.wire.specs.Parts.{replaced}
use Rattle.wire.proofs.Parts.{replaced_between}
use Rattle.rules.specs.Tables.{Prepare, Outcome, Row, Table}
use Rattle.rules.specs.Messages.{with_rows}
use Rattle.rows.specs.Bytes.{length_of, bodies_bytes, bodies_length, row_bytes, rows_bytes}
use Rattle.rows.proofs.FieldsRead.{length_row}
use Rattle.rows.proofs.RowsRead.{length_rows}
use Rattle.table.specs.declared.header.Header.{Header}
use Rattle.table.specs.Headers.{header_bytes}
use Rattle.table.specs.Images.{Form, bodies_at, image_length, header_of, image}
use Rattle.table.proofs.Headers.{length_header}
use Rattle.table.proofs.Images.{Starts}
use Rattle.edit.proofs.RowsJoined.{rows_joined, bodies_joined, bodies_length_joined}

-- a table's header in the place of any other, over what stands behind a header in its image
pub header_over : (F : Form) (h : Header) (T : Table) (rest : List ℕ) → replaced ((header_bytes h ++ (F.stored T.rows ++ (rows_bytes (bodies_at F T.rows) T.rows ++ bodies_bytes T.rows))) ++ rest) 0 (header_bytes (header_of F T)) ≡ image F T ++ rest
unfolding image
header_over F h T rest =
    let new : List ℕ = header_bytes (header_of F T) in
    let behind : List ℕ = F.stored T.rows ++ (rows_bytes (bodies_at F T.rows) T.rows ++ bodies_bytes T.rows) in
    rw (append_assoc (header_bytes h) behind rest, append_assoc new behind rest) (replaced_between [] (header_bytes h) (behind ++ rest) new 0 refl (length_header h ∙ sym (length_header (header_of F T))))

-- so another header over the same rows
pub header_replaced : (F : Form) (T U : Table) (rest : List ℕ) → replaced (image F T ++ rest) 0 (header_bytes (header_of F (with_rows U T.rows))) ≡ image F (with_rows U T.rows) ++ rest
unfolding image
header_replaced F T U rest = header_over F (header_of F T) (with_rows U T.rows) rest

-- the lists of an image laid out, with one in the middle exchanged
in_the_middle : (H S X R Q Y Z rest : List ℕ) (at : ℕ) → length (H ++ (S ++ X)) ≡ at → length R ≡ length Q → replaced ((H ++ (S ++ ((X ++ (R ++ Y)) ++ Z))) ++ rest) at Q ≡ (H ++ (S ++ ((X ++ (Q ++ Y)) ++ Z))) ++ rest
in_the_middle H S X R Q Y Z rest at e f =
    let there : (H ++ (S ++ ((X ++ (R ++ Y)) ++ Z))) ++ rest ≡ (H ++ (S ++ X)) ++ (R ++ (Y ++ (Z ++ rest))) = simp append_assoc in
    let back : (H ++ (S ++ X)) ++ (Q ++ (Y ++ (Z ++ rest))) ≡ (H ++ (S ++ ((X ++ (Q ++ Y)) ++ Z))) ++ rest = simp append_assoc in
    rw there (replaced_between (H ++ (S ++ X)) R (Y ++ (Z ++ rest)) Q at e f ∙ back)

-- a header, what is stored behind it, and some rows
pub up_to_rows : (h : Header) (S : List ℕ) (due begin : ℕ) (xs : List Row) → 24 + length S ≡ begin → length (header_bytes h ++ (S ++ rows_bytes due xs)) ≡ begin + 24 * length xs
up_to_rows h S due begin xs b = let n = length_rows due xs in rw (length-append, length-append, length_header h) (omega arith)

-- a row in another state
abbrev pub in_state : Prepare → Outcome → Row → Row
in_state p o r = record { stamp = r.stamp; body = r.body; prepare = p; outcome = o }

-- another state in the place of a row's
module _ (F : Form) (T : Table) (xs ys : List Row) (r : Row) (p : Prepare) (o : Outcome) (starts : Starts F) (stored : F.stored (xs ++ (in_state p o r ∷ ys)) ≡ F.stored (xs ++ (r ∷ ys))) where
  abbrev old : List Row
  old = xs ++ (r ∷ ys)

  abbrev new : List Row
  new = xs ++ (in_state p o r ∷ ys)

  row_length_lem : length new ≡ length old
  row_length_lem = simp length-append

  body_length_lem : bodies_length new ≡ bodies_length old
  unfolding bodies_length
  body_length_lem = rw (bodies_length_joined xs (in_state p o r ∷ ys), bodies_length_joined xs (r ∷ ys))

  body_bytes : bodies_bytes new ≡ bodies_bytes old
  unfolding bodies_bytes
  body_bytes = rw (bodies_joined xs (in_state p o r ∷ ys), bodies_joined xs (r ∷ ys))

  pub row_same_length : image_length F (with_rows T (xs ++ (in_state p o r ∷ ys))) ≡ image_length F (with_rows T (xs ++ (r ∷ ys)))
  row_same_length = rw (row_length_lem, body_length_lem)

  pub row_replaced : (rest : List ℕ) → replaced (image F (with_rows T (xs ++ (r ∷ ys))) ++ rest) (F.begin + 24 * length xs) (row_bytes (bodies_at F (xs ++ (r ∷ ys)) + bodies_length xs) (in_state p o r)) ≡ image F (with_rows T (xs ++ (in_state p o r ∷ ys))) ++ rest
  unfolding image rows_bytes
  row_replaced rest =
      let due : ℕ = bodies_at F old in
      let H : List ℕ = header_bytes (header_of F (with_rows T old)) in
      let S : List ℕ = F.stored old in
      let X : List ℕ = rows_bytes due xs in
      let at : length (H ++ (S ++ X)) ≡ F.begin + 24 * length xs = up_to_rows _ S due F.begin xs (starts old) in
      let d : ℕ = due + bodies_length xs in
      rw (row_length_lem, body_length_lem, body_bytes, stored, rows_joined due xs (in_state p o r ∷ ys), rows_joined due xs (r ∷ ys))
      (in_the_middle H S X (row_bytes d r) (row_bytes d (in_state p o r)) (rows_bytes (d + length_of r.body) ys) (bodies_bytes old) rest _ at (length_row d r ∙ sym (length_row d (in_state p o r))))

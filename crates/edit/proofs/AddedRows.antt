-- From a row and a body put in, the offsets laid anew and the header written, to the image with the row in it.
use mathlib.Core.Path.{◌≡◌, sym, ap₂, ◌∙◌}
use mathlib.Core.List.{List, ◌∷◌, ◌++◌, append_assoc}
use Prim.Native.Nat.{ℕ, ◌+◌, ◌*◌}
use native.Mathlib.Omega.{arith}
use lib.ListN.{length, drop, length-append}
use lib.Seq.{drop-append-add}
use Rattle.wire.specs.Parts.{replaced}
use Rattle.wire.proofs.Parts.{replaced_start}
use Rattle.rules.specs.Tables.{Row, Table}
use Rattle.rules.specs.Messages.{with_rows}
use Rattle.rows.specs.Bytes.{body_bytes, length_of, bodies_bytes, bodies_length, row_bytes, rows_bytes}
use Rattle.rows.proofs.Bodies.{length_body}
use Rattle.rows.proofs.FieldsRead.{length_row}
use Rattle.rows.proofs.RowsRead.{length_rows, length_bodies}
use Rattle.table.specs.Headers.{header_bytes}
use Rattle.table.specs.Images.{Form, bodies_at, image_length, header_of, image}
use Rattle.table.proofs.Headers.{length_header}
use Rattle.table.proofs.Images.{Starts, length_image}
use Rattle.edit.specs.Inner.Parts.{slipped, laid}
use Rattle.edit.proofs.RowsJoined.{rows_joined, bodies_joined, bodies_length_joined}
use Rattle.edit.proofs.ChangedParts.{header_over, up_to_rows}
use Rattle.edit.proofs.Slipped.{slipped_between}
use Rattle.edit.proofs.LaidRows.{AnyOffsets.one_more, any_rows, any_joined, CountsFit, laid_rows}

-- a row more makes the image longer by its 24 bytes and its body
pub image_longer : (F : Form) (T : Table) (xs ys : List Row) (r : Row) → image_length F (with_rows T (xs ++ (r ∷ ys))) ≡ image_length F (with_rows T (xs ++ ys)) + 24 + length_of r.body
unfolding bodies_length
image_longer F T xs ys r =
    let i = length-append xs ys in
    let j = length-append xs (r ∷ ys) in
    let k = bodies_length_joined xs ys in
    let l = bodies_length_joined xs (r ∷ ys) in
    omega arith

module _ (F : Form) (T : Table) (xs ys : List Row) (r : Row) (offset : ℕ) (rest : List ℕ) (starts : Starts F) (stored : F.stored (xs ++ (r ∷ ys)) ≡ F.stored (xs ++ ys)) (fit : CountsFit (xs ++ (r ∷ ys))) where
  abbrev new : List Row
  new = xs ++ (r ∷ ys)

  abbrev due : ℕ
  due = bodies_at F (xs ++ ys)

  abbrev behind : List ℕ
  behind = drop (24 + length_of r.body) rest

  -- before the rows
  abbrev front : List ℕ
  front = header_bytes (header_of F (with_rows T (xs ++ ys))) ++ F.stored (xs ++ ys)

  -- the rows with the new one, their offsets not yet right
  abbrev loose : List ℕ
  loose = rows_bytes due xs ++ (row_bytes offset r ++ rows_bytes (due + bodies_length xs) ys)

  filled : slipped (image F (with_rows T (xs ++ ys)) ++ rest) (F.begin + 24 * length xs) (due + bodies_length xs) (due + bodies_length (xs ++ ys)) (row_bytes offset r) (body_bytes r.body) ≡ front ++ (loose ++ (bodies_bytes new ++ behind))
  unfolding image bodies_bytes
  filled =
      let H : List ℕ = header_bytes (header_of F (with_rows T (xs ++ ys))) in
      let S : List ℕ = F.stored (xs ++ ys) in
      let E : List ℕ = rows_bytes due xs in
      let Y : List ℕ = rows_bytes (due + bodies_length xs) ys in
      let A : List ℕ = bodies_bytes xs in
      let B : List ℕ = bodies_bytes ys in
      let N : List ℕ = row_bytes offset r in
      let W : List ℕ = body_bytes r.body in
      let p : length (H ++ (S ++ E)) ≡ F.begin + 24 * length xs = up_to_rows _ S due F.begin xs (starts (xs ++ ys)) in
      let ly = length_rows (due + bodies_length xs) ys in
      let la = length_bodies xs in
      let lb = length_bodies ys in
      let lo : length (xs ++ ys) ≡ length xs + length ys = length-append xs ys in
      let g : F.begin + 24 * length xs + length (Y ++ A) ≡ due + bodies_length xs = rw length-append (omega arith) in
      let jo = bodies_length_joined xs ys in
      let b : due + bodies_length xs + length B ≡ due + bodies_length (xs ++ ys) = omega arith in
      let n : length N + length W ≡ 24 + length_of r.body = ap₂ ◌+◌ (length_row offset r) (length_body r.body) in
      let there : (H ++ (S ++ ((E ++ Y) ++ (A ++ B)))) ++ rest ≡ (H ++ (S ++ E)) ++ ((Y ++ A) ++ (B ++ rest)) = simp append_assoc in
      let home : (H ++ (S ++ E)) ++ (N ++ ((Y ++ A) ++ (W ++ (B ++ behind)))) ≡ (H ++ S) ++ ((E ++ (N ++ Y)) ++ ((A ++ (W ++ B)) ++ behind)) = simp append_assoc in
      rw (rows_joined due xs ys, bodies_joined xs ys, bodies_joined xs (r ∷ ys), there)
      (slipped_between (H ++ (S ++ E)) (Y ++ A) B rest N W _ _ _ p g b ∙ rw n home)

  relaid : laid (front ++ (loose ++ (bodies_bytes new ++ behind))) F.begin (length (xs ++ ys) + 1) (F.begin + 24 * (length (xs ++ ys) + 1)) ≡ front ++ (rows_bytes (bodies_at F new) new ++ (bodies_bytes new ++ behind))
  relaid =
      let n : length (xs ++ ys) + 1 ≡ length (xs ++ (r ∷ ys)) = simp length-append (omega arith) in
      let s = starts (xs ++ ys) in
      let p : length front ≡ F.begin = rw (length-append, length_header (header_of F (with_rows T (xs ++ ys)))) s in
      rw n
      (laid_rows front (bodies_bytes new ++ behind) F.begin (bodies_at F new) (any_joined (any_rows due xs) (one_more offset r (any_rows (due + bodies_length xs) ys))) fit p)

  -- with the header written, it is the image
  headed : replaced (front ++ (rows_bytes (bodies_at F new) new ++ (bodies_bytes new ++ behind))) 0 (header_bytes (header_of F (with_rows T new))) ≡ image F (with_rows T new) ++ behind
  headed =
      let H : List ℕ = header_bytes (header_of F (with_rows T (xs ++ ys))) in
      let S : List ℕ = F.stored new in
      let R : List ℕ = rows_bytes (bodies_at F new) new in
      let B : List ℕ = bodies_bytes new in
      let there : (H ++ S) ++ (R ++ (B ++ behind)) ≡ (H ++ (S ++ (R ++ B))) ++ behind = simp append_assoc in
      rw (← stored, there) (header_over F (header_of F (with_rows T (xs ++ ys))) (with_rows T new) behind)

  -- and so is the image put over the old one
  over : replaced (image F (with_rows T (xs ++ ys)) ++ rest) 0 (image F (with_rows T new)) ≡ image F (with_rows T new) ++ behind
  over =
      let U : List ℕ = image F (with_rows T (xs ++ ys)) in
      let W : List ℕ = image F (with_rows T new) in
      let u = length_image F (with_rows T (xs ++ ys)) starts in
      let v = length_image F (with_rows T new) starts in
      let l = image_longer F T xs ys r in
      let n : length W ≡ length U + (24 + length_of r.body) = omega arith in
      rw (replaced_start (U ++ rest) W, n, drop-append-add U rest (24 + length_of r.body))

  pub row_added :
      replaced
      (laid (slipped (image F (with_rows T (xs ++ ys)) ++ rest) (F.begin + 24 * length xs) (bodies_at F (xs ++ ys) + bodies_length xs) (bodies_at F (xs ++ ys) + bodies_length (xs ++ ys)) (row_bytes offset r) (body_bytes r.body)) F.begin (length (xs ++ ys) + 1) (F.begin + 24 * (length (xs ++ ys) + 1)))
      0
      (header_bytes (header_of F (with_rows T (xs ++ (r ∷ ys)))))
      ≡ replaced (image F (with_rows T (xs ++ ys)) ++ rest) 0 (image F (with_rows T (xs ++ (r ∷ ys))))
  row_added = rw (filled, relaid) (headed ∙ sym over)

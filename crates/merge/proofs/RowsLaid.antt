-- Rows laid down with their bodies behind the place of the last row, and the header put before them: together an image.
use mathlib.Core.Path.{◌≡◌, refl, sym, ap, ◌∙◌}
use mathlib.Core.List.{List, [], ◌∷◌, ◌++◌, append-nil}
use Prim.Native.Nat.{ℕ, ◌+◌, ◌*◌, ◌≤◌}
use native.Mathlib.Omega.{arith}
use lib.ListN.{length, length-append}
use Rattle.wire.specs.Parts.{replaced}
use Rattle.wire.proofs.Parts.{replaced_nothing, replaced_joined, replaced_before, replaced_apart, length-replaced}
use Rattle.rules.specs.Tables.{Row, Table}
use Rattle.rows.specs.Bytes.{body_bytes, length_of, bodies_bytes, bodies_length, row_bytes, rows_bytes}
use Rattle.rows.proofs.Bodies.{length_body}
use Rattle.rows.proofs.FieldsRead.{length_row}
use Rattle.rows.proofs.RowsRead.{length_rows, length_bodies}
use Rattle.table.specs.Headers.{header_bytes}
use Rattle.table.specs.Images.{format_one, header_of, image}
use Rattle.table.proofs.Headers.{length_header}
use Rattle.edit.proofs.RowsJoined.{bodies_joined, rows_joined}
use Rattle.merge.specs.Inner.Written.{laid_down}

-- ---- row after row

pub laid_none : (out : List ℕ) (base : ℕ) → laid_down out base [] ≡ out
unfolding laid_down rows_bytes bodies_bytes
laid_none out base = rw (replaced_nothing out 24, replaced_nothing out base) refl

rows_more : (base : ℕ) (rows : List Row) (r : Row) → rows_bytes base rows ++ row_bytes (base + bodies_length rows) r ≡ rows_bytes base (rows ++ (r ∷ []))
unfolding rows_bytes
rows_more base rows r = ap (λ (z : List ℕ). rows_bytes base rows ++ z) (sym (append-nil (row_bytes (base + bodies_length rows) r))) ∙ sym (rows_joined base rows (r ∷ []))

bodies_more : (rows : List Row) (r : Row) → bodies_bytes rows ++ body_bytes r.body ≡ bodies_bytes (rows ++ (r ∷ []))
unfolding bodies_bytes
bodies_more rows r = ap (λ (z : List ℕ). bodies_bytes rows ++ z) (sym (append-nil (body_bytes r.body))) ∙ sym (bodies_joined rows (r ∷ []))

pub laid_more : (out : List ℕ) (base : ℕ) (rows : List Row) (r : Row) → 24 + 24 * length rows + 24 ≤ base → base + bodies_length rows + length_of r.body ≤ length out →
    replaced (replaced (laid_down out base rows) (24 + 24 * length rows) (row_bytes (base + bodies_length rows) r)) (base + bodies_length rows) (body_bytes r.body) ≡ laid_down out base (rows ++ (r ∷ []))
unfolding laid_down
laid_more out base rows r room long =
    let R : List ℕ = rows_bytes base rows in
    let B : List ℕ = bodies_bytes rows in
    let one : List ℕ = row_bytes (base + bodies_length rows) r in
    let due : ℕ = base + bodies_length rows in
    let at : ℕ = 24 + 24 * length rows in
    let n = length_rows base rows in
    let m = length_bodies rows in
    let k = length_row (base + bodies_length rows) r in
    let b = length_body r.body in
    let X : List ℕ = replaced out 24 R in
    let l = length-replaced out 24 (rows_bytes base rows) (omega arith) in
    let q = length-append (rows_bytes base rows) (row_bytes (base + bodies_length rows) r) in
    let p = length-replaced out 24 (rows_bytes base rows ++ row_bytes (base + bodies_length rows) r) (omega arith) in
    let first : replaced (replaced X base B) at one ≡ replaced (replaced X at one) base B = replaced_apart X at base one B (omega arith) (omega arith) in
    let joined : replaced X at one ≡ replaced out 24 (R ++ one) = replaced_joined out 24 at R one (omega arith) (omega arith) in
    ap (λ z. replaced z due (body_bytes r.body)) (first ∙ ap (λ z. replaced z base B) joined)
    ∙ replaced_joined (replaced out 24 (R ++ one)) base due B (body_bytes r.body) (omega arith) (omega arith)
    ∙ ap (λ z. replaced (replaced out 24 z) base (B ++ body_bytes r.body)) (rows_more base rows r)
    ∙ ap (replaced (replaced out 24 (rows_bytes base (rows ++ (r ∷ [])))) base) (bodies_more rows r)

-- ---- the header before them

pub laid_image : (out : List ℕ) (base : ℕ) (T : Table) → base ≡ 24 + 24 * length T.rows → base ≤ length out → replaced (laid_down out base T.rows) 0 (header_bytes (header_of format_one T)) ≡ replaced out 0 (image format_one T)
unfolding laid_down image
laid_image out base T e l =
    let R : List ℕ = rows_bytes base T.rows in
    let B : List ℕ = bodies_bytes T.rows in
    let n = length_rows base T.rows in
    let h = length_header (header_of format_one T) in
    let joined : replaced (replaced out 24 R) base B ≡ replaced out 24 (R ++ B) = replaced_joined out 24 base R B (omega arith) (omega arith) in
    ap (λ z. replaced z 0 (header_bytes (header_of format_one T))) joined
    ∙ replaced_before out 0 24 (header_bytes (header_of format_one T)) (R ++ B) (omega arith) (omega arith)
    ∙ ap (λ b. replaced out 0 (header_bytes (header_of format_one T) ++ (rows_bytes b T.rows ++ B))) e

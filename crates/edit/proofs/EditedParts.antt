-- Each change of a table, from the parts that were written to the whole buffer after it.
use mathlib.Core.Path.{◌≡◌, refl, sym, ap, ap₂, ◌∙◌}
use mathlib.Core.Bool.{true}
use mathlib.Core.List.{List, ◌∷◌, ◌++◌}
use Prim.Native.Nat.{ℕ, ◌+◌, ◌*◌, ◌≤◌, ◌<◌}
use native.Mathlib.Omega.{arith}
use lib.ListN.{length, drop}
use Rattle.wire.specs.Parts.{replaced}
use Rattle.wire.specs.Inner.ByteLists.{AllBytes}
use Rattle.wire.proofs.Stands.{Stands, stands_left, stands_right}
use Rattle.rules.specs.Tables.{Prepare, Outcome, Row, Table}
use Rattle.rules.specs.Messages.{with_prepare, with_outcome, with_rows, promising}
use Rattle.rows.specs.Bytes.{bodies_bytes, bodies_length, row_bytes, rows_bytes}
use Rattle.rows.specs.Fields.{fields_at, fields_of, fields_bytes, prepare_numbered, outcome_numbered, retry_by_code}
use Rattle.rows.specs.Inner.ChangedFields.{with_prepare_byte, with_outcome_byte}
use Rattle.rows.proofs.Codes.{prepare_numbered_lem, outcome_numbered_lem}
use Rattle.rows.proofs.FieldsRead.{row_bytes_lem, fields_among}
use Rattle.rows.proofs.RowsRead.{length_rows}
use Rattle.table.specs.Headers.{header_bytes, header_at}
use Rattle.table.specs.Images.{Form, bodies_at, image_length, header_of, image}
use Rattle.table.specs.Parse.{table_at}
use Rattle.table.proofs.Images.{Starts, length_image, image_behind}
use Rattle.edit.specs.Inner.Changes.{with_views, at_index, on_row}
use Rattle.edit.specs.Inner.Holding.{Holds}
use Rattle.edit.specs.Edited.{edited}
use Rattle.edit.proofs.Holding.{holds_is, holds_stands, holds_rows}
use Rattle.edit.proofs.EditedBuffers.{edited_as, edited_grown, image_over}
use Rattle.edit.proofs.RowsJoined.{rows_joined}
use Rattle.edit.proofs.ChangedParts.{header_replaced, in_state, row_same_length, row_replaced}
use Rattle.edit.proofs.Indexes.{RowThere, row_there, at_index_lem}

-- a table is itself with its own rows
with_own_rows : (T : Table) {rows : List Row} → T.rows ≡ rows → T ≡ with_rows T rows
with_own_rows T e = ap (with_rows T) e

-- ---- the header

pub header_edited : (F : Form) (change : Table → Table) (s : List ℕ) → Starts F → Holds F s → (change (table_at F s)).rows ≡ (table_at F s).rows → replaced s 0 (header_bytes (header_of F (change (table_at F s)))) ≡ edited F change s
header_edited F change s starts h e =
    let T : Table = table_at F s in
    let U : Table = change T in
    let rest : List ℕ = drop (length (image F T)) s in
    let l : image_length F T ≡ image_length F U = rw e in
    let n : length (image F T) ≡ length (image F U) = length_image F T starts ∙ l ∙ sym (length_image F U starts) in
    let same : U ≡ with_rows U T.rows = with_own_rows U e in
    let k : replaced (image F T ++ rest) 0 (header_bytes (header_of F U)) ≡ image F U ++ rest = rw same (header_replaced F T U rest) in
    rw (← holds_is F s h) at (k ∙ sym (image_over F T U rest n)) ∙ sym (edited_grown F change s (omega arith))

-- a view promised is the views set so, with the view that is read
pub promise_edited : (F : Form) (s : List ℕ) (v : ℕ) → edited F (with_views 1 (header_at s).view v) s ≡ edited F (λ T. promising T v) s
unfolding table_at
promise_edited F s v = edited_as F (with_views 1 (header_at s).view v) (λ T. promising T v) s refl

-- ---- a row

-- the fields of a row that stands in an image
pub row_fields : (F : Form) (s : List ℕ) (T : Table) (xs ys : List Row) (r : Row) → Starts F → AllBytes s → Stands s 0 (image F T) → T.rows ≡ xs ++ (r ∷ ys) → fields_at s (F.begin + 24 * length xs) ≡ fields_of (bodies_at F T.rows + bodies_length xs) r
unfolding rows_bytes
row_fields F s T xs ys r starts a w e =
    let due : ℕ = bodies_at F T.rows in
    let rows = stands_left s F.begin (rows_bytes due T.rows) (bodies_bytes T.rows) (image_behind F s T starts w) in
    let split : rows_bytes due T.rows ≡ rows_bytes due xs ++ rows_bytes (due + bodies_length xs) (r ∷ ys) = ap (rows_bytes due) e ∙ rows_joined due xs (r ∷ ys) in
    let from = rw length_rows at (stands_right s F.begin (rows_bytes due xs) (rows_bytes (due + bodies_length xs) (r ∷ ys)) (rw split at rows)) in
    let row = stands_left s (F.begin + 24 * length xs) (row_bytes (due + bodies_length xs) r) _ from in
    (fields_among s (F.begin + 24 * length xs) (fields_of (due + bodies_length xs) r) a (rw row_bytes_lem at row)).1

-- a row in another state, as an image put over the old one
module _ (F : Form) (T : Table) (xs ys : List Row) (r : Row) (p : Prepare) (o : Outcome) (starts : Starts F) (is : T.rows ≡ xs ++ (r ∷ ys)) (stored : F.stored (xs ++ (in_state p o r ∷ ys)) ≡ F.stored (xs ++ (r ∷ ys))) where
  abbrev new : List Row
  new = xs ++ (in_state p o r ∷ ys)

  same_length : image_length F T ≡ image_length F (with_rows T new)
  same_length = rw (with_own_rows T is) (sym (row_same_length F T xs ys r p o starts stored))

  row_over : (rest : List ℕ) → replaced (image F T ++ rest) (F.begin + 24 * length xs) (row_bytes (bodies_at F T.rows + bodies_length xs) (in_state p o r)) ≡ replaced (image F T ++ rest) 0 (image F (with_rows T new))
  row_over rest =
      let n : length (image F T) ≡ length (image F (with_rows T new)) = length_image F T starts ∙ same_length ∙ sym (length_image F (with_rows T new) starts) in
      let k : replaced (image F T ++ rest) (F.begin + 24 * length xs) (row_bytes (bodies_at F T.rows + bodies_length xs) (in_state p o r)) ≡ image F (with_rows T new) ++ rest =
      rw (with_own_rows T is) (row_replaced F T xs ys r p o starts stored rest) in
      k ∙ sym (image_over F T (with_rows T new) rest n)

-- the row at an index in another state, if what is stored before the rows is the same then
module _ (F : Form) (s : List ℕ) (i : ℕ) (starts : Starts F) (a : AllBytes s) (h : Holds F s) (l : i < (header_at s).rows) where
  abbrev T : Table
  T = table_at F s

  there : RowThere (table_at F s).rows i
  there = row_there (table_at F s).rows i (rw (holds_rows F s) l)

  abbrev due : ℕ
  due = bodies_at F (table_at F s).rows + bodies_length there.before

  fields_here_lem : fields_at s (F.begin + 24 * i) ≡ fields_of due there.row
  fields_here_lem = rw there.index at (row_fields F s T there.before there.behind there.row starts a (holds_stands F s h) there.is)

  state_edited : (change : Row → Row) (p : Prepare) (o : Outcome) → change there.row ≡ in_state p o there.row → F.stored (at_index i change T.rows) ≡ F.stored T.rows → replaced s (F.begin + 24 * i) (row_bytes due (in_state p o there.row)) ≡ edited F (on_row i change) s
  state_edited change p o c stored =
      let xs : List Row = there.before in
      let ys : List Row = there.behind in
      let r : Row = there.row in
      let new : List Row = xs ++ (in_state p o r ∷ ys) in
      let rest : List ℕ = drop (length (image F T)) s in
      let rows : at_index i change T.rows ≡ new =
      ap₂ (λ (j : ℕ) (rs : List Row). at_index j change rs) (sym there.index) there.is ∙ at_index_lem xs ys r change ∙ ap (λ (q : Row). xs ++ (q ∷ ys)) c in
      let k : F.stored (xs ++ (in_state p o r ∷ ys)) ≡ F.stored (xs ++ (r ∷ ys)) = ap F.stored (sym rows) ∙ stored ∙ ap F.stored there.is in
      let long : image_length F T ≡ image_length F (with_rows T new) = same_length F T xs ys r p o starts there.is k in
      let grown : image_length F T ≤ image_length F (on_row i change T) = rw rows (omega arith) in
      let over = rw (← holds_is F s h, there.index) at (row_over F T xs ys r p o starts there.is k rest) in
      over ∙ ap (λ (z : List Row). replaced s 0 (image F (with_rows T z))) (sym rows) ∙ sym (edited_grown F (on_row i change) s grown)

  -- a prepare byte with its retry stamp
  pub prepare_edited : (c q : ℕ) → c ≤ 8 → retry_by_code c q ≡ true → F.stored (at_index i (with_prepare (prepare_numbered c q)) T.rows) ≡ F.stored T.rows → replaced s (F.begin + 24 * i) (fields_bytes (with_prepare_byte (fields_at s (F.begin + 24 * i)) c q)) ≡ edited F (on_row i (with_prepare (prepare_numbered c q))) s
  unfolding fields_of
  prepare_edited c q m t stored =
      let r : Row = there.row in
      let (x, y) = prepare_numbered_lem c q m t in
      let e : fields_bytes (with_prepare_byte (fields_of due r) c q) ≡ row_bytes due (in_state (prepare_numbered c q) r.outcome r) =
      sym (row_bytes_lem due (in_state (prepare_numbered c q) r.outcome r) ∙ rw (x, y)) in
      rw (fields_here_lem, e) (state_edited (with_prepare (prepare_numbered c q)) (prepare_numbered c q) r.outcome refl stored)

  -- an outcome byte
  pub outcome_edited : (c : ℕ) → c ≤ 4 → F.stored (at_index i (with_outcome (outcome_numbered c)) T.rows) ≡ F.stored T.rows → replaced s (F.begin + 24 * i) (fields_bytes (with_outcome_byte (fields_at s (F.begin + 24 * i)) c)) ≡ edited F (on_row i (with_outcome (outcome_numbered c))) s
  unfolding fields_of
  outcome_edited c m stored =
      let r : Row = there.row in
      let e : fields_bytes (with_outcome_byte (fields_of due r) c) ≡ row_bytes due (in_state r.prepare (outcome_numbered c) r) =
      sym (row_bytes_lem due (in_state r.prepare (outcome_numbered c) r) ∙ rw (outcome_numbered_lem c m)) in
      rw (fields_here_lem, e) (state_edited (with_outcome (outcome_numbered c)) r.prepare (outcome_numbered c) refl stored)

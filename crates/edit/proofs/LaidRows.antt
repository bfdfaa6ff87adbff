-- Offsets laid anew: rows in a row, whatever their offsets were, are then the rows of an image.
use mathlib.Core.Path.{◌≡◌, refl, sym, ◌∙◌}
use mathlib.Core.List.{List, [], ◌∷◌, ◌++◌, append_assoc}
use Prim.Native.Nat.{ℕ, suc, ◌+◌, ◌-◌, ◌*◌, ◌<◌}
use native.Mathlib.Omega.{arith}
use lib.ListN.{length, length-append}
use Rattle.wire.specs.Parts.{replaced}
use Rattle.wire.specs.Numbers.{bytes}
use Rattle.wire.specs.Inner.ByteLists.{AllBytes}
use Rattle.wire.proofs.Parts.{replaced_between}
use Rattle.wire.proofs.Numbers.{length_bytes, all_joined}
use Rattle.wire.proofs.Stands.{stands_right, stands_between}
use Rattle.wire.proofs.Fields.{field_read}
use Rattle.rules.specs.Tables.{Row, prepare_code, prepare_retry, outcome_code}
use Rattle.rows.specs.Bytes.{length_of, row_bytes, rows_bytes}
use Rattle.rows.specs.Fields.{fields_at, fields_of, fields_bytes}
use Rattle.rows.specs.Inner.Rows.{size_of}
use Rattle.rows.proofs.FieldsRead.{row_bytes_lem, length_row, fields_told}
use Rattle.edit.specs.Inner.Parts.{laid}

-- the bytes of rows, each with some offset
pub data AnyOffsets : List Row → List ℕ → Type 0 where
  no_rows : AnyOffsets [] []
  one_more : (offset : ℕ) (r : Row) {rows : List Row} {ws : List ℕ} → AnyOffsets rows ws → AnyOffsets (r ∷ rows) (row_bytes offset r ++ ws)

pub any_rows : (due : ℕ) (rows : List Row) → AnyOffsets rows (rows_bytes due rows)
unfolding rows_bytes
any_rows due [] = no_rows
any_rows due (r ∷ rows) = one_more due r (any_rows (due + length_of r.body) rows)

pub any_joined : {xs ys : List Row} {us vs : List ℕ} → AnyOffsets xs us → AnyOffsets ys vs → AnyOffsets (xs ++ ys) (us ++ vs)
any_joined no_rows k = k
any_joined {vs = vs} (one_more offset r {rows} {ws} h) k = rw (append_assoc (row_bytes offset r) ws vs) (one_more offset r (any_joined h k))

-- the counts of every row are bytes
abbrev pub CountsFit : List Row → Type 0
CountsFit [] = Unit {0}
CountsFit (r ∷ rows) = (length r.body.reads < 256) × (length r.body.writes < 256) × CountsFit rows

pub counts_fit : (due : ℕ) (rows : List Row) → AllBytes (rows_bytes due rows) → CountsFit rows
unfolding rows_bytes fields_of
counts_fit due [] h = tt
counts_fit due (r ∷ rows) h =
    let (first, others) = all_joined (row_bytes due r) (rows_bytes (due + length_of r.body) rows) h in
    let f = fields_told (fields_of due r) (rw row_bytes_lem at first) in
    (f.reads, f.writes, counts_fit (due + length_of r.body) rows others)

pub counts_joined : (xs ys : List Row) (r : Row) → CountsFit (xs ++ ys) → length r.body.reads < 256 → length r.body.writes < 256 → CountsFit (xs ++ (r ∷ ys))
counts_joined [] ys r h a b = (a, b, h)
counts_joined (x ∷ xs) ys r h a b = (h.0, h.1, counts_joined xs ys r h.2 a b)

-- ---- one row

module _ (p q : List ℕ) (at offset : ℕ) (r : Row) (e : length p ≡ at) where
  row_laid : (due : ℕ) → replaced (p ++ (row_bytes offset r ++ q)) (at + 16) (bytes 4 due) ≡ p ++ (row_bytes due r ++ q)
  unfolding row_bytes fields_bytes fields_of
  row_laid due =
      let front : List ℕ = bytes 8 r.stamp ++ bytes 8 (prepare_retry r.prepare) in
      let back : List ℕ = bytes 1 (length r.body.reads) ++ (bytes 1 (length r.body.writes) ++ (bytes 1 (prepare_code r.prepare) ++ bytes 1 (outcome_code r.outcome))) in
      let n : length (p ++ front) ≡ at + 16 = simp (length-append, length_bytes) (omega arith) in
      let there : p ++ (row_bytes offset r ++ q) ≡ (p ++ front) ++ (bytes 4 offset ++ (back ++ q)) = simp append_assoc in
      let home : (p ++ front) ++ (bytes 4 due ++ (back ++ q)) ≡ p ++ (row_bytes due r ++ q) = simp append_assoc in
      rw there (replaced_between (p ++ front) (bytes 4 offset) (back ++ q) (bytes 4 due) (at + 16) n (length_bytes 4 offset ∙ sym (length_bytes 4 due)) ∙ home)

  row_size : length r.body.reads < 256 → length r.body.writes < 256 → size_of (fields_at (p ++ (row_bytes offset r ++ q)) at) ≡ length_of r.body
  unfolding row_bytes fields_bytes fields_of fields_at
  row_size a b =
      let s : List ℕ = p ++ (row_bytes offset r ++ q) in
      let h = stands_between p (row_bytes offset r) q at e in
      let i = rw length_bytes at (stands_right s at (bytes 8 r.stamp) _ h) in
      let j = rw length_bytes at (stands_right s (at + 8) (bytes 8 (prepare_retry r.prepare)) _ i) in
      let k = rw length_bytes at (stands_right s (at + 8 + 8) (bytes 4 offset) _ j) in
      let f : at + 8 + 8 + 4 ≡ at + 20 = omega arith in
      let reads = field_read 1 (length r.body.reads) s (at + 20) (at + 21) _ a (omega arith) (rw f at k) in
      let writes = field_read 1 (length r.body.writes) s (at + 21) (at + 22) _ b (omega arith) reads.1 in
      rw (reads.0, writes.0)

-- ---- all rows

laid_more : (s : List ℕ) (at n due : ℕ) → laid s at (suc n) due ≡ laid (replaced s (at + 16) (bytes 4 due)) (at + 24) n (due + size_of (fields_at s at))
unfolding laid
laid_more s at n due = refl

pub laid_rows : (p q : List ℕ) (at due : ℕ) {rows : List Row} {ws : List ℕ} → AnyOffsets rows ws → CountsFit rows → length p ≡ at → laid (p ++ (ws ++ q)) at (length rows) due ≡ p ++ (rows_bytes due rows ++ q)
unfolding laid rows_bytes
laid_rows p q at due no_rows c e = refl
laid_rows p q at due (one_more offset r {rows} {ws} h) c e =
    let n : length (p ++ row_bytes due r) ≡ at + 24 = let m = length_row due r in rw length-append (omega arith) in
    let next : ℕ = due + length_of r.body in
    let i = laid_rows (p ++ row_bytes due r) q (at + 24) next h c.2 n in
    let others : List ℕ = rows_bytes next rows in
    rw (append_assoc (row_bytes offset r) ws q, laid_more, row_size p (ws ++ q) at offset r e c.0 c.1, row_laid p (ws ++ q) at offset r e due, ← append_assoc p (row_bytes due r) (ws ++ q), i)
    (simp append_assoc)

-- ---- a turn of the loop, i rows passed

pub lay_turn : (s : List ℕ) (begin n i due : ℕ) → i < n → laid s (begin + 24 * i) (n - i) due ≡ laid (replaced s (begin + 24 * i + 16) (bytes 4 due)) (begin + 24 * (i + 1)) (n - (i + 1)) (due + size_of (fields_at s (begin + 24 * i)))
lay_turn s begin n i due h =
    let e : n - i ≡ suc (n - (i + 1)) = omega arith in
    let p : begin + 24 * (i + 1) ≡ begin + 24 * i + 24 = omega arith in
    rw (e, p) (laid_more s (begin + 24 * i) (n - (i + 1)) due)

pub lay_end : (s : List ℕ) (at n due : ℕ) → n ≡ 0 → laid s at n due ≡ s
unfolding laid
lay_end s at n due e = rw e

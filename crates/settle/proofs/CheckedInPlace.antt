-- A check of one row in the buffer where the merged table stands, and of all rows that wait, one after the other.
use mathlib.Core.Path.{◌≡◌, refl, sym, ap, ap₂, ◌∙◌}
use mathlib.Core.Bool.{Bool, true, false, not, cond, beq}
use mathlib.Core.List.{List, ◌∷◌, ◌++◌}
use Prim.Native.Nat.{ℕ, ◌+◌, ◌-◌, ◌*◌, ◌≤◌, ◌<◌}
use native.Mathlib.Omega.{arith}
use lib.Dec.{leb}
use lib.ListN.{length}
use borrow.Author.Tests.{eq-eqb, ne_eqb, lt-ltb}
use Rattle.wire.specs.Inner.ByteLists.{AllBytes}
use Rattle.rules.specs.Tests.{both, every}
use Rattle.rules.specs.Stamps.{Body}
use Rattle.rules.specs.Tables.{Prepare, Prepare.tentative, Prepare.final, Outcome.noted, Outcome.done, Row, Table, rising, prepare_code, outcome_code, something_held, result_code, result_retry}
use Rattle.rules.specs.Messages.{with_prepare, with_rows}
use Rattle.rules.specs.Check.{check}
use Rattle.rules.specs.Merge.{is_settled}
use Rattle.rules.proofs.Tables.{result_counts, verdict_counts}
use Rattle.rows.specs.declared.row.RowFields.{RowFields}
use Rattle.rows.specs.Bytes.{bodies_length}
use Rattle.rows.specs.Fields.{fields_at, fields_of, result_numbered, prepare_numbered, verdict_numbered, outcome_numbered, retry_by_code}
use Rattle.rows.specs.Read.{body_at, row_of, rows_at}
use Rattle.rows.specs.Inner.Rows.{BodyInside, RowsInside}
use Rattle.table.specs.Headers.{header_at}
use Rattle.table.specs.Images.{format_one, image_length}
use Rattle.table.specs.Parse.{table_at}
use Rattle.edit.specs.Inner.Changes.{at_index, on_row}
use Rattle.edit.specs.Inner.Holding.{Holds}
use Rattle.edit.specs.Edited.{edited}
use Rattle.edit.proofs.Holding.{one_starts, holds_long, holds_stands, holds_rows, holds_rows_at}
use Rattle.edit.proofs.EditedBuffers.{edited_as, edited_same, edited_holds, edited_twice}
use Rattle.edit.proofs.EditedParts.{row_fields}
use Rattle.edit.proofs.RowsJoined.{bodies_length_joined}
use Rattle.settle.specs.Inner.Marks.{is_marked}
use Rattle.settle.specs.Inner.Turns.{has_stamp, waits, checked_by, checked_rows}
use Rattle.settle.proofs.ChecksInTurn.{RowIs, row_read, at_row, left, turn_start, turn_passed, turn_checked, turn_end, row_keep, left_keep, kept_image, check_result_codes}

-- ---- rows that stand in a buffer, by the rules or not

pub row_stands : (s : List ℕ) (i : ℕ) → i < (header_at s).rows → RowIs (table_at format_one s).rows i (row_of s (fields_at s (24 + 24 * i)))
row_stands s i l = rw (holds_rows_at format_one s) (row_read s 24 (header_at s).rows i l)

module _ (s : List ℕ) (a : AllBytes s) (h : Holds format_one s) (i : ℕ) (l : i < (header_at s).rows) where
  pub body_there : BodyInside s (fields_at s (24 + 24 * i))
  unfolding fields_of bodies_length
  body_there =
      let t = row_stands s i l in
      let r = row_of s (fields_at s (24 + 24 * i)) in
      let e : fields_at s (24 + 24 * i) ≡ fields_of (24 + 24 * length (table_at format_one s).rows + bodies_length t.before) r =
      rw t.index at (row_fields format_one s (table_at format_one s) t.before t.behind r one_starts a (holds_stands format_one s h) t.is) in
      let n : bodies_length (table_at format_one s).rows ≡ bodies_length t.before + bodies_length (r ∷ t.behind) = ap bodies_length t.is ∙ bodies_length_joined t.before (r ∷ t.behind) in
      let k : image_length format_one (table_at format_one s) ≤ length s = holds_long format_one s one_starts h in
      rw e (omega arith)

pub rows_there : (s : List ℕ) → AllBytes s → Holds format_one s → RowsInside s 24 (header_at s).rows
rows_there s a h =
    let n : length (table_at format_one s).rows ≡ (header_at s).rows = holds_rows format_one s in
    let k : image_length format_one (table_at format_one s) ≤ length s = holds_long format_one s one_starts h in
    (omega arith, λ i l. body_there s a h i l)

-- ---- whether a row waits, by its bytes

prepare_held : (c q : ℕ) → (c ≡ 0 → ⊥) → 0 < prepare_code (prepare_numbered c q)
unfolding prepare_numbered
prepare_held c q d = rw (ne_eqb c 0 d) (go (leb c 4))
  where
    go : (b : Bool) → 0 < prepare_code (cond b (tentative (result_numbered c q)) (final (result_numbered (c - 4) q)))
    go true = result_counts (result_numbered c q)
    go false = omega arith

outcome_held_lem : (c : ℕ) → (c ≡ 0 → ⊥) → 0 < outcome_code (outcome_numbered c)
unfolding outcome_numbered
outcome_held_lem c d = rw (ne_eqb c 0 d) (go (leb c 2))
  where
    go : (b : Bool) → 0 < outcome_code (cond b (noted (verdict_numbered c)) (done (verdict_numbered (c - 2))))
    go true = verdict_counts (verdict_numbered c)
    go false = omega arith

module _ (is_open agreed : Bool) (s : List ℕ) (f : RowFields) where
  held_waits_not : 0 < prepare_code (prepare_numbered f.prepare f.retry) + outcome_code (outcome_numbered f.outcome) → false ≡ waits is_open agreed (row_of s f)
  unfolding waits is_settled something_held row_of both
  held_waits_not l = rw (lt-ltb _ _ l) refl

  pub prepared_waits_not : (f.prepare ≡ 0 → ⊥) → false ≡ waits is_open agreed (row_of s f)
  prepared_waits_not d = held_waits_not (let l = prepare_held f.prepare f.retry d in omega arith)

  pub decided_waits_not : (f.outcome ≡ 0 → ⊥) → false ≡ waits is_open agreed (row_of s f)
  decided_waits_not d = held_waits_not (let l = outcome_held_lem f.outcome d in omega arith)

  -- a row that holds nothing waits by its mark
  pub by_mark : f.prepare ≡ 0 → f.outcome ≡ 0 → not (beq agreed is_open) ≡ waits is_open agreed (row_of s f)
  unfolding waits is_settled something_held row_of prepare_numbered outcome_numbered both
  by_mark p o = rw (eq-eqb _ _ p, eq-eqb _ _ o) (go agreed is_open)
    where
      go : (a b : Bool) → not (beq a b) ≡ cond b (not a) a
      go true true = refl
      go true false = refl
      go false true = refl
      go false false = refl

-- ---- one row

-- what the check says of the row at an index, as it is called
abbrev said : List ℕ → RowFields → Body
said s f = (row_of s f).body

module _ (s : List ℕ) (a : AllBytes s) (h : Holds format_one s) (i : ℕ) (l : i < (header_at s).rows) (stamped : every has_stamp (table_at format_one s).rows ≡ true) where
  abbrev fields : RowFields
  fields = fields_at s (24 + 24 * i)

  codes : let k = check (rows_at s 24 (header_at s).rows) fields.stamp (said s fields) in (result_code k ≤ 4) × (0 < result_code k) × (retry_by_code (result_code k + 4) (result_retry k) ≡ true) × (prepare_numbered (result_code k + 4) (result_retry k) ≡ final k)
  codes = check_result_codes (rows_at s 24 (header_at s).rows) fields.stamp (said s fields) (rw (holds_rows_at format_one s) at stamped)

  pub checked_storable : let k = check (rows_at s 24 (header_at s).rows) fields.stamp (said s fields) in (result_code k + 4 ≤ 8) × (retry_by_code (result_code k + 4) (result_retry k) ≡ true)
  checked_storable = let (m, n, r, e) = codes in (omega arith, r)

  pub checked_edited : let k = check (rows_at s 24 (header_at s).rows) fields.stamp (said s fields) in edited format_one (on_row i (with_prepare (prepare_numbered (result_code k + 4) (result_retry k)))) s ≡ edited format_one (on_row i (checked_by (table_at format_one s).rows)) s
  unfolding row_of
  checked_edited =
      let x : Body = body_at s fields.offset fields.reads fields.writes in
      let r : Row = row_of s fields in
      let R : List Row = (table_at format_one s).rows in
      let w : RowIs R i r = row_stands s i l in
      let b : said s fields ≡ x = refl in
      let e : final (check (rows_at s 24 (header_at s).rows) fields.stamp (said s fields)) ≡ final (check (table_at format_one s).rows fields.stamp x) = ap₂ (λ (rows : List Row) (y : Body). final (check rows fields.stamp y)) (sym (holds_rows_at format_one s)) b in
      let p = codes.3 ∙ e in
      edited_as format_one _ _ s (ap (with_rows (table_at format_one s)) (at_row R i r w _ ∙ ap (λ (q : Prepare). w.before ++ (with_prepare q r ∷ w.behind)) p ∙ sym (at_row R i r w (checked_by R))))

-- ---- all that wait

module _ (is_open : Bool) (marks : List ℕ) where
  -- so many rows, those before an index done: the rest gives what all give
  pub record Turn (n : ℕ) (first now : List ℕ) (i : ℕ) : Type 0 where
    pub holds : Holds format_one now
    pub rise : rising 0 (table_at format_one now).rows ≡ true
    pub stamped : every has_stamp (table_at format_one now).rows ≡ true
    pub rows : (header_at now).rows ≡ n
    pub rest : edited format_one (λ T. with_rows T (left is_open marks T.rows i)) now ≡ edited format_one (λ T. with_rows T (checked_rows is_open marks T.rows)) first

  pub rows_begin : (s : List ℕ) → Holds format_one s → rising 0 (table_at format_one s).rows ≡ true → every has_stamp (table_at format_one s).rows ≡ true → Turn (header_at s).rows s s 0
  rows_begin s h rise stamped =
      record {
        holds = h;
        rise = rise;
        stamped = stamped;
        rows = refl;
        rest = edited_as format_one _ _ s (ap (with_rows (table_at format_one s)) (turn_start is_open marks (table_at format_one s).rows));
      }

  pub rows_end : (n : ℕ) (first s : List ℕ) (i : ℕ) → Turn n first s i → n ≤ i → s ≡ edited format_one (λ T. with_rows T (checked_rows is_open marks T.rows)) first
  rows_end n first s i t l =
      let m : length (table_at format_one s).rows ≡ (header_at s).rows = holds_rows format_one s in
      let k : (header_at s).rows ≡ n = t.rows in
      let e = turn_end is_open marks (table_at format_one s).rows i (omega arith) in
      sym (edited_same format_one (λ T. with_rows T (left is_open marks T.rows i)) s t.holds (ap (with_rows (table_at format_one s)) e)) ∙ t.rest

  module _ (n : ℕ) (first s : List ℕ) (i : ℕ) (t : Turn n first s i) (l : i < n) where
    abbrev row : Row
    row = row_of s (fields_at s (24 + 24 * i))

    abbrev R : List Row
    R = (table_at format_one s).rows

    pub inside : i < (header_at s).rows
    inside = let k : (header_at s).rows ≡ n = t.rows in omega arith

    pub rows_passed : waits is_open (is_marked marks i) row ≡ false → Turn n first s (i + 1)
    rows_passed w =
        record {
          holds = t.holds;
          rise = t.rise;
          stamped = t.stamped;
          rows = t.rows;
          rest = edited_as format_one _ _ s (ap (with_rows (table_at format_one s)) (turn_passed is_open marks R i row (row_stands s i inside) w)) ∙ t.rest;
        }

    abbrev change : Table → Table
    change = on_row i (checked_by R)

    checked_turn : AllBytes (edited format_one change s) → waits is_open (is_marked marks i) row ≡ true → Turn n first (edited format_one change s) (i + 1)
    checked_turn b w =
        let u : List ℕ = edited format_one change s in
        let (e, h) = edited_holds format_one change s one_starts b in
        let k : (table_at format_one u).rows ≡ at_index i (checked_by R) R = ap (λ (T : Table). T.rows) e in
        let next : List Row = at_index i (checked_by R) R in
        let same = row_keep is_open marks R i row (row_stands s i inside) t.rise in
        let more : Table → Table = λ T. with_rows T (left is_open marks T.rows (i + 1)) in
        let now-rows : length (table_at format_one u).rows ≡ (header_at u).rows = holds_rows format_one u in
        let old-rows : length R ≡ (header_at s).rows = holds_rows format_one s in
        let so : (header_at s).rows ≡ n = t.rows in
        let same-now : length (table_at format_one u).rows ≡ length R = ap length k ∙ same.count in
        let long : image_length format_one (change (table_at format_one s)) ≡ image_length format_one (table_at format_one s) = kept_image next R same (table_at format_one s) in
        let kept : image_length format_one (more (change (table_at format_one s))) ≡ image_length format_one (change (table_at format_one s)) = kept_image (left is_open marks next (i + 1)) next (left_keep is_open marks next (i + 1)) (table_at format_one s) in
        let turned : more (change (table_at format_one s)) ≡ with_rows (table_at format_one s) (left is_open marks R i) = ap (with_rows (table_at format_one s)) (turn_checked is_open marks R i row (row_stands s i inside) t.rise w) in
        record {
          holds = h;
          rise = ap (rising 0) k ∙ same.rise 0 ∙ t.rise;
          stamped = ap (every has_stamp) k ∙ same.stamped ∙ t.stamped;
          rows = omega arith;
          rest = edited_twice format_one change more s one_starts b (omega arith) (omega arith) ∙ edited_as format_one (λ T. more (change T)) _ s turned ∙ t.rest;
        }

    pub rows_checked : (u : List ℕ) → u ≡ edited format_one change s → AllBytes u → waits is_open (is_marked marks i) row ≡ true → Turn n first u (i + 1)
    rows_checked u e b w = rw e (checked_turn (rw e at b) w)

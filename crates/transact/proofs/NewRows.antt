-- A row added for a stamp that the table does not hold: the row that is held then, and the room that it has.
use mathlib.Core.Path.{◌≡◌, refl, ◌∙◌}
use mathlib.Core.Bool.{true}
use mathlib.Core.List.{List}
use mathlib.Core.Option.{some, none}
use Prim.Native.Nat.{ℕ, ◌+◌, ◌*◌, ◌≤◌, ◌<◌}
use native.Mathlib.Omega.{arith}
use lib.ListN.{length}
use borrow.Author.Tests.{eq-eqb, lt-ltb, le-leb}
use Rattle.rules.specs.Tests.{both, either}
use Rattle.rules.specs.Groups.{f_of}
use Rattle.rules.specs.Stamps.{is_stamp, counts_by_rule}
use Rattle.rules.specs.Tables.{Row, valley, table_by_rule}
use Rattle.rules.specs.Messages.{held, added}
use Rattle.rules.specs.Circumstances.{keeps_room}
use Rattle.rules.proofs.Logic.{both_true}
use Rattle.rules.proofs.Rows.{held-added}
use Rattle.rules.proofs.Tables.{table_by}
use Rattle.rules.proofs.Room.{keeps_room_fits}
use Rattle.rows.specs.declared.row.RowFields.{RowFields}
use Rattle.rows.specs.Inner.ChangedFields.{with_prepare_byte}
use Rattle.rows.specs.Inner.FieldTests.{codes_by_rule, fields_by_rule}
use Rattle.rows.specs.Fields.{retry_by_code}
use Rattle.rows.specs.Inner.Rows.{size_of}
use Rattle.table.specs.Headers.{header_at}
use Rattle.table.specs.Images.{format_one}
use Rattle.table.specs.Parse.{parse, table_at, BeginsWithImage}
use Rattle.table.proofs.Images.{one_sound}
use Rattle.edit.proofs.Holding.{holds_rows}
use Rattle.edit.proofs.Room.{room_for_one}
use Rattle.seek.specs.Inner.Limits.{limited}
use Rattle.seek.proofs.HeldRows.{image_holds, image_regular}

pub held_new : (r : Row) (rows : List Row) → held rows r.stamp ≡ none → held (added r rows) r.stamp ≡ some r
held_new r rows unheld = held-added r rows r.stamp unheld ∙ rw (eq-eqb r.stamp r.stamp refl)

-- a table by the rules of a greater box that holds no more than a lesser one may is by the rules of that
narrowed : (limit : ℕ) (s : List ℕ) → BeginsWithImage valley s → length (table_at format_one s).rows ≤ limit → BeginsWithImage (limited limit) s
unfolding parse both
narrowed limit s has_image few =
    let b : table_by_rule (limited limit) (table_at format_one s) ≡ true = table_by (limited limit) (image_regular valley s has_image).0 few in
    rw (b, image_holds valley s has_image)

codes_good : (outcome : ℕ) → outcome ≤ 4 → codes_by_rule 1 outcome ≡ true
unfolding codes_by_rule
codes_good outcome low = both_true refl (both_true (le-leb outcome 4 low) (lt-ltb 0 (1 + outcome) (omega arith)))

-- a row without a prepare byte has no retry stamp
pub no_retry : retry_by_code 0 0 ≡ true
unfolding retry_by_code either
no_retry = refl

retry_good : retry_by_code 1 0 ≡ true
unfolding retry_by_code either
retry_good = refl

-- fields of a stamp and a body are by the rules with a tentative OK
fields_good : (row : RowFields) → is_stamp row.stamp ≡ true → counts_by_rule row.reads row.writes ≡ true → row.outcome ≤ 4 → fields_by_rule (with_prepare_byte row 1 0) ≡ true
unfolding fields_by_rule
fields_good row stamp counts low = both_true (both_true stamp counts) (both_true (codes_good row.outcome low) retry_good)

module _ (s : List ℕ) (limit : ℕ) (row : RowFields) (has_image : BeginsWithImage valley s) (kind : limit ≤ 512) (least : 24 + 96 * limit ≤ length s)
    (stamp : is_stamp row.stamp ≡ true) (counts : counts_by_rule row.reads row.writes ≡ true) (low : row.outcome ≤ 4)
    (room : keeps_room limit (f_of (table_at format_one s).n) (table_at format_one s).start (length (table_at format_one s).rows) ≡ true) where
  pub room_for_row : ((header_at s).rows < 65536) × ((header_at s).length + 24 + size_of row ≤ length s) × ((header_at s).length + 24 + size_of row < 4294967296)
  room_for_row =
      let few : length (table_at format_one s).rows < limit = keeps_room_fits _ _ _ _ room in
      let said = holds_rows format_one s in
      let (fits, small) = room_for_one format_one (limited limit) s (table_at format_one s) (one_sound (limited limit) (omega arith)) (narrowed limit s has_image (omega arith)) (with_prepare_byte row 1 0) (fields_good row stamp counts low) few least in
      (omega arith, fits, small)

-- What adding a row asks of the buffer, where its table parses and holds fewer rows than it may.
use mathlib.Core.Path.{◌≡◌, ap}
use mathlib.Core.Bool.{true}
use mathlib.Core.List.{List}
use mathlib.Core.Option.{some}
use Prim.Native.Nat.{ℕ, ◌+◌, ◌*◌, ◌^◌, ◌≤◌, ◌<◌}
use native.Mathlib.Omega.{arith}
use lib.ListN.{length}
use borrow.Author.Tests.{leb-true}
use Rattle.rules.specs.Tables.{Table, Model}
use Rattle.rules.proofs.Logic.{both_left, both_right}
use Rattle.rules.proofs.Tables.{table_facts}
use Rattle.rows.specs.declared.row.RowFields.{RowFields}
use Rattle.rows.specs.Inner.FieldTests.{codes_by_rule, fields_by_rule}
use Rattle.rows.specs.Inner.Rows.{size_of}
use Rattle.rows.proofs.Turns.{fields_facts}
use Rattle.table.specs.declared.header.Header.{Header}
use Rattle.table.specs.Headers.{header_at}
use Rattle.table.specs.Images.{Form, image_length}
use Rattle.table.specs.Parse.{parse}
use Rattle.table.proofs.Images.{Sound, bodies_at_most, parsed, parse_by_rule}
use Rattle.edit.specs.Inner.Changes.{Storable}

-- fields by the rules can be stored
pub storable : (row : RowFields) → fields_by_rule row ≡ true → Storable row
unfolding fields_by_rule codes_by_rule
storable row h =
    let codes = both_left _ _ (both_right _ _ h) in
    (both_right _ _ (both_left _ _ h), leb-true _ _ (both_left _ _ codes), leb-true _ _ (both_left _ _ (both_right _ _ codes)), both_right _ _ (both_right _ _ h))

module _ (F : Form) (M : Model) (s : List ℕ) (T : Table) (sound : Sound F M) (h : parse F M s ≡ some T) where
  pub rows_said : (header_at s).rows ≡ length T.rows
  rows_said = ap (λ (x : Header). x.rows) (parsed F M s T sound h).header

  -- a row with the greatest body has room in the least buffer, and no offset outgrows its field
  pub room_for_one : (row : RowFields) → fields_by_rule row ≡ true → length T.rows < M.row_limit → F.begin + 96 * M.row_limit ≤ length s → ((header_at s).length + 24 + size_of row ≤ length s) × ((header_at s).length + 24 + size_of row < 256 ^ 4)
  room_for_one row by_rule few least =
      let (t, l) = table_facts M T (parse_by_rule F M s T h) in
      let b = bodies_at_most T.rows t.rows in
      let e : (header_at s).length ≡ image_length F T = ap (λ (x : Header). x.length) (parsed F M s T sound h).header in
      let (p, n) = fields_facts row by_rule in
      let f = sound.fits in
      (omega arith, omega arith)

-- The row that a look-up found, in a buffer that begins with an image by the rules: it is the stamp's row, its fields are that row's, and the change of it is the change that `rules` makes.
use mathlib.Core.Path.{◌≡◌, refl, sym, ap, ◌∙◌}
use mathlib.Core.Bool.{true, Bool}
use mathlib.Core.List.{List, [], ◌∷◌, ◌++◌}
use mathlib.Core.Option.{some}
use Prim.Native.Nat.{ℕ, ◌+◌, ◌*◌, ◌≤◌, ◌<◌}
use lib.ListN.{length, get_or}
use Rattle.std.proofs.Common.{Fits, w8}
use Rattle.wire.specs.Inner.ByteLists.{AllBytes}
use Rattle.wire.proofs.Numbers.{all_of}
use Rattle.rules.specs.Tests.{every}
use Rattle.rules.specs.Tables.{Row, Model, valley, row_by_rule, prepare_code, prepare_retry, outcome_code}
use Rattle.rules.specs.Messages.{held, changed}
use Rattle.rules.proofs.Groups.{group_bounds}
use Rattle.rules.proofs.Logic.{both_left, both_right}
use Rattle.rules.proofs.Lists.{every_one}
use Rattle.rules.proofs.Rows.{held_from_lem, held-changed}
use Rattle.rules.proofs.Tables.{Regular, table_facts, row_facts}
use Rattle.rows.specs.declared.row.RowFields.{RowFields}
use Rattle.rows.specs.declared.lookup.Place.TheVariants.{Held}
use Rattle.rows.specs.Fields.{fields_at, fields_of, retry_by_code}
use Rattle.rows.specs.Inner.Places.{place_of}
use Rattle.rows.specs.Read.{row_of}
use Rattle.rows.proofs.Codes.{prepare_code_limit, outcome_code_limit, retry_of_code}
use Rattle.rows.proofs.FieldsRead.{fields_of_row}
use Rattle.rows.proofs.Sought.{held_row}
use Rattle.table.specs.Headers.{header_at}
use Rattle.table.specs.Images.{format_one}
use Rattle.table.specs.Parse.{table_at, BeginsWithImage}
use Rattle.table.proofs.Images.{parse_by_rule, parse_reads}
use Rattle.edit.specs.Inner.Holding.{Holds}
use Rattle.edit.specs.Inner.Changes.{at_index}
use Rattle.edit.proofs.Holding.{one_starts, holds_least, holds_rows, holds_rows_at, holds_row_inside, holds_stands}
use Rattle.edit.proofs.Indexes.{RowThere, row_there, changed_as}
use Rattle.edit.proofs.EditedParts.{row_fields}

-- bytes that parse begin with the image of their table
pub image_holds : (M : Model) (s : List ℕ) → BeginsWithImage M s → Holds format_one s
image_holds M s has_image = (parse_reads format_one M s (table_at format_one s) has_image).1

-- a table by the rules, read off its bytes
pub image_regular : (M : Model) (s : List ℕ) → BeginsWithImage M s → Regular (table_at format_one s) × (length (table_at format_one s).rows ≤ M.row_limit)
image_regular M s has_image = table_facts M (table_at format_one s) (parse_by_rule format_one M s (table_at format_one s) has_image)

-- a group has boxes
pub some_boxes : (M : Model) (s : List ℕ) → BeginsWithImage M s → 0 < (header_at s).n
unfolding table_at
some_boxes M s has_image = (group_bounds (header_at s).n (image_regular M s has_image).0.group).0

-- a view does not begin with more rows than there are
pub began_with : (M : Model) (s : List ℕ) → BeginsWithImage M s → (header_at s).start ≤ (header_at s).rows
unfolding table_at
began_with M s has_image = rw (holds_rows format_one s) at (image_regular M s has_image).0.start

every_middle : (test : Row → Bool) (xs ys : List Row) (r : Row) → every test (xs ++ (r ∷ ys)) ≡ true → test r ≡ true
unfolding every
every_middle test [] ys r h = both_left _ _ h
every_middle test (x ∷ xs) ys r h = every_middle test xs ys r (both_right _ _ h)

module _ (M : Model) (s : List ℕ) (stamp i : ℕ) (bytes : AllBytes s) (has_image : BeginsWithImage M s) (place : place_of (table_at format_one s).rows stamp ≡ Held i) where
  abbrev pub fields_here : RowFields
  fields_here = fields_at s (24 + 24 * i)

  abbrev pub row_here : Row
  row_here = row_of s (fields_at s (24 + 24 * i))

  regular : Regular (table_at format_one s)
  regular = (image_regular M s has_image).0

  found_here : (i < (header_at s).rows) × (held (table_at format_one s).rows stamp ≡ some row_here)
  found_here = rw (← holds_rows_at format_one s) at (held_row s 24 (header_at s).rows stamp i (rw (holds_rows_at format_one s) at regular.rise) (rw (holds_rows_at format_one s) at place))

  pub index_here : i < (header_at s).rows
  index_here = found_here.0

  pub held_here : held (table_at format_one s).rows stamp ≡ some row_here
  held_here = found_here.1

  pub by_rule_here : row_by_rule row_here ≡ true
  by_rule_here = every_one row_by_rule (table_at format_one s).rows regular.rows row_here (held_from_lem (table_at format_one s).rows stamp row_here held_here).0

  there : RowThere (table_at format_one s).rows i
  there = row_there (table_at format_one s).rows i (rw (holds_rows format_one s) index_here)

  -- the codes that stand there are codes of the list
  pub codes_here : (fields_here.prepare ≤ 8) × (fields_here.outcome ≤ 4) × (retry_by_code fields_here.prepare fields_here.retry ≡ true)
  unfolding fields_of
  codes_here =
      let r = there.row in
      let e = rw there.index at (row_fields format_one s (table_at format_one s) there.before there.behind r one_starts bytes (holds_stands format_one s (image_holds M s has_image)) there.is) in
      let b : row_by_rule r ≡ true = every_middle row_by_rule there.before there.behind r (rw there.is at regular.rows) in
      rw e (prepare_code_limit r.prepare, outcome_code_limit r.outcome, retry_of_code r.prepare ∙ (row_facts r b).retry)

  pub fields_here_lem : fields_of fields_here.offset row_here ≡ fields_here
  fields_here_lem = let k = codes_here in fields_of_row s fields_here k.0 k.1 k.2

  pub prepare_here : prepare_code row_here.prepare ≡ fields_here.prepare
  unfolding fields_of
  prepare_here = ap (λ (f : RowFields). f.prepare) fields_here_lem

  pub retry_here : prepare_retry row_here.prepare ≡ fields_here.retry
  unfolding fields_of
  retry_here = ap (λ (f : RowFields). f.retry) fields_here_lem

  pub outcome_here : outcome_code row_here.outcome ≡ fields_here.outcome
  unfolding fields_of
  outcome_here = ap (λ (f : RowFields). f.outcome) fields_here_lem

  -- the row changed where it stands is the stamp's row changed, for a change that agrees with another at this row
  pub changed_here : (by change : Row → Row) → by row_here ≡ change row_here → at_index i change (table_at format_one s).rows ≡ changed stamp by (table_at format_one s).rows
  changed_here by change e = sym (changed_as (table_at format_one s).rows stamp i by change row_here regular.rise place held_here e)

  -- and it is the row that the table then holds
  pub held_then : (by : Row → Row) → ((r : Row) → (by r).stamp ≡ r.stamp) → held (changed stamp by (table_at format_one s).rows) stamp ≡ some (by row_here)
  held_then by keeps = held-changed stamp by keeps (table_at format_one s).rows ∙ rw held_here refl

-- what the code may ask of a row that a look-up found, and knows of the bytes that it reads there
pub record RowHeld (s : List ℕ) (i : ℕ) : Type 0 where
  pub holds : Holds format_one s
  pub header : 24 ≤ length s
  pub index : i < (header_at s).rows
  pub inside : 24 + 24 * i + 24 ≤ length s
  pub prepare : (fields_at s (24 + 24 * i)).prepare ≤ 8
  pub outcome : (fields_at s (24 + 24 * i)).outcome ≤ 4
  pub retry : retry_by_code (fields_at s (24 + 24 * i)).prepare (fields_at s (24 + 24 * i)).retry ≡ true

pub row_held : (s : List ℕ) (stamp i : ℕ) → ((k : ℕ) → Fits w8 (get_or s k 0)) → BeginsWithImage valley s → place_of (table_at format_one s).rows stamp ≡ Held i → RowHeld s i
row_held s stamp i fits has_image place =
    let bytes : AllBytes s = all_of s (λ k. (fits k).fits) in
    let holds : Holds format_one s = image_holds valley s has_image in
    let index : i < (header_at s).rows = index_here valley s stamp i bytes has_image place in
    let codes = codes_here valley s stamp i bytes has_image place in
    record {
      holds = holds;
      header = holds_least format_one s one_starts holds;
      index = index;
      inside = holds_row_inside format_one s i one_starts holds index;
      prepare = codes.0;
      outcome = codes.1;
      retry = codes.2;
    }

-- A look for an image in lent bytes: too few bytes begin with none, and for the others its two tests are those of the parse.
use mathlib.Core.Path.{◌≡◌, refl, sym, ap}
use mathlib.Core.Bool.{Bool, true, false}
use mathlib.Core.List.{List, ◌++◌}
use mathlib.Core.Option.{Option, none, some}
use Rattle.std.specs.Prelude as given
use Rattle.std.specs.Bool.{then_some}
use Prim.Native.Nat.{ℕ, ◌+◌, ◌*◌, ◌^◌, ◌≤◌, ◌<◌}
use native.Mathlib.Omega.{arith}
use lib.ListN.{length}
use borrow.Author.Tests.{ltb-true, lt-ltb, leb-true, le-leb, eqb-true}
use Rattle.wire.specs.Inner.ByteLists.{AllBytes}
use Rattle.wire.proofs.Numbers.{number_at-below}
use Rattle.wire.proofs.Stands.{Stands, stands_inside, stands_joined}
use Rattle.rules.specs.Tests.{both, provided}
use Rattle.rules.specs.Tables.{Table, Model, valley, is_view, table_by_rule}
use Rattle.rules.proofs.Logic.{both_left, both_right, both_true, same_test}
use Rattle.rules.proofs.Tables.{Regular, table_facts, table_by}
use Rattle.table.specs.declared.header.Header.{Header}
use Rattle.table.specs.Headers.{header_bytes, header_at}
use Rattle.table.specs.Inner.HeaderTests.{sizes_by_rule, header_by_rule_at}
use Rattle.rows.specs.Bytes.{bodies_bytes, rows_bytes}
use Rattle.table.specs.Images.{Form, format_one, image_length, header_of, image}
use Rattle.rows.specs.Read.{rows_at, begins}
use Rattle.table.specs.Parse.{table_at, parse, image_found}
use Rattle.rows.specs.Inner.Rows.{rows_by_rule_at}
use Rattle.table.proofs.Headers.{length_header, header_stands}
use Rattle.rows.proofs.RowsRead.{length-rows_at, by_rule_stand, stand_by_rule, rows_together}
use Rattle.rows.proofs.Begins.{begins_stands, stands_begins}
use Rattle.table.proofs.Images.{Sound, one_sound, valley_sound, length_image, valley_at_most, image_rows, image_read, parse_facts, parse_by_rule}

pub parse_short : (M : Model) (s : List ℕ) → length s < 24 → parse format_one M s ≡ none
parse_short M s l = go (parse format_one M s) refl
  where
    go : (t : Option Table) → parse format_one M s ≡ t → parse format_one M s ≡ none
    go none e = e
    go (some T) e =
        let n = length_image format_one T (λ rows. refl) in
        let i = stands_inside s 0 (image format_one T) (begins_stands s 0 (image format_one T) (parse_facts format_one M s T e).1) (omega arith) in
        absurd (omega arith)

-- the length in the header is that of the image, if rows by the rules stand up to it
pub found-length : (s : List ℕ) → rows_by_rule_at s 24 (header_at s).rows (header_at s).length ≡ true → image_length format_one (table_at format_one s) ≡ (header_at s).length
unfolding table_at
found-length s h = rw length-rows_at (by_rule_stand s 24 (header_at s).rows (header_at s).length h).ends

-- the two tests: what the header tells, and the rows
abbrev passes : Model → List ℕ → Bool
passes M s = both (header_by_rule_at (header_at s) 1 24 M.row_limit (length s)) (rows_by_rule_at s 24 (header_at s).rows (header_at s).length)

-- ---- where an image stands, both tests pass

tests_pass : (M : Model) (s : List ℕ) (T : Table) → Sound format_one M → table_by_rule M T ≡ true → Stands s 0 (image format_one T) → passes M s ≡ true
unfolding header_by_rule_at sizes_by_rule
tests_pass M s T k h w =
    let (t, l) = table_facts M T h in
    let p = image_read format_one M s T k h w in
    let r = image_rows format_one M s T k h w in
    let b : 24 + 24 * length T.rows ≤ image_length format_one T = omega arith in
    rw p.header
    (both_true
    (both_true
    (both_true refl (both_true t.group (lt-ltb _ _ t.box)))
    (both_true t.mode (both_true (le-leb _ _ t.start) (both_true (le-leb _ _ l) (both_true (le-leb _ _ p.long) (le-leb _ _ b))))))
    (stand_by_rule s 24 (length T.rows) (image_length format_one T) (rw p.rows r)))

-- ---- where both tests pass, an image stands

found_header : (s : List ℕ) → (header_at s).format ≡ 1 → rows_by_rule_at s 24 (header_at s).rows (header_at s).length ≡ true → header_of format_one (table_at format_one s) ≡ header_at s
unfolding header_at table_at
found_header s e h = rw (found-length s h, length-rows_at, e)

found_regular : (M : Model) (s : List ℕ) → AllBytes s → 24 ≤ length s → passes M s ≡ true → Regular (table_at format_one s)
unfolding header_by_rule_at sizes_by_rule header_at table_at is_view
found_regular M s a l h =
    let x = both_left _ _ h in
    let names = both_right _ _ (both_left _ _ x) in
    let r = by_rule_stand s 24 (header_at s).rows (header_at s).length (both_right _ _ h) in
    record {
      group = both_left _ _ names;
      box = ltb-true _ _ (both_right _ _ names);
      view = lt-ltb _ _ (number_at-below s 8 4 a (omega arith));
      promised = lt-ltb _ _ (number_at-below s 12 4 a (omega arith));
      mode = both_left _ _ (both_right _ _ x);
      start = rw length-rows_at (leb-true _ _ (both_left _ _ (both_right _ _ (both_right _ _ x))));
      rise = r.rise;
      rows = r.by_rule;
    }

found_few : (M : Model) (s : List ℕ) → passes M s ≡ true → length (table_at format_one s).rows ≤ M.row_limit
unfolding header_by_rule_at sizes_by_rule table_at
found_few M s h = rw length-rows_at (leb-true _ _ (both_left _ _ (both_right _ _ (both_right _ _ (both_right _ _ (both_left _ _ h))))))

found_stands : (M : Model) (s : List ℕ) → AllBytes s → 24 ≤ length s → passes M s ≡ true → Stands s 0 (image format_one (table_at format_one s))
unfolding header_by_rule_at image table_at
found_stands M s a l h =
    let g = both_right _ _ h in
    let e : (header_at s).format ≡ 1 = eqb-true _ _ (both_left _ _ (both_left _ _ (both_left _ _ h))) in
    let n = (header_at s).rows in
    let rows = rows_at s 24 n in
    let w = rows_together s 24 n (header_at s).length (by_rule_stand s 24 n (header_at s).length g) in
    let t : Stands s 0 (header_bytes (header_at s) ++ (rows_bytes (24 + 24 * n) rows ++ bodies_bytes rows)) = stands_joined s 0 _ _ (header_stands s a l) (rw length_header w) in
    rw (found_header s e g, length-rows_at) t

-- ---- so they are the tests of the parse

pub parse_tests : (M : Model) (s : List ℕ) → AllBytes s → 24 ≤ length s → 24 + 96 * M.row_limit < 256 ^ 4 → parse format_one M s ≡ provided (both (header_by_rule_at (header_at s) 1 24 M.row_limit (length s)) (rows_by_rule_at s 24 (header_at s).rows (header_at s).length)) (table_at format_one s)
unfolding parse
parse_tests M s a l f = ap (λ t. provided t T) (same_test _ _ there back)
  where
    T : Table
    T = table_at format_one s

    there : both (table_by_rule M T) (begins s (image format_one T)) ≡ true → passes M s ≡ true
    there h = tests_pass M s T (one_sound M f) (both_left _ _ h) (begins_stands s 0 (image format_one T) (both_right _ _ h))

    back : passes M s ≡ true → both (table_by_rule M T) (begins s (image format_one T)) ≡ true
    back h = both_true (table_by M (found_regular M s a l h) (found_few M s h)) (stands_begins s 0 (image format_one T) (found_stands M s a l h))

-- ---- what is answered by what was tested

pub short_found : (M : Model) (s : List ℕ) → length s < 24 → image_found format_one (parse format_one M s) ≡ given.None
short_found M s l = rw (parse_short M s l)

-- the length in the header is then that of the image
pub tested_found : (M : Model) (s : List ℕ) (h : Header) (ok : Bool) → AllBytes s → 24 ≤ length s → 24 + 96 * M.row_limit < 256 ^ 4 → h ≡ header_at s → ok ≡ both (header_by_rule_at h 1 24 M.row_limit (length s)) (rows_by_rule_at s 24 h.rows h.length) → then_some ok h.length ≡ image_found format_one (parse format_one M s)
tested_found M s h ok a l f e t = rw (e, parse_tests M s a l f) (go ok (rw e at t))
  where
    go : (ok : Bool) → ok ≡ passes M s → then_some ok (header_at s).length ≡ image_found format_one (provided (passes M s) (table_at format_one s))
    go true p = rw (← p, found-length s (both_right _ _ (sym p)))
    go false p = rw (← p)

-- ---- what an answer says

-- an image was found exactly where a table parses, and it is that table's
pub found_table : (F : Form) (M : Model) (s : List ℕ) (length : ℕ) → image_found F (parse F M s) ≡ given.Some length → (T : Table) × (parse F M s ≡ some T) × (length ≡ image_length F T)
found_table F M s length h = go (parse F M s) refl
  where
    go : (r : Option Table) → parse F M s ≡ r → (T : Table) × (parse F M s ≡ some T) × (length ≡ image_length F T)
    go none e =
        let f : given.None ≡ given.Some length = rw e at h in
        let z : ◌≡◌ {A = ℕ} 0 1 = cc in
        absurd (omega arith)
    go (some T) e = let f : given.Some (image_length F T) ≡ given.Some length = rw e at h in (T, e, cc)

pub found_at_most : (s : List ℕ) (length : ℕ) → image_found format_one (parse format_one valley s) ≡ given.Some length → length ≤ 49176
found_at_most s length h =
    let f = found_table format_one valley s length h in
    let T = f.0 in
    rw (f.2, ← length_image format_one T valley_sound.starts) (valley_at_most T (parse_by_rule format_one valley s T f.1))

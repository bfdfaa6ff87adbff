-- The image of a table and the table that bytes begin with: of each other, for every form that leaves room for its rows.
use mathlib.Core.Path.{◌≡◌, refl, sym, ap, ◌∙◌}
use mathlib.Core.Bool.{true}
use mathlib.Core.Logic.{◌⊎◌, inl, inr}
use mathlib.Core.List.{List, [], ◌∷◌, ◌++◌}
use mathlib.Core.Option.{Option, none, some}
use Prim.Native.Nat.{ℕ, ◌+◌, ◌*◌, ◌^◌, ◌≤◌, ◌<◌}
use native.Mathlib.Omega.{arith}
use lib.Dec.{eqb, ltb}
use lib.ListN.{length, take, drop, length-append}
use borrow.Author.Tests.{ltb-true, leb-true, eqb-true}
use Rattle.wire.specs.Numbers.{number_at}
use Rattle.wire.specs.Inner.ByteLists.{AllBytes}
use Rattle.wire.proofs.Stands.{Stands, stands_inside, stands_left, stands_right}
use Rattle.rules.specs.Tests.{both, every, provided}
use Rattle.rules.specs.Stamps.{counts_by_rule}
use Rattle.rules.specs.Tables.{Row, Table, Model, valley, is_view, mode_by_rule, rising, row_by_rule, table_by_rule}
use Rattle.rules.proofs.Logic.{none_some, both_left, both_right, both_true, either_cases}
use Rattle.rules.proofs.Lists.{provided_some}
use Rattle.rules.proofs.Groups.{group_bounds}
use Rattle.rules.proofs.Tables.{row_facts, table_facts}
use Rattle.rows.specs.Bytes.{bodies_bytes, bodies_length, rows_bytes}
use Rattle.rows.specs.Read.{rows_at, begins}
use Rattle.rows.specs.Inner.Rows.{RowsInside}
use Rattle.rows.proofs.RowsRead.{length_rows, length_bodies, RowsStand, rows_complete, bodies_inside, rows_among}
use Rattle.rows.proofs.Begins.{begins_stands, begins_is, begins_with}
use Rattle.table.specs.declared.header.Header.{Header}
use Rattle.table.specs.Headers.{header_bytes, header_at}
use Rattle.table.specs.Images.{Form, format_one, bodies_at, image_length, header_of, image}
use Rattle.table.specs.Parse.{table_at, parse}
use Rattle.table.proofs.Headers.{length_header, HeaderFits, header_read, header_among}

-- the header and what is stored behind it reach to the rows
abbrev pub Starts : Form → Type 0
Starts F = (rows : List Row) → 24 + length (F.stored rows) ≡ F.begin

-- and every number of an image has room in its field
pub record Sound (F : Form) (M : Model) : Type 0 where
  pub starts : Starts F
  pub format : F.format < 256
  pub fits : F.begin + 96 * M.row_limit < 256 ^ 4

-- ---- lengths

pub length_image : (F : Form) (T : Table) → Starts F → length (image F T) ≡ image_length F T
unfolding image
length_image F T h = let e = h T.rows in simp (length-append, length_header, length_rows, length_bodies) (omega arith)

-- a row has 24 bytes and at most 8 accesses of 9: no more than 96 in all
pub bodies_at_most : (rows : List Row) → every row_by_rule rows ≡ true → bodies_length rows ≤ 72 * length rows
unfolding every bodies_length counts_by_rule
bodies_at_most [] h = omega arith
bodies_at_most (r ∷ rows) h =
    let c = (row_facts r (both_left _ _ h)).counts in
    let x : length r.body.reads ≤ 4 = leb-true _ _ (both_left _ _ c) in
    let y : length r.body.writes ≤ 4 = leb-true _ _ (both_left _ _ (both_right _ _ c)) in
    let i = bodies_at_most rows (both_right _ _ h) in
    omega arith

length_at_most : (F : Form) (M : Model) (T : Table) → table_by_rule M T ≡ true → image_length F T ≤ F.begin + 96 * M.row_limit
length_at_most F M T h =
    let (k, l) = table_facts M T h in
    let b = bodies_at_most T.rows k.rows in
    omega arith

pub image_at_most : (F : Form) (M : Model) (T : Table) → Sound F M → table_by_rule M T ≡ true → length (image F T) ≤ F.begin + 96 * M.row_limit
image_at_most F M T k h = rw (length_image F T k.starts) (length_at_most F M T h)

pub one_sound : (M : Model) → 24 + 96 * M.row_limit < 256 ^ 4 → Sound format_one M
one_sound M h = record { starts = λ rows. refl; format = omega arith; fits = h }

pub valley_sound : Sound format_one valley
valley_sound = one_sound valley (omega arith)

pub valley_at_most : (T : Table) → table_by_rule valley T ≡ true → length (image format_one T) ≤ 49176
valley_at_most T h = image_at_most format_one valley T valley_sound h

pub sixty_four_at_most : (M : Model) (T : Table) → M.row_limit ≡ 64 → table_by_rule M T ≡ true → length (image format_one T) ≤ 6168
sixty_four_at_most M T e h =
    let l = image_at_most format_one M T (one_sound M (omega arith)) h in
    omega arith

-- ---- the header of a table by the rules fits

mode_small : (mode view promised : ℕ) → mode_by_rule mode view promised ≡ true → mode < 256
unfolding mode_by_rule
mode_small mode view promised h = go (either_cases _ _ h)
  where
    go : (both (eqb mode 0) (eqb promised view) ≡ true) ⊎ (both (eqb mode 1) (ltb view promised) ≡ true) → mode < 256
    go (inl e) = let m : mode ≡ 0 = eqb-true _ _ (both_left _ _ e) in omega arith
    go (inr e) = let m : mode ≡ 1 = eqb-true _ _ (both_left _ _ e) in omega arith

header_fits : (F : Form) (M : Model) (T : Table) → Sound F M → table_by_rule M T ≡ true → HeaderFits (header_of F T)
unfolding is_view
header_fits F M T s h =
    let (k, l) = table_facts M T h in
    let n = (group_bounds T.n k.group).1 in
    let b = k.box in
    let t = k.start in
    let f = s.fits in
    let e = length_at_most F M T h in
    record {
      format = s.format;
      boxnumber = omega arith;
      n = omega arith;
      mode = mode_small T.mode T.view T.promised k.mode;
      rows = omega arith;
      view = ltb-true _ _ k.view;
      promised = ltb-true _ _ k.promised;
      start = omega arith;
      length = omega arith;
    }

-- ---- what is read where an image stands

pub record Parsed (F : Form) (s : List ℕ) (T : Table) : Type 0 where
  pub header : header_at s ≡ header_of F T
  pub rows : rows_at s F.begin (length T.rows) ≡ T.rows
  pub inside : RowsInside s F.begin (length T.rows)
  pub long : image_length F T ≤ length s
  pub rise : rising 0 T.rows ≡ true

-- rows and bodies stand from where rows begin
pub image_behind : (F : Form) (s : List ℕ) (T : Table) → Starts F → Stands s 0 (image F T) → Stands s F.begin (rows_bytes (bodies_at F T.rows) T.rows ++ bodies_bytes T.rows)
unfolding image
image_behind F s T starts w =
    let a = rw length_header at (stands_right s 0 (header_bytes (header_of F T)) _ w) in
    rw (starts T.rows) at (stands_right s 24 (F.stored T.rows) (rows_bytes (bodies_at F T.rows) T.rows ++ bodies_bytes T.rows) a)

pub image_rows : (F : Form) (M : Model) (s : List ℕ) (T : Table) → Sound F M → table_by_rule M T ≡ true → Stands s 0 (image F T) → RowsStand s F.begin 0 (bodies_at F T.rows) (image_length F T) T.rows
image_rows F M s T k h w =
    let (t, l) = table_facts M T h in
    let b = image_behind F s T k.starts w in
    record {
      rise = t.rise;
      by_rule = t.rows;
      heads = stands_left s F.begin _ _ b;
      tails = rw length_rows at (stands_right s F.begin (rows_bytes (bodies_at F T.rows) T.rows) (bodies_bytes T.rows) b);
      ends = refl;
    }

pub image_read : (F : Form) (M : Model) (s : List ℕ) (T : Table) → Sound F M → table_by_rule M T ≡ true → Stands s 0 (image F T) → Parsed F s T
unfolding image
image_read F M s T k h w =
    let r = image_rows F M s T k h w in
    let m = length_at_most F M T h in
    let f = k.fits in
    let p = k.starts T.rows in
    let n = length_image F T k.starts in
    let l = stands_inside s 0 (image F T) w (omega arith) in
    record {
      header = header_read s (header_of F T) (header_fits F M T k h) (stands_left s 0 _ _ w);
      rows = (rows_complete s F.begin 0 (bodies_at F T.rows) (image_length F T) T.rows (omega arith) r).0;
      inside = (omega arith, bodies_inside s F.begin 0 (bodies_at F T.rows) (image_length F T) T.rows (omega arith) (omega arith) r);
      long = omega arith;
      rise = r.rise;
    }

table_read : (F : Form) (s : List ℕ) (T : Table) → Parsed F s T → table_at F s ≡ T
unfolding table_at
table_read F s T p = rw (p.header, p.rows)

-- of any table whose image stands among bytes, by the rules or not
pub image_among : (F : Form) (s : List ℕ) (T : Table) → Starts F → AllBytes s → Stands s 0 (image F T) → table_at F s ≡ T
unfolding table_at image
image_among F s T starts a w =
    let due : ℕ = bodies_at F T.rows in
    let h : header_at s ≡ header_of F T = header_among s (header_of F T) a (stands_left s 0 _ _ w) in
    let b = image_behind F s T starts w in
    let heads = stands_left s F.begin (rows_bytes due T.rows) (bodies_bytes T.rows) b in
    let tails = rw length_rows at (stands_right s F.begin (rows_bytes due T.rows) (bodies_bytes T.rows) b) in
    rw (h, rows_among s F.begin due T.rows a heads tails)

-- ---- the table that bytes begin with

-- it is the one read off them, and they begin with its image
pub parse_reads : (F : Form) (M : Model) (s : List ℕ) (T : Table) → parse F M s ≡ some T → (table_at F s ≡ T) × (begins s (image F (table_at F s)) ≡ true)
unfolding parse
parse_reads F M s T h = let (t, e) = provided_some _ (table_at F s) T h in (e, both_right _ _ t)

-- a parse that gives a table read that table, and passed both its tests
pub parse_facts : (F : Form) (M : Model) (s : List ℕ) (T : Table) → parse F M s ≡ some T → (table_by_rule M T ≡ true) × (begins s (image F T) ≡ true)
unfolding parse
parse_facts F M s T h =
    let (t, e) = provided_some _ (table_at F s) T h in
    rw (← e) (both_left _ _ t, both_right _ _ t)

pub parse_by_rule : (F : Form) (M : Model) (s : List ℕ) (T : Table) → parse F M s ≡ some T → table_by_rule M T ≡ true
parse_by_rule F M s T h = (parse_facts F M s T h).0

pub parse_begins : (F : Form) (M : Model) (s : List ℕ) (T : Table) → parse F M s ≡ some T → s ≡ image F T ++ drop (length (image F T)) s
parse_begins F M s T h = begins_is s (image F T) (parse_facts F M s T h).1

pub parsed : (F : Form) (M : Model) (s : List ℕ) (T : Table) → Sound F M → parse F M s ≡ some T → Parsed F s T
parsed F M s T k h = let (t, b) = parse_facts F M s T h in image_read F M s T k t (begins_stands s 0 (image F T) b)

pub image_parses : (F : Form) (M : Model) (T : Table) → Sound F M → table_by_rule M T ≡ true → (rest : List ℕ) → parse F M (image F T ++ rest) ≡ some T
unfolding parse
image_parses F M T k h rest =
    let s : List ℕ = image F T ++ rest in
    let b : begins s (image F T) ≡ true = begins_with (image F T) rest in
    let e : table_at F s ≡ T = table_read F s T (image_read F M s T k h (begins_stands s 0 (image F T) b)) in
    rw e (ap (λ t. provided t T) (both_true h b))

-- bytes begin with at most one image
pub at_most_one : (F : Form) (M : Model) (T U : Table) → Sound F M → table_by_rule M T ≡ true → table_by_rule M U ≡ true → (xs ys : List ℕ) → image F T ++ xs ≡ image F U ++ ys → T ≡ U
at_most_one F M T U k h g xs ys e =
    let p : some T ≡ some U = sym (image_parses F M T k h xs) ∙ ap (parse F M) e ∙ image_parses F M U k g ys in
    cc

-- one image is of one table
pub one_table : (F : Form) (M : Model) (T U : Table) → Sound F M → table_by_rule M T ≡ true → table_by_rule M U ≡ true → image F T ≡ image F U → T ≡ U
one_table F M T U k h g e = at_most_one F M T U k h g [] [] (ap (λ (z : List ℕ). z ++ []) e)

-- and one table has one image: bytes that parse to it begin alike
pub one_image : (F : Form) (M : Model) (s t : List ℕ) (T : Table) → parse F M s ≡ some T → parse F M t ≡ some T → take (length (image F T)) s ≡ take (length (image F T)) t
unfolding Stands
one_image F M s t T h g = begins_stands s 0 (image F T) (parse_facts F M s T h).1 ∙ sym (begins_stands t 0 (image F T) (parse_facts F M t T g).1)

-- what the header gives as total length is the length of the image
pub header_says : (F : Form) (M : Model) (T : Table) → Sound F M → table_by_rule M T ≡ true → (rest : List ℕ) → number_at (image F T ++ rest) 20 4 ≡ length (image F T)
unfolding header_at
header_says F M T k h rest =
    let s : List ℕ = image F T ++ rest in
    let p = image_read F M s T k h (begins_stands s 0 (image F T) (begins_with (image F T) rest)) in
    ap (λ (x : Header). x.length) p.header ∙ sym (length_image F T k.starts)

-- no table is found exactly where bytes begin with no image by the rules
pub no_table : (F : Form) (M : Model) (s : List ℕ) → Sound F M → (parse F M s ≡ none → (T : Table) → table_by_rule M T ≡ true → (rest : List ℕ) → s ≡ image F T ++ rest → ⊥) × (((T : Table) → table_by_rule M T ≡ true → (rest : List ℕ) → s ≡ image F T ++ rest → ⊥) → parse F M s ≡ none)
no_table F M s k = (λ h T t rest e. none_some (sym h ∙ ap (parse F M) e ∙ image_parses F M T k t rest), λ h. go (parse F M s) refl h)
  where
    go : (r : Option Table) → parse F M s ≡ r → ((T : Table) → table_by_rule M T ≡ true → (rest : List ℕ) → s ≡ image F T ++ rest → ⊥) → parse F M s ≡ none
    go none e h = e
    go (some T) e h = absurd (h T (parse_by_rule F M s T e) _ (parse_begins F M s T e))

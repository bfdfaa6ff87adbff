-- The rows of a merge as they are before any check: each with the body of the first used table that holds its stamp.
use mathlib.Core.Path.{◌≡◌, refl, sym, ap, ◌∙◌}
use mathlib.Core.Bool.{true}
use mathlib.Core.List.Memᴰ
use mathlib.Core.List.{List, [], ◌∷◌, ◌++◌, map}
use Prim.Native.Nat.{ℕ, ◌+◌, ◌*◌, ◌≤◌, ◌<◌}
use native.Mathlib.Omega.{arith}
use lib.ListN.{length, drop, length-map}
use Rattle.wire.specs.Parts.{replaced}
use Rattle.wire.specs.Inner.ByteLists.{AllBytes}
use Rattle.rules.specs.Tables.{Row, Table, valley, row_by_rule}
use Rattle.rules.specs.Merge.{rows_of, stamps, agreed_of, body_of, standing, merged_outcome, unchecked_prepare, unchecked_row, unchecked_rows}
use Rattle.rules.proofs.Lists.{◌∈◌, every_one}
use Rattle.rules.proofs.Stamps.{rows_from}
use Rattle.rules.proofs.Merge.{some_row}
use Rattle.rules.proofs.Tables.{row_facts}
use Rattle.rows.specs.declared.row.RowFields.{RowFields}
use Rattle.rows.specs.Bytes.{body_bytes, length_of, bodies_length, row_bytes}
use Rattle.rows.specs.Inner.ChangedFields.{with_prepare_byte, with_outcome_byte}
use Rattle.rows.specs.Fields.{fields_of, fields_bytes, retry_by_code, prepare_numbered, outcome_numbered}
use Rattle.rows.specs.Read.{row_of}
use Rattle.rows.specs.Inner.Rows.{BodyInside, body_part}
use Rattle.rows.proofs.Bodies.{length_body, body_size, body_part_lem}
use Rattle.rows.proofs.FieldsRead.{fields_of_row}
use Rattle.table.specs.Images.{format_one}
use Rattle.table.specs.Parse.{table_at}
use Rattle.gather.specs.Inner.UsedTables.{used_of, place_in, fields_for, from_first}
use Rattle.gather.proofs.NextStamps.{AllRegular, used_regular}
use Rattle.gather.proofs.UsedRows.{FirstHeld, first_held}
use Rattle.gather.proofs.FirstImages.{first_body, first_stamp, first_row}
use Rattle.decide.specs.declared.unchecked.Unchecked.{Unchecked}
use Rattle.merge.specs.Inner.Written.{row_laid}
use Rattle.std.specs.Prelude as std
use Rattle.std.specs.Option.{ForSome}
use Rattle.rules.specs.Tests.{is_some}
use Rattle.gather.specs.declared.results.HeldResult.{HeldResult}
use Rattle.image_run.specs.Inner.WholeRuns.{tables_of, Images}
use Rattle.image_run.proofs.RunTurns.{rest_of}
use Rattle.gather.specs.declared.held.Gathered.{Gathered}
use Rattle.gather.specs.declared.state.State.{State}
use Rattle.gather.specs.Inner.State.{none_seen, saw_fields}
use Rattle.gather.specs.Inner.Agreed.{agreed_among, agreed_as}
use Rattle.gather.specs.Inner.Gathered.{GatheredFrom, rows_in, fields_from}
use Rattle.gather.proofs.RowsTold.{state_gathered, agreed_gathered}
use Rattle.gather.proofs.Gathered.{part_at, all_regular}
use Rattle.decide.specs.Inner.Unsettled.{unchecked_as, unchecked_from}
use Rattle.decide.proofs.UncheckedBytes.{unchecked_codes, unchecked_numbered, agreed_some, agreed_code, unchecked_from_lem}

-- ---- the rows of these stamps

abbrev pub rows_for : ℕ → List Table → List ℕ → List Row
rows_for agreement Ts ss = map (λ s. unchecked_row agreement s (rows_of Ts s)) ss

pub rows_for_all : (agreement : ℕ) (Ts : List Table) → rows_for agreement Ts (stamps Ts) ≡ unchecked_rows agreement Ts
unfolding unchecked_rows
rows_for_all agreement Ts = refl

pub rows_for_last : (agreement : ℕ) (Ts : List Table) (ss : List ℕ) (s : ℕ) → rows_for agreement Ts (ss ++ (s ∷ [])) ≡ rows_for agreement Ts ss ++ (unchecked_row agreement s (rows_of Ts s) ∷ [])
rows_for_last agreement Ts [] s = refl
rows_for_last agreement Ts (t ∷ ss) s = ap (λ (z : List Row). unchecked_row agreement t (rows_of Ts t) ∷ z) (rows_for_last agreement Ts ss s)

pub rows_for_length : (agreement : ℕ) (Ts : List Table) (ss : List ℕ) → length (rows_for agreement Ts ss) ≡ length ss
rows_for_length agreement Ts ss = length-map ss (λ s. unchecked_row agreement s (rows_of Ts s))

-- ---- their bodies are small

abbrev Small : List Row → Type 0
Small rows = (r : Row) → r ∈ rows → length_of r.body ≤ 72

bodies_most : (rows : List Row) → Small rows → bodies_length rows ≤ 72 * length rows
unfolding bodies_length
bodies_most [] h = omega arith
bodies_most (r ∷ rows) h =
    let l = h r (Memᴰ.head refl) in
    let k = bodies_most rows (λ q m. h q (Memᴰ.tail m)) in
    omega arith

body_most : (r : Row) → row_by_rule r ≡ true → length_of r.body ≤ 72
body_most r h = rw (length_body r.body) at (body_size r.body (row_facts r h).counts).1

unchecked_body : (agreement s : ℕ) (rs : List Row) → (unchecked_row agreement s rs).body ≡ body_of rs
unfolding unchecked_row
unchecked_body agreement s rs = refl

module _ (agreement : ℕ) (Ts : List Table) (all : AllRegular Ts) where
  body_small : (s : ℕ) → s ∈ stamps Ts → length_of (unchecked_row agreement s (rows_of Ts s)).body ≤ 72
  body_small s m = rw (unchecked_body agreement s (rows_of Ts s)) (go (rows_of Ts s) (some_row agreement Ts all s m) (λ r n. rows_from Ts s r n))
    where
      go : (rs : List Row) → (r : Row) × (r ∈ rs) → ((r : Row) → r ∈ rs → (T : Table) × (T ∈ Ts) × (r ∈ T.rows) × (r.stamp ≡ s)) → length_of (body_of rs) ≤ 72
      go [] (r, n) from = absurd (Memᴰ.not-nil n)
      go (q ∷ rs) k from =
          let (T, n, i, e) = from q (Memᴰ.head refl) in
          body_most q (every_one row_by_rule T.rows (all T n).rows q i)

  -- of some stamps of the tables
  pub bodies_small : (ss : List ℕ) → ((s : ℕ) → s ∈ ss → s ∈ stamps Ts) → bodies_length (rows_for agreement Ts ss) ≤ 72 * length ss
  bodies_small ss among = rw (rows_for_length agreement Ts ss) at (bodies_most (rows_for agreement Ts ss) (λ r m. small r m))
    where
      small : (r : Row) → r ∈ rows_for agreement Ts ss → length_of r.body ≤ 72
      small r m =
          let (s, n, e) = Memᴰ.of_map (λ s. unchecked_row agreement s (rows_of Ts s)) ss m in
          rw (← e) (body_small s (among s n))

  pub bodies_all : bodies_length (unchecked_rows agreement Ts) ≤ 72 * length (stamps Ts)
  bodies_all = rw (rows_for_all agreement Ts) at (bodies_small (stamps Ts) (λ s m. m))

-- ---- the row of a stamp as it is written: `first` is the first used image that holds it, and f are the fields that were read there

-- these fields with the state u, and the body at `due`
abbrev pub fields_due : RowFields → Unchecked → ℕ → RowFields
fields_due f u due = record { stamp = f.stamp; retry = u.retry; offset = due; reads = f.reads; writes = f.writes; prepare = u.prepare; outcome = u.outcome }

-- the same where the body is
abbrev fields_with : RowFields → Unchecked → RowFields
fields_with f u = fields_due f u f.offset

row_as_read : (first : List ℕ) (f : RowFields) (p t o agreement s : ℕ) (others : List Row) →
    f.stamp ≡ s →
    (prepare_numbered p t ≡ unchecked_prepare (standing agreement (row_of first f ∷ others)) (merged_outcome (row_of first f ∷ others))) × (outcome_numbered o ≡ merged_outcome (row_of first f ∷ others)) →
    row_of first (with_outcome_byte (with_prepare_byte f p t) o) ≡ unchecked_row agreement s (row_of first f ∷ others)
unfolding row_of unchecked_row
row_as_read first f p t o agreement s others e (a, b) = rw (a, b, e) refl

offset_alone : (f : RowFields) (u : Unchecked) (due : ℕ) (r : Row) → fields_of f.offset r ≡ fields_with f u → fields_of due r ≡ fields_due f u due
unfolding fields_of
offset_alone f u due r e = ap (λ (x : RowFields). record { stamp = x.stamp; retry = x.retry; offset = due; reads = x.reads; writes = x.writes; prepare = x.prepare; outcome = x.outcome }) e

module _ (newest stamp : ℕ) (Ts : List Table) (s t : List ℕ) (regular : AllRegular Ts) (held : FirstHeld newest stamp Ts s t) (first : List ℕ) (same : first ≡ t) (f : RowFields) (told : f ≡ fields_for first (place_in newest (table_at format_one first) stamp)) (agreement : ℕ) (u : Unchecked) (state : u ≡ unchecked_as agreement (rows_of (used_of newest Ts) stamp)) where
  abbrev the_row : Row
  the_row = unchecked_row agreement stamp (rows_of (used_of newest Ts) stamp)

  rows_rule : (r : Row) → r ∈ rows_of (used_of newest Ts) stamp → row_by_rule r ≡ true
  rows_rule r m =
      let (T, n, k, e) = rows_from (used_of newest Ts) stamp r m in
      every_one row_by_rule T.rows (used_regular newest Ts regular T n).rows r k

  row_read : row_of first (fields_with f u) ≡ the_row
  row_read =
      let r = first_row newest stamp Ts s t held first same f told in
      let n = unchecked_numbered agreement (rows_of (used_of newest Ts) stamp) in
      rw (state, r) (row_as_read first f _ _ _ agreement stamp held.others (first_stamp newest stamp Ts s t held first same f told) (rw r at n))

  codes : (u.prepare ≤ 8) × (u.outcome ≤ 4) × (retry_by_code u.prepare u.retry ≡ true)
  codes = rw state (unchecked_codes agreement (rows_of (used_of newest Ts) stamp) rows_rule)

  -- its fields are those of the row of `rules`
  pub row_written : (due : ℕ) → fields_bytes (fields_due f u due) ≡ row_bytes due the_row
  unfolding row_bytes
  row_written due =
      let e : fields_of f.offset the_row ≡ fields_with f u = ap (fields_of f.offset) (sym row_read) ∙ fields_of_row first (fields_with f u) codes.0 codes.1 codes.2 in
      ap fields_bytes (sym (offset_alone f u due the_row e))

  -- and its body is that row's
  pub body_written : body_part first f ≡ body_bytes the_row.body
  body_written =
      let bytes : AllBytes first = rw same held.bytes in
      let inside = first_body newest stamp Ts s t held first same f told in
      let r = first_row newest stamp Ts s t held first same f told in
      let b : the_row.body ≡ (row_of first f).body = unchecked_body agreement stamp (rows_of (used_of newest Ts) stamp) ∙ ap body_of r in
      body_part_lem first f bytes inside ∙ ap body_bytes (sym b)

  pub body_long : length (body_part first f) ≡ length_of the_row.body
  body_long = ap length body_written ∙ length_body the_row.body

  -- both written
  pub stamp_laid : (out : List ℕ) (index due : ℕ) (row : RowFields) (body : List ℕ) → row ≡ fields_due f u due → body ≡ body_part first f → replaced (replaced out (24 + 24 * index) (fields_bytes row)) due body ≡ row_laid out index due the_row
  stamp_laid out index due row body e b = rw (e, b, row_written due, body_written) refl

-- ---- an agreed result has a tentative result's prepare byte

pub agreed_tentative : (run : List ℕ) → AllBytes run → Images valley run → length (tables_of valley run) ≤ 4 → (g : Gathered) → GatheredFrom run g → (agreement : ℕ) (agreed : std.Option HeldResult) → agreed ≡ agreed_among agreement (fields_from g.rows 0 4) (fields_from g.rows 0 4) → ForSome agreed (λ held. held.code ≤ 4)
agreed_tentative run bytes images few g gathered agreement agreed agreed-is = rw (agreed-is ∙ agreed_gathered run bytes images few g gathered agreement) (agreed_code (agreed_of agreement (rows_in run g)))

-- ---- what was written, by what each step of the code promises: the row and its place are those of the first image that holds the stamp

module _ (run : List ℕ) (bytes : AllBytes run) (images : Images valley run) (few : length (tables_of valley run) ≤ 4) (g : Gathered) (gathered : GatheredFrom run g) (some-row : 0 < length (rows_in run g)) (at : ℕ) (f : RowFields) (first-is : drop at run ≡ from_first g.cursors.newest g.cursors.last (tables_of valley run) run) (row-is : f ≡ fields_for (drop at run) (place_in g.cursors.newest (table_at format_one (drop at run)) g.cursors.last)) where
  held-first : FirstHeld g.cursors.newest g.cursors.last (tables_of valley run) run (from_first g.cursors.newest g.cursors.last (tables_of valley run) run)
  held-first = first_held _ _ _ _ bytes images some-row

  part-is : part_at run at ≡ from_first g.cursors.newest g.cursors.last (tables_of valley run) run
  part-is = rest_of run at ∙ first-is

  row-read : f ≡ fields_for (part_at run at) (place_in g.cursors.newest (table_at format_one (part_at run at)) g.cursors.last)
  row-read = rw (rest_of run at) row-is

  pub body_inside : BodyInside (part_at run at) f
  body_inside = first_body _ _ _ _ _ held-first _ part-is _ row-read

  -- with what the rows of the stamp say together
  module _ (agreement : ℕ) (agreed : std.Option HeldResult) (agreed-is : agreed ≡ agreed_among agreement (fields_from g.rows 0 4) (fields_from g.rows 0 4)) where
    agreed-told : agreed ≡ agreed_as (agreed_of agreement (rows_in run g))
    agreed-told = agreed-is ∙ agreed_gathered run bytes images few g gathered agreement

    pub whether_agreed : std.is_some agreed ≡ is_some (agreed_of agreement (rows_in run g))
    whether_agreed = rw agreed-told (agreed_some (agreed_of agreement (rows_in run g)))

    module _ (x : State) (x-is : x ≡ saw_fields none_seen (fields_from g.rows 0 4)) (u : Unchecked) (u-is : u ≡ unchecked_from x agreed) where
      unchecked-is : u ≡ unchecked_as agreement (rows_in run g)
      unchecked-is = u-is ∙ rw (x-is ∙ state_gathered run bytes images few g gathered, agreed-told) (unchecked_from_lem agreement (rows_in run g))

      module _ (body : List ℕ) (body-is : body ≡ body_part (part_at run at) f) where
        pub body_as_long : length body ≡ length_of (unchecked_row agreement g.cursors.last (rows_in run g)).body
        body_as_long = ap length body-is ∙ body_long _ _ _ _ _ (all_regular run images) held-first _ part-is _ row-read agreement u unchecked-is

        pub row_and_body : (out : List ℕ) (index due : ℕ) → replaced (replaced out (24 + 24 * index) (fields_bytes (fields_due f u due))) due body ≡ row_laid out index due (unchecked_row agreement g.cursors.last (rows_in run g))
        row_and_body out index due = stamp_laid _ _ _ _ _ (all_regular run images) held-first _ part-is _ row-read agreement u unchecked-is out index due _ body refl body-is

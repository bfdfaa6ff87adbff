-- The fields of a row as bytes: what stands there is read, what is read stands there, and a row and its fields are of each other.
use mathlib.Core.Path.{◌≡◌, refl}
use mathlib.Core.Bool.{true}
use mathlib.Core.List.{List}
use Prim.Native.Nat.{ℕ, ◌+◌, ◌^◌, ◌≤◌, ◌<◌}
use native.Mathlib.Omega.{arith}
use lib.ListN.{length, length-append}
use borrow.Author.Tests.{ltb-true, leb-true}
use Rattle.wire.specs.Inner.ByteLists.{AllBytes}
use Rattle.wire.proofs.Numbers.{length_bytes, bytes_fit}
use Rattle.wire.proofs.Stands.{Stands}
use Rattle.wire.proofs.Fields.{field_read, field_stands, last_read, last_stands, stands_bytes, field_fits}
use Rattle.rules.specs.Stamps.{is_stamp, counts_by_rule}
use Rattle.rules.specs.Tables.{Result, Result.OK, Result.ABORT, Result.ABSTAIN, Result.RETRY, Prepare, Prepare.no_prepare, Prepare.tentative, Prepare.final, result_retry, prepare_retry, result_by_rule, retry_by_rule, Row, row_by_rule}
use Rattle.rules.proofs.Logic.{both_left, both_right}
use Rattle.rules.proofs.Tables.{row_facts}
use Rattle.rows.specs.declared.row.RowFields.{RowFields}
use Rattle.rows.specs.Bytes.{row_bytes}
use Rattle.rows.specs.Fields.{fields_at, fields_of, fields_bytes, retry_by_code}
use Rattle.rows.specs.Read.{body_at, row_of}
use Rattle.rows.proofs.Codes.{prepare_code_limit, outcome_code_limit, prepare_read, outcome_read, prepare_numbered_lem, outcome_numbered_lem}
use Rattle.rows.proofs.Bodies.{length-accesses_at}

pub length_fields : (f : RowFields) → length (fields_bytes f) ≡ 24
unfolding fields_bytes
length_fields f = simp (length-append, length_bytes)

-- every field is a number of its width
pub record FieldsFit (f : RowFields) : Type 0 where
  pub stamp : f.stamp < 256 ^ 8
  pub retry : f.retry < 256 ^ 8
  pub offset : f.offset < 256 ^ 4
  pub reads : f.reads < 256
  pub writes : f.writes < 256
  pub prepare : f.prepare < 256
  pub outcome : f.outcome < 256

-- the fields that stand there are read
pub fields_read : (s : List ℕ) (at : ℕ) (f : RowFields) → FieldsFit f → Stands s at (fields_bytes f) → fields_at s at ≡ f
unfolding fields_at fields_bytes
fields_read s at f k h =
    let a = field_read 8 f.stamp s at (at + 8) _ k.stamp refl h in
    let b = field_read 8 f.retry s (at + 8) (at + 16) _ k.retry (omega arith) a.1 in
    let c = field_read 4 f.offset s (at + 16) (at + 20) _ k.offset (omega arith) b.1 in
    let d = field_read 1 f.reads s (at + 20) (at + 21) _ k.reads (omega arith) c.1 in
    let e = field_read 1 f.writes s (at + 21) (at + 22) _ k.writes (omega arith) d.1 in
    let p = field_read 1 f.prepare s (at + 22) (at + 23) _ k.prepare (omega arith) e.1 in
    rw (a.0, b.0, c.0, d.0, e.0, p.0, last_read 1 f.outcome s (at + 23) k.outcome p.1)

-- fields whose bytes are bytes fit
pub fields_told : (f : RowFields) → AllBytes (fields_bytes f) → FieldsFit f
unfolding fields_bytes
fields_told f h =
    let a = field_fits 8 f.stamp _ (omega arith) h in
    let b = field_fits 8 f.retry _ (omega arith) a.1 in
    let c = field_fits 4 f.offset _ (omega arith) b.1 in
    let d = field_fits 1 f.reads _ (omega arith) c.1 in
    let e = field_fits 1 f.writes _ (omega arith) d.1 in
    let p = field_fits 1 f.prepare _ (omega arith) e.1 in
    record { stamp = a.0; retry = b.0; offset = c.0; reads = d.0; writes = e.0; prepare = p.0; outcome = bytes_fit 1 f.outcome (omega arith) p.1 }

-- so fields that stand among bytes fit and are read, whatever they say
pub fields_among : (s : List ℕ) (at : ℕ) (f : RowFields) → AllBytes s → Stands s at (fields_bytes f) → FieldsFit f × (fields_at s at ≡ f)
fields_among s at f a h = let k = fields_told f (stands_bytes s at (fields_bytes f) a h) in (k, fields_read s at f k h)

-- the fields that are read stand there
pub fields_stand : (s : List ℕ) (at : ℕ) → AllBytes s → at + 24 ≤ length s → Stands s at (fields_bytes (fields_at s at))
unfolding fields_at fields_bytes
fields_stand s at a l =
    field_stands 8 s at (at + 8) _ a (omega arith) refl
    (field_stands 8 s (at + 8) (at + 16) _ a (omega arith) (omega arith)
    (field_stands 4 s (at + 16) (at + 20) _ a (omega arith) (omega arith)
    (field_stands 1 s (at + 20) (at + 21) _ a (omega arith) (omega arith)
    (field_stands 1 s (at + 21) (at + 22) _ a (omega arith) (omega arith)
    (field_stands 1 s (at + 22) (at + 23) _ a (omega arith) (omega arith) (last_stands 1 s (at + 23) a (omega arith)))))))

-- ---- a row and its fields

pub row_bytes_lem : (offset : ℕ) (r : Row) → row_bytes offset r ≡ fields_bytes (fields_of offset r)
unfolding row_bytes
row_bytes_lem offset r = refl

pub length_row : (offset : ℕ) (r : Row) → length (row_bytes offset r) ≡ 24
length_row offset r = rw row_bytes_lem (length_fields (fields_of offset r))

pub stamp_small : (s : ℕ) → is_stamp s ≡ true → s < 256 ^ 8
unfolding is_stamp
stamp_small s h = let l : s < 2 ^ 48 = ltb-true s (2 ^ 48) (both_right _ _ h) in omega arith

result_retry_small : (r : Result) → result_by_rule r ≡ true → result_retry r < 256 ^ 8
unfolding result_by_rule
result_retry_small OK h = omega arith
result_retry_small ABORT h = omega arith
result_retry_small ABSTAIN h = omega arith
result_retry_small (RETRY s) h = stamp_small s h

retry_small : (p : Prepare) → retry_by_rule p ≡ true → prepare_retry p < 256 ^ 8
unfolding retry_by_rule
retry_small no_prepare h = omega arith
retry_small (tentative r) h = result_retry_small r h
retry_small (final r) h = result_retry_small r h

-- the fields of a row by the rules fit
pub fields_fit : (offset : ℕ) (r : Row) → offset < 256 ^ 4 → row_by_rule r ≡ true → FieldsFit (fields_of offset r)
unfolding fields_of counts_by_rule
fields_fit offset r l h =
    let k = row_facts r h in
    let x : length r.body.reads ≤ 4 = leb-true _ _ (both_left _ _ k.counts) in
    let y : length r.body.writes ≤ 4 = leb-true _ _ (both_left _ _ (both_right _ _ k.counts)) in
    let p = prepare_code_limit r.prepare in
    let o = outcome_code_limit r.outcome in
    record {
      stamp = stamp_small r.stamp k.stamp;
      retry = retry_small r.prepare k.retry;
      offset = l;
      reads = omega arith;
      writes = omega arith;
      prepare = omega arith;
      outcome = omega arith;
    }

-- fields that have codes are those of the row that they say
pub fields_of_row : (s : List ℕ) (f : RowFields) → f.prepare ≤ 8 → f.outcome ≤ 4 → retry_by_code f.prepare f.retry ≡ true → fields_of f.offset (row_of s f) ≡ f
unfolding fields_of row_of body_at
fields_of_row s f c o q =
    let k = prepare_numbered_lem f.prepare f.retry c q in
    rw (k.0, k.1, outcome_numbered_lem f.outcome o) (simp length-accesses_at)

-- a row is the one that its fields say, if its body is read where they say
pub row_of_fields : (s : List ℕ) (offset : ℕ) (r : Row) → body_at s offset (length r.body.reads) (length r.body.writes) ≡ r.body → row_of s (fields_of offset r) ≡ r
unfolding fields_of row_of
row_of_fields s offset r e = rw (e, prepare_read r.prepare, outcome_read r.outcome)

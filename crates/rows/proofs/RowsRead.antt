-- Rows in bytes: the walk passes exactly where rows by the rules stand with their bodies, and these are the rows that are read.
use mathlib.Core.Path.{◌≡◌, refl, sym, ap, ap₂, ◌∙◌}
use mathlib.Core.Bool.{true}
use mathlib.Core.List.{List, [], ◌∷◌, ◌++◌}
use Prim.Native.Nat.{ℕ, zero, suc, ◌+◌, ◌*◌, ◌^◌, ◌≤◌, ◌<◌}
use native.Mathlib.Nat.{add-zero}
use native.Mathlib.Omega.{arith}
use lib.Dec.{ltb}
use lib.ListN.{length, length-append}
use borrow.Author.Tests.{leb-true, le-leb, eqb-true, eq-eqb}
use Rattle.wire.specs.Inner.ByteLists.{AllBytes}
use Rattle.wire.proofs.Stands.{Stands, stands_nothing, stands_joined, stands_left, stands_right}
use Rattle.rules.specs.Tests.{every}
use Rattle.rules.specs.Stamps.{counts_by_rule}
use Rattle.rules.specs.Tables.{Row, rising, row_by_rule}
use Rattle.rules.proofs.Logic.{both_left, both_right, both_true, same_test, eqb_self}
use Rattle.rules.proofs.Tables.{RowByRule, row_facts, row_by}
use Rattle.rows.specs.declared.row.RowFields.{RowFields}
use Rattle.rows.specs.Bytes.{body_bytes, length_of, bodies_bytes, bodies_length, row_bytes, rows_bytes}
use Rattle.rows.specs.Fields.{fields_at, fields_of}
use Rattle.rows.specs.Inner.FieldTests.{codes_by_rule, fields_by_rule}
use Rattle.rows.specs.Read.{body_at, row_of, rows_at}
use Rattle.rows.specs.Inner.Rows.{size_of, BodyInside, place_by_rule, body_by_rule_at, row_by_rule_at, rows_by_rule_at}
use Rattle.rows.proofs.Walks.{rows_walk}
use Rattle.rows.proofs.Codes.{codes_of_lem, retry_of_code, coded}
use Rattle.rows.proofs.Bodies.{length-accesses_at, length_body, length_of-body_at, body_stands, body_read, body_among}
use Rattle.rows.proofs.Begins.{begins_stands, stands_begins}
use Rattle.rows.proofs.FieldsRead.{fields_read, fields_among, fields_stand, row_bytes_lem, length_row, stamp_small, fields_fit, fields_of_row, row_of_fields}

-- ---- lengths

pub length-rows_at : (s : List ℕ) (at n : ℕ) → length (rows_at s at n) ≡ n
unfolding rows_at
length-rows_at s at zero = refl
length-rows_at s at (suc n) = ap suc (length-rows_at s (at + 24) n)

pub length_rows : (offset : ℕ) (rows : List Row) → length (rows_bytes offset rows) ≡ 24 * length rows
unfolding rows_bytes
length_rows offset [] = refl
length_rows offset (r ∷ rows) =
    let i = length_rows (offset + length_of r.body) rows in
    let e = length_row offset r in
    simp length-append (omega arith)

pub length_bodies : (rows : List Row) → length (bodies_bytes rows) ≡ bodies_length rows
unfolding bodies_bytes bodies_length
length_bodies [] = refl
length_bodies (r ∷ rows) = rw (length-append, length_body, length_bodies rows)

-- ---- one row

-- r stands at at, with its body at due, which ends by end; its stamp is above last
pub record RowStands (s : List ℕ) (at last due end : ℕ) (r : Row) : Type 0 where
  pub by_rule : row_by_rule r ≡ true
  pub rise : ltb last r.stamp ≡ true
  pub head : Stands s at (row_bytes due r)
  pub tail : Stands s due (body_bytes r.body)
  pub ends : due + length_of r.body ≤ end

stamp_said : (s : List ℕ) (f : RowFields) → (row_of s f).stamp ≡ f.stamp
unfolding row_of
stamp_said s f = refl

size_said : (s : List ℕ) (f : RowFields) → length_of (row_of s f).body ≡ size_of f
unfolding row_of
size_said s f = length_of-body_at s f.offset f.reads f.writes

-- the row that fields by the rules say is by the rules
row_said : (s : List ℕ) (f : RowFields) (end : ℕ) → fields_by_rule f ≡ true → body_by_rule_at s f end ≡ true → RowByRule (row_of s f)
unfolding fields_by_rule body_by_rule_at row_of body_at
row_said s f end h b =
    let x = both_right _ _ h in
    let k = coded f.prepare f.retry f.outcome (both_left _ _ x) (both_right _ _ x) in
    let n : counts_by_rule f.reads f.writes ≡ true = both_right _ _ (both_left _ _ h) in
    record {
      stamp = both_left _ _ (both_left _ _ h);
      counts = simp length-accesses_at n;
      held = k.held;
      retry = k.by_rule;
      contents = both_right _ _ b;
    }

-- a row that passes where it stands is by the rules, and stands there
row_sound : (s : List ℕ) (at last due end : ℕ) → AllBytes s → at + 24 ≤ length s → end ≤ length s → row_by_rule_at s (fields_at s at) last due end ≡ true → RowStands s at last due end (row_of s (fields_at s at))
unfolding row_by_rule_at fields_by_rule codes_by_rule place_by_rule body_by_rule_at row_of
row_sound s at last due end a l m h =
    let f = fields_at s at in
    let x = both_left _ _ (both_left _ _ h) in
    let codes = both_left _ _ (both_right _ _ x) in
    let y = both_right _ _ (both_left _ _ h) in
    let o : f.offset ≡ due = eqb-true _ _ (both_left _ _ y) in
    let z : f.offset + size_of f ≤ end = leb-true _ _ (both_left _ _ (both_right _ _ h)) in
    let e : fields_of f.offset (row_of s f) ≡ f = fields_of_row s f (leb-true _ _ (both_left _ _ codes)) (leb-true _ _ (both_left _ _ (both_right _ _ codes))) (both_right _ _ (both_right _ _ x)) in
    record {
      by_rule = row_by (row_said s f end x (both_right _ _ h));
      rise = both_right _ _ y;
      head = rw (← o, row_bytes_lem, e) (fields_stand s at a l);
      tail = rw (← o) (body_stands s f.offset f.reads f.writes a (omega arith));
      ends = rw (size_said s f, ← o) z;
    }

-- a row by the rules that stands there passes, and is read
row_passes : (s : List ℕ) (last due end : ℕ) (r : Row) → row_by_rule r ≡ true → ltb last r.stamp ≡ true → due + length_of r.body ≤ end → body_at s due (length r.body.reads) (length r.body.writes) ≡ r.body → row_by_rule_at s (fields_of due r) last due end ≡ true
unfolding row_by_rule_at fields_by_rule place_by_rule body_by_rule_at fields_of
row_passes s last due end r h p l e =
    let k = row_facts r h in
    both_true
    (both_true
    (both_true (both_true k.stamp k.counts) (both_true (codes_of_lem r.prepare r.outcome ∙ k.held) (retry_of_code r.prepare ∙ k.retry)))
    (both_true (eqb_self due) p))
    (both_true (le-leb _ _ l) (rw e k.contents))

fields_there : (s : List ℕ) (at last due end : ℕ) (r : Row) → due < 256 ^ 4 → RowStands s at last due end r → fields_at s at ≡ fields_of due r
fields_there s at last due end r l h = fields_read s at (fields_of due r) (fields_fit due r l h.by_rule) (rw row_bytes_lem at h.head)

row_complete : (s : List ℕ) (at last due end : ℕ) (r : Row) → due < 256 ^ 4 → RowStands s at last due end r → (row_of s (fields_at s at) ≡ r) × (row_by_rule_at s (fields_at s at) last due end ≡ true)
row_complete s at last due end r l h =
    let k = row_facts r h.by_rule in
    let m : r.stamp < 256 ^ 8 = stamp_small r.stamp k.stamp in
    let e : fields_at s at ≡ fields_of due r = fields_there s at last due end r l h in
    let b = body_read s due r.stamp r.body k.contents (omega arith) h.tail in
    (rw e (row_of_fields s due r b), rw e (row_passes s last due end r h.by_rule h.rise h.ends b))

-- ---- all rows

-- rows stand from at on, with their bodies one after the other from due to end; stamps rise from above last
pub record RowsStand (s : List ℕ) (at last due end : ℕ) (rows : List Row) : Type 0 where
  pub rise : rising last rows ≡ true
  pub by_rule : every row_by_rule rows ≡ true
  pub heads : Stands s at (rows_bytes due rows)
  pub tails : Stands s due (bodies_bytes rows)
  pub ends : due + bodies_length rows ≡ end

-- the first of them, and the rest
first_row : (s : List ℕ) (at last due end : ℕ) (r : Row) (rows : List Row) → RowsStand s at last due end (r ∷ rows) → RowStands s at last due end r
unfolding rising every rows_bytes bodies_bytes bodies_length
first_row s at last due end r rows h =
    let e = h.ends in
    record {
      by_rule = both_left _ _ h.by_rule;
      rise = both_left _ _ h.rise;
      head = stands_left s at _ _ h.heads;
      tail = stands_left s due _ _ h.tails;
      ends = omega arith;
    }

other_rows : (s : List ℕ) (at last due end : ℕ) (r : Row) (rows : List Row) → RowsStand s at last due end (r ∷ rows) → RowsStand s (at + 24) r.stamp (due + length_of r.body) end rows
unfolding rising every rows_bytes bodies_bytes bodies_length
other_rows s at last due end r rows h =
    let e = h.ends in
    record {
      by_rule = both_right _ _ h.by_rule;
      rise = both_right _ _ h.rise;
      heads = rw length_row at (stands_right s at (row_bytes due r) _ h.heads);
      tails = rw length_body at (stands_right s due (body_bytes r.body) _ h.tails);
      ends = omega arith;
    }

more_rows : (s : List ℕ) (at last due end : ℕ) (r : Row) (rows : List Row) → RowStands s at last due end r → RowsStand s (at + 24) r.stamp (due + length_of r.body) end rows → RowsStand s at last due end (r ∷ rows)
unfolding rising every rows_bytes bodies_bytes bodies_length
more_rows s at last due end r rows h k =
    let e = k.ends in
    record {
      by_rule = both_true h.by_rule k.by_rule;
      rise = both_true h.rise k.rise;
      heads = stands_joined s at (row_bytes due r) _ h.head (rw length_row k.heads);
      tails = stands_joined s due (body_bytes r.body) _ h.tail (rw length_body k.tails);
      ends = omega arith;
    }

-- where the walk passes, the rows that are read stand
rows_sound : (s : List ℕ) (at n last due end : ℕ) → AllBytes s → at + 24 * n ≤ length s → end ≤ length s → rows_walk s at n last due end ≡ true → RowsStand s at last due end (rows_at s at n)
unfolding rows_walk rows_at rising every rows_bytes bodies_bytes bodies_length
rows_sound s at zero last due end a l m h =
    let e = eqb-true due end h in
    record { rise = refl; by_rule = refl; heads = stands_nothing s at; tails = stands_nothing s due; ends = omega arith }
rows_sound s at (suc n) last due end a l m h =
    let f = fields_at s at in
    let i = rows_sound s (at + 24) n f.stamp (due + size_of f) end a (omega arith) m (both_right _ _ h) in
    more_rows s at last due end (row_of s f) (rows_at s (at + 24) n)
    (row_sound s at last due end a (omega arith) m (both_left _ _ h))
    (rw (stamp_said, size_said) i)

-- rows that stand there are read, and the walk passes
pub rows_complete : (s : List ℕ) (at last due end : ℕ) (rows : List Row) → end < 256 ^ 4 → RowsStand s at last due end rows → (rows_at s at (length rows) ≡ rows) × (rows_walk s at (length rows) last due end ≡ true)
unfolding rows_walk rows_at bodies_length
rows_complete s at last due end [] m h = (refl, eq-eqb due end (omega (arith, h.ends)))
rows_complete s at last due end (r ∷ rows) m h =
    let e = h.ends in
    let w = row_complete s at last due end r (omega arith) (first_row s at last due end r rows h) in
    let i = rows_complete s (at + 24) r.stamp (due + length_of r.body) end rows m (other_rows s at last due end r rows h) in
    let t : (fields_at s at).stamp ≡ r.stamp = sym (stamp_said s (fields_at s at)) ∙ ap (λ (x : Row). x.stamp) w.0 in
    let z : size_of (fields_at s at) ≡ length_of r.body = sym (size_said s (fields_at s at)) ∙ ap (λ (x : Row). length_of x.body) w.0 in
    (ap₂ ◌∷◌ w.0 i.0, both_true w.1 (rw (t, z) i.1))

-- their bodies lie inside, as the offsets in their fields say
pub bodies_inside : (s : List ℕ) (at last due end : ℕ) (rows : List Row) → end < 256 ^ 4 → end ≤ length s → RowsStand s at last due end rows → (i : ℕ) → i < length rows → BodyInside s (fields_at s (at + 24 * i))
unfolding fields_of
bodies_inside s at last due end [] m l h i k = absurd (omega arith)
bodies_inside s at last due end (r ∷ rows) m l h zero k =
    let f = first_row s at last due end r rows h in
    let e = f.ends in
    rw (add-zero, fields_there s at last due end r (omega arith) f) (omega arith)
bodies_inside s at last due end (r ∷ rows) m l h (suc i) k =
    let e : at + 24 * suc i ≡ at + 24 + 24 * i = omega arith in
    rw e (bodies_inside s (at + 24) r.stamp (due + length_of r.body) end rows m l (other_rows s at last due end r rows h) i (omega arith))

-- ---- the test of all rows says that they stand, and the walk is that test

pub by_rule_stand : (s : List ℕ) (begin n end : ℕ) → rows_by_rule_at s begin n end ≡ true → RowsStand s begin 0 (begin + 24 * n) end (rows_at s begin n)
unfolding rows_by_rule_at
by_rule_stand s begin n end h =
    let rows = rows_at s begin n in
    let w = begins_stands s begin _ (both_left _ _ (both_right _ _ h)) in
    record {
      rise = both_left _ _ (both_left _ _ h);
      by_rule = both_right _ _ (both_left _ _ h);
      heads = stands_left s begin _ _ w;
      tails = rw (length_rows, length-rows_at) at (stands_right s begin (rows_bytes (begin + 24 * n) rows) (bodies_bytes rows) w);
      ends = eqb-true _ _ (both_right _ _ (both_right _ _ h));
    }

-- rows and bodies side by side
pub rows_together : (s : List ℕ) (begin n end : ℕ) → RowsStand s begin 0 (begin + 24 * n) end (rows_at s begin n) → Stands s begin (rows_bytes (begin + 24 * n) (rows_at s begin n) ++ bodies_bytes (rows_at s begin n))
rows_together s begin n end h = stands_joined s begin _ _ h.heads (rw (length_rows, length-rows_at) h.tails)

pub stand_by_rule : (s : List ℕ) (begin n end : ℕ) → RowsStand s begin 0 (begin + 24 * n) end (rows_at s begin n) → rows_by_rule_at s begin n end ≡ true
unfolding rows_by_rule_at
stand_by_rule s begin n end h =
    both_true (both_true h.rise h.by_rule) (both_true (stands_begins s begin _ (rows_together s begin n end h)) (eq-eqb _ _ h.ends))

pub rows_walked : (s : List ℕ) (begin n end : ℕ) → AllBytes s → begin + 24 * n ≤ end → end ≤ length s → end < 256 ^ 4 → rows_walk s begin n 0 (begin + 24 * n) end ≡ rows_by_rule_at s begin n end
rows_walked s begin n end a l m k = same_test _ _ there back
  where
    there : rows_walk s begin n 0 (begin + 24 * n) end ≡ true → rows_by_rule_at s begin n end ≡ true
    there h = stand_by_rule s begin n end (rows_sound s begin n 0 (begin + 24 * n) end a (omega arith) m h)

    back : rows_by_rule_at s begin n end ≡ true → rows_walk s begin n 0 (begin + 24 * n) end ≡ true
    back h = rw length-rows_at at (rows_complete s begin 0 (begin + 24 * n) end (rows_at s begin n) k (by_rule_stand s begin n end h)).1

-- rows that stand among bytes with their bodies are read, whatever they say
pub rows_among : (s : List ℕ) (at due : ℕ) (rows : List Row) → AllBytes s → Stands s at (rows_bytes due rows) → Stands s due (bodies_bytes rows) → rows_at s at (length rows) ≡ rows
unfolding rows_bytes bodies_bytes rows_at
rows_among s at due [] a h b = refl
rows_among s at due (r ∷ rows) a h b =
    let head : fields_at s at ≡ fields_of due r = (fields_among s at (fields_of due r) a (rw row_bytes_lem at (stands_left s at (row_bytes due r) _ h))).1 in
    let body = body_among s due r.body a (stands_left s due (body_bytes r.body) _ b) in
    let here : row_of s (fields_at s at) ≡ r = rw head (row_of_fields s due r body) in
    ap₂ ◌∷◌ here (rows_among s (at + 24) (due + length_of r.body) rows a (rw length_row at (stands_right s at (row_bytes due r) _ h)) (rw length_body at (stands_right s due (body_bytes r.body) _ b)))

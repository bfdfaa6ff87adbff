-- One turn of each loop over what stands in bytes.
use mathlib.Core.Path.{◌≡◌}
use mathlib.Core.Bool.{Bool, true, false}
use mathlib.Core.Logic.{◌⊎◌, inl, inr}
use mathlib.Core.List.{List}
use Prim.Native.Nat.{ℕ, suc, ◌+◌, ◌-◌, ◌*◌, ◌^◌, ◌≤◌, ◌<◌}
use native.Mathlib.Nat.{zero-add}
use native.Mathlib.Numerals.{add-one}
use native.Mathlib.Omega.{arith}
use lib.Dec.{eqb, ltb, leb}
use lib.ListN.{length}
use borrow.Author.Tests.{ltb-true, leb-true, eqb-true, lt-ltb, le-leb}
use Rattle.rules.specs.Tests.{both}
use Rattle.rules.specs.Stamps.{is_stamp, is_register, counts_by_rule, accesses_by_rule, contents_by_rule}
use Rattle.rules.proofs.Logic.{cases, both_left, both_right, both_true, both_whole, same_test}
use Rattle.rows.specs.declared.row.RowFields.{RowFields}
use Rattle.rows.specs.Fields.{fields_at}
use Rattle.rows.specs.Inner.FieldTests.{fields_by_rule}
use Rattle.rows.specs.Read.{access_at, accesses_at, body_at}
use Rattle.rows.specs.Inner.Rows.{size_of, body_part, BodyInside, place_by_rule, body_by_rule_at, row_by_rule_at}
use Rattle.wire.specs.Inner.ByteLists.{AllBytes}
use Rattle.wire.proofs.Numbers.{number_at-below}
use Rattle.wire.proofs.Parts.{length_part}
use Rattle.rows.proofs.Walks.{rows_walk}
use Rattle.rows.proofs.Bodies.{body_in_part}

-- a register from low on is below 64 only if low is at most 64
last_tells : (low register : ℕ) (number more : Bool) →
    both (leb low 64) (both (both (leb low register) (both (ltb register 64) number)) more)
    ≡ both (both (leb low register) number) (both (leb (suc register) 64) more)
last_tells low register number more = same_test _ _ there back
  where
    there : both (leb low 64) (both (both (leb low register) (both (ltb register 64) number)) more) ≡ true → both (both (leb low register) number) (both (leb (suc register) 64) more) ≡ true
    there h =
        let x = both_left _ _ (both_right _ _ h) in
        let y = both_right _ _ x in
        let l : register < 64 = ltb-true _ _ (both_left _ _ y) in
        both_true (both_true (both_left _ _ x) (both_right _ _ y)) (both_true (le-leb (suc register) 64 (omega arith)) (both_right _ _ (both_right _ _ h)))

    back : both (both (leb low register) number) (both (leb (suc register) 64) more) ≡ true → both (leb low 64) (both (both (leb low register) (both (ltb register 64) number)) more) ≡ true
    back h =
        let x = both_left _ _ h in
        let y = both_right _ _ h in
        let low-is : low ≤ register = leb-true _ _ (both_left _ _ x) in
        let l : suc register ≤ 64 = leb-true _ _ (both_left _ _ y) in
        both_true (le-leb low 64 (omega arith)) (both_true (both_true (both_left _ _ x) (both_true (lt-ltb register 64 (omega arith)) (both_right _ _ x))) (both_right _ _ y))

-- ---- accesses, i of them passed

-- whether they are registers is asked of the last of them alone
pub accesses_turn : (s : List ℕ) (at next n i low limit : ℕ) → i < n → at + 9 ≡ next →
    let a = access_at s at in
    both (leb low 64) (accesses_by_rule limit low (accesses_at s at (n - i)))
    ≡ both (both (leb low a.register) (ltb a.number limit)) (both (leb (a.register + 1) 64) (accesses_by_rule limit (a.register + 1) (accesses_at s next (n - (i + 1)))))
unfolding accesses_by_rule accesses_at is_register
accesses_turn s at next n i low limit h q =
    let e : n - i ≡ suc (n - (i + 1)) = omega arith in
    rw (e, ← q, add-one (access_at s at).register) (last_tells low _ _ _)

-- the same of accesses that are counted from the first of a body
pub accesses_on : (s : List ℕ) (from n i low limit : ℕ) → i < n →
    let a = access_at s (9 * (from + i)) in
    both (leb low 64) (accesses_by_rule limit low (accesses_at s (9 * (from + i)) (n - i)))
    ≡ both (both (leb low a.register) (ltb a.number limit)) (both (leb (a.register + 1) 64) (accesses_by_rule limit (a.register + 1) (accesses_at s (9 * (from + (i + 1))) (n - (i + 1)))))
accesses_on s from n i low limit h = accesses_turn s (9 * (from + i)) (9 * (from + (i + 1))) n i low limit h (omega arith)

pub accesses_end : (s : List ℕ) (at n low limit : ℕ) → n ≡ 0 → both (leb low 64) (accesses_by_rule limit low (accesses_at s at n)) ≡ leb low 64
unfolding accesses_by_rule accesses_at
accesses_end s at n low limit e = rw (e, both_whole)

-- ---- rows, i of them passed

pub rows_turn : (s : List ℕ) (begin n i last due end : ℕ) → i < n →
    let f = fields_at s (begin + 24 * i) in
    rows_walk s (begin + 24 * i) (n - i) last due end
    ≡ both (row_by_rule_at s f last due end) (rows_walk s (begin + 24 * (i + 1)) (n - (i + 1)) f.stamp (due + size_of f) end)
unfolding rows_walk
rows_turn s begin n i last due end h =
    let e : n - i ≡ suc (n - (i + 1)) = omega arith in
    let p : begin + 24 * (i + 1) ≡ begin + 24 * i + 24 = omega arith in
    rw (e, p)

pub rows_end : (s : List ℕ) (at n last due end : ℕ) → n ≡ 0 → rows_walk s at n last due end ≡ eqb due end
unfolding rows_walk
rows_end s at n last due end e = rw e

-- ---- what tests that held say, for the code behind them

-- a body's two halves
pub contents_are : (s : List ℕ) (reads writes stamp : ℕ) →
    contents_by_rule stamp (body_at s 0 reads writes)
    ≡ both (accesses_by_rule stamp 0 (accesses_at s 0 reads)) (accesses_by_rule (2 ^ 64) 0 (accesses_at s (9 * reads) writes))
unfolding contents_by_rule body_at
contents_are s reads writes stamp = rw zero-add

-- any 8 bytes are a value that may be written
pub value_fits : (s : List ℕ) (at : ℕ) → AllBytes s → at + 9 ≤ length s → ltb (access_at s at).number (2 ^ 64) ≡ true
unfolding access_at
value_fits s at a l = lt-ltb _ _ (number_at-below s (at + 1) 8 a (omega arith))

pub fields_counts : (f : RowFields) → fields_by_rule f ≡ true → (f.reads ≤ 4) × (f.writes ≤ 4)
unfolding fields_by_rule counts_by_rule
fields_counts f h =
    let counts = both_right _ _ (both_left _ _ h) in
    (leb-true _ _ (both_left _ _ counts), leb-true _ _ (both_left _ _ (both_right _ _ counts)))

pub fields_facts : (f : RowFields) → fields_by_rule f ≡ true → (0 < f.stamp) × (f.reads + f.writes ≤ 8)
unfolding fields_by_rule is_stamp
fields_facts f h =
    let (r, w) = fields_counts f h in
    (ltb-true _ _ (both_left _ _ (both_left _ _ (both_left _ _ h))), omega arith)

pub head_facts : (f : RowFields) (last due : ℕ) → both (fields_by_rule f) (place_by_rule f last due) ≡ true → (f.reads ≤ 4) × (f.writes ≤ 4) × (0 < f.stamp)
head_facts f last due h =
    let fields = both_left _ _ h in
    let (r, w) = fields_counts f fields in
    (r, w, (fields_facts f fields).0)

pub row_room : (s : List ℕ) (f : RowFields) (last due end : ℕ) → row_by_rule_at s f last due end ≡ true → due + size_of f ≤ end
unfolding row_by_rule_at place_by_rule body_by_rule_at
row_room s f last due end h =
    let e : f.offset ≡ due = eqb-true _ _ (both_left _ _ (both_right _ _ (both_left _ _ h))) in
    let l : f.offset + size_of f ≤ end = leb-true _ _ (both_left _ _ (both_right _ _ h)) in
    rw (← e) l

-- ---- a body as the part that is handed out

pub length_body_part : (s : List ℕ) (f : RowFields) → BodyInside s f → length (body_part s f) ≡ size_of f
unfolding body_part
length_body_part s f h = length_part s f.offset (size_of f) h

pub body_of_part : (s : List ℕ) (f : RowFields) → BodyInside s f → body_at (body_part s f) 0 f.reads f.writes ≡ body_at s f.offset f.reads f.writes
unfolding body_part
body_of_part s f h = body_in_part s f.offset (size_of f) f.reads f.writes h (omega arith)

-- a body is tried in its part as well as where it stands, if it ends in time
pub body_told : (s : List ℕ) (f : RowFields) (end : ℕ) → end ≤ length s →
    body_by_rule_at s f end ≡ both (leb (f.offset + size_of f) end) (contents_by_rule f.stamp (body_at (body_part s f) 0 f.reads f.writes))
unfolding body_by_rule_at both
body_told s f end h = told (cases (leb (f.offset + size_of f) end))
  where
    told : (leb (f.offset + size_of f) end ≡ true) ⊎ (leb (f.offset + size_of f) end ≡ false) → both (leb (f.offset + size_of f) end) (contents_by_rule f.stamp (body_at s f.offset f.reads f.writes)) ≡ both (leb (f.offset + size_of f) end) (contents_by_rule f.stamp (body_at (body_part s f) 0 f.reads f.writes))
    told (inl e) = let l : f.offset + size_of f ≤ end = leb-true _ _ e in rw (body_of_part s f (omega arith))
    told (inr e) = rw e

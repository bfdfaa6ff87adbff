-- Accesses and bodies: what stands there is read, what is read stands there, and both are the same in a part of the bytes.
use mathlib.Core.Path.{◌≡◌, refl, ap, ◌∙◌}
use mathlib.Core.Bool.{true}
use mathlib.Core.List.{List, [], ◌∷◌}
use Prim.Native.Nat.{ℕ, zero, suc, ◌+◌, ◌*◌, ◌^◌, ◌≤◌, ◌<◌}
use native.Mathlib.Nat.{add-zero, zero-add, add_assoc}
use native.Mathlib.Omega.{arith}
use lib.ListN.{length, length-append}
use borrow.Author.Tests.{ltb-true, leb-true}
use Rattle.wire.specs.Parts.{part}
use Rattle.wire.specs.Inner.ByteLists.{AllBytes}
use Rattle.wire.proofs.Numbers.{length_bytes, number_at-part}
use Rattle.wire.proofs.Stands.{Stands, stands_nothing, stands_joined, stands_left, stands_right}
use Rattle.wire.proofs.Fields.{field_read, field_stands, stands_bytes, field_fits}
use Rattle.rules.specs.Stamps.{Access, Body, is_register, counts_by_rule, accesses_by_rule, contents_by_rule}
use Rattle.rules.proofs.Logic.{both_left, both_right}
use Rattle.rows.specs.declared.row.RowFields.{RowFields}
use Rattle.rows.specs.Bytes.{accesses_bytes, body_bytes, body_length, length_of}
use Rattle.rows.specs.Read.{access_at, accesses_at, body_at, row_of}
use Rattle.rows.specs.Inner.Rows.{size_of, body_part, BodyInside}

-- ---- accesses

length_accesses : (xs : List Access) → length (accesses_bytes xs) ≡ 9 * length xs
unfolding accesses_bytes
length_accesses [] = refl
length_accesses (x ∷ xs) = let i = length_accesses xs in simp (length-append, length_bytes) (omega arith)

pub length-accesses_at : (s : List ℕ) (at n : ℕ) → length (accesses_at s at n) ≡ n
unfolding accesses_at
length-accesses_at s at zero = refl
length-accesses_at s at (suc n) = ap suc (length-accesses_at s (at + 9) n)

-- the accesses that are read stand there
accesses_stand : (s : List ℕ) (at n : ℕ) → AllBytes s → at + 9 * n ≤ length s → Stands s at (accesses_bytes (accesses_at s at n))
unfolding accesses_bytes accesses_at access_at
accesses_stand s at zero a l = stands_nothing s at
accesses_stand s at (suc n) a l =
    field_stands 1 s at (at + 1) _ a (omega arith) refl
    (field_stands 8 s (at + 1) (at + 9) _ a (omega arith) (omega arith) (accesses_stand s (at + 9) n a (omega arith)))

-- the accesses that stand there are read, if they are by the rules
accesses_read : (s : List ℕ) (at limit low : ℕ) (xs : List Access) → accesses_by_rule limit low xs ≡ true → limit ≤ 256 ^ 8 → Stands s at (accesses_bytes xs) → accesses_at s at (length xs) ≡ xs
unfolding accesses_bytes accesses_at access_at accesses_by_rule is_register
accesses_read s at limit low [] g m h = refl
accesses_read s at limit low (x ∷ xs) g m h =
    let t = both_right _ _ (both_left _ _ g) in
    let k : x.register < 64 = ltb-true _ _ (both_left _ _ t) in
    let v : x.number < limit = ltb-true _ _ (both_right _ _ t) in
    let a = field_read 1 x.register s at (at + 1) _ (omega arith) refl h in
    let b = field_read 8 x.number s (at + 1) (at + 9) _ (omega arith) (omega arith) a.1 in
    rw (a.0, b.0, accesses_read s (at + 9) limit (suc x.register) xs (both_right _ _ g) m b.1)

-- so are those that stand among bytes, whatever they say
accesses_among : (s : List ℕ) (at : ℕ) (xs : List Access) → AllBytes s → Stands s at (accesses_bytes xs) → accesses_at s at (length xs) ≡ xs
unfolding accesses_bytes accesses_at access_at
accesses_among s at [] a h = refl
accesses_among s at (x ∷ xs) a h =
    let k = field_fits 1 x.register _ (omega arith) (stands_bytes s at _ a h) in
    let v = field_fits 8 x.number _ (omega arith) k.1 in
    let p = field_read 1 x.register s at (at + 1) _ k.0 refl h in
    let q = field_read 8 x.number s (at + 1) (at + 9) _ v.0 (omega arith) p.1 in
    rw (p.0, q.0, accesses_among s (at + 9) xs a q.1)

-- the accesses in a part of the bytes
accesses_in_part : (s : List ℕ) (a len at n : ℕ) → a + len ≤ length s → at + 9 * n ≤ len → accesses_at (part s a len) at n ≡ accesses_at s (a + at) n
unfolding accesses_at access_at
accesses_in_part s a len at zero h l = refl
accesses_in_part s a len at (suc n) h l =
    rw (
      number_at-part s a len at 1 h (omega arith),
      number_at-part s a len (at + 1) 8 h (omega arith),
      accesses_in_part s a len (at + 9) n h (omega arith),
    )
    (simp add_assoc)

-- ---- bodies

pub length_body : (x : Body) → length (body_bytes x) ≡ length_of x
unfolding body_bytes
length_body x = let r = length_accesses x.reads in let w = length_accesses x.writes in simp length-append (omega arith)

pub length_of-body_at : (s : List ℕ) (at reads writes : ℕ) → length_of (body_at s at reads writes) ≡ body_length reads writes
unfolding body_at
length_of-body_at s at reads writes = simp length-accesses_at

pub body_stands : (s : List ℕ) (at reads writes : ℕ) → AllBytes s → at + body_length reads writes ≤ length s → Stands s at (body_bytes (body_at s at reads writes))
unfolding body_bytes body_at
body_stands s at reads writes a l =
    let n : length (accesses_bytes (accesses_at s at reads)) ≡ 9 * reads = rw (length_accesses, length-accesses_at) in
    stands_joined s at _ _
    (accesses_stand s at reads a (omega arith))
    (rw n (accesses_stand s (at + 9 * reads) writes a (omega arith)))

pub body_read : (s : List ℕ) (at stamp : ℕ) (x : Body) → contents_by_rule stamp x ≡ true → stamp ≤ 256 ^ 8 → Stands s at (body_bytes x) → body_at s at (length x.reads) (length x.writes) ≡ x
unfolding body_bytes body_at contents_by_rule
body_read s at stamp x g m h =
    let w = rw length_accesses at (stands_right s at (accesses_bytes x.reads) (accesses_bytes x.writes) h) in
    rw (
      accesses_read s at stamp 0 x.reads (both_left _ _ g) m (stands_left s at _ _ h),
      accesses_read s (at + 9 * length x.reads) (2 ^ 64) 0 x.writes (both_right _ _ g) (omega arith) w,
    )

pub body_among : (s : List ℕ) (at : ℕ) (x : Body) → AllBytes s → Stands s at (body_bytes x) → body_at s at (length x.reads) (length x.writes) ≡ x
unfolding body_bytes body_at
body_among s at x a h =
    let w = rw length_accesses at (stands_right s at (accesses_bytes x.reads) (accesses_bytes x.writes) h) in
    rw (accesses_among s at x.reads a (stands_left s at _ _ h), accesses_among s (at + 9 * length x.reads) x.writes a w)

-- the part of the bytes where a row's body lies is the body's bytes
pub body_part_lem : (s : List ℕ) (f : RowFields) → AllBytes s → BodyInside s f → body_part s f ≡ body_bytes (row_of s f).body
unfolding body_part row_of Stands
body_part_lem s f a l =
    let x = body_at s f.offset f.reads f.writes in
    let n : length (body_bytes x) ≡ size_of f = length_body x ∙ length_of-body_at s f.offset f.reads f.writes in
    rw n at (body_stands s f.offset f.reads f.writes a l)

pub body_in_part : (s : List ℕ) (a len reads writes : ℕ) → a + len ≤ length s → 9 * (reads + writes) ≤ len → body_at (part s a len) 0 reads writes ≡ body_at s a reads writes
unfolding body_at
body_in_part s a len reads writes h l =
    rw (
      zero-add,
      accesses_in_part s a len 0 reads h (omega arith),
      accesses_in_part s a len (9 * reads) writes h (omega arith),
      add-zero,
    )

-- a body by the rules has 9 to 72 bytes
pub body_size : (x : Body) → counts_by_rule (length x.reads) (length x.writes) ≡ true → (9 ≤ length (body_bytes x)) × (length (body_bytes x) ≤ 72)
unfolding counts_by_rule
body_size x h =
    let e = length_body x in
    let r : length x.reads ≤ 4 = leb-true _ _ (both_left _ _ h) in
    let w : length x.writes ≤ 4 = leb-true _ _ (both_left _ _ (both_right _ _ h)) in
    let l : 0 < length x.reads + length x.writes = ltb-true _ _ (both_right _ _ (both_right _ _ h)) in
    (omega arith, omega arith)

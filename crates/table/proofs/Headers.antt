-- The header: what was written as one is read back, what was read stands there, and nine numbers written one after the other are its bytes.
use mathlib.Core.Path.{◌≡◌, refl}
use mathlib.Core.Bool.{true}
use mathlib.Core.List.{List, ◌++◌, append_assoc}
use Prim.Native.Nat.{ℕ, ◌+◌, ◌*◌, ◌^◌, ◌≤◌, ◌<◌}
use native.Mathlib.Nat.{zero-add}
use native.Mathlib.Omega.{arith}
use lib.ListN.{length, length-append}
use borrow.Author.Tests.{leb-true}
use Rattle.wire.specs.Parts.{replaced}
use Rattle.wire.specs.Numbers.{bytes}
use Rattle.wire.specs.Inner.ByteLists.{AllBytes}
use Rattle.wire.proofs.Parts.{replaced_joined}
use Rattle.wire.proofs.Numbers.{length_bytes, bytes_fit, all_joined}
use Rattle.wire.proofs.Stands.{Stands, stands_left, stands_right, stands_joined}
use Rattle.wire.proofs.Fields.{field_read, field_stands, last_read, last_stands, stands_bytes, field_fits}
use Rattle.rules.proofs.Logic.{both_left, both_right}
use Rattle.table.specs.declared.header.Header.{Header}
use Rattle.table.specs.Headers.{single_bytes, four_byte_fields, header_bytes, header_at}
use Rattle.table.specs.Inner.HeaderTests.{sizes_by_rule, header_by_rule_at}

length_single : (h : Header) → length (single_bytes h) ≡ 4
unfolding single_bytes
length_single h = simp (length-append, length_bytes)

length_four_byte : (h : Header) → length (four_byte_fields h) ≡ 20
unfolding four_byte_fields
length_four_byte h = simp (length-append, length_bytes)

pub length_header : (h : Header) → length (header_bytes h) ≡ 24
unfolding header_bytes
length_header h = simp (length-append, length_single, length_four_byte)

-- every field is a number of its width
pub record HeaderFits (h : Header) : Type 0 where
  pub format : h.format < 256
  pub boxnumber : h.boxnumber < 256
  pub n : h.n < 256
  pub mode : h.mode < 256
  pub rows : h.rows < 256 ^ 4
  pub view : h.view < 256 ^ 4
  pub promised : h.promised < 256 ^ 4
  pub start : h.start < 256 ^ 4
  pub length : h.length < 256 ^ 4

-- the header that stands there is read
pub header_read : (s : List ℕ) (h : Header) → HeaderFits h → Stands s 0 (header_bytes h) → header_at s ≡ h
unfolding header_at header_bytes single_bytes four_byte_fields
header_read s h f x =
    let a = field_read 1 h.format s 0 1 _ f.format refl (stands_left s 0 (single_bytes h) (four_byte_fields h) x) in
    let b = field_read 1 h.boxnumber s 1 2 _ f.boxnumber refl a.1 in
    let c = field_read 1 h.n s 2 3 _ f.n refl b.1 in
    let d = last_read 1 h.mode s 3 f.mode c.1 in
    let numbers : Stands s 4 (four_byte_fields h) = rw (length_single h, zero-add) at (stands_right s 0 (single_bytes h) (four_byte_fields h) x) in
    let r = field_read 4 h.rows s 4 8 _ f.rows refl numbers in
    let v = field_read 4 h.view s 8 12 _ f.view refl r.1 in
    let p = field_read 4 h.promised s 12 16 _ f.promised refl v.1 in
    let t = field_read 4 h.start s 16 20 _ f.start refl p.1 in
    rw (a.0, b.0, c.0, d, r.0, v.0, p.0, t.0, last_read 4 h.length s 20 f.length t.1)

-- a header whose bytes are bytes fits
header_told : (h : Header) → AllBytes (header_bytes h) → HeaderFits h
unfolding header_bytes single_bytes four_byte_fields
header_told h x =
    let (y, z) = all_joined (single_bytes h) (four_byte_fields h) x in
    let a = field_fits 1 h.format _ (omega arith) y in
    let b = field_fits 1 h.boxnumber _ (omega arith) a.1 in
    let c = field_fits 1 h.n _ (omega arith) b.1 in
    let r = field_fits 4 h.rows _ (omega arith) z in
    let v = field_fits 4 h.view _ (omega arith) r.1 in
    let p = field_fits 4 h.promised _ (omega arith) v.1 in
    let t = field_fits 4 h.start _ (omega arith) p.1 in
    record {
      format = a.0;
      boxnumber = b.0;
      n = c.0;
      mode = bytes_fit 1 h.mode (omega arith) c.1;
      rows = r.0;
      view = v.0;
      promised = p.0;
      start = t.0;
      length = bytes_fit 4 h.length (omega arith) t.1;
    }

-- so a header that stands among bytes is read, whatever it says
pub header_among : (s : List ℕ) (h : Header) → AllBytes s → Stands s 0 (header_bytes h) → header_at s ≡ h
header_among s h a x = header_read s h (header_told h (stands_bytes s 0 (header_bytes h) a x)) x

-- the header that is read stands there
pub header_stands : (s : List ℕ) → AllBytes s → 24 ≤ length s → Stands s 0 (header_bytes (header_at s))
unfolding header_at header_bytes single_bytes four_byte_fields
header_stands s a l =
    let names : Stands s 0 (single_bytes (header_at s)) =
    field_stands 1 s 0 1 _ a (omega arith) refl
    (field_stands 1 s 1 2 _ a (omega arith) refl
    (field_stands 1 s 2 3 _ a (omega arith) refl (last_stands 1 s 3 a (omega arith)))) in
    let numbers : Stands s 4 (four_byte_fields (header_at s)) =
    field_stands 4 s 4 8 _ a (omega arith) refl
    (field_stands 4 s 8 12 _ a (omega arith) refl
    (field_stands 4 s 12 16 _ a (omega arith) refl
    (field_stands 4 s 16 20 _ a (omega arith) refl (last_stands 4 s 20 a (omega arith))))) in
    stands_joined s 0 (single_bytes (header_at s)) (four_byte_fields (header_at s)) names (rw (length_single (header_at s), zero-add) numbers)

-- ---- its numbers put one after the other

pub four_byte_steps : (s : List ℕ) (h : Header) → 24 ≤ length s → replaced (replaced (replaced (replaced (replaced s 4 (bytes 4 h.rows)) 8 (bytes 4 h.view)) 12 (bytes 4 h.promised)) 16 (bytes 4 h.start)) 20 (bytes 4 h.length) ≡ replaced s 4 (four_byte_fields h)
unfolding four_byte_fields
four_byte_steps s h l =
    let r : List ℕ = bytes 4 h.rows in
    let v : List ℕ = r ++ bytes 4 h.view in
    let p : List ℕ = v ++ bytes 4 h.promised in
    let t : List ℕ = p ++ bytes 4 h.start in
    rw (
      replaced_joined s 4 8 r (bytes 4 h.view) (omega arith) (simp length_bytes),
      replaced_joined s 4 12 v (bytes 4 h.promised) (omega arith) (simp (length-append, length_bytes)),
      replaced_joined s 4 16 p (bytes 4 h.start) (omega arith) (simp (length-append, length_bytes)),
      replaced_joined s 4 20 t (bytes 4 h.length) (omega arith) (simp (length-append, length_bytes)),
    )
    (simp append_assoc)

pub header_steps : (s : List ℕ) (h : Header) → 24 ≤ length s →
    let single = bytes 1 h.format ++ (bytes 1 h.boxnumber ++ (bytes 1 h.n ++ bytes 1 h.mode)) in
    replaced (replaced s 0 single) 4 (four_byte_fields h) ≡ replaced s 0 (header_bytes h)
unfolding header_bytes single_bytes
header_steps s h l = replaced_joined s 0 4 (single_bytes h) (four_byte_fields h) (omega arith) (rw (length_single h))

-- what a header that was passed says of the lengths
pub header_sizes : (h : Header) (format begin limit lent : ℕ) → header_by_rule_at h format begin limit lent ≡ true → (begin + 24 * h.rows ≤ h.length) × (h.length ≤ lent)
unfolding header_by_rule_at sizes_by_rule
header_sizes h format begin limit lent t =
    let sizes = both_right _ _ (both_right _ _ (both_right _ _ (both_right _ _ t))) in
    (leb-true _ _ (both_right _ _ sizes), leb-true _ _ (both_left _ _ sizes))

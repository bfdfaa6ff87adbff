-- Two bodies of the same counts are the same exactly if their bytes are.
use mathlib.Core.Path.{◌≡◌, refl, sym, ap, ◌∙◌}
use mathlib.Core.Bool.{Bool, true, false}
use mathlib.Core.List.{List, [], append-nil}
use mathlib.Core.Logic.{◌⊎◌, inl, inr}
use Prim.Native.Nat.{ℕ, ◌+◌, ◌<◌}
use native.Mathlib.Numerals.{add-one}
use native.Mathlib.Omega.{arith}
use lib.Dec.{eqb}
use lib.ListN.{length, drop, drop_of_length-le, get_or}
use lib.Seq.{drop-cons}
use Rattle.std.specs.Bool.{Decides}
use Rattle.wire.specs.Inner.ByteLists.{AllBytes}
use Rattle.rules.specs.Tests.{both}
use Rattle.rules.specs.Stamps.{Body, same_body}
use Rattle.rules.proofs.Logic.{cases, impossible}
use Rattle.rules.proofs.Same.{same_body_lem, body_same}
use Rattle.rows.specs.declared.row.RowFields.{RowFields}
use Rattle.rows.specs.Bytes.{body_bytes}
use Rattle.rows.specs.Read.{begins, body_at, row_of}
use Rattle.rows.specs.Inner.Rows.{BodyInside, body_part}
use Rattle.rows.proofs.Begins.{begins_is, begins_with}
use Rattle.rows.proofs.Bodies.{body_part_lem}
use Rattle.rows.proofs.Turns.{body_of_part, length_body_part}

-- ---- bytes compared, one by one or all at once

pub begins_turn : (a b : List ℕ) (i : ℕ) → i < length a → i < length b → begins (drop i a) (drop i b) ≡ both (eqb (get_or a i 0) (get_or b i 0)) (begins (drop (i + 1) a) (drop (i + 1) b))
unfolding begins
begins_turn a b i p q = rw (drop-cons a i 0 p, drop-cons b i 0 q, add-one i)

pub begins_none : (a b : List ℕ) (i : ℕ) → i ≡ length b → begins (drop i a) (drop i b) ≡ true
unfolding begins
begins_none a b i e = let none : drop i b ≡ [] = drop_of_length-le b {i = i} (omega arith) in rw none

-- bytes of one length that begin with others are those
begins_same : (a b : List ℕ) → length a ≡ length b → begins a b ≡ true → a ≡ b
begins_same a b e h = let none : drop (length b) a ≡ [] = drop_of_length-le a {i = length b} (omega arith) in begins_is a b h ∙ rw none (append-nil b)

pub same_begins : (a b : List ℕ) → a ≡ b → begins a b ≡ true
same_begins a b e = rw e (rw (append-nil b) at (begins_with b []))

-- so of one length each is equal to the other exactly if it begins with it
pub equal_begins : (a b : List ℕ) (r : Bool) → Decides r (a ≡ b) → length a ≡ length b → r ≡ begins a b
equal_begins a b true (same, told) l = sym (same_begins a b (same refl))
equal_begins a b false (same, told) l = go (cases (begins a b))
  where
    go : (begins a b ≡ true) ⊎ (begins a b ≡ false) → false ≡ begins a b
    go (inl h) = told (begins_same a b l h) ∙ sym h
    go (inr h) = sym h

-- ---- bodies

module _ (s t : List ℕ) (f g : RowFields) (s_bytes : AllBytes s) (t_bytes : AllBytes t) (inside : BodyInside s f) (within : BodyInside t g) (reads : f.reads ≡ g.reads) (writes : f.writes ≡ g.writes) where
  abbrev x : Body
  x = body_at s f.offset f.reads f.writes

  abbrev y : Body
  y = body_at t g.offset g.reads g.writes

  same_length : length (body_part s f) ≡ length (body_part t g)
  same_length = length_body_part s f inside ∙ rw (reads, writes) (sym (length_body_part t g within))

  pub bodies_alike : same_body (body_at t g.offset g.reads g.writes) (body_at s f.offset f.reads f.writes) ≡ begins (body_part s f) (body_part t g)
  unfolding row_of
  bodies_alike = go (cases (same_body y x)) (cases (begins (body_part s f) (body_part t g)))
    where
      go : (same_body y x ≡ true) ⊎ (same_body y x ≡ false) → (begins (body_part s f) (body_part t g) ≡ true) ⊎ (begins (body_part s f) (body_part t g) ≡ false) → same_body y x ≡ begins (body_part s f) (body_part t g)
      go (inl e) k =
          let same : y ≡ x = same_body_lem y x e in
          let p : body_part s f ≡ body_part t g = body_part_lem s f s_bytes inside ∙ ap body_bytes (sym same) ∙ sym (body_part_lem t g t_bytes within) in
          e ∙ sym (same_begins (body_part s f) (body_part t g) p)
      go (inr e) (inr k) = e ∙ sym k
      go (inr e) (inl k) =
          let p : body_part s f ≡ body_part t g = begins_same (body_part s f) (body_part t g) same_length k in
          let q : x ≡ y = sym (body_of_part s f inside) ∙ rw (p, reads, writes) (body_of_part t g within) in
          impossible (rw q (body_same y)) e

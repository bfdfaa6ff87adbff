-- One step of a walk over a run.
use mathlib.Core.Path.{◌≡◌, refl, sym, ap, ◌∙◌}
use mathlib.Core.Bool.{Bool, true, false}
use mathlib.Core.List.{List, []}
use Prim.Native.Nat.{ℕ, ◌+◌, ◌-◌, ◌≤◌, ◌<◌}
use native.Mathlib.Nat.{zero-add}
use native.Mathlib.Omega.{arith}
use lib.ListN.{length, take, drop}
use lib.Dec.{eqb}
use Rattle.rules.specs.Tests.{either, any, twice, is_some}
use Rattle.rules.specs.Tables.{valley}
use Rattle.table.specs.declared.header.Header.{Header}
use Rattle.table.specs.Headers.{header_at}
use Rattle.table.specs.Parse.{table_at}
use Rattle.image_run.specs.Runs.{images}
use Rattle.image_run.specs.Inner.WholeRuns.{tables_of}
use Rattle.image_run.specs.Inner.Walk.{NextImage}
use Rattle.image_run.proofs.RunTurns.{Turn, turn, images_none, images_told, rest_of}

pub room : (s : List ℕ) → 0 < length s → is_some (images valley s) ≡ true → 24 ≤ length s
room s more whole = let t = turn s 0 more (images_told valley s whole) in let w = t.within in let l = t.least in omega arith

-- the header h was read at the start of bytes that are whole images, and no end of a run
module _ (s : List ℕ) (more : 0 < length s) (whole : is_some (images valley s) ≡ true) (h : Header) (told : h ≡ header_at s) where
  t : Turn valley s 0
  t = turn s 0 more (images_told valley s whole)

  e : 0 + (header_at s).length ≡ h.length
  e = zero-add _ ∙ ap (λ (x : Header). x.length) (sym told)

  pub inside : h.length ≤ length s
  inside = rw e at t.within

  left : take (length s - h.length) (drop h.length s) ≡ drop (header_at s).length s
  left = rest_of s h.length ∙ rw told refl

  pub next : NextImage s (take (length s - h.length) (drop h.length s))
  next = rw left (record { has_image = t.has_image; has_header = let l = t.least in let w = t.within in omega arith; tables = rw zero-add at t.here; within = rw zero-add at t.within; behind = refl })

  pub still_whole : is_some (images valley (take (length s - h.length) (drop h.length s))) ≡ true
  still_whole = rw (left, rw zero-add at t.onward) refl

-- a box is among the tables twice if it is among those behind its own, or another one is
pub next_twice : (s rest : List ℕ) (h : Header) (found all : Bool) → NextImage s rest → h ≡ header_at s → found ≡ any (λ T. eqb T.box h.boxnumber) (tables_of valley rest) → twice (λ T. T.box) (tables_of valley s) ≡ all
    → all ≡ either found (twice (λ T. T.box) (tables_of valley rest))
unfolding twice table_at
next_twice s rest h found all n told asked was = sym was ∙ ap (twice (λ T. T.box)) n.tables ∙ rw (asked, told) refl

pub none_twice : (s : List ℕ) → s ≡ [] → twice (λ T. T.box) (tables_of valley s) ≡ false
unfolding twice tables_of
none_twice s e = rw (e, images_none valley) refl

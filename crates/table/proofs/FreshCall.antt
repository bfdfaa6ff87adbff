-- The fresh call: its numbers, each exactly in its circumstances, and what it leaves in the buffer.
use mathlib.Core.Path.{◌≡◌, refl, sym, ap, ◌∙◌}
use mathlib.Core.Bool.{Bool, true, false, cond}
use mathlib.Core.List.{List, [], ◌∷◌, append-nil}
use mathlib.Core.Logic.{◌⊎◌, inl, inr}
use mathlib.Core.Option.{some}
use Prim.Native.Nat.{ℕ, ◌≤◌, ◌<◌}
use native.Mathlib.Omega.{arith}
use lib.ListN.{length, drop}
use borrow.Author.Tests.{ltb-true, ltb-false}
use Rattle.wire.specs.Parts.{replaced}
use Rattle.wire.proofs.Parts.{replaced_start, length-replaced, above_stays}
use Rattle.rules.specs.Tests.{both, either}
use Rattle.rules.specs.Tables.{Model, fresh_table}
use Rattle.rules.specs.Numbers.{Number.small_buffer, Number.bad_message, number, first, applies}
use Rattle.rules.specs.Circumstances.{too_small, bad_group}
use Rattle.rules.proofs.Logic.{impossible, cases}
use Rattle.rules.proofs.Answers.{fresh_by_rule}
use Rattle.table.specs.Headers.{header_bytes}
use Rattle.table.specs.Images.{format_one, header_of, image}
use Rattle.rows.specs.Bytes.{rows_bytes, bodies_bytes}
use Rattle.table.specs.Parse.{parse}
use Rattle.table.specs.Fresh.{fresh_number, fresh_buffer}
use Rattle.table.proofs.Headers.{length_header}
use Rattle.table.proofs.Images.{Sound, image_parses}

-- a small buffer, then a bad message, of a call that is refused for nothing else
pub small_or_bad : (small bad : Bool) → number ((small_buffer, small) ∷ (bad_message, bad) ∷ []) ≡ cond small 1 (cond bad 3 0)
unfolding number first applies both either
small_or_bad true true = refl
small_or_bad true false = refl
small_or_bad false true = refl
small_or_bad false false = refl

fresh_number_lem : (M : Model) (s : List ℕ) (n box : ℕ) → fresh_number M s n box ≡ cond (too_small M (length s)) 1 (cond (bad_group n box) 3 0)
unfolding fresh_number
fresh_number_lem M s n box = small_or_bad (too_small M (length s)) (bad_group n box)

-- ---- by what was tested

module _ (M : Model) (s : List ℕ) (n box : ℕ) where
  pub fresh_small : too_small M (length s) ≡ true → (fresh_number M s n box ≡ 1) × (fresh_buffer M s n box ≡ s)
  unfolding fresh_buffer
  fresh_small small = let e : fresh_number M s n box ≡ 1 = rw (fresh_number_lem M s n box, small) in (e, rw e)

  pub fresh_bad : too_small M (length s) ≡ false → bad_group n box ≡ true → (fresh_number M s n box ≡ 3) × (fresh_buffer M s n box ≡ s)
  unfolding fresh_buffer
  fresh_bad small bad = let e : fresh_number M s n box ≡ 3 = rw (fresh_number_lem M s n box, small, bad) in (e, rw e)

  pub fresh_done : too_small M (length s) ≡ false → bad_group n box ≡ false → (fresh_number M s n box ≡ 0) × (fresh_buffer M s n box ≡ replaced s 0 (image format_one (fresh_table n box)))
  unfolding fresh_buffer
  fresh_done small bad = let e : fresh_number M s n box ≡ 0 = rw (fresh_number_lem M s n box, small, bad) in (e, rw e)

-- a fresh image is a header and nothing more
pub fresh_image : (n box : ℕ) → image format_one (fresh_table n box) ≡ header_bytes (header_of format_one (fresh_table n box))
unfolding image rows_bytes bodies_bytes fresh_table
fresh_image n box = append-nil _

-- the buffers of these three
module _ (M : Model) (s : List ℕ) (n box : ℕ) where
  pub small_kept : too_small M (length s) ≡ true → fresh_buffer M s n box ≡ s
  small_kept small = (fresh_small M s n box small).1

  pub bad_kept : too_small M (length s) ≡ false → bad_group n box ≡ true → fresh_buffer M s n box ≡ s
  bad_kept small bad = (fresh_bad M s n box small bad).1

  pub written : too_small M (length s) ≡ false → bad_group n box ≡ false → fresh_buffer M s n box ≡ replaced s 0 (header_bytes (header_of format_one (fresh_table n box)))
  written small bad = (fresh_done M s n box small bad).1 ∙ ap (replaced s 0) (fresh_image n box)

-- ---- the ways a call goes

pub data FreshWay (M : Model) (s : List ℕ) (n box : ℕ) : ℕ → List ℕ → Type 0 where
  -- 1: "table or output buffer .. below 49,176"
  small : length s < M.least_buffer → FreshWay M s n box 1 s
  -- 3: "fresh: bad n or box"
  bad : M.least_buffer ≤ length s → bad_group n box ≡ true → FreshWay M s n box 3 s
  -- 0: "none below applies"
  done : M.least_buffer ≤ length s → bad_group n box ≡ false → FreshWay M s n box 0 (replaced s 0 (image format_one (fresh_table n box)))

module _ (M : Model) (s : List ℕ) (n box : ℕ) where
  -- the promise is one of the three
  pub fresh_way : FreshWay M s n box (fresh_number M s n box) (fresh_buffer M s n box)
  unfolding too_small
  fresh_way = go (cases (too_small M (length s))) (cases (bad_group n box))
    where
      go : (too_small M (length s) ≡ true) ⊎ (too_small M (length s) ≡ false) → (bad_group n box ≡ true) ⊎ (bad_group n box ≡ false) → FreshWay M s n box (fresh_number M s n box) (fresh_buffer M s n box)
      go (inl a) b = let (e, f) = fresh_small M s n box a in rw (e, f) (small (ltb-true _ _ a))
      go (inr a) (inl b) = let (e, f) = fresh_bad M s n box a b in rw (e, f) (bad (ltb-false _ _ a) b)
      go (inr a) (inr b) = let (e, f) = fresh_done M s n box a b in rw (e, f) (done (ltb-false _ _ a) b)

-- ---- each number exactly in its circumstances

-- no two ways apply to one input
pub one_way : {M : Model} {s : List ℕ} {n box k j : ℕ} {after later : List ℕ} → FreshWay M s n box k after → FreshWay M s n box j later → (k ≡ j) × (after ≡ later)
one_way (small l) (small m) = (refl, refl)
one_way (small l) (bad m b) = absurd (omega arith)
one_way (small l) (done m b) = absurd (omega arith)
one_way (bad l b) (small m) = absurd (omega arith)
one_way (bad l b) (bad m c) = (refl, refl)
one_way (bad l b) (done m c) = impossible b c
one_way (done l b) (small m) = absurd (omega arith)
one_way (done l b) (bad m c) = impossible c b
one_way (done l b) (done m c) = (refl, refl)

module _ (M : Model) (s : List ℕ) (n box : ℕ) where
  -- two outcomes that the promise allows for one input are equal
  pub fresh_determined : {k j : ℕ} {after later : List ℕ} → k ≡ fresh_number M s n box → after ≡ fresh_buffer M s n box → j ≡ fresh_number M s n box → later ≡ fresh_buffer M s n box → (k ≡ j) × (after ≡ later)
  fresh_determined a b c d = (a ∙ sym c, b ∙ sym d)

  -- and a way that applies is the call's: its number is given where its circumstances are
  pub fresh_exactly : {k : ℕ} {after : List ℕ} → FreshWay M s n box k after → (fresh_number M s n box ≡ k) × (fresh_buffer M s n box ≡ after)
  fresh_exactly w = one_way (fresh_way M s n box) w

  -- a refused call changes nothing
  pub fresh_refused : (fresh_number M s n box ≡ 0 → ⊥) → fresh_buffer M s n box ≡ s
  fresh_refused h = go (fresh_way M s n box) h
    where
      go : {k : ℕ} {after : List ℕ} → FreshWay M s n box k after → (k ≡ 0 → ⊥) → after ≡ s
      go (small l) h = refl
      go (bad l b) h = refl
      go (done l b) h = absurd (h refl)

  -- no byte past the first 24 changes, and none is added
  pub fresh_past : 24 ≤ M.least_buffer → (drop 24 (fresh_buffer M s n box) ≡ drop 24 s) × (length (fresh_buffer M s n box) ≡ length s)
  fresh_past least = go (fresh_way M s n box)
    where
      go : {k : ℕ} {after : List ℕ} → FreshWay M s n box k after → (drop 24 after ≡ drop 24 s) × (length after ≡ length s)
      go (small l) = (refl, refl)
      go (bad l b) = (refl, refl)
      go (done l b) =
          let e : length (image format_one (fresh_table n box)) ≡ 24 = ap length (fresh_image n box) ∙ length_header (header_of format_one (fresh_table n box)) in
          (above_stays s 0 (image format_one (fresh_table n box)) 24 (omega arith) (omega arith), length-replaced s 0 (image format_one (fresh_table n box)) (omega arith))

-- what was written is read back: the buffer then begins with the fresh table, whatever it held
pub fresh_parses : (M : Model) (s : List ℕ) (n box : ℕ) → Sound format_one M → fresh_number M s n box ≡ 0 → parse format_one M (fresh_buffer M s n box) ≡ some (fresh_table n box)
fresh_parses M s n box sound h = go (fresh_way M s n box) h
  where
    go : {k : ℕ} {after : List ℕ} → FreshWay M s n box k after → k ≡ 0 → parse format_one M after ≡ some (fresh_table n box)
    go (small l) e = absurd (omega arith)
    go (bad l b) e = absurd (omega arith)
    go (done l b) e = rw (replaced_start s (image format_one (fresh_table n box))) (image_parses format_one M (fresh_table n box) sound (fresh_by_rule M n box b) _)

pub ruleset fresh_ways = (fresh_small, fresh_bad, fresh_done, small_kept, bad_kept, written)

-- What the calls at the boundary answer, where a word holds more than 01's number: the number exactly in its circumstances, and the rest with it.
use mathlib.Core.Path.{◌≡◌, refl, sym, ◌∙◌}
use mathlib.Core.List.{List}
use mathlib.Core.Option.{Option, none, some}
use Prim.Native.Nat.{ℕ, ◌*◌, ◌%◌, ◌/◌}
use native.Mathlib.Omega.{arith}
use Rattle.rules.specs.Tables.{Table, valley}
use Rattle.table.specs.Images.{format_one, image_length}
use Rattle.table.specs.Parse.{parse, image_found}
use Rattle.sprondilu.specs.Calls.{valid_answer}

-- the answer of valid to these bytes
abbrev pub answered : List ℕ → ℕ
answered s = valid_answer (image_found format_one (parse format_one valley s))

pub data ValidWay (s : List ℕ) : ℕ → Type 0 where
  -- 2: "the lent table .. doesn't begin with an image by the rules"
  bad : parse format_one valley s ≡ none → ValidWay s 2
  -- 0, with the length of the image that they begin with
  done : (T : Table) → parse format_one valley s ≡ some T → ValidWay s (65536 * image_length format_one T)

module _ (s : List ℕ) where
  -- the promise is one of the two
  pub valid_way : ValidWay s (answered s)
  valid_way = go (parse format_one valley s) refl
    where
      go : (r : Option Table) → parse format_one valley s ≡ r → ValidWay s (answered s)
      go none e = rw e (bad e)
      go (some T) e = rw e (done T e)

  -- a way that applies is the call's
  pub valid_exactly : {answer : ℕ} → ValidWay s answer → answered s ≡ answer
  valid_exactly (bad e) = rw e
  valid_exactly (done T e) = rw e

  -- two answers that the promise allows for the same bytes are equal
  pub valid_determined : {answer other : ℕ} → answer ≡ answered s → other ≡ answered s → answer ≡ other
  valid_determined a b = a ∙ sym b

-- the number stands in bits 0 to 7 and the length in bits 16 to 63, so neither is taken for the other
pub taken_apart : (length : ℕ) → (65536 * length % 256 ≡ 0) × (65536 * length / 65536 ≡ length)
taken_apart length = (omega arith, omega arith)

-- What a known form is good for. Whoever is given one knows this of it, and nothing else.
use mathlib.Core.Path.{◌≡◌, ap₂}
use Prim.Native.Nat.{◌+◌, ◌*◌, ◌^◌, ◌≤◌, ◌<◌}
use native.Mathlib.Omega.{arith}
use Rattle.rules.specs.Tables.{Model, valley}
use Rattle.table.specs.declared.form.Form as declared
use Rattle.table.specs.Images.{format_one}
use Rattle.table.specs.Inner.Forms.{form_of, Known}
use Rattle.table.proofs.Images.{Starts, Sound}

module _ (f : declared.Form) (known : Known f) where
  -- it starts where it says
  pub known_starts : Starts (form_of f)
  unfolding Known
  known_starts rows = omega (arith, known.1)

  -- and that is near
  pub known_near : f.begin ≤ 65536
  unfolding Known
  known_near = omega (arith, known.1)

  -- it is sound for every model whose images fit 32 bits
  pub known_sound : (M : Model) → f.begin + 96 * M.row_limit < 256 ^ 4 → Sound (form_of f) M
  unfolding Known
  known_sound M fits = record { starts = known_starts; format = omega (arith, known.0); fits = fits }

  pub known_valley : Sound (form_of f) valley
  known_valley = let near = known_near in known_sound valley (omega arith)

  -- today it is format 1: a look for an image, which is for that one, may go by this
  pub known_one : form_of f ≡ format_one
  unfolding Known
  known_one = ap₂ (λ format begin. form_of (record { format = format; begin = begin })) known.0 known.1

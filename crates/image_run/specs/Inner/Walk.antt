-- A walk over a run, image after image.
use Rattle.std.specs.Prelude.{◌≡◌, List, [], ◌∷◌, ℕ, ◌≤◌, length, drop, Option, MatchOption}
use denote.Ref.{Bor}
use Rattle.rules.specs.Tables.{valley}
use Rattle.table.specs.Headers.{header_length, header_at}
use Rattle.table.specs.Images.{format_one}
use Rattle.table.specs.Parse.{table_at, BeginsWithImage}
use Rattle.image_run.specs.Inner.WholeRuns.{tables_of}

-- the part of a run that begins with an image, and what is left of the run behind that image
pub record NextImage (part left : List ℕ) : Type 0 where
  pub has_image : BeginsWithImage valley part
  pub has_header : header_length ≤ length part
  pub tables : tables_of valley part ≡ table_at format_one part ∷ tables_of valley left
  pub within : (header_at part).length ≤ length part
  pub behind : left ≡ drop (header_at part).length part

-- a step of a walk: the image that comes next, and what is left behind it; or nothing, at the end
abbrev pub GivesImage : List ℕ → Option (Bor (List ℕ)) → List ℕ → Type 0
GivesImage s r t = MatchOption r ((s ≡ []) × (t ≡ [])) (λ x. (x.now ≡ s) × NextImage s t)

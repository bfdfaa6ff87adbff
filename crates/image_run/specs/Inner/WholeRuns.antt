-- A run that was found whole: its tables, and the test of one of them.
use Rattle.std.specs.Prelude.{◌≡◌, Bool, not, List, [], ◌∷◌, ◌++◌, ℕ, eqb}
use Rattle.std.proofs.Math.Option.{some}
use Rattle.rules.specs.Tests.{either}
use Rattle.rules.specs.Tables.{Table, Model, normal_mode}
use Rattle.table.specs.Images.{format_one, image}
use Rattle.image_run.specs.Runs.{images, or_none}

-- ---- images laid end to end

-- the images of tables, one after the other
unfoldable pub laid_out : List Table → List ℕ
laid_out [] = []
laid_out (T ∷ Ts) = image format_one T ++ laid_out Ts

-- these tables, of bytes that are whole images
unfoldable pub tables_of : Model → List ℕ → List Table
tables_of M s = or_none (images M s)

-- bytes that are whole images laid end to end, or no bytes
abbrev pub Images : Model → List ℕ → Type 0
Images M s = images M s ≡ some (tables_of M s)

-- ---- 11, "wrong tables": what one table can tell

-- "unequal n, .. mode 0, or promised not v"
abbrev pub unfit_as : ℕ → ℕ → ℕ → ℕ → ℕ → Bool
unfit_as n v group mode promised = either (not (eqb group n)) (either (eqb mode normal_mode) (not (eqb promised v)))

abbrev pub unfit : ℕ → ℕ → Table → Bool
unfit n v T = unfit_as n v T.n T.mode T.promised

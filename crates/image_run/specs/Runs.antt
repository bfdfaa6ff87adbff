-- 01, 'The merge for view v': "laid end to end in one lent buffer".
use Rattle.std.specs.Prelude.{List, [], ◌∷◌, ℕ, zero, suc, length, drop}
use Rattle.std.proofs.Math.Option.{Option, none, some}
use Rattle.rules.specs.Tables.{Table, Model}
use Rattle.table.specs.Images.{format_one, image_length}
use Rattle.table.specs.Parse.{parse}

-- a table before others
abbrev pub before : Table → Option (List Table) → Option (List Table)
before T none = none
before T (some Ts) = some (T ∷ Ts)

-- what follows a table's image, read on
abbrev pub and_more : (List ℕ → Option (List Table)) → List ℕ → Option Table → Option (List Table)
and_more more s none = none
and_more more s (some T) = before T (more (drop (image_length format_one T) s))

-- the tables whose images stand one after the other from the start of bytes to their end, if they are at most so many; none if something else is left
unfoldable pub images_within : ℕ → Model → List ℕ → Option (List Table)
images_within zero M [] = some []
images_within zero M (b ∷ s) = none
images_within (suc most) M [] = some []
images_within (suc most) M (b ∷ s) = and_more (λ rest. images_within most M rest) (b ∷ s) (parse format_one M (b ∷ s))

-- no image is empty, so bytes hold no more images than there are bytes
unfoldable pub images : Model → List ℕ → Option (List Table)
images M s = images_within (length s) M s

abbrev pub or_none : Option (List Table) → List Table
or_none none = []
or_none (some Ts) = Ts

-- ---- 2, "bad table": "for a merge, the run isn't one or more whole images"

abbrev pub one_or_more : Option (List Table) → Option (List Table)
one_or_more none = none
one_or_more (some []) = none
one_or_more (some (T ∷ Ts)) = some (T ∷ Ts)

-- the tables of a run
unfoldable pub run_tables : Model → List ℕ → Option (List Table)
run_tables M s = one_or_more (images M s)

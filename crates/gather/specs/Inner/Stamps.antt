-- The stamps of the used tables, one after the other.
use Rattle.std.specs.Prelude.{cond, List, [], ◌∷◌, map, ℕ, ◌^◌, eqb, ltb, min, Option, Some, None}
use Rattle.rules.specs.Tables.{Row, Table}

-- above all stamps
abbrev pub no_stamp : ℕ
no_stamp = 2 ^ 48

-- the first of rising stamps above the last one
unfoldable pub next_after : ℕ → List ℕ → ℕ
next_after last [] = no_stamp
next_after last (s ∷ ss) = cond (ltb last s) s (next_after last ss)

-- the same of a table's stamps, if it is used
abbrev pub stamp_above : ℕ → Table → ℕ → ℕ
stamp_above newest T last = cond (eqb T.view newest) (next_after last (map (λ (r : Row). r.stamp) T.rows)) no_stamp

-- ---- as the code has it

-- a stamp, or none
abbrev pub stamp_or_none : ℕ → Option ℕ
stamp_or_none s = cond (ltb s no_stamp) (Some s) None

-- the earlier of two
abbrev pub earlier : Option ℕ → Option ℕ → Option ℕ
earlier None b = b
earlier (Some a) None = Some a
earlier (Some a) (Some b) = Some (min a b)

-- How far a walk over the stamps has come in each table of a run.
use Rattle.std.specs.Prelude.{◌≡◌, cond, List, [], ◌∷◌, map, ℕ, zero, suc, ◌+◌, eqb}
use Rattle.rules.specs.Tables.{Table, valley}
use Rattle.rows.specs.Inner.Places.{lower}
use Rattle.image_run.specs.Inner.WholeRuns.{tables_of}
use Rattle.gather.specs.declared.stamps.Cursors.{Cursors}

-- so many places, of which the first hold these and the others a filler
unfoldable pub padded : {A : Type 0} → ℕ → A → List A → List A
padded zero filler xs = []
padded (suc n) filler [] = filler ∷ padded n filler []
padded (suc n) filler (x ∷ xs) = x ∷ padded n filler xs

-- the index of the first row at or above a stamp, of a table that is used
abbrev pub cursor_in : ℕ → ℕ → Table → ℕ
cursor_in newest s T = cond (eqb T.view newest) (lower T.rows s) 0

-- of each table, "f+1" of which are at most four
abbrev pub places_at : ℕ → ℕ → List Table → List ℕ
places_at newest s Ts = padded 4 0 (map (cursor_in newest s) Ts)

-- the cursors behind a stamp
abbrev pub cursors_after : ℕ → ℕ → List Table → Cursors
cursors_after newest last Ts = record { newest = newest; last = last; places = places_at newest (last + 1) Ts }

-- cursors that stand in the tables of a run, behind their last stamp
abbrev pub StandIn : List ℕ → Cursors → Type 0
StandIn run c = c ≡ cursors_after c.newest c.last (tables_of valley run)

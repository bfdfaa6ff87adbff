-- A walk over the stamps of the used tables of a run.
use Rattle.std.specs.Prelude.{◌≡◌, List, ℕ, Option, Some, None, MatchOption}
use Rattle.rules.specs.Tables.{valley}
use Rattle.rules.specs.Merge.{stamps}
use Rattle.image_run.specs.Inner.WholeRuns.{tables_of}
use Rattle.gather.specs.declared.held.Gathered.{Gathered}
use Rattle.gather.specs.declared.stamps.Cursors.{Cursors}
use Rattle.gather.specs.Inner.UsedTables.{used_of}
use Rattle.gather.specs.Inner.Stamps.{next_after, stamp_or_none}
use Rattle.gather.specs.Inner.Gathered.{gathered_at}

-- a step of a walk: the rows of the stamp that comes next, and the cursors behind it; or nothing, where no stamp is left
abbrev pub GivesStamp : List ℕ → Cursors → Option Gathered → Cursors → Type 0
GivesStamp run c r after = MatchOption r
    (None ≡ stamp_or_none (next_after c.last (stamps (used_of c.newest (tables_of valley run)))))
    (λ g. (Some g.cursors.last ≡ stamp_or_none (next_after c.last (stamps (used_of c.newest (tables_of valley run))))) × (g ≡ gathered_at c.newest g.cursors.last (tables_of valley run) run) × (after ≡ g.cursors))

-- The walk over all stamps of the used tables of a run, step after step.
use mathlib.Core.Path.{◌≡◌, refl, sym}
use mathlib.Core.List.{List}
use Prim.Native.Nat.{ℕ, ◌<◌, ◌≤◌, ◌^◌}
use native.Mathlib.Omega.{arith}
use lib.ListN.{replicate}
use Rattle.std.specs.Prelude.{Some, None}
use Rattle.rules.specs.Tables.{valley}
use Rattle.rules.specs.Merge.{rows_of, stamps}
use Rattle.image_run.specs.Inner.WholeRuns.{tables_of, Images}
use Rattle.gather.specs.declared.held.Gathered.{Gathered}
use Rattle.gather.specs.declared.stamps.Cursors.{Cursors}
use Rattle.gather.specs.Inner.UsedTables.{used_of}
use Rattle.gather.specs.Inner.Stamps.{next_after, stamp_or_none}
use Rattle.gather.specs.Inner.Cursors.{StandIn}
use Rattle.gather.specs.Inner.Gathered.{gathered_at, GatheredFrom, rows_in}
use Rattle.gather.proofs.NextStamps.{is_stamp_told, no_stamp_told}
use Rattle.gather.proofs.StampsInTurn.{next_above}
use Rattle.gather.proofs.Gathered.{start_stands, gathered_from, behind_stands, rows_are}

-- at first the cursors stand before all stamps
pub start_ready : (run : List ℕ) → Images valley run → (newest : ℕ) (c : Cursors) → c ≡ record { newest = newest; last = 0; places = replicate 4 0 } → StandIn run c × (c.last < 2 ^ 48)
start_ready run images newest c is = let (stand, same, last) = start_stands run images newest c is in (stand, rw last (omega arith))

-- a step goes up
pub step_up : (last : ℕ) (ss : List ℕ) (stamp : ℕ) → last < 2 ^ 48 → Some stamp ≡ stamp_or_none (next_after last ss) → (last < stamp) × (stamp < 2 ^ 48)
step_up last ss stamp low told = let (same, below) = is_stamp_told _ _ (sym told) in (rw same (next_above last ss low), below)

module _ (run : List ℕ) (newest : ℕ) where
  -- between two steps: a walk over the stamps of the tables of this view
  pub record Walking (c : Cursors) : Type 0 where
    pub used-newest : c.newest ≡ newest
    pub low : c.last < 2 ^ 48

  pub walk_begins : (c : Cursors) → c ≡ record { newest = newest; last = 0; places = replicate 4 0 } → Walking c × (c.last ≡ 0)
  walk_begins c is = rw is (record { used-newest = refl; low = omega arith }, refl)

  module _ (c : Cursors) (walk : Walking c) where
    -- a step, with the rows of the next stamp gathered
    module _ (g : Gathered) (told : Some g.cursors.last ≡ stamp_or_none (next_after c.last (stamps (used_of c.newest (tables_of valley run))))) (is : g ≡ gathered_at c.newest g.cursors.last (tables_of valley run) run) where
      is_newest : g ≡ gathered_at newest g.cursors.last (tables_of valley run) run
      is_newest = rw walk.used-newest at is

      pub step_next : (g.cursors.last ≡ next_after c.last (stamps (used_of newest (tables_of valley run)))) × (g.cursors.last < 2 ^ 48)
      step_next = is_stamp_told _ _ (rw walk.used-newest at (sym told))

      pub step_gathered : GatheredFrom run g
      step_gathered = gathered_from run newest g.cursors.last g is_newest

      pub step_rows : rows_in run g ≡ rows_of (used_of newest (tables_of valley run)) g.cursors.last
      step_rows = rows_are run newest g.cursors.last g is_newest

      pub step_walks : Walking g.cursors
      step_walks = record { used-newest = (behind_stands run newest g.cursors.last g is_newest).1; low = step_next.1 }

    -- and there is none behind the last
    pub walk_ends : None ≡ stamp_or_none (next_after c.last (stamps (used_of c.newest (tables_of valley run)))) → 2 ^ 48 ≤ next_after c.last (stamps (used_of newest (tables_of valley run)))
    walk_ends told = no_stamp_told _ (rw walk.used-newest at (sym told))

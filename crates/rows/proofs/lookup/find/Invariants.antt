-- What is sought between the two ends is what is sought among all rows. The row in the middle tells which of its sides is left. A turn is one step of halving (Halving), so what is compared and the steps that are left are all steps.
use mathlib.Core.Path.{◌≡◌}
use mathlib.Core.Bool.{true}
use Prim.Native.Nat.{◌+◌, ◌-◌, ◌≤◌}
use Rattle.rules.specs.Tables.{rising}
use Rattle.rows.specs.Inner.Places.{place_of}
use Rattle.rows.specs.Read.{rows_at}
use Rattle.rows.specs.Halving.{steps}
use Rattle.rows.proofs.Sought.{sought}
use Rattle.rows.proofs.Halving.{between}
use Rattle.rows.proofs.lookup.find.Given as goal

abbrev pub invariant-loop-low : goal.invariant-loop-low
invariant-loop-low l =
    (l.low ≤ l.high)
    × (l.high ≤ l.rows)
    × (rising 0 (between l.image l.begin l.low l.high) ≡ true)
    × (place_of (rows_at l.image l.begin l.rows) l.stamp ≡ sought l.low (between l.image l.begin l.low l.high) l.stamp)
    × (steps (rows_at l.image l.begin l.rows) l.stamp ≡ l.compared + steps (between l.image l.begin l.low l.high) l.stamp)

abbrev pub decreases-loop-low : goal.decreases-loop-low
decreases-loop-low l = l.high - l.low

-- What is left: the offsets not yet laid. Laying those gives what laying all gave at the start; no offset outgrows its four bytes.
use mathlib.Core.Path.{◌≡◌}
use Prim.Native.Nat.{◌+◌, ◌-◌, ◌*◌, ◌≤◌}
use Rattle.edit.specs.Inner.Parts.{laid}
use Rattle.edit.proofs.add.lay_offsets.Given as goal

abbrev pub invariant-loop-i : goal.invariant-loop-i
invariant-loop-i l =
    (l.due ≤ l.begin + 24 * l.rows + 4590 * l.i)
    × (laid l.image (l.begin + 24 * l.i) (l.rows - l.i) l.due ≡ laid l.fn.image l.begin l.rows (l.begin + 24 * l.rows))

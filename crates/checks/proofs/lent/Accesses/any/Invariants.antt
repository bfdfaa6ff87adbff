-- The accesses that were passed fail the test: whether one of the rest passes gives the whole answer.
use mathlib.Core.Path.{◌≡◌}
use mathlib.Core.Bool.{Bool}
use Prim.Native.Nat.{◌+◌, ◌-◌, ◌*◌}
use Rattle.rules.specs.Tests.{any}
use Rattle.rules.specs.Stamps as rules
use Rattle.rows.specs.declared.body.Access.{Access}
use Rattle.rows.specs.Read.{access_of, accesses_at}
use Rattle.checks.specs.Inner.Lent.{listed}
use Rattle.checks.proofs.lent.Accesses.any.Given as goal

abbrev pub invariant-loop-i : goal.invariant-loop-i
invariant-loop-i g l =
    (test : rules.Access → Bool) → ((a : Access) (b : Bool) → goal.F-post g l.passes a b → b ≡ test (access_of a)) →
    any test (listed l.self) ≡ any test (accesses_at l.self.bytes.now (9 * (l.self.from + l.i)) (l.self.count - l.i))

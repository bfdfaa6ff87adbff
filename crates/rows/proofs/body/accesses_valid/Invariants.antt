-- The accesses passed kept the rules, if the next register that is allowed is at most 64: with that, what is left to be tried gives the whole answer.
use mathlib.Core.Path.{◌≡◌}
use Prim.Native.Nat.{◌+◌, ◌-◌, ◌*◌}
use lib.Dec.{leb}
use Rattle.rules.specs.Stamps.{accesses_by_rule}
use Rattle.rules.specs.Tests.{both}
use Rattle.rows.specs.Inner.Limits.{number_limit}
use Rattle.rows.specs.Read.{accesses_at}
use Rattle.rows.proofs.body.accesses_valid.Given as goal

abbrev pub invariant-loop-i : goal.invariant-loop-i
invariant-loop-i l = both (leb l.low 64) (accesses_by_rule (number_limit l.limit) l.low (accesses_at l.body (9 * (l.from + l.i)) (l.n - l.i))) ≡ accesses_by_rule (number_limit l.limit) 0 (accesses_at l.body (9 * l.from) l.n)

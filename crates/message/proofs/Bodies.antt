-- A body in a message: tested in the part that ends the message, it is the body that begins at its place.
use mathlib.Core.Path.{◌≡◌}
use mathlib.Core.Bool.{true}
use mathlib.Core.List.{List}
use Prim.Native.Nat.{ℕ, ◌+◌, ◌*◌, ◌≤◌}
use native.Mathlib.Omega.{arith}
use borrow.Author.Tests.{leb-true}
use Rattle.rules.specs.Tests.{both}
use Rattle.rules.specs.Stamps.{counts_by_rule, contents_by_rule, body_by_rule}
use Rattle.rules.proofs.Logic.{both_left, both_right}
use Rattle.rows.specs.Read.{body_at}
use Rattle.rows.proofs.Bodies.{length-accesses_at}

-- the counts of a body that is read are those that it was read by
pub body_tests : (s : List ℕ) (at reads writes stamp : ℕ) → body_by_rule stamp (body_at s at reads writes) ≡ both (counts_by_rule reads writes) (contents_by_rule stamp (body_at s at reads writes))
unfolding body_by_rule body_at
body_tests s at reads writes stamp = rw (length-accesses_at s at reads, length-accesses_at s (at + 9 * reads) writes)

pub few_accesses : (reads writes : ℕ) → counts_by_rule reads writes ≡ true → reads + writes ≤ 8
unfolding counts_by_rule
few_accesses reads writes h =
    let r : reads ≤ 4 = leb-true _ _ (both_left _ _ h) in
    let w : writes ≤ 4 = leb-true _ _ (both_left _ _ (both_right _ _ h)) in
    omega arith

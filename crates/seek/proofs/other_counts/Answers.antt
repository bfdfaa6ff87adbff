-- Of a row that is held, one count after the other.
use borrow.Author.Tests.{eq-eqb, ne_eqb}
use Rattle.rules.specs.Tests.{both}
use Rattle.seek.proofs.other_counts.Goals as goal

pub returns-then-held-given : goal.returns-then-held-given
unfolding both
returns-then-held-given c = rw (ne_eqb _ _ c.if-held-given.true, c.in-Held.is, ne_eqb _ _ (rw c.row_at-held.ensures at c.if-held-given.true))

pub returns-else-held-given : goal.returns-else-held-given
unfolding both
returns-else-held-given c = rw (c.in-Held.is, eq-eqb _ _ (rw c.row_at-held.ensures at c.if-held-given.false), c.row_at-held.ensures)

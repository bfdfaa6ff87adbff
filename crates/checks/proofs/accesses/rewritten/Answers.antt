-- One that is not marked is not written, and one that is marked is looked for.
use mathlib.Core.Path.{◌∙◌, sym}
use Rattle.rows.specs.Read.{access_of}
use Rattle.checks.specs.Inner.Lent.{listed}
use Rattle.checks.proofs.Registers.{among_found}
use Rattle.checks.proofs.Marks.{unmarked_one}
use Rattle.checks.proofs.accesses.rewritten.Goals as goal

pub returns-then-marks-access : goal.returns-then-marks-access
returns-then-marks-access c marked = c.is_some.ensures ∙ rw c.write_to.ensures (sym (among_found (listed c.args.written) c.args.access.register))

pub returns-else-marks-access : goal.returns-else-marks-access
returns-else-marks-access c marked = c.if-marks-access.false ∙ sym (unmarked_one c.args.marks.now (access_of c.args.access) (listed c.args.written) marked c.if-marks-access.false)

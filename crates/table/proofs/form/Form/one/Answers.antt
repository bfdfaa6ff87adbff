-- Both numbers are those of format 1.
use mathlib.Core.Path.{refl}
use Rattle.table.specs.Inner.Forms.{Known}
use Rattle.table.proofs.form.Form.one.Goals as goal

pub returns : goal.returns
unfolding Known
returns c = (refl, (refl, refl))

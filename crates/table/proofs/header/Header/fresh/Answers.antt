use mathlib.Core.Path.{refl}
use Rattle.rules.specs.Tables.{fresh_table}
use Rattle.rows.specs.Bytes.{bodies_length}
use Rattle.table.proofs.header.Header.fresh.Goals as goal

pub returns : goal.returns
unfolding fresh_table bodies_length
returns c = refl

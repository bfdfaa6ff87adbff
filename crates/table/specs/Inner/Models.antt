-- The kinds of box, as the code has them.
use Rattle.rules.specs.Tables.{Model}
use Rattle.table.specs.declared.model.Model as declared

abbrev pub model_of : declared.Model → Model
model_of m = record { row_limit = m.limit; least_buffer = m.least }

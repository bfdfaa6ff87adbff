-- What is lent, as the rules have it.
use Rattle.std.specs.Prelude.{List, ℕ, ◌+◌, ◌*◌}
use Rattle.rules.specs.Stamps as rules
use Rattle.rules.specs.Tables.{Row}
use Rattle.rows.specs.declared.row.RowFields.{RowFields}
use Rattle.rows.specs.Fields.{row_length, fields_at}
use Rattle.rows.specs.Read.{accesses_at, body_at, row_of, rows_at}
use Rattle.checks.specs.declared.lent.Accesses.{Accesses}
use Rattle.checks.specs.declared.lent.Body.{Body}
use Rattle.checks.specs.declared.lent.Rows.{Rows}

abbrev pub listed : Accesses → List rules.Access
listed a = accesses_at a.bytes.now (9 * a.from) a.count

abbrev pub lent_body : Body → rules.Body
lent_body x = body_at x.bytes.now 0 x.reads x.writes

abbrev pub lent_fields : Rows → ℕ → RowFields
lent_fields rows i = fields_at rows.image.now (rows.begin + row_length * i)

abbrev pub lent_row : Rows → ℕ → Row
lent_row rows i = row_of rows.image.now (lent_fields rows i)

abbrev pub lent_rows : Rows → List Row
lent_rows rows = rows_at rows.image.now rows.begin rows.count

-- What can be told of a header without looking at a row.
use Rattle.std.specs.Prelude.{Bool, ℕ, ◌+◌, ◌*◌, eqb, ltb, leb}
use Rattle.rules.specs.Tests.{both}
use Rattle.rules.specs.Groups.{is_group}
use Rattle.rules.specs.Tables.{mode_by_rule}
use Rattle.rows.specs.Fields.{row_length}
use Rattle.table.specs.declared.header.Header.{Header}

-- "Start rows never exceed rows."; "At most 512 rows."; the rows lie inside the total length, and that inside the lent bytes
unfoldable pub sizes_by_rule : Header → ℕ → ℕ → ℕ → Bool
sizes_by_rule h begin limit lent =
    both (leb h.start h.rows)
    (both (leb h.rows limit) (both (leb h.length lent) (leb (begin + row_length * h.rows) h.length)))

unfoldable pub header_by_rule_at : Header → ℕ → ℕ → ℕ → ℕ → Bool
header_by_rule_at h format begin limit lent =
    both (both (eqb h.format format) (both (is_group h.n) (ltb h.boxnumber h.n)))
    (both (mode_by_rule h.mode h.view h.promised) (sizes_by_rule h begin limit lent))

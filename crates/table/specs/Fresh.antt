-- The fresh call: its number, and the buffer after it.
use Rattle.std.specs.Prelude.{cond, List, [], ◌∷◌, ℕ, eqb, length}
use Rattle.wire.specs.Parts.{replaced}
use Rattle.rules.specs.Tables.{Model, fresh_table}
use Rattle.rules.specs.Numbers.{Number.small_buffer, Number.bad_message, number}
use Rattle.rules.specs.Circumstances.{too_small, bad_group}
use Rattle.table.specs.Images.{format_one, image}

-- "table or output buffer .. below 49,176"; "fresh: bad n or box"
unfoldable pub fresh_number : Model → List ℕ → ℕ → ℕ → ℕ
fresh_number M s n box = number ((small_buffer, too_small M (length s)) ∷ (bad_message, bad_group n box) ∷ [])

-- "A fresh table writes its 24 bytes only."; "Refusals keep the table"
unfoldable pub fresh_buffer : Model → List ℕ → ℕ → ℕ → List ℕ
fresh_buffer M s n box = cond (eqb (fresh_number M s n box) 0) (replaced s 0 (image format_one (fresh_table n box))) s

-- The image of message 6, with the tests in the order in which the bytes are tried.
use Rattle.std.specs.Prelude.{Bool, List, ℕ, eqb, length}
use Rattle.rules.specs.Tests.{both}
use Rattle.rules.specs.Tables.{Model, table_by_rule}
use Rattle.rules.specs.Circumstances.{starts_view}
use Rattle.rows.specs.Read.{begins}
use Rattle.table.specs.Images.{Form, image, image_length}
use Rattle.table.specs.Parse.{table_at}

-- bytes are one image by the rules with nothing behind it, and it starts view v in a group of n
unfoldable pub starts_at : Form → Model → ℕ → ℕ → List ℕ → Bool
starts_at F M n v s =
    let I = table_at F s in
    both (both (table_by_rule M I) (begins s (image F I))) (both (eqb (image_length F I) (length s)) (starts_view n v I))

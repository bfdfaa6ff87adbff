-- When a buffer can be changed where it stands.
use Rattle.std.specs.Prelude.{◌≡◌, true, List, ℕ}
use Rattle.rows.specs.Read.{begins}
use Rattle.table.specs.Images.{Form, image}
use Rattle.table.specs.Parse.{table_at}

-- bytes that begin with the image of the table that is read off them. Whether that table is by the rules is not asked.
abbrev pub Holds : Form → List ℕ → Type 0
Holds F s = begins s (image F (table_at F s)) ≡ true

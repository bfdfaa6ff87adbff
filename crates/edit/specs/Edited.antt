-- A table changed in its buffer: every byte of the buffer after it.
use Rattle.std.specs.Prelude.{List, ◌++◌, ℕ, ◌-◌, replicate}
use Rattle.wire.specs.Parts.{replaced}
use Rattle.rules.specs.Tables.{Table}
use Rattle.table.specs.Images.{Form, image, image_length}
use Rattle.table.specs.Parse.{table_at}

-- "After a call, bytes past the longer of the old and new image are unchanged; if the image shrank, the bytes given up are zero."
unfoldable pub edited : Form → (Table → Table) → List ℕ → List ℕ
edited F change s =
    let before = table_at F s in
    let after = change before in
    replaced s 0 (image F after ++ replicate (image_length F before - image_length F after) 0)

-- Bytes as a table, or as none: what 01's number 2 asks, "doesn't begin with an image by the rules".
-- What is read is settled by two tests, so that only they have to be believed: the table is by the rules, and the bytes begin with its image.
use Rattle.std.specs.Prelude.{◌≡◌, List, ℕ}
use Rattle.std.specs.Prelude as given
use Rattle.std.proofs.Math.Option.{Option, none, some}
use Rattle.rules.specs.Tests.{both, provided}
use Rattle.rules.specs.Tables.{Table, Model, table_by_rule}
use Rattle.rows.specs.Read.{rows_at, begins}
use Rattle.table.specs.Headers.{header_at}
use Rattle.table.specs.Images.{Form, format_one, image, image_length}

-- the table at the start of bytes, whatever they are
unfoldable pub table_at : Form → List ℕ → Table
table_at F s =
    let h = header_at s in record {
      box = h.boxnumber;
      n = h.n;
      mode = h.mode;
      view = h.view;
      promised = h.promised;
      start = h.start;
      rows = rows_at s F.begin h.rows;
    }

-- the table that bytes begin with
unfoldable pub parse : Form → Model → List ℕ → Option Table
parse F M s = let T = table_at F s in provided (both (table_by_rule M T) (begins s (image F T))) T

-- what a look for an image answers: how long it is, if there is one
abbrev pub image_found : Form → Option Table → given.Option ℕ
image_found F none = given.None
image_found F (some T) = given.Some (image_length F T)

-- bytes that begin with an image by the rules
abbrev pub BeginsWithImage : Model → List ℕ → Type 0
BeginsWithImage M s = parse format_one M s ≡ some (table_at format_one s)

-- The group of `history` that the bytes of boxes, messages and replies say.
use mathlib.Core.Bool.{cond}
use mathlib.Core.List.{List, map}
use Prim.Native.Nat.{ℕ}
use lib.Dec.{ltb}
use Rattle.rules.specs.Tables.{Table, Model, fresh_table}
use Rattle.table.specs.Images.{format_one}
use Rattle.table.specs.Parse.{table_at}
use Rattle.history.specs.Survival as history
use Rattle.group.specs.Inner.StandIns.{said}
use Rattle.group.specs.Said.{reply_in}
use Rattle.group.specs.Acts.{Sent, Answered, Merged, GroupInBuffers}

module _ (M : Model) where
  module _ (n : ℕ) where
    abbrev pub sent_as : Sent → history.Sent
    sent_as x = record { box = x.box; message = said M n x.message }

    abbrev pub answered_as : Answered → history.Answered
    answered_as a = record { box = a.box; message = said M n a.message; reply = reply_in a.reply }

    abbrev pub merged_as : Merged → history.Merged
    merged_as m = record { view = m.view; table = table_at format_one m.output; sent_by_then = map sent_as m.sent_by_then }

    -- the tables of the group's boxes; a group has no other
    abbrev pub tables_in : (ℕ → List ℕ) → ℕ → Table
    tables_in buffers b = cond (ltb b n) (table_at format_one (buffers b)) (fresh_table n b)

  abbrev pub reading : GroupInBuffers → history.Group
  reading B =
      record {
        n = B.n;
        table = tables_in B.n B.buffer;
        had = map (table_at format_one) B.had;
        sent = map (sent_as B.n) B.sent;
        answers = map (answered_as B.n) B.answers;
        declared = B.declared;
        merged = map (merged_as B.n) B.merged;
      }

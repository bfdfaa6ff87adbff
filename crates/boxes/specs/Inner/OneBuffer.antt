-- A group in one lent buffer: the boxes' table buffers side by side, each of the least length that a table buffer has. What each call leaves of it.
use Rattle.std.specs.Prelude.{Bool, cond, not, List, [], ◌∷◌, ℕ, zero, suc, ◌*◌, eqb, ltb, length}
use Rattle.std.proofs.Math.Option.{Option, none, some}
use Rattle.wire.specs.Parts.{part, replaced}
use Rattle.rules.specs.Tests.{either}
use Rattle.rules.specs.Groups.{is_group}
use Rattle.rules.specs.Tables.{Model, Table}
use Rattle.rules.specs.Numbers.{Number.small_buffer, Number.bad_message, number_code, number}
use Rattle.rules.specs.Circumstances.{too_small}
use Rattle.table.specs.Images.{format_one}
use Rattle.table.specs.Parse.{parse}
use Rattle.table.specs.Fresh.{fresh_buffer}
use Rattle.image_run.specs.Inner.WholeRuns.{laid_out}
use Rattle.image_run.specs.Runs.{before, or_none}
use Rattle.merge.specs.Calls as merge

module _ (M : Model) where
  -- the table buffer of a box: shorter than that where the lent buffer ends before it does
  abbrev pub buffer_of : List ℕ → ℕ → List ℕ
  buffer_of tables box = part tables (M.least_buffer * box) M.least_buffer

  -- the lent buffer with another content in the table buffer of a box
  abbrev pub with_buffer : List ℕ → ℕ → List ℕ → List ℕ
  with_buffer tables box table = replaced tables (M.least_buffer * box) table

  -- ---- all boxes fresh

  -- 1 if the lent buffer has no room for n table buffers, 3 for a bad n
  unfoldable pub start_number : List ℕ → ℕ → ℕ
  start_number tables n = number ((small_buffer, ltb (length tables) (M.least_buffer * n)) ∷ (bad_message, not (is_group n)) ∷ [])

  -- the first so many boxes of a group of n have called `fresh`
  unfoldable pub fresh_first : ℕ → ℕ → List ℕ → List ℕ
  fresh_first n zero tables = tables
  fresh_first n (suc k) tables = let others = fresh_first n k tables in with_buffer others k (fresh_buffer M (buffer_of others k) n k)

  unfoldable pub start_tables : List ℕ → ℕ → List ℕ
  start_tables tables n = cond (eqb (start_number tables n) 0) (fresh_first n n tables) tables

  -- ---- a merge of what boxes hold now

  abbrev pub joined : Option Table → Option (List Table) → Option (List Table)
  joined none Ts = none
  joined (some T) Ts = before T Ts

  -- the tables of boxes that are named, or nothing if the buffer of one of them begins with no image
  unfoldable pub tables_named : List ℕ → List ℕ → Option (List Table)
  tables_named tables [] = some []
  tables_named tables (b ∷ bs) = joined (parse format_one M (buffer_of tables b)) (tables_named tables bs)

  -- their images laid end to end: no bytes, which is no run, if there is not one of each
  unfoldable pub run_named : List ℕ → List ℕ → List ℕ
  run_named tables boxes = laid_out (or_none (tables_named tables boxes))

  -- the buffer for the run has room for any tables of so many boxes
  unfoldable pub no_run_room : List ℕ → List ℕ → Bool
  no_run_room boxes run = ltb (length run) (M.least_buffer * length boxes)

  -- 1 for want of that room, else the number of the merge
  unfoldable pub merge_boxes_number : List ℕ → List ℕ → ℕ → List ℕ → List ℕ → ℕ
  merge_boxes_number tables boxes v run out = cond (no_run_room boxes run) (number_code small_buffer) (merge.call_number M (run_named tables boxes) v out)

  -- the merge's output
  unfoldable pub merge_boxes_output : List ℕ → List ℕ → ℕ → List ℕ → List ℕ → List ℕ
  merge_boxes_output tables boxes v run out = cond (no_run_room boxes run) out (merge.call_output M (run_named tables boxes) v out)

  -- the images are left where they were laid, also by a merge that is refused after that; number 1 "writes nothing", and with number 2 nothing was laid
  unfoldable pub merge_boxes_run : List ℕ → List ℕ → List ℕ → List ℕ → List ℕ
  merge_boxes_run tables boxes run out = cond (either (no_run_room boxes run) (too_small M (length out))) run (replaced run 0 (run_named tables boxes))

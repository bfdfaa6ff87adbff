-- What is true of boxes and their buffers at any time, whatever was done, by the rules or not.
use mathlib.Core.Path.{◌≡◌}
use mathlib.Core.Bool.{true}
use mathlib.Core.List.{List}
use Prim.Native.Nat.{ℕ, ◌≤◌, ◌<◌}
use lib.ListN.{length}
use Rattle.rules.specs.Groups.{is_group}
use Rattle.rules.specs.Tables.{Model}
use Rattle.table.specs.Images.{format_one}
use Rattle.table.specs.Parse.{table_at, BeginsWithImage}
use Rattle.history.specs.Survival.{◌∈◌, Declared}
use Rattle.group.specs.Said.{reply_in}
use Rattle.group.specs.Acts.{Sent, Answered, Merged, GroupInBuffers, sending, declaring}

-- the table buffer of a box of a group of n
pub record Kept (M : Model) (n b : ℕ) (s : List ℕ) : Type 0 where
  pub large : M.least_buffer ≤ length s
  pub image : BeginsWithImage M s
  pub box : (table_at format_one s).box ≡ b
  pub group : (table_at format_one s).n ≡ n

pub record Good (M : Model) (B : GroupInBuffers) : Type 0 where
  pub group : is_group B.n ≡ true
  pub buffers : (b : ℕ) → b < B.n → Kept M B.n b (B.buffer b)
  pub had : (s : List ℕ) → s ∈ B.had → BeginsWithImage M s
  -- a reply numbered 0 names the box that gave it
  pub replies : (a : Answered) → a ∈ B.answers → (reply_in a.reply).number ≡ 0 → (reply_in a.reply).box ≡ a.box
  pub outputs : (m : Merged) → m ∈ B.merged → BeginsWithImage M m.output

-- ---- what changes no buffer

pub sending_good : (M : Model) (B : GroupInBuffers) (x : Sent) → Good M B → Good M (sending B x)
sending_good M B x good = record { group = good.group; buffers = good.buffers; had = good.had; replies = good.replies; outputs = good.outputs }

pub declaring_good : (M : Model) (B : GroupInBuffers) (d : Declared) → Good M B → Good M (declaring B d)
declaring_good M B d good = record { group = good.group; buffers = good.buffers; had = good.had; replies = good.replies; outputs = good.outputs }

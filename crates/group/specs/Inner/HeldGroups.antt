-- A group of `history` held in buffers, whatever has come to pass in it.
use Rattle.std.specs.Prelude.{◌≡◌, false, List, ℕ, ◌*◌, ◌≤◌, ◌<◌, eqb, length}
use Rattle.std.proofs.Math.Option.{Option, none, some}
use Rattle.wire.specs.Parts.{replaced}
use Rattle.rules.specs.Tables.{Table, Model}
use Rattle.rules.specs.Answers.{Answer}
use Rattle.table.specs.Images.{format_one, image}
use Rattle.table.specs.Parse.{parse}
use Rattle.boxes.specs.Inner.OneBuffer.{buffer_of}
use Rattle.history.specs.Survival.{◌∈◌, Group, Event.sends, Event.arrives}
use Rattle.history_cases.specs.Today.{answer, step}
use Rattle.group.specs.Inner.StandIns.{said}

-- each box's buffer is long enough and begins with the image of its table in the group, which is a table of the group and one that boxes have had
pub record Holds (M : Model) (G : Group) (buffers : ℕ → List ℕ) : Type 0 where
  pub large : (b : ℕ) → b < G.n → M.least_buffer ≤ length (buffers b)
  pub begins : (b : ℕ) → b < G.n → parse format_one M (buffers b) ≡ some (G.table b)
  pub group : (b : ℕ) → b < G.n → (G.table b).n ≡ G.n
  pub had : (b : ℕ) → b < G.n → G.table b ∈ G.had

-- the same where the table buffers stand side by side in one lent buffer, which has room for those of all boxes
pub record HoldsLent (M : Model) (G : Group) (tables : List ℕ) : Type 0 where
  pub fits : M.least_buffer * G.n ≤ length tables
  pub holds : Holds M G (buffer_of M tables)

-- ---- steps, and what calls leave

-- bytes are sent to a box, and arrive at once: two steps of the history
abbrev pub after_message : Model → Group → ℕ → List ℕ → Group
after_message M G box bytes = step M (step M G (sends box (said M G.n bytes))) (arrives (length G.sent))

-- what the box answers
abbrev pub answer_to : Model → Group → ℕ → List ℕ → Answer
answer_to M G box bytes = answer M (G.table box) (said M G.n bytes)

-- a merge leaves this number and this output buffer, from one that held `out`: of a table, 0 and its image; of none, a refusal and what was there
abbrev pub Leaves : Model → List ℕ → ℕ → List ℕ → Option Table → Type 0
Leaves M out number after none = (eqb number 0 ≡ false) × (after ≡ out)
Leaves M out number after (some U) = (number ≡ 0) × (after ≡ replaced out 0 (image format_one U)) × (parse format_one M after ≡ some U)

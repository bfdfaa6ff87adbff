-- The words in which histories are written out, and in which the group after one is described.
use Rattle.std.specs.Prelude.{List, [], ◌∷◌, map, ℕ, suc, ◌%◌, ltb, length}
use Rattle.rules.specs.Tests.{those, all_of}
use Rattle.rules.specs.Stamps.{Body}
use Rattle.rules.specs.Tables.{Prepare, Outcome, Row, Table, normal_mode, valley}
use Rattle.rules.specs.Messages.{Message, kind, held, prepare_of, outcome_of}
use Rattle.history.specs.Survival.{Group, fresh_group, Event, Event.sends, Event.arrives, at}
use Rattle.history_cases.specs.Today.{after}

-- ---- transactions and tables

-- a transaction that reads one register, at this version
abbrev pub reads : ℕ → ℕ → Body
reads register version = record { reads = record { register = register; number = version } ∷ []; writes = [] }

-- a transaction that writes one register
abbrev pub writes : ℕ → ℕ → Body
writes register value = record { reads = []; writes = record { register = register; number = value } ∷ [] }

abbrev pub row : ℕ → Body → Prepare → Outcome → Row
row s x p o = record { stamp = s; body = x; prepare = p; outcome = o }

-- "The image is normal, view v, box v mod n, start rows equal to rows."
abbrev pub image : (n v : ℕ) → List Row → Table
image n v rows = record { box = v % n; n = n; mode = normal_mode; view = v; promised = v; start = length rows; rows = rows }

-- ---- events

-- a message is sent to each of these boxes and arrives there at once. `place` is the first one's among all that were sent: so many were sent before
unfoldable pub told : (place : ℕ) → List ℕ → Message → List Event
told place [] m = []
told place (b ∷ bs) m = sends b m ∷ arrives place ∷ told (suc place) bs m

-- ---- a history whole

-- how many boxes, and what happens from fresh tables on
pub record History : Type 0 where
  pub n : ℕ
  pub events : List Event

abbrev pub ending : History → Group
ending h = after valley (fresh_group h.n) h.events

-- ---- what was refused

-- of each refusal its box, the kind of the message, and the number
unfoldable pub refusals : Group → List (ℕ × ℕ × ℕ)
refusals G = map (λ a. (a.box, kind a.message, a.reply.number)) (those (λ a. ltb 0 a.reply.number) G.answers)

-- ---- what a group's tables hold

-- the tables at these places among those that boxes have had: n fresh ones, then one for each answer
unfoldable pub tables_at : Group → List ℕ → List Table
tables_at G places = all_of (at G.had) places

-- what rows hold of a stamp, beside a number that says whose they are
abbrev pub holding : ℕ → List Row → ℕ → ℕ × Prepare × Outcome
holding whose rows s = (whose, prepare_of (held rows s), outcome_of (held rows s))

-- of each table its box, and what it holds of a stamp
unfoldable pub held_in : List Table → ℕ → List (ℕ × Prepare × Outcome)
held_in Ts s = map (λ T. holding T.box T.rows s) Ts

-- of each merge its view, and what it holds of a stamp
unfoldable pub held_in_merges : Group → ℕ → List (ℕ × Prepare × Outcome)
held_in_merges G s = map (λ m. holding m.view m.table.rows s) G.merged

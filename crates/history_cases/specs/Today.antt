-- The group of today's boxes: what `history` says of any rule of room and any check of messages 1, with those that boxes have. A request that changes one of them changes this file.
use Rattle.std.specs.Prelude.{List, ℕ}
use Rattle.std.proofs.Math.Option.{Option}
use Rattle.rules.specs.Tables.{Model, Table}
use Rattle.rules.specs.Messages.{Message}
use Rattle.rules.specs.Circumstances.{keeps_room}
use Rattle.rules.specs.Answers as rules
use Rattle.rules.specs.Answers.{Answer, proposal_check}
use Rattle.history.specs.Survival as history
use Rattle.history.specs.Survival.{Sent, Group, Event}

-- a box's answer
abbrev pub answer : Model → Table → Message → Answer
answer M = rules.answer M keeps_room proposal_check

-- the group after one event, and its parts
abbrev pub arriving : Model → Group → Option Sent → Group
arriving M = history.arriving M keeps_room proposal_check

abbrev pub merging_as : Model → Group → ℕ → Option Table → Group
merging_as M = history.merging_as M keeps_room proposal_check

abbrev pub step : Model → Group → Event → Group
step M = history.step M keeps_room proposal_check

-- the group after many
abbrev pub after : Model → Group → List Event → Group
after M = history.after M keeps_room proposal_check

-- each keeps the rules
abbrev pub Lawful : Model → Group → List Event → Type 0
Lawful M = history.Lawful M keeps_room proposal_check

-- The history of five boxes, played in buffers: calls that are by the rules, with declarations, an abort, a commit and two merges among them.
use mathlib.Core.Path.{◌≡◌, refl, sym, ap, subst, ◌∙◌}
use mathlib.Core.Bool.{true}
use mathlib.Core.List.{List}
use Prim.Native.Nat.{ℕ, ◌<◌}
use native.Mathlib.Omega.{arith}
use Rattle.rules.specs.Tests.{either, every}
use Rattle.rules.specs.Groups.{is_group}
use Rattle.rules.specs.Tables.{valley}
use Rattle.history_cases.specs.Today.{after, Lawful}
use Rattle.table.specs.Fresh.{fresh_number}
use Rattle.table.proofs.Images.{valley_sound}
use Rattle.history_cases.specs.FiveBoxes.{five_boxes, after_five_boxes}
use Rattle.history_cases.proofs.Computing.{computing}
use Rattle.history_cases.proofs.FiveBoxes.{five_boxes_lawful}
use Rattle.group.specs.Acts.{fresh_boxes, Act, after_acts}
use Rattle.group.specs.Rules.{ByTheRules}
use Rattle.group.proofs.Reading.{reading}
use Rattle.group.proofs.FreshStart.{fresh_read, fresh_good}
use Rattle.group.proofs.Played.{event_by_rule, history_played}

messages_by_rule : every (event_by_rule valley 5) five_boxes ≡ true
unfolding computing
messages_by_rule = refl

pub five_boxes_played : (buffers : ℕ → List ℕ) → ((b : ℕ) → b < 5 → fresh_number valley (buffers b) 5 b ≡ 0) → (acts : List Act) × ByTheRules valley (fresh_boxes valley 5 buffers) acts × (reading valley (after_acts valley (fresh_boxes valley 5 buffers) acts) ≡ after_five_boxes)
unfolding is_group either fresh_boxes
five_boxes_played buffers fresh =
    let is = fresh_read valley valley_sound (omega arith) 5 refl buffers fresh in
    let good = fresh_good valley valley_sound (omega arith) 5 refl buffers fresh in
    let law : Lawful valley (reading valley (fresh_boxes valley 5 buffers)) five_boxes = subst (λ G. Lawful valley G five_boxes) (sym is) five_boxes_lawful in
    let (acts, may, same) = history_played valley valley_sound (omega arith) (fresh_boxes valley 5 buffers) good five_boxes messages_by_rule law in
    (acts, may, same ∙ ap (λ G. after valley G five_boxes) is)

-- The history of five boxes is lawful; what was declared, accepted and agreed in it, what the merges are of, and what they hold.
use mathlib.Core.Path.{◌≡◌, refl}
use mathlib.Core.Bool.{true}
use mathlib.Core.List.{[], ◌∷◌, map}
use lib.Dec.{eqb}
use lib.ListN.{length}
use Rattle.rules.specs.Tests.{either, every}
use Rattle.rules.specs.Groups.{is_group}
use Rattle.rules.specs.Tables.{Result.OK, Result.ABORT, Result.ABSTAIN, Prepare.no_prepare, Prepare.tentative, Prepare.final, Verdict.commit, Verdict.abort, Outcome.no_outcome, Outcome.noted, Outcome.done, valley}
use Rattle.rules.specs.Circumstances.{keeps_room}
use Rattle.history.specs.Survival.{fresh_group, QuorumOf, Accepted, Survival}
use Rattle.history_cases.specs.Today.{Lawful}
use Rattle.history_cases.specs.Histories.{held_in, held_in_merges}
use Rattle.history_cases.specs.FiveBoxes.{five_boxes, after_five_boxes, transactions, gathered_for_view1, gathered_for_view2}
use Rattle.history.proofs.Survival.{survival}
use Rattle.history_cases.proofs.RuleTests.{on_acceptances_lem, passes_is}
use Rattle.history_cases.proofs.Computing.{computing}

pub five_boxes_lawful : Lawful valley (fresh_group 5) five_boxes
unfolding computing
five_boxes_lawful = passes_is valley (fresh_group 5) five_boxes refl

-- so the theorem speaks of it
pub five_boxes_survive : Survival after_five_boxes
unfolding is_group either
five_boxes_survive = survival 5 group_of_five valley keeps_room five_boxes five_boxes_lawful
  where
    group_of_five : is_group 5 ≡ true
    group_of_five = refl

-- a message arrives 30 times, and no box refuses it
pub none_refused : (length after_five_boxes.answers ≡ 30) × (every (λ a. eqb a.reply.number 0) after_five_boxes.answers ≡ true)
unfolding computing
none_refused = (refl, refl)

pub declared_in_view_0 : after_five_boxes.declared ≡ record { stamp = 30; view = 0; result = OK } ∷ record { stamp = 10; view = 0; result = OK } ∷ []
unfolding computing
declared_in_view_0 = refl

pub abort_accepted_in_view_0 : QuorumOf after_five_boxes (Accepted after_five_boxes 40 0 abort)
unfolding computing
abort_accepted_in_view_0 = on_acceptances_lem after_five_boxes 40 0 abort refl

-- 10 is final in one table. 20 and 30 are each OK in two, which is the agreement count for f = 2
pub gathered_for_view_1 :
    (held_in gathered_for_view1 10 ≡ (2, no_prepare, no_outcome) ∷ (3, no_prepare, no_outcome) ∷ (4, final OK, no_outcome) ∷ [])
    × (held_in gathered_for_view1 20 ≡ (2, tentative OK, no_outcome) ∷ (3, tentative OK, no_outcome) ∷ (4, no_prepare, no_outcome) ∷ [])
    × (held_in gathered_for_view1 30 ≡ (2, tentative OK, no_outcome) ∷ (3, tentative OK, no_outcome) ∷ (4, no_prepare, no_outcome) ∷ [])
    × (held_in gathered_for_view1 40 ≡ (2, tentative ABORT, noted abort) ∷ (3, no_prepare, no_outcome) ∷ (4, no_prepare, no_outcome) ∷ [])
unfolding computing
gathered_for_view_1 = (refl, refl, refl, refl)

-- only box 3 knows of the commit
pub gathered_for_view_2 :
    (map (λ T. T.view) gathered_for_view2 ≡ 1 ∷ 0 ∷ 1 ∷ [])
    × (held_in gathered_for_view2 10 ≡ (0, final OK, no_outcome) ∷ (1, final OK, no_outcome) ∷ (3, final OK, noted commit) ∷ [])
unfolding computing
gathered_for_view_2 = (refl, refl)

-- in both merges what was declared is final: in the first 30 passed its check and 10 needed none; 20 failed its check there; 40 is aborted
pub merges_hold :
    (held_in_merges after_five_boxes 10 ≡ (1, final OK, no_outcome) ∷ (2, final OK, done commit) ∷ [])
    × (held_in_merges after_five_boxes 20 ≡ (1, final ABSTAIN, no_outcome) ∷ (2, final ABSTAIN, no_outcome) ∷ [])
    × (held_in_merges after_five_boxes 30 ≡ (1, final OK, no_outcome) ∷ (2, final OK, no_outcome) ∷ [])
    × (held_in_merges after_five_boxes 40 ≡ (1, final ABORT, done abort) ∷ (2, final ABORT, done abort) ∷ [])
unfolding computing
merges_hold = (refl, refl, refl, refl)

-- and they hold no other row: each has the four transactions, with their bodies
pub merges_hold_no_more : map (λ m. map (λ r. (r.stamp, r.body)) m.table.rows) after_five_boxes.merged ≡ transactions ∷ transactions ∷ []
unfolding computing
merges_hold_no_more = refl

-- A lawful history of a group of five boxes, f = 2, from fresh: two declarations, an abort, a commit, and merges for views 1 and 2 over different boxes.
use Rattle.std.specs.Prelude.{List, [], ◌∷◌, ◌++◌, ℕ}
use Rattle.rules.specs.Stamps.{Body}
use Rattle.rules.specs.Tables.{Result.OK, Result.ABORT, Result.ABSTAIN, Prepare.final, Verdict.commit, Verdict.abort, Outcome.no_outcome, Outcome.done, Table, valley}
use Rattle.rules.specs.Messages.{Message.propose_prepare, Message.finalise_prepare, Message.propose_outcome, Message.finalise_outcome, Message.change_view, Message.start_view}
use Rattle.history.specs.Survival.{Group, fresh_group, Event, Event.sends, Event.arrives, Event.declares, Event.merges}
use Rattle.history_cases.specs.Today.{after}
use Rattle.history_cases.specs.Histories.{reads, writes, row, image, told, tables_at}

-- ---- the four transactions

-- stamp 10
abbrev pub declared_slow : Body
declared_slow = writes 0 7

-- stamp 20: it read register 0 as if stamp 10 had not written it, so the two clash
abbrev pub agreed_only : Body
agreed_only = reads 0 0

-- stamp 30
abbrev pub declared_fast : Body
declared_fast = writes 1 8

-- stamp 40
abbrev pub aborted : Body
aborted = writes 2 9

-- ---- the history

-- the table of the merge for view 1
abbrev pub first_merge : Table
first_merge =
    image 5 1 (row 10 declared_slow (final OK) no_outcome
    ∷ row 20 agreed_only (final ABSTAIN) no_outcome
    ∷ row 30 declared_fast (final OK) no_outcome
    ∷ row 40 aborted (final ABORT) (done abort)
    ∷ [])

unfoldable pub five_boxes : List Event
five_boxes =
    -- four boxes say OK to stamp 30, which is the fast count; what is sent to box 4 is lost
    told 0 (0 ∷ 1 ∷ 2 ∷ 3 ∷ []) (propose_prepare 30 declared_fast)
    ++ (sends 4 (propose_prepare 30 declared_fast) ∷ declares 30 0 OK ∷ [])
    -- three boxes say OK to stamp 10, box 4 once more as the message is repeated: slow OK, which the three confirm
    ++ told 5 (0 ∷ 1 ∷ 4 ∷ []) (propose_prepare 10 declared_slow)
    ++ (arrives 7 ∷ [])
    ++ told 8 (0 ∷ 1 ∷ 4 ∷ []) (finalise_prepare 10 0 OK)
    ++ (declares 10 0 OK ∷ [])
    -- boxes 2 and 3 do not know stamp 10, and say OK to stamp 20
    ++ told 11 (2 ∷ 3 ∷ []) (propose_prepare 20 agreed_only)
    -- stamp 40 is proposed to box 2, where its abort arrives first; three boxes accept the abort, and two of them finish it
    ++ (sends 2 (propose_prepare 40 aborted) ∷ [])
    ++ told 14 (0 ∷ 1 ∷ 2 ∷ []) (propose_outcome 40 abort aborted)
    ++ (arrives 13 ∷ [])
    ++ told 17 (0 ∷ 1 ∷ []) (finalise_outcome 40 0 abort)
    -- view 1 from boxes 2, 3 and 4: before their promises there were five fresh tables and 19 answers
    ++ told 19 (2 ∷ 3 ∷ 4 ∷ []) (change_view 1)
    ++ (merges 1 (24 ∷ 25 ∷ 26 ∷ []) ∷ [])
    -- boxes 0, 3 and 4 start it; 3 and 4 have thus answered in a later view than stamp 10 was declared in, and learn its commit
    ++ told 22 (0 ∷ 3 ∷ 4 ∷ []) (start_view 1 first_merge)
    ++ told 25 (3 ∷ 4 ∷ []) (propose_outcome 10 commit declared_slow)
    -- view 2 from boxes 0, 1 and 3: box 1 is still in view 0, and its table is not used
    ++ told 27 (0 ∷ 1 ∷ 3 ∷ []) (change_view 2)
    ++ (merges 2 (32 ∷ 33 ∷ 34 ∷ []) ∷ [])

abbrev pub after_five_boxes : Group
after_five_boxes = after valley (fresh_group 5) five_boxes

-- all that was proposed, by stamp and body
abbrev pub transactions : List (ℕ × Body)
transactions = (10, declared_slow) ∷ (20, agreed_only) ∷ (30, declared_fast) ∷ (40, aborted) ∷ []

-- what the two merges are of
abbrev pub gathered_for_view1 : List Table
gathered_for_view1 = tables_at after_five_boxes (24 ∷ 25 ∷ 26 ∷ [])

abbrev pub gathered_for_view2 : List Table
gathered_for_view2 = tables_at after_five_boxes (32 ∷ 33 ∷ 34 ∷ [])

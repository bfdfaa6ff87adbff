-- Histories in which one rule, or one definition, is bent, so that Survival fails after them. In each, stamps 10 and 20 clash.
use Rattle.std.specs.Prelude.{Bool, cond, List, [], ◌∷◌, ◌++◌, ℕ, ◌+◌, eqb, leb}
use Rattle.rules.specs.Tests.{both, either, any}
use Rattle.rules.specs.Groups.{f_of, agreement_count}
use Rattle.rules.specs.Stamps.{Body}
use Rattle.rules.specs.Tables.{Result, Result.OK, Result.ABORT, Result.ABSTAIN, Result.RETRY, Prepare.final, Verdict.commit, Verdict.abort, Outcome.no_outcome, prepare_code, outcome_code, Row, Table, valley}
use Rattle.rules.specs.Messages.{Message.propose_prepare, Message.finalise_prepare, Message.propose_outcome, Message.finalise_outcome, Message.change_view, Message.start_view}
use Rattle.rules.specs.Circumstances.{keeps_room}
use Rattle.rules.specs.Check.{committed, retry_stamp, check}
use Rattle.rules.specs.DayOrder.{day_a, day_b}
use Rattle.rules.specs.Merge.{used, group_of, among_agreed, among_open, to_check, unchecked_rows, checked_in_turn}
use Rattle.history.specs.Survival.{Group, fresh_group, Event, Event.sends, Event.arrives, Event.declares, Event.merges, Survival}
use Rattle.history.specs.Survival as history
use Rattle.history_cases.specs.Today.{after, Lawful}
use Rattle.history_cases.specs.FiveBoxes.{after_five_boxes}
use Rattle.history_cases.specs.Histories.{reads, writes, row, image, told, tables_at}

-- stamp 10
abbrev pub writer : Body
writer = writes 0 7

-- stamp 20: it read register 0 as if stamp 10 had not written it
abbrev pub reader : Body
reader = reads 0 0

-- ---- a history that is lawful but for some events in the middle

pub record Bent : Type 0 where
  pub n : ℕ
  pub before : List Event
  pub bent : List Event
  pub rest : List Event

-- the group when the rule is about to be bent, when it has been, and at the end
abbrev pub until : Bent → Group
until h = after valley (fresh_group h.n) h.before

abbrev pub since : Bent → Group
since h = after valley (until h) h.bent

abbrev pub at_end : Bent → Group
at_end h = after valley (since h) h.rest

-- what comes before the bent events and after them keeps every rule; `others` is what the bent ones keep
abbrev pub LawfulBut : Bent → Type 0 → Type 0
LawfulBut h others = Lawful valley (fresh_group h.n) h.before × others × Lawful valley (since h) h.rest

abbrev pub Breaks : Group → Type 0
Breaks G = Survival G → ⊥

-- ---- rule 1 bent: "one stamp, one body"

-- stamp 20 as it was proposed at first: it clashes with nothing
abbrev pub harmless : Body
harmless = writes 1 8

unfoldable pub two_bodies_sent : Bent
two_bodies_sent =
    record {
      n = 3;
      -- boxes 0 and 1 say OK to stamp 20 with its harmless body, and confirm it; all three say OK to stamp 10. Both are declared, and box 2 learns the commit of stamp 10
      before = told 0 (0 ∷ 1 ∷ []) (propose_prepare 20 harmless)
          ++ told 2 (0 ∷ 1 ∷ []) (finalise_prepare 20 0 OK)
          ++ (declares 20 0 OK ∷ [])
          ++ told 4 (0 ∷ 1 ∷ 2 ∷ []) (propose_prepare 10 writer)
          ++ (declares 10 0 OK ∷ [])
          ++ told 7 (2 ∷ []) (propose_outcome 10 commit writer);
      -- the commit of stamp 20 has another body. Box 2 does not know the first one, and accepts it
      bent = told 8 (2 ∷ []) (propose_outcome 20 commit reader);
      rest = [];
    }

-- ---- rule 2 bent: "one result per stamp and view, sent or declared"

unfoldable pub two_results : Bent
two_results =
    record {
      n = 5;
      -- box 4 holds stamp 10, and says ABSTAIN to stamp 20 where boxes 0 and 1 say OK: slow ABSTAIN, which box 0 confirms. Boxes 2 and 3 are asked later, and say OK
      before = told 0 (4 ∷ []) (propose_prepare 10 writer)
          ++ told 1 (0 ∷ 1 ∷ 4 ∷ []) (propose_prepare 20 reader)
          ++ told 4 (0 ∷ []) (finalise_prepare 20 0 ABSTAIN)
          ++ told 5 (2 ∷ 3 ∷ []) (propose_prepare 20 reader);
      -- four boxes have said OK, which is the fast count; but ABSTAIN was sent for this view
      bent = declares 20 0 OK ∷ [];
      rest = told 7 (0 ∷ 1 ∷ 4 ∷ []) (change_view 1) ++ (merges 1 (12 ∷ 13 ∷ 14 ∷ []) ∷ []);
    }

-- ---- rule 5 bent: "Telling a commit to a box still in a view older than the one that declared it: a late merge over that box's table can turn another declared OK."

abbrev pub first_view : Table
first_view = image 3 1 (row 20 reader (final OK) no_outcome ∷ [])

unfoldable pub commit_to_old_view : Bent
commit_to_old_view =
    record {
      n = 3;
      -- stamp 20 is declared in view 0. Boxes 1 and 2 go on to view 1; there it is aborted, and stamp 10 is declared
      before = told 0 (0 ∷ 1 ∷ 2 ∷ []) (propose_prepare 20 reader)
          ++ (declares 20 0 OK ∷ [])
          ++ told 3 (1 ∷ 2 ∷ []) (change_view 1)
          ++ (merges 1 (6 ∷ 7 ∷ []) ∷ [])
          ++ told 5 (1 ∷ 2 ∷ []) (start_view 1 first_view)
          ++ told 7 (1 ∷ 2 ∷ []) (propose_outcome 20 abort reader)
          ++ told 9 (1 ∷ 2 ∷ []) (finalise_outcome 20 1 abort)
          ++ told 11 (1 ∷ 2 ∷ []) (propose_prepare 10 writer)
          ++ told 13 (1 ∷ 2 ∷ []) (finalise_prepare 10 1 OK)
          ++ (declares 10 1 OK ∷ []);
      -- box 0 is still in view 0
      bent = told 15 (0 ∷ []) (propose_outcome 10 commit writer);
      -- the late merge: the table that box 1 had after its promise, and now box 0's
      rest = told 16 (0 ∷ []) (change_view 1) ++ (merges 1 (6 ∷ 19 ∷ []) ∷ []);
    }

-- ---- rule 5 bent: "never both outcomes"

unfoldable pub both_outcomes : Bent
both_outcomes =
    record {
      n = 3;
      -- stamp 20 is declared. Boxes 0 and 1 accept its abort, which is f+1, and finish it: its row is freed there, so both say OK to stamp 10, which they confirm; it is declared and committed
      before = told 0 (0 ∷ 1 ∷ 2 ∷ []) (propose_prepare 20 reader)
          ++ (declares 20 0 OK ∷ [])
          ++ told 3 (0 ∷ 1 ∷ []) (propose_outcome 20 abort reader)
          ++ told 5 (0 ∷ 1 ∷ []) (finalise_outcome 20 0 abort)
          ++ told 7 (0 ∷ 1 ∷ []) (propose_prepare 10 writer)
          ++ told 9 (0 ∷ 1 ∷ []) (finalise_prepare 10 0 OK)
          ++ (declares 10 0 OK ∷ [])
          ++ told 11 (0 ∷ []) (propose_outcome 10 commit writer);
      -- box 2 has not heard of the abort, and accepts the commit of stamp 20
      bent = told 12 (2 ∷ []) (propose_outcome 20 commit reader);
      rest = [];
    }

-- ---- rule 6 bent: "message 4 names a view in which f+1 different boxes have accepted message 3"

-- four boxes say OK to stamp 20, which is declared; then two of them note its abort
abbrev declared_then_noted : List Event
declared_then_noted =
    told 0 (0 ∷ 1 ∷ 2 ∷ 3 ∷ []) (propose_prepare 20 reader)
    ++ (declares 20 0 OK ∷ [])
    ++ told 4 (0 ∷ 1 ∷ []) (propose_outcome 20 abort reader)

-- boxes 0, 1 and 4 say OK to stamp 10, which box 4 confirms; then view 1 from boxes 2, 3 and 4. `place` messages were sent before, and boxes have had `had` tables
abbrev writer_then_merge : (place had : ℕ) → List Event
writer_then_merge place had =
    told place (0 ∷ 1 ∷ 4 ∷ []) (propose_prepare 10 writer)
    ++ told (3 + place) (4 ∷ []) (finalise_prepare 10 0 OK)
    ++ told (4 + place) (2 ∷ 3 ∷ 4 ∷ []) (change_view 1)
    ++ (merges 1 ((4 + had) ∷ (5 + had) ∷ (6 + had) ∷ []) ∷ [])

unfoldable pub two_acceptances : Bent
two_acceptances =
    record {
      n = 5;
      before = declared_then_noted;
      -- two boxes have accepted the abort, where f+1 is three; both free the row, and so can say OK to stamp 10
      bent = told 6 (0 ∷ 1 ∷ []) (finalise_outcome 20 0 abort);
      rest = writer_then_merge 8 13;
    }

-- ---- rule 6 bent in its view: "Finishing an abort in a box whose view is older than the one that noted it"

abbrev pub reader_kept : Table
reader_kept = image 5 1 (row 10 writer (final ABSTAIN) no_outcome ∷ row 20 reader (final OK) no_outcome ∷ [])

unfoldable pub finished_in_old_view : Bent
finished_in_old_view =
    record {
      n = 5;
      -- stamp 20 is slow OK and final in box 0, stamp 10 is held by boxes 3 and 4. In view 1, from boxes 0, 3 and 4, stamp 10 is not OK; there three boxes accept the abort of stamp 20, which boxes 1 and 2 note in view 0
      before = told 0 (0 ∷ 1 ∷ 2 ∷ []) (propose_prepare 20 reader)
          ++ told 3 (0 ∷ []) (finalise_prepare 20 0 OK)
          ++ told 4 (3 ∷ 4 ∷ []) (propose_prepare 10 writer)
          ++ told 6 (0 ∷ 3 ∷ 4 ∷ []) (change_view 1)
          ++ (merges 1 (11 ∷ 12 ∷ 13 ∷ []) ∷ [])
          ++ told 9 (0 ∷ 3 ∷ 4 ∷ []) (start_view 1 reader_kept)
          ++ told 12 (0 ∷ 1 ∷ 2 ∷ 3 ∷ 4 ∷ []) (propose_outcome 20 abort reader);
      -- message 4 names view 0, so that boxes 1 and 2 take it
      bent = told 17 (1 ∷ 2 ∷ []) (finalise_outcome 20 0 abort);
      -- stamp 20 is gone there: with the old replies of boxes 3 and 4 stamp 10 has a fast count in view 0
      rest = told 19 (1 ∷ 2 ∷ []) (propose_prepare 10 writer) ++ (declares 10 0 OK ∷ []);
    }

-- ---- the check bent: "Dropping a prepared row when abort is only noted: the abort may be lost and both clash."

-- "Prepared: prepare byte 1 or 5 and outcome 0, 1 or 2.", but without the 2
unfoldable pub prepared_unless_noted : Row → Bool
prepared_unless_noted r = both (either (eqb (prepare_code r.prepare) 1) (eqb (prepare_code r.prepare) 5)) (leb (outcome_code r.outcome) 1)

-- the check of messages 1 with that for prepared
unfoldable pub bent_check : List Row → ℕ → Body → Result
bent_check rows s x =
    cond (any (day_a committed s x) rows) ABORT
    (cond (any (day_b committed s x) rows) (RETRY (retry_stamp day_b rows s x))
    (cond (any (λ r. either (day_a prepared_unless_noted s x r) (day_b prepared_unless_noted s x r)) rows) ABSTAIN OK))

unfoldable pub abort_frees : List Event
abort_frees = declared_then_noted ++ writer_then_merge 6 11

-- boxes answer message 1 by the bent check
abbrev pub after_abort_frees : Group
after_abort_frees = history.after valley keeps_room bent_check (fresh_group 5) abort_frees

-- ---- the merge bent: "Keeping every agreed OK unchecked lets it clash with a slow final OK."

-- the merge's rows, but where an agreed OK waits for its check it gets OK
unfoldable pub bent_merged_rows : ℕ → List Table → List Row
bent_merged_rows agreement Ts =
    checked_in_turn check (to_check among_open agreement Ts)
    (checked_in_turn (λ rows s x. OK) (to_check among_agreed agreement Ts) (unchecked_rows agreement Ts))

unfoldable pub bent_merge : ℕ → List Table → Table
bent_merge v Ts = image (group_of Ts) v (bent_merged_rows (agreement_count (f_of (group_of Ts))) (used Ts))

-- what it gives for view 1
abbrev pub both_ok : Table
both_ok = image 5 1 (row 10 writer (final OK) no_outcome ∷ row 20 reader (final OK) no_outcome ∷ [])

unfoldable pub agreed_unchecked : Bent
agreed_unchecked =
    record {
      n = 5;
      -- boxes 0 and 1 say OK to stamp 20, boxes 2, 3 and 4 to stamp 10: slow OK, which box 2 confirms
      before = told 0 (0 ∷ 1 ∷ []) (propose_prepare 20 reader)
          ++ told 2 (2 ∷ 3 ∷ 4 ∷ []) (propose_prepare 10 writer)
          ++ told 5 (2 ∷ []) (finalise_prepare 10 0 OK)
          ++ told 6 (0 ∷ 1 ∷ 2 ∷ []) (change_view 1);
      -- the table of the bent merge is sent for view 1
      bent = sends 0 (start_view 1 both_ok) ∷ sends 1 (start_view 1 both_ok) ∷ sends 2 (start_view 1 both_ok) ∷ [];
      -- three boxes start it, answer OK to both stamps and confirm both: both are declared and committed
      rest = (arrives 9 ∷ arrives 10 ∷ arrives 11 ∷ [])
          ++ told 12 (0 ∷ 1 ∷ 2 ∷ []) (propose_prepare 20 reader)
          ++ told 15 (0 ∷ 1 ∷ 2 ∷ []) (propose_prepare 10 writer)
          ++ told 18 (0 ∷ 1 ∷ 2 ∷ []) (finalise_prepare 20 1 OK)
          ++ told 21 (0 ∷ 1 ∷ 2 ∷ []) (finalise_prepare 10 1 OK)
          ++ (declares 20 1 OK ∷ declares 10 1 OK ∷ [])
          ++ told 24 (0 ∷ []) (propose_outcome 20 commit reader)
          ++ told 25 (0 ∷ []) (propose_outcome 10 commit writer);
    }

-- the tables that boxes 0, 1 and 2 had after their promises
abbrev pub gathered : List Table
gathered = tables_at (until agreed_unchecked) (11 ∷ 12 ∷ 13 ∷ [])

-- ---- a merge that is empty

-- the group of the lawful history, as if its merge for view 1 held nothing
abbrev pub emptied : Group
emptied =
    record {
      n = after_five_boxes.n;
      table = after_five_boxes.table;
      had = after_five_boxes.had;
      sent = after_five_boxes.sent;
      answers = after_five_boxes.answers;
      declared = after_five_boxes.declared;
      merged = record { view = 1; table = image 5 1 []; sent_by_then = after_five_boxes.sent } ∷ [];
    }

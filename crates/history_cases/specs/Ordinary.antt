-- Seven ordinary histories, from fresh boxes, in groups of 3, 5 and 7: each keeps every rule, and is about one thing that happens to a group in use.
-- Requests P6 and P13 of document 02 have changed the check of message 1 for what lies above the new stamp; every reply and merge here is the same as before both. Wherever a box answers message 1, no committed or
-- prepared transaction above the new stamp reads or writes a register of the new one, but in histories 3 and 6, which say why the reply is the same there; and no check of a merge gives RETRY.
use Rattle.std.specs.Prelude.{[], ◌∷◌, ◌++◌}
use Rattle.rules.specs.Stamps.{Body}
use Rattle.rules.specs.Tables.{Result.OK, Result.RETRY, Prepare.final, Verdict.commit, Verdict.abort, Outcome.no_outcome, Outcome.done, Table}
use Rattle.rules.specs.Messages.{Message.propose_prepare, Message.finalise_prepare, Message.propose_outcome, Message.finalise_outcome, Message.change_view, Message.start_view, Message.read_register}
use Rattle.history.specs.Survival.{Event.sends, Event.arrives, Event.declares, Event.merges}
use Rattle.history_cases.specs.Histories.{reads, writes, row, image, told, History}

-- what most of them are about: a transaction that writes register 0,
abbrev pub writes_register0 : Body
writes_register0 = writes 0 7

-- and one that read it as never written
abbrev pub reads_register0 : Body
reads_register0 = reads 0 0

-- ---- 1. what one transaction wrote, the next one reads, and both are committed

-- stamp 10
abbrev pub written : Body
written = writes 5 7

-- stamp 20: it read register 5 as stamp 10 wrote it
abbrev pub read_it : Body
read_it = reads 5 10

unfoldable pub written_then_read : History
written_then_read =
    record {
      n = 3;
      events =
          -- all three boxes say OK to stamp 10, which is the fast count; then box 2 is out of reach
          told 0 (0 ∷ 1 ∷ 2 ∷ []) (propose_prepare 10 written)
          ++ (declares 10 0 OK ∷ [])
          -- the other two, which are f+1, accept its commit and finish it
          ++ told 3 (0 ∷ 1 ∷ []) (propose_outcome 10 commit written)
          ++ told 5 (0 ∷ 1 ∷ []) (finalise_outcome 10 0 commit)
          -- the client of stamp 20 reads register 5 in box 0, and is told version 10 and the value 7
          ++ told 7 (0 ∷ []) (read_register 20 5)
          -- two OKs are slow OK, which the two confirm; its commit is accepted and finished like the first
          ++ told 8 (0 ∷ 1 ∷ []) (propose_prepare 20 read_it)
          ++ told 10 (0 ∷ 1 ∷ []) (finalise_prepare 20 0 OK)
          ++ (declares 20 0 OK ∷ [])
          ++ told 12 (0 ∷ 1 ∷ []) (propose_outcome 20 commit read_it)
          ++ told 14 (0 ∷ 1 ∷ []) (finalise_outcome 20 0 commit)
          -- view 1 from boxes 1 and 2: box 2 has heard of stamp 10 alone, and of no outcome
          ++ told 16 (1 ∷ 2 ∷ []) (change_view 1)
          ++ (merges 1 (19 ∷ 20 ∷ []) ∷ []);
    }

-- ---- 2. a slow answer that too few confirm is asked for again in the next view, and a late box is told

abbrev pub asked_again_merged : Table
asked_again_merged = image 3 1 (row 10 writes_register0 (final OK) no_outcome ∷ [])

unfoldable pub finalised_in_next_view : History
finalised_in_next_view =
    record {
      n = 3;
      events =
          -- two OKs are slow OK; box 0 confirms it, and then is away. What is sent to box 1 is lost, so nothing is declared in view 0
          told 0 (0 ∷ 1 ∷ []) (propose_prepare 10 writes_register0)
          ++ told 2 (0 ∷ []) (finalise_prepare 10 0 OK)
          ++ (sends 1 (finalise_prepare 10 0 OK) ∷ [])
          -- view 1 from boxes 1 and 2: one tentative OK is below the agreement count, so the merge checks it
          ++ told 4 (1 ∷ 2 ∷ []) (change_view 1)
          ++ (merges 1 (6 ∷ 7 ∷ []) ∷ [])
          ++ told 6 (1 ∷ 2 ∷ []) (start_view 1 asked_again_merged)
          -- message 1 is sent again: both answer their final OK of view 1, which is slow OK; both confirm it, and it is declared in view 1
          ++ told 8 (1 ∷ 2 ∷ []) (propose_prepare 10 writes_register0)
          ++ told 10 (1 ∷ 2 ∷ []) (finalise_prepare 10 1 OK)
          ++ (declares 10 1 OK ∷ [])
          ++ told 12 (1 ∷ 2 ∷ []) (propose_outcome 10 commit writes_register0)
          ++ told 14 (1 ∷ 2 ∷ []) (finalise_outcome 10 1 commit)
          -- box 0 comes back and starts view 1. Now that it has answered in the view of the declaration, it may be told the commit
          ++ told 16 (0 ∷ []) (start_view 1 asked_again_merged)
          ++ told 17 (0 ∷ []) (propose_outcome 10 commit writes_register0)
          ++ told 18 (0 ∷ []) (finalise_outcome 10 1 commit)
          -- view 2 from boxes 0 and 2
          ++ told 19 (0 ∷ 2 ∷ []) (change_view 2)
          ++ (merges 2 (21 ∷ 22 ∷ []) ∷ []);
    }

-- ---- 3. a client dies when one box has its message 1, and what clashes with it is committed

unfoldable pub client_dies : History
client_dies =
    record {
      n = 3;
      events =
          -- stamp 20 is heard of once
          told 0 (0 ∷ []) (propose_prepare 20 reads_register0)
          -- stamp 10 writes what stamp 20 read, and lies below it; stamp 20 is prepared in box 0. That box says ABSTAIN, and not RETRY, since stamp 20 is only prepared; the others know nothing of stamp 20. Two OKs of three are slow OK
          ++ told 1 (0 ∷ 1 ∷ 2 ∷ []) (propose_prepare 10 writes_register0)
          ++ told 4 (1 ∷ 2 ∷ []) (finalise_prepare 10 0 OK)
          ++ (declares 10 0 OK ∷ [])
          ++ told 6 (1 ∷ 2 ∷ []) (propose_outcome 10 commit writes_register0)
          ++ told 8 (1 ∷ 2 ∷ []) (finalise_outcome 10 0 commit)
          -- view 1 from boxes 0 and 1: one tentative OK of stamp 20 is open, and meets the commit of stamp 10 in its check
          ++ told 10 (0 ∷ 1 ∷ []) (change_view 1)
          ++ (merges 1 (13 ∷ 14 ∷ []) ∷ []);
    }

-- ---- 4. views are skipped, and messages come late and twice

abbrev pub skipped_to : Table
skipped_to = image 5 3 (row 10 writes_register0 (final OK) (done commit) ∷ [])

unfoldable pub skipped_and_late : History
skipped_and_late =
    record {
      n = 5;
      events =
          -- four OKs are the fast count. Message 2 may be sent on it too: those to boxes 0 and 3 are on their way for long
          told 0 (0 ∷ 1 ∷ 2 ∷ 3 ∷ []) (propose_prepare 10 writes_register0)
          ++ (declares 10 0 OK ∷ sends 0 (finalise_prepare 10 0 OK) ∷ sends 3 (finalise_prepare 10 0 OK) ∷ [])
          -- three boxes, which are f+1, accept the commit. After that message 2 arrives at box 0: it was sent before the outcome was proposed, and is taken
          ++ told 6 (0 ∷ 1 ∷ 2 ∷ []) (propose_outcome 10 commit writes_register0)
          ++ (arrives 4 ∷ [])
          -- view 3 comes next, from boxes 1, 2 and 4. Boxes 0 and 3 start it without having promised it
          ++ told 9 (1 ∷ 2 ∷ 4 ∷ []) (change_view 3)
          ++ (merges 3 (13 ∷ 14 ∷ 15 ∷ []) ∷ [])
          ++ told 12 (0 ∷ 1 ∷ 3 ∷ []) (start_view 3 skipped_to)
          -- box 0 gets message 6 once more, and box 3 gets message 2 of view 0 now that its view is 3
          ++ (arrives 12 ∷ arrives 5 ∷ [])
          -- view 5 from boxes 0, 2 and 3: box 2 never started view 3, and its table is not used
          ++ told 15 (0 ∷ 2 ∷ 3 ∷ []) (change_view 5)
          ++ (merges 5 (21 ∷ 22 ∷ 23 ∷ []) ∷ []);
    }

-- ---- 5. two view changes compete

-- stamp 20
abbrev pub in_the_older : Body
in_the_older = writes 1 8

-- stamp 30: it read register 1 as if stamp 20 had not written it
abbrev pub in_the_newer : Body
in_the_newer = reads 1 0

abbrev pub older_merged : Table
older_merged = image 3 1 (row 10 writes_register0 (final OK) no_outcome ∷ row 20 in_the_older (final OK) no_outcome ∷ [])

abbrev pub newer_merged : Table
newer_merged = image 3 2 (row 10 writes_register0 (final OK) no_outcome ∷ [])

unfoldable pub competing_views : History
competing_views =
    record {
      n = 3;
      events =
          -- stamp 10 is declared, and box 0 alone has heard of stamp 20
          told 0 (0 ∷ 1 ∷ 2 ∷ []) (propose_prepare 10 writes_register0)
          ++ (declares 10 0 OK ∷ [])
          ++ told 3 (0 ∷ []) (propose_prepare 20 in_the_older)
          -- boxes 0 and 1 promise view 1, boxes 1 and 2 promise view 2, and both are merged
          ++ told 4 (0 ∷ 1 ∷ []) (change_view 1)
          ++ told 6 (1 ∷ 2 ∷ []) (change_view 2)
          ++ (merges 1 (7 ∷ 8 ∷ []) ∷ merges 2 (9 ∷ 10 ∷ []) ∷ [])
          -- view 2 begins; after that the table of view 1 is sent to boxes 0 and 1. Box 0 has promised nothing above it, and takes it. Box 1 has
          ++ told 8 (1 ∷ 2 ∷ []) (start_view 2 newer_merged)
          ++ told 10 (0 ∷ 1 ∷ []) (start_view 1 older_merged)
          -- in view 2 nobody knows stamp 20, and stamp 30 is declared there and accepted
          ++ told 12 (1 ∷ 2 ∷ []) (propose_prepare 30 in_the_newer)
          ++ told 14 (1 ∷ 2 ∷ []) (finalise_prepare 30 2 OK)
          ++ (declares 30 2 OK ∷ [])
          ++ told 16 (1 ∷ 2 ∷ []) (propose_outcome 30 commit in_the_newer)
          -- view 3 from boxes 0 and 1: box 0 is in view 1, and its table is not used
          ++ told 18 (0 ∷ 1 ∷ []) (change_view 3)
          ++ (merges 3 (21 ∷ 22 ∷ []) ∷ []);
    }

-- ---- 6. RETRY is declared, and kept with its stamp

unfoldable pub retry_kept : History
retry_kept =
    record {
      n = 7;
      events =
          -- box 6 is away. Six OKs are the fast count; the six accept the commit and finish it
          told 0 (0 ∷ 1 ∷ 2 ∷ 3 ∷ 4 ∷ 5 ∷ []) (propose_prepare 30 reads_register0)
          ++ (declares 30 0 OK ∷ [])
          ++ told 6 (0 ∷ 1 ∷ 2 ∷ 3 ∷ 4 ∷ 5 ∷ []) (propose_outcome 30 commit reads_register0)
          ++ told 12 (0 ∷ 1 ∷ 2 ∷ 3 ∷ 4 ∷ 5 ∷ []) (finalise_outcome 30 0 commit)
          -- stamp 20 lies below a committed read of its register. Each of the six says RETRY 30, the greatest committed or prepared access above, since there is no other. Six of one result are the fast count
          ++ told 18 (0 ∷ 1 ∷ 2 ∷ 3 ∷ 4 ∷ 5 ∷ []) (propose_prepare 20 writes_register0)
          ++ (declares 20 0 (RETRY 30) ∷ [])
          -- view 1 from boxes 2, 3, 4 and 6: RETRY 30 in three tables is the agreement count
          ++ told 24 (2 ∷ 3 ∷ 4 ∷ 6 ∷ []) (change_view 1)
          ++ (merges 1 (31 ∷ 32 ∷ 33 ∷ 34 ∷ []) ∷ []);
    }

-- ---- 7. OK is declared, and then the transaction is aborted

unfoldable pub aborted_after_ok : History
aborted_after_ok =
    record {
      n = 5;
      events =
          told 0 (0 ∷ 1 ∷ 2 ∷ 3 ∷ []) (propose_prepare 10 writes_register0)
          ++ (declares 10 0 OK ∷ [])
          -- three boxes, which are f+1, accept the abort and finish it
          ++ told 4 (0 ∷ 1 ∷ 2 ∷ []) (propose_outcome 10 abort writes_register0)
          ++ told 7 (0 ∷ 1 ∷ 2 ∷ []) (finalise_outcome 10 0 abort)
          -- view 1 from boxes 2, 3 and 4
          ++ told 10 (2 ∷ 3 ∷ 4 ∷ []) (change_view 1)
          ++ (merges 1 (15 ∷ 16 ∷ 17 ∷ []) ∷ []);
    }

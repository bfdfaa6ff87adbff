-- The bent histories, computed: what was declared and what the merges hold, that Survival fails, and that nothing else was bent.
use mathlib.Core.Path.{◌≡◌, refl}
use mathlib.Core.Bool.{Bool, true, not}
use mathlib.Core.List.Memᴰ
use mathlib.Core.List.{[], ◌∷◌}
use mathlib.Core.Option.{some}
use native.Mathlib.Omega.{arith}
use lib.Dec.{ltb}
use borrow.Author.Tests.{ltb-true}
use Rattle.rules.specs.Tests.{both, any}
use Rattle.rules.specs.Tables.{Result.OK, Result.ABORT, Result.ABSTAIN, Prepare.no_prepare, Prepare.tentative, Prepare.final, Verdict.commit, Verdict.abort, Outcome.no_outcome, Outcome.noted, Outcome.done, Table, valley}
use Rattle.rules.specs.Messages.{Message.propose_outcome, Message.start_view, held, prepare_of}
use Rattle.rules.specs.Circumstances.{keeps_room}
use Rattle.rules.specs.Answers.{proposal_check}
use Rattle.rules.specs.Check.{check}
use Rattle.rules.specs.Inner.Clashes.{clash}
use Rattle.rules.specs.Merge.{merge}
use Rattle.rules.proofs.Logic.{impossible, both_left, both_right}
use Rattle.rules.proofs.Lists.{places, any_some}
use Rattle.history.specs.Survival.{Declared, Merged, Group, fresh_group, WasSent, WasDeclared, OneBody, OnFastOrConfirmed, CommitAfterOK, NeverBoth, OutcomeByRule, BeforeOutcome, QuorumOf, Accepted, Lawful}
use Rattle.history_cases.specs.Histories.{row, image, held_in, held_in_merges}
use Rattle.history_cases.specs.Bent.{writer, reader, Bent, until, since, at_end, LawfulBut, Breaks, two_bodies_sent, two_results, commit_to_old_view, both_outcomes, two_acceptances, finished_in_old_view, bent_check, abort_frees, after_abort_frees, bent_merge, both_ok, agreed_unchecked, gathered, emptied}
use Rattle.history_cases.proofs.SameTables.{same_prepare, prepare_same}
use Rattle.history_cases.proofs.RuleTests.{one_body_lem, commit_after_ok_lem, never_both_lem, before_outcome_lem, on_fast_or_confirmed_lem, one_table_lem, accepted_it, on_acceptances_lem, lawful_is, passes, passes_is}
use Rattle.history_cases.proofs.Computing.{computing}

-- a merge of a later view does not hold a declared result
turned : Merged → Declared → Bool
turned m d = both (ltb d.view m.view) (not (same_prepare (prepare_of (held m.table.rows d.stamp)) (final d.result)))

some_turned : Group → Bool
some_turned G = any (λ m. any (turned m) G.declared) G.merged

turned_breaks : (G : Group) → some_turned G ≡ true → Breaks G
unfolding turned some_turned
turned_breaks G h survival =
    let (m, i, e) = any_some _ G.merged h in
    let (d, j, k) = any_some (turned m) G.declared e in
    let later = ltb-true d.view m.view (both_left _ _ k) in
    impossible (both_right (ltb d.view m.view) _ k) (prepare_same _ _ (survival.declared m d.stamp d.view d.result i j later))

-- the commits of stamps 20 and 10 were proposed, and they clash
clash_breaks : (G : Group) → WasSent G (propose_outcome 20 commit reader) → WasSent G (propose_outcome 10 commit writer) → Breaks G
clash_breaks G read written survival = survival.no_clash 20 10 reader writer read written _ _ (Memᴰ.head refl) (Memᴰ.head refl) refl (omega arith) (omega arith)

lawful_but : (h : Bent) {others : Type 0} → passes valley (fresh_group h.n) h.before ≡ true → passes valley (since h) h.rest ≡ true → others → LawfulBut h others
lawful_but h before rest others = (passes_is valley (fresh_group h.n) h.before before, others, passes_is valley (since h) h.rest rest)

-- ---- rule 1 bent

-- box 2 has accepted both commits
pub two_bodies_sent_lem :
    ((at_end two_bodies_sent).declared ≡ record { stamp = 20; view = 0; result = OK } ∷ record { stamp = 10; view = 0; result = OK } ∷ [])
    × (((at_end two_bodies_sent).table 2).rows ≡ row 10 writer (tentative OK) (noted commit) ∷ row 20 reader no_prepare (noted commit) ∷ [])
unfolding computing
two_bodies_sent_lem = (refl, refl)

pub two_bodies_sent_break : Breaks (at_end two_bodies_sent)
unfolding computing
two_bodies_sent_break = clash_breaks (at_end two_bodies_sent) (2, search places depth 30) (2, search places depth 30)

-- the commit keeps rule 5
pub two_bodies_sent_lawful_but : LawfulBut two_bodies_sent (OutcomeByRule (until two_bodies_sent) 2 20 commit)
unfolding computing
two_bodies_sent_lawful_but = lawful_but two_bodies_sent refl refl (commit_after_ok_lem (until two_bodies_sent) 2 20 commit refl, never_both_lem (until two_bodies_sent) 20 commit refl)

-- ---- rule 2 bent

pub two_results_lem : ((at_end two_results).declared ≡ record { stamp = 20; view = 0; result = OK } ∷ []) × (held_in_merges (at_end two_results) 20 ≡ (1, final ABSTAIN, no_outcome) ∷ [])
unfolding computing
two_results_lem = (refl, refl)

pub two_results_break : Breaks (at_end two_results)
unfolding computing turned some_turned
two_results_break = turned_breaks (at_end two_results) refl

-- the declaration keeps rules 4 and 7
pub two_results_lawful_but : LawfulBut two_results (OnFastOrConfirmed (until two_results) 20 0 OK × BeforeOutcome (until two_results) 20)
unfolding computing
two_results_lawful_but = lawful_but two_results refl refl (on_fast_or_confirmed_lem (until two_results) 20 0 OK refl, before_outcome_lem (until two_results) 20 refl)

-- ---- rule 5 bent

-- of two merges for view 1 the late one holds another result
pub commit_to_old_view_lem : ((at_end commit_to_old_view).declared ≡ record { stamp = 20; view = 0; result = OK } ∷ record { stamp = 10; view = 1; result = OK } ∷ []) × (held_in_merges (at_end commit_to_old_view) 20 ≡ (1, final OK, no_outcome) ∷ (1, final ABORT, no_outcome) ∷ [])
unfolding computing
commit_to_old_view_lem = (refl, refl)

pub commit_to_old_view_breaks : Breaks (at_end commit_to_old_view)
unfolding computing turned some_turned
commit_to_old_view_breaks = turned_breaks (at_end commit_to_old_view) refl

-- the commit keeps rule 1, has no abort beside it, and comes after OK was declared
pub commit_to_old_view_lawful_but : LawfulBut commit_to_old_view (OneBody (until commit_to_old_view) 10 writer × NeverBoth (until commit_to_old_view) 10 commit × WasDeclared (until commit_to_old_view) 10 1 OK)
unfolding computing
commit_to_old_view_lawful_but = lawful_but commit_to_old_view refl refl (one_body_lem (until commit_to_old_view) 10 writer refl, never_both_lem (until commit_to_old_view) 10 commit refl, search places)

-- ---- rule 5 bent in its last words

-- box 0 has accepted the commit of stamp 10, which clashes with nothing there, and box 2 that of stamp 20
pub both_outcomes_lem :
    ((at_end both_outcomes).declared ≡ record { stamp = 20; view = 0; result = OK } ∷ record { stamp = 10; view = 0; result = OK } ∷ [])
    × (((at_end both_outcomes).table 0).rows ≡ row 10 writer (final OK) (noted commit) ∷ row 20 reader (tentative OK) (done abort) ∷ [])
    × (((at_end both_outcomes).table 2).rows ≡ row 20 reader (tentative OK) (noted commit) ∷ [])
unfolding computing
both_outcomes_lem = (refl, refl, refl)

pub both_outcomes_break : Breaks (at_end both_outcomes)
unfolding computing
both_outcomes_break = clash_breaks (at_end both_outcomes) (2, search places depth 30) (0, search places depth 30)

-- the commit keeps rule 1, comes after OK was declared, and goes to a box that has answered in that view
pub both_outcomes_lawful_but : LawfulBut both_outcomes (OneBody (until both_outcomes) 20 reader × CommitAfterOK (until both_outcomes) 2 20 commit)
unfolding computing
both_outcomes_lawful_but = lawful_but both_outcomes refl refl (one_body_lem (until both_outcomes) 20 reader refl, commit_after_ok_lem (until both_outcomes) 2 20 commit refl)

-- ---- rule 6 bent

pub two_acceptances_lem : ((at_end two_acceptances).declared ≡ record { stamp = 20; view = 0; result = OK } ∷ []) × (held_in_merges (at_end two_acceptances) 20 ≡ (1, final ABSTAIN, no_outcome) ∷ [])
unfolding computing
two_acceptances_lem = (refl, refl)

pub two_acceptances_break : Breaks (at_end two_acceptances)
unfolding computing turned some_turned
two_acceptances_break = turned_breaks (at_end two_acceptances) refl

-- message 4 is held to rule 6 alone; two boxes did accept the abort
pub two_acceptances_lawful_but : LawfulBut two_acceptances (Accepted (until two_acceptances) 20 0 abort 0 × Accepted (until two_acceptances) 20 0 abort 1)
unfolding computing
two_acceptances_lawful_but = lawful_but two_acceptances refl refl (accepted_it (until two_acceptances) 20 0 abort 0 refl, accepted_it (until two_acceptances) 20 0 abort 1 refl)

-- ---- rule 6 bent in its view

-- the declaration came after the merge
pub finished_in_old_view_lem : ((at_end finished_in_old_view).declared ≡ record { stamp = 10; view = 0; result = OK } ∷ []) × (held_in_merges (at_end finished_in_old_view) 10 ≡ (1, final ABSTAIN, no_outcome) ∷ [])
unfolding computing
finished_in_old_view_lem = (refl, refl)

pub finished_in_old_view_breaks : Breaks (at_end finished_in_old_view)
unfolding computing turned some_turned
finished_in_old_view_breaks = turned_breaks (at_end finished_in_old_view) refl

-- f+1 boxes did accept the abort, in view 1
pub finished_in_old_view_lawful_but : LawfulBut finished_in_old_view (QuorumOf (until finished_in_old_view) (Accepted (until finished_in_old_view) 20 1 abort))
unfolding computing
finished_in_old_view_lawful_but = lawful_but finished_in_old_view refl refl (on_acceptances_lem (until finished_in_old_view) 20 1 abort refl)

-- ---- the check bent

-- what a box that has noted the abort of stamp 20 answers for stamp 10
pub noted_abort : (bent_check (row 20 reader (tentative OK) (noted abort) ∷ []) 10 writer ≡ OK) × (proposal_check (row 20 reader (tentative OK) (noted abort) ∷ []) 10 writer ≡ ABSTAIN)
unfolding computing
noted_abort = (refl, refl)

pub abort_frees_lem : (after_abort_frees.declared ≡ record { stamp = 20; view = 0; result = OK } ∷ []) × (held_in_merges after_abort_frees 20 ≡ (1, final ABSTAIN, no_outcome) ∷ [])
unfolding computing
abort_frees_lem = (refl, refl)

pub abort_frees_breaks : Breaks after_abort_frees
unfolding computing turned some_turned
abort_frees_breaks = turned_breaks after_abort_frees refl

pub abort_frees_lawful : Lawful valley keeps_room bent_check (fresh_group 5) abort_frees
unfolding computing
abort_frees_lawful = lawful_is valley keeps_room bent_check (fresh_group 5) abort_frees refl

-- ---- the merge bent

-- the same tables merged by the rules and by the bent definition
pub merged_both_ways :
    (held_in gathered 10 ≡ (0, no_prepare, no_outcome) ∷ (1, no_prepare, no_outcome) ∷ (2, final OK, no_outcome) ∷ [])
    × (held_in gathered 20 ≡ (0, tentative OK, no_outcome) ∷ (1, tentative OK, no_outcome) ∷ (2, no_prepare, no_outcome) ∷ [])
    × (merge valley check 1 gathered ≡ some (image 5 1 (row 10 writer (final OK) no_outcome ∷ row 20 reader (final ABSTAIN) no_outcome ∷ [])))
    × (bent_merge 1 gathered ≡ both_ok)
    × (clash 20 reader 10 writer ≡ true)
unfolding computing
merged_both_ways = (refl, refl, refl, refl, refl)

pub agreed_unchecked_lem : (at_end agreed_unchecked).declared ≡ record { stamp = 20; view = 1; result = OK } ∷ record { stamp = 10; view = 1; result = OK } ∷ []
unfolding computing
agreed_unchecked_lem = refl

-- both were committed
pub agreed_unchecked_breaks : Breaks (at_end agreed_unchecked)
unfolding computing
agreed_unchecked_breaks = clash_breaks (at_end agreed_unchecked) (0, search places depth 30) (0, search places depth 30)

-- one table is sent for view 1
pub agreed_unchecked_lawful_but : LawfulBut agreed_unchecked ((I : Table) → WasSent (since agreed_unchecked) (start_view 1 I) → I ≡ both_ok)
unfolding computing
agreed_unchecked_lawful_but = lawful_but agreed_unchecked refl refl (one_table_lem (since agreed_unchecked) 1 both_ok refl)

-- ---- a merge that is empty

-- what was declared is not in it
pub empty_merge_breaks : Breaks emptied
unfolding computing turned some_turned
empty_merge_breaks = turned_breaks emptied refl

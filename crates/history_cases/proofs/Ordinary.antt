-- The ordinary histories, computed: each keeps every rule, so the theorem speaks of it, and what was declared and accepted in it; then what was refused, and what its merges hold of each stamp.
use mathlib.Core.Path.{◌≡◌, refl}
use mathlib.Core.Bool.{Bool, true}
use mathlib.Core.List.Memᴰ
use mathlib.Core.List.{List, [], ◌∷◌, map}
use Prim.Native.Nat.{ℕ, ◌<◌}
use native.Mathlib.Omega.{arith}
use lib.Dec.{eqb}
use Rattle.rules.specs.Tests.{every, those}
use Rattle.rules.specs.Groups.{is_group}
use Rattle.rules.specs.Stamps.{Access}
use Rattle.rules.specs.Tables.{Result.OK, Result.ABORT, Result.ABSTAIN, Result.RETRY, Prepare.no_prepare, Prepare.tentative, Prepare.final, Verdict, Verdict.commit, Verdict.abort, Outcome.no_outcome, Outcome.noted, Outcome.done, valley}
use Rattle.rules.specs.Messages.{Message.propose_outcome}
use Rattle.rules.specs.Circumstances.{keeps_room}
use Rattle.rules.specs.Inner.Clashes.{clash}
use Rattle.rules.proofs.Lists.{◌∈◌, places, every_one}
use Rattle.history.specs.Survival.{Declared, Group, fresh_group, WasSent, QuorumOf, Accepted, Survival}
use Rattle.history_cases.specs.Today.{Lawful}
use Rattle.history.proofs.Survival.{survival}
use Rattle.history_cases.specs.Histories.{History, ending, refusals, tables_at, held_in, held_in_merges}
use Rattle.history_cases.specs.Ordinary.{written, read_it, written_then_read, finalised_in_next_view, client_dies, skipped_and_late, in_the_older, in_the_newer, competing_views, retry_kept, aborted_after_ok}
use Rattle.history_cases.proofs.RuleTests.{on_acceptances, on_acceptances_lem, passes, passes_is}
use Rattle.history_cases.proofs.Computing.{computing}

-- an outcome of a stamp that boxes may have accepted in a view
pub record AcceptedOutcome : Type 0 where
  pub stamp : ℕ
  pub view : ℕ
  pub outcome : Verdict

-- it keeps every rule, and what was promised of such a history holds; these results were declared in it, and f+1 boxes have accepted each of these outcomes in its view
pub record Ordinary (h : History) (declared : List Declared) (accepted : List AcceptedOutcome) : Type 0 where
  pub keeps_rules : Lawful valley (fresh_group h.n) h.events
  pub survives : Survival (ending h)
  pub was_declared : (ending h).declared ≡ declared
  pub by_quorum : (a : AcceptedOutcome) → a ∈ accepted → QuorumOf (ending h) (Accepted (ending h) a.stamp a.view a.outcome)

abbrev accepted_by_quorum : Group → AcceptedOutcome → Bool
accepted_by_quorum G a = on_acceptances G a.stamp a.view a.outcome

ordinary : (h : History) (declared : List Declared) (accepted : List AcceptedOutcome) → is_group h.n ≡ true → passes valley (fresh_group h.n) h.events ≡ true → (ending h).declared ≡ declared → every (accepted_by_quorum (ending h)) accepted ≡ true → Ordinary h declared accepted
ordinary h declared accepted group passed same all =
    let law = passes_is valley (fresh_group h.n) h.events passed in
    record {
      keeps_rules = law;
      survives = survival h.n group valley keeps_room h.events law;
      was_declared = same;
      by_quorum = λ a i. on_acceptances_lem (ending h) a.stamp a.view a.outcome (every_one (accepted_by_quorum (ending h)) accepted all a i);
    }

-- ---- 1. what one transaction wrote, the next one reads, and both are committed

pub written_then_read_lem : Ordinary written_then_read (record { stamp = 10; view = 0; result = OK } ∷ record { stamp = 20; view = 0; result = OK } ∷ []) (record { stamp = 10; view = 0; outcome = commit } ∷ record { stamp = 20; view = 0; outcome = commit } ∷ [])
unfolding computing
written_then_read_lem = ordinary written_then_read _ _ refl refl refl refl

-- box 0 answered message 7 with version 10 and its value
pub read_before : map {B = ℕ × ℕ} (λ a. (a.reply.stamp, a.reply.value)) (those (λ a. eqb a.reply.kind 7) (ending written_then_read).answers) ≡ (10, 7) ∷ []
unfolding computing
read_before = refl

pub written_then_read_merged :
    (held_in_merges (ending written_then_read) 10 ≡ (1, final OK, done commit) ∷ [])
    × (held_in_merges (ending written_then_read) 20 ≡ (1, final OK, done commit) ∷ [])
unfolding computing
written_then_read_merged = (refl, refl)

-- the clause on clashes is about these two: both commits were sent, and the one reads the register that the other writes
pub both_committed :
    WasSent (ending written_then_read) (propose_outcome 20 commit read_it)
    × WasSent (ending written_then_read) (propose_outcome 10 commit written)
    × ((read : Access) × (write : Access) × (read ∈ read_it.reads) × (write ∈ written.writes) × (read.register ≡ write.register) × (read.number ≡ 10))
unfolding computing
both_committed = ((0, search places depth 30), (0, search places depth 30), (_, _, Memᴰ.head refl, Memᴰ.head refl, refl, refl))

-- and it says that stamp 10 does not lie above the version that was read, which is stamp 10 itself
pub no_write_between : (read write : Access) → read ∈ read_it.reads → write ∈ written.writes → read.register ≡ write.register → read.number < 10 → ⊥
no_write_between read write i j same below =
    let (sent20, sent10, more) = both_committed in
    written_then_read_lem.survives.no_clash 20 10 read_it written sent20 sent10 read write i j same below (omega arith)

-- ---- 2. a slow answer that too few confirm is asked for again in the next view, and a late box is told

pub finalised_in_next_view_lem : Ordinary finalised_in_next_view (record { stamp = 10; view = 1; result = OK } ∷ []) (record { stamp = 10; view = 1; outcome = commit } ∷ [])
unfolding computing
finalised_in_next_view_lem = ordinary finalised_in_next_view _ _ refl refl refl refl

-- in view 1 the boxes gathered hold one tentative OK of it, and the late box holds all in the end
pub late_box_told :
    (held_in (tables_at (ending finalised_in_next_view) (6 ∷ 7 ∷ [])) 10 ≡ (1, tentative OK, no_outcome) ∷ (2, no_prepare, no_outcome) ∷ [])
    × (held_in ((ending finalised_in_next_view).table 0 ∷ []) 10 ≡ (0, final OK, done commit) ∷ [])
unfolding computing
late_box_told = (refl, refl)

-- the merge for view 1 was made before it was declared and accepted
pub finalised_in_next_view_merged : held_in_merges (ending finalised_in_next_view) 10 ≡ (1, final OK, no_outcome) ∷ (2, final OK, done commit) ∷ []
unfolding computing
finalised_in_next_view_merged = refl

-- ---- 3. a client dies when one box has its message 1, and what clashes with it is committed

pub client_dies_lem : Ordinary client_dies (record { stamp = 10; view = 0; result = OK } ∷ []) (record { stamp = 10; view = 0; outcome = commit } ∷ [])
unfolding computing
client_dies_lem = ordinary client_dies _ _ refl refl refl refl

-- what the two boxes gathered hold
pub client_dies_gathered :
    (held_in (tables_at (ending client_dies) (13 ∷ 14 ∷ [])) 10 ≡ (0, tentative ABSTAIN, no_outcome) ∷ (1, final OK, done commit) ∷ [])
    × (held_in (tables_at (ending client_dies) (13 ∷ 14 ∷ [])) 20 ≡ (0, tentative OK, no_outcome) ∷ (1, no_prepare, no_outcome) ∷ [])
unfolding computing
client_dies_gathered = (refl, refl)

-- in the merge the orphan is ABORT, with no outcome
pub client_dies_merged :
    (held_in_merges (ending client_dies) 10 ≡ (1, final OK, done commit) ∷ [])
    × (held_in_merges (ending client_dies) 20 ≡ (1, final ABORT, no_outcome) ∷ [])
unfolding computing
client_dies_merged = (refl, refl)

-- ---- 4. views are skipped, and messages come late and twice

pub skipped_and_late_lem : Ordinary skipped_and_late (record { stamp = 10; view = 0; result = OK } ∷ []) (record { stamp = 10; view = 0; outcome = commit } ∷ [])
unfolding computing
skipped_and_late_lem = ordinary skipped_and_late _ _ refl refl refl refl

-- box 0 refuses the repeated message 6 as of an old view, and box 3 the late message 2 as of another view; nothing else is refused
pub skipped_and_late_refused : refusals (ending skipped_and_late) ≡ (0, 6, 10) ∷ (3, 2, 9) ∷ []
unfolding computing
skipped_and_late_refused = refl

-- box 0 had noted the commit when message 2, which was sent before, arrived there: it became final all the same
pub taken_after_the_commit : held_in (tables_at (ending skipped_and_late) (9 ∷ 12 ∷ [])) 10 ≡ (0, tentative OK, noted commit) ∷ (0, final OK, noted commit) ∷ []
unfolding computing
taken_after_the_commit = refl

-- gathered for view 5, boxes 0 and 3 have started view 3, which they never promised; box 2 promised it, and has not
pub skipped_and_late_gathered : map (λ T. T.view) (tables_at (ending skipped_and_late) (21 ∷ 22 ∷ 23 ∷ [])) ≡ 3 ∷ 0 ∷ 3 ∷ []
unfolding computing
skipped_and_late_gathered = refl

pub skipped_and_late_merged : held_in_merges (ending skipped_and_late) 10 ≡ (3, final OK, done commit) ∷ (5, final OK, done commit) ∷ []
unfolding computing
skipped_and_late_merged = refl

-- ---- 5. two view changes compete

pub competing_views_lem : Ordinary competing_views (record { stamp = 10; view = 0; result = OK } ∷ record { stamp = 30; view = 2; result = OK } ∷ []) (record { stamp = 30; view = 2; outcome = commit } ∷ [])
unfolding computing
competing_views_lem = ordinary competing_views _ _ refl refl refl refl

-- box 1 has promised view 2, and refuses to start view 1
pub competing_views_refused : refusals (ending competing_views) ≡ (1, 6, 10) ∷ []
unfolding computing
competing_views_refused = refl

-- gathered for view 3, box 0 has started the older view and box 1 the newer
pub competing_views_gathered : map (λ T. T.view) (tables_at (ending competing_views) (21 ∷ 22 ∷ [])) ≡ 1 ∷ 2 ∷ []
unfolding computing
competing_views_gathered = refl

-- stamp 20, which clashes with stamp 30, is OK in the merge for view 1 alone
pub competing_views_merged :
    (held_in_merges (ending competing_views) 10 ≡ (1, final OK, no_outcome) ∷ (2, final OK, no_outcome) ∷ (3, final OK, no_outcome) ∷ [])
    × (held_in_merges (ending competing_views) 20 ≡ (1, final OK, no_outcome) ∷ (2, no_prepare, no_outcome) ∷ (3, no_prepare, no_outcome) ∷ [])
    × (held_in_merges (ending competing_views) 30 ≡ (1, no_prepare, no_outcome) ∷ (2, no_prepare, no_outcome) ∷ (3, final OK, done commit) ∷ [])
    × (clash 30 in_the_newer 20 in_the_older ≡ true)
unfolding computing
competing_views_merged = (refl, refl, refl, refl)

-- ---- 6. RETRY is declared, and kept with its stamp

pub retry_kept_lem : Ordinary retry_kept (record { stamp = 30; view = 0; result = OK } ∷ record { stamp = 20; view = 0; result = RETRY 30 } ∷ []) (record { stamp = 30; view = 0; outcome = commit } ∷ [])
unfolding computing
retry_kept_lem = ordinary retry_kept _ _ refl refl refl refl

-- what the four boxes gathered hold of it
pub retry_kept_gathered :
    held_in (tables_at (ending retry_kept) (31 ∷ 32 ∷ 33 ∷ 34 ∷ [])) 20
    ≡ (2, tentative (RETRY 30), no_outcome) ∷ (3, tentative (RETRY 30), no_outcome) ∷ (4, tentative (RETRY 30), no_outcome) ∷ (6, no_prepare, no_outcome) ∷ []
unfolding computing
retry_kept_gathered = refl

pub retry_kept_merged :
    (held_in_merges (ending retry_kept) 30 ≡ (1, final OK, done commit) ∷ [])
    × (held_in_merges (ending retry_kept) 20 ≡ (1, final (RETRY 30), no_outcome) ∷ [])
unfolding computing
retry_kept_merged = (refl, refl)

-- ---- 7. OK is declared, and then the transaction is aborted

pub aborted_after_ok_lem : Ordinary aborted_after_ok (record { stamp = 10; view = 0; result = OK } ∷ []) (record { stamp = 10; view = 0; outcome = abort } ∷ [])
unfolding computing
aborted_after_ok_lem = ordinary aborted_after_ok _ _ refl refl refl refl

-- both stand: the result that was declared, and the outcome that was accepted
pub aborted_after_ok_merged : held_in_merges (ending aborted_after_ok) 10 ≡ (1, final OK, done abort) ∷ []
unfolding computing
aborted_after_ok_merged = refl

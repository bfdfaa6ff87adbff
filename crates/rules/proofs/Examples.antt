-- Computed on the definitions: where each inequality of the checks turns, the order of the numbers, one merge and the count case by case.
use mathlib.Core.Path.{◌≡◌, refl}
use mathlib.Core.Bool.{true, false}
use mathlib.Core.List.{List, [], ◌∷◌, map}
use mathlib.Core.Option.{some}
use Prim.Native.Nat.{ℕ}
use Rattle.rules.specs.Tests.{both, either, any, count, those, greatest, some_pair, twice, first_of, all_of}
use Rattle.rules.specs.Groups.{is_group}
use Rattle.rules.specs.Stamps.{Access, Body, is_stamp, same_accesses, same_body}
use Rattle.rules.specs.Tables.{Result, Result.OK, Result.ABORT, Result.ABSTAIN, Result.RETRY, Prepare, Prepare.no_prepare, Prepare.tentative, Prepare.final, Verdict.commit, Verdict.abort, Outcome, Outcome.no_outcome, Outcome.noted, Outcome.done, same_result, result_by_rule, something_held, Row, Table, normal_mode, changing_mode, valley}
use Rattle.rules.specs.Numbers.{Number.bad_message, Number.full, Number.unknown, Number.old_view, number_code, order, applies, first, number}
use Rattle.rules.specs.Messages.{held, changed}
use Rattle.rules.specs.Check.{committed, prepared, accepted, overwrites, rule_a, rule_b, retry_stamp, check_by, check}
use Rattle.rules.specs.DayOrder.{stale, day_a, common, day_b, day_check}
use Rattle.rules.specs.Answers.{proposal_check}
use Rattle.rules.specs.Merge.{used, with_stamp, with_stamps, stamps, rows_of, merged_outcome, final_of, is_agreed, agreed_of, standing, unchecked_row, unchecked_rows, to_check, is_settled, checked_at, checked_in_turn, merged_rows, merged_table, are_wrong, two_bodies, contradictory, merge_circumstances, merge_number, merge}
use Rattle.rules.specs.Count.{Heard, Counted.fast, Counted.slow, Counted.wait, Counted.refused, unequal_views, bad_replies, agreeing, is_fast, unequal_final_heard, fast_beside_final, count_circumstances, count_number, fast_of, final_heard, greatest_retry, slow_result, decided, counted}

-- ---- the check

abbrev one : ℕ → ℕ → List Access
one register x = record { register = register; number = x } ∷ []

-- "v < w < s": a read of register 5 at version v by s, a write of it at w
pub between : (overwrites 11 (one 5 7) 13 (one 5 10) ≡ true) × (overwrites 11 (one 5 7) 13 (one 5 11) ≡ false) × (overwrites 11 (one 5 7) 12 (one 5 10) ≡ true) × (overwrites 11 (one 5 7) 11 (one 5 10) ≡ false) × (overwrites 11 (one 4 7) 13 (one 5 10) ≡ false)
unfolding overwrites any both either
between = (refl, refl, refl, refl, refl)

abbrev reading : ℕ → ℕ → Body
reading register version = record { reads = one register version; writes = [] }

abbrev writing : ℕ → Body
writing register = record { reads = []; writes = one register 7 }

abbrev row : ℕ → Body → Prepare → Outcome → Row
row s x p o = record { stamp = s; body = x; prepare = p; outcome = o }

-- two committed readers above the write: "RETRY with the greatest such s'"
pub greatest_reader : check (row 30 (reading 5 10) (final OK) (done commit) ∷ row 40 (reading 5 10) no_prepare (done commit) ∷ []) 20 (writing 5) ≡ RETRY 40
unfolding check check_by retry_stamp rule_a rule_b committed prepared accepted overwrites any those greatest both either
greatest_reader = refl

-- a prepared reader alone has a stamp, and B does not fire on it: the converse of Check.advice_fires fails
pub advice_alone :
    let prepared-reader = row 40 (reading 5 10) (tentative OK) no_outcome in
    (retry_stamp rule_b (prepared-reader ∷ []) 20 (writing 5) ≡ 40) × (any (rule_b committed 20 (writing 5)) (prepared-reader ∷ []) ≡ false) × (check (prepared-reader ∷ []) 20 (writing 5) ≡ ABSTAIN)
unfolding check check_by retry_stamp rule_a rule_b committed prepared accepted overwrites any those greatest both either
advice_alone = (refl, refl, refl)

-- above the advice a reader of a newer version is met: Check.advice_newer says whom, and no more is true
pub advice_limit :
    let rows = row 30 (reading 5 10) (final OK) (done commit) ∷ row 50 (reading 5 35) (final OK) (done commit) ∷ [] in
    (check rows 20 (writing 5) ≡ RETRY 30) × (check rows 40 (writing 5) ≡ RETRY 50)
unfolding check check_by retry_stamp rule_a rule_b committed prepared accepted overwrites any those greatest both either
advice_limit = (refl, refl)

-- M6 and M9 of 01: an entry is slipped under a later one where a merge checks it, and not by message 1
pub slipped_under :
    let wrote = row 10 (writing 5) (final OK) (done commit) ∷ [] in
    let read = row 30 (reading 5 10) (final OK) (done commit) ∷ [] in
    (check wrote 8 (reading 5 0) ≡ OK) × (proposal_check wrote 8 (reading 5 0) ≡ ABORT) × (check read 9 (writing 5) ≡ OK) × (proposal_check read 9 (writing 5) ≡ RETRY 30)
unfolding check proposal_check day_check check_by retry_stamp rule_a rule_b day_a day_b stale common committed prepared accepted overwrites any those greatest both either
slipped_under = (refl, refl, refl, refl)

-- "also above s": A asks nothing of the stamp, so ABORT is as good at one stamp as at another. "any committed read or write of k": a register that T only reads is no k of B's
pub day_rules :
    let wrote = row 10 (writing 5) (final OK) (done commit) ∷ [] in
    let read = row 30 (reading 5 10) (final OK) (done commit) ∷ [] in
    (day_check wrote 20 (reading 5 9) ≡ ABORT) × (day_check wrote 20 (reading 5 10) ≡ OK) × (day_check wrote 9 (writing 5) ≡ RETRY 10) × (day_check wrote 11 (writing 5) ≡ OK) × (day_check wrote 9 (writing 4) ≡ OK) × (day_check read 20 (reading 5 10) ≡ OK)
unfolding day_check check_by retry_stamp day_a day_b stale common committed prepared accepted any those greatest both either
day_rules = (refl, refl, refl, refl, refl, refl)

-- ---- the numbers

-- "in this order: 1, 2, 3, 4, 9, 10, 11, 8, 5, 6, 7"
pub in_this_order : map number_code order ≡ 1 ∷ 2 ∷ 3 ∷ 4 ∷ 9 ∷ 10 ∷ 11 ∷ 8 ∷ 5 ∷ 6 ∷ 7 ∷ []
in_this_order = refl

-- "The first that applies wins", wherever it stands in the list of circumstances
pub first_wins : (number ((full, true) ∷ (unknown, true) ∷ (old_view, true) ∷ (bad_message, false) ∷ []) ≡ 10) × (number ((full, true) ∷ (unknown, true) ∷ []) ≡ 8) × (number ((full, false) ∷ []) ≡ 0)
unfolding number first applies both either
first_wins = (refl, refl, refl)

-- ---- a merge for view 7 of three tables of a group of five, the third of an older view

abbrev changing_to7 : ℕ → ℕ → List Row → Table
changing_to7 box view rows = record { box = box; n = 5; mode = changing_mode; view = view; promised = 7; start = 0; rows = rows }

-- what the first two tables hold alike: 20 and 25 clash with 10, 70 with 65, and 85 with 80
abbrev alike : List Row
alike = row 70 (reading 7 0) (tentative OK) no_outcome ∷ row 80 (writing 4) (tentative OK) no_outcome ∷ row 85 (reading 4 0) (tentative OK) no_outcome ∷ []

abbrev gathered : List Table
gathered =
    changing_to7 0 3 (row 10 (writing 5) (final OK) no_outcome
    ∷ row 20 (reading 5 0) (tentative OK) no_outcome
    ∷ row 25 (reading 5 0) (tentative OK) (noted abort)
    ∷ row 30 (writing 6) (tentative ABORT) no_outcome
    ∷ row 40 (writing 6) (tentative OK) (noted commit)
    ∷ row 65 (writing 7) (tentative OK) no_outcome
    ∷ alike)
    ∷ changing_to7 1 3 (row 20 (reading 5 0) (tentative OK) no_outcome
    ∷ row 25 (reading 5 0) (tentative OK) no_outcome
    ∷ row 30 (writing 6) (tentative ABORT) no_outcome
    ∷ row 50 (writing 8) no_prepare (noted abort)
    ∷ row 55 (writing 8) (tentative OK) (noted abort)
    ∷ row 60 (writing 9) (tentative (RETRY 80)) no_outcome
    ∷ alike)
    ∷ changing_to7 4 2 (row 60 (writing 9) (tentative (RETRY 80)) no_outcome ∷ row 90 (writing 9) (final OK) no_outcome ∷ [])
    ∷ []

-- 10 was final. 20 was agreed OK, and its check sees 10; 25 as well, but has an outcome and stays. 30 was agreed and not OK. 40 and 55 were open, with commit and with abort. 50 was never prepared. 60 and 65 were open: nothing
-- is in the way of 60; 65 is checked after 70, which was agreed. Of 80 and 85, both agreed, the lower is checked first. 90 is in the older table alone
pub one_merge : merge valley check 7 gathered ≡ some (record {
  box = 2;
  n = 5;
  mode = normal_mode;
  view = 7;
  promised = 7;
  start = 12;
  rows = row 10 (writing 5) (final OK) no_outcome
      ∷ row 20 (reading 5 0) (final ABSTAIN) no_outcome
      ∷ row 25 (reading 5 0) (final OK) (done abort)
      ∷ row 30 (writing 6) (final ABORT) no_outcome
      ∷ row 40 (writing 6) (final OK) (done commit)
      ∷ row 50 (writing 8) no_prepare (done abort)
      ∷ row 55 (writing 8) (final ABORT) (done abort)
      ∷ row 60 (writing 9) (final OK) no_outcome
      ∷ row 65 (writing 7) (final ABSTAIN) no_outcome
      ∷ row 70 (reading 7 0) (final OK) no_outcome
      ∷ row 80 (writing 4) (final OK) no_outcome
      ∷ row 85 (reading 4 0) (final ABSTAIN) no_outcome
      ∷ [];
})
unfolding both either any count those greatest some_pair twice first_of all_of same_accesses same_body same_result something_held applies first number held changed committed prepared accepted overwrites rule_a rule_b check_by retry_stamp check used with_stamp with_stamps stamps rows_of merged_outcome final_of is_agreed agreed_of standing unchecked_row unchecked_rows to_check is_settled checked_at checked_in_turn merged_rows merged_table are_wrong two_bodies contradictory merge_circumstances merge_number merge
one_merge = refl

-- ---- the count in a group of three

abbrev says : ℕ → Result → Heard
says box r = record { box = box; view = 0; result = r; is_final = false }

abbrev says_final : ℕ → Result → Heard
says_final box r = record { box = box; view = 0; result = r; is_final = true }

abbrev heard_lists : List (List Heard)
heard_lists =
    []
    ∷ (says_final 0 OK ∷ [])
    ∷ (says 0 OK ∷ says 1 OK ∷ says 2 OK ∷ [])
    ∷ (says 0 OK ∷ says 1 OK ∷ [])
    ∷ (says 0 OK ∷ says 1 ABORT ∷ says 2 OK ∷ [])
    ∷ (says 0 (RETRY 30) ∷ says 1 (RETRY 40) ∷ says 2 ABSTAIN ∷ [])
    ∷ (says 0 OK ∷ says 1 ABSTAIN ∷ [])
    ∷ (says 0 OK ∷ says_final 1 ABSTAIN ∷ [])
    ∷ (says_final 0 OK ∷ says_final 1 ABSTAIN ∷ [])
    ∷ (says 0 OK ∷ says 0 OK ∷ [])
    ∷ (says 0 OK ∷ says 3 OK ∷ [])
    ∷ []

pub counts : map (counted 3) heard_lists ≡
    wait ∷ wait ∷ fast OK ∷ slow OK ∷ slow ABORT ∷ slow (RETRY 40) ∷ slow ABSTAIN ∷ slow ABSTAIN ∷ refused 6 ∷ refused 3 ∷ refused 3 ∷ []
unfolding both either any count greatest some_pair twice first_of is_group is_stamp same_result result_by_rule applies first number unequal_views bad_replies agreeing is_fast unequal_final_heard fast_beside_final count_circumstances count_number fast_of final_heard greatest_retry slow_result decided counted
counts = refl

-- Messages to one box, computed.
use mathlib.Core.Path.{◌≡◌, refl}
use mathlib.Core.List.{[], ◌∷◌}
use Rattle.rules.specs.Tests.{both, either, any, every, those, greatest, first_of}
use Rattle.rules.specs.Groups.{is_group}
use Rattle.rules.specs.Stamps.{is_stamp, is_register, body_by_rule, counts_by_rule, contents_by_rule, accesses_by_rule, same_accesses, same_body}
use Rattle.rules.specs.Tables.{Result.OK, Prepare.no_prepare, Prepare.final, Verdict.commit, Outcome.noted, Outcome.done, valley, same_result, result_by_rule, retry_by_rule, something_held, row_by_rule, rising, is_view, mode_by_rule, header_by_rule, table_by_rule, fresh_table}
use Rattle.rules.specs.Numbers.{applies, first, number}
use Rattle.rules.specs.Messages.{Message.propose_prepare, held, changed, added, table_after, prepare_proposed, prepare_finalised, outcome_proposed, outcome_finalised, found, later, write_of}
use Rattle.rules.specs.Circumstances.{circumstances, further_circumstances, message_by_rule, starts_view, settled, is_changing, held_with_other_body, held_unequal_final, held_opposite_outcome, new_but_full, keeps_room, prepare_not_held, outcome_not_held, for_other_view, changes_to_old_view, starts_old_view}
use Rattle.rules.specs.Answers.{answer, answer_number, taken, refused, refusal, reply_from, state_byte, reply_stamp, reply_value, proposal_check}
use Rattle.rules.specs.Check.{committed, prepared, accepted, retry_stamp, check_by}
use Rattle.rules.specs.DayOrder.{stale, day_a, common, day_b, day_check}
use Rattle.cases.specs.Marked.{writes, row}
use Rattle.cases.specs.Beside.{after_one, numbers, four_rows, messages}

-- one message after the other: each refusal in its circumstances, and a refused message leaves the next one the same table
-- and "After message 1 with stamp 65,537 and one write, register 5, value 7": one row, "prepare 1, outcome 0"
pub answered :
    (numbers four_rows (fresh_table 3 0) messages ≡ 0 ∷ 5 ∷ 3 ∷ 9 ∷ 8 ∷ 0 ∷ 6 ∷ 8 ∷ 0 ∷ 6 ∷ 0 ∷ 0 ∷ 3 ∷ 0 ∷ 7 ∷ 10 ∷ 0 ∷ 4 ∷ 10 ∷ 3 ∷ 0 ∷ 0 ∷ 0 ∷ 7 ∷ 0 ∷ [])
    × (answer valley keeps_room proposal_check (fresh_table 3 0) (propose_prepare 65537 writes) ≡ record {
      number = 0;
      table = after_one;
      reply = record { number = 0; kind = 1; box = 0; state = 1; view = 0; stamp = 65537; value = 0 };
    })
unfolding numbers messages answer answer_number circumstances further_circumstances taken refused refusal reply_from state_byte reply_stamp reply_value message_by_rule starts_view settled is_changing held_with_other_body held_unequal_final held_opposite_outcome new_but_full keeps_room prepare_not_held outcome_not_held for_other_view changes_to_old_view starts_old_view table_after prepare_proposed prepare_finalised outcome_proposed outcome_finalised held changed added found later write_of is_stamp is_register body_by_rule counts_by_rule contents_by_rule accesses_by_rule same_accesses same_body same_result result_by_rule retry_by_rule something_held row_by_rule rising is_group is_view mode_by_rule header_by_rule table_by_rule fresh_table retry_stamp committed prepared accepted number first applies both either any every those greatest first_of check_by stale day_a common day_b day_check proposal_check
answered = (refl, refl)

-- "for 7 the version found, and value its value, both 0 if none"
pub read_back : (found (row 10 writes no_prepare (done commit) ∷ row 20 writes (final OK) (noted commit) ∷ []) 30 5 ≡ record { version = 10; value = 7 }) × (found (row 10 writes no_prepare (done commit) ∷ []) 9 5 ≡ record { version = 0; value = 0 })
unfolding found later write_of committed both
read_back = (refl, refl)

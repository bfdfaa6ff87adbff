-- The definitions that a history is computed with: whoever unfolds `computing` unfolds them all.
use Rattle.rules.specs.Tests.{both, either, any, every, count, those, greatest, some_pair, twice, first_of, all_of}
use Rattle.rules.specs.Groups.{is_group}
use Rattle.rules.specs.Stamps.{is_stamp, is_register, body_by_rule, counts_by_rule, contents_by_rule, accesses_by_rule, same_accesses, same_body}
use Rattle.rules.specs.Tables.{same_result, result_by_rule, retry_by_rule, something_held, row_by_rule, rising, is_view, mode_by_rule, header_by_rule, table_by_rule, fresh_table}
use Rattle.rules.specs.Numbers.{applies, first, number}
use Rattle.rules.specs.Messages.{held, changed, added, table_after, prepare_proposed, prepare_finalised, outcome_proposed, outcome_finalised, found, later, write_of}
use Rattle.rules.specs.Circumstances.{circumstances, further_circumstances, message_by_rule, starts_view, settled, is_changing, held_with_other_body, held_unequal_final, held_opposite_outcome, new_but_full, keeps_room, prepare_not_held, outcome_not_held, for_other_view, changes_to_old_view, starts_old_view}
use Rattle.rules.specs.Answers.{answer, answer_number, taken, refused, refusal, reply_from, state_byte, reply_stamp, reply_value, proposal_check}
use Rattle.rules.specs.Check as rules
use Rattle.rules.specs.Check.{committed, prepared, overwrites, rule_a, rule_b, retry_stamp, check_by, check}
use Rattle.rules.specs.DayOrder.{stale, day_a, common, day_b, day_check}
use Rattle.rules.specs.Inner.Clashes.{clash}
use Rattle.rules.specs.Merge.{used, with_stamp, with_stamps, stamps, rows_of, merged_outcome, final_of, is_agreed, agreed_of, standing, unchecked_row, unchecked_rows, to_check, is_settled, checked_at, checked_in_turn, merged_rows, merged_table, are_wrong, two_bodies, contradictory, merge_circumstances, merge_number, merge}
use Rattle.rules.specs.Count.{unequal_views, bad_replies, agreeing, is_fast, unequal_final_heard, fast_beside_final, count_circumstances, count_number, fast_of, final_heard, greatest_retry, slow_result, decided, counted}
use Rattle.history.specs.Survival.{boxes_below, fresh_group, at}
use Rattle.history_cases.specs.Histories.{told, refusals, tables_at, held_in, held_in_merges}
use Rattle.history_cases.specs.FiveBoxes.{five_boxes}
use Rattle.history_cases.specs.Ordinary.{written_then_read, finalised_in_next_view, client_dies, skipped_and_late, competing_views, retry_kept, aborted_after_ok}
use Rattle.history_cases.specs.Bent.{prepared_unless_noted, bent_check, bent_merged_rows, bent_merge, two_bodies_sent, two_results, commit_to_old_view, both_outcomes, two_acceptances, finished_in_old_view, abort_frees, agreed_unchecked}
use Rattle.history_cases.proofs.SameTables.{same_prepare, same_row, same_rows, same_table}
use Rattle.history_cases.proofs.RuleTests.{all_sent, one_body, one_result, never_both, before_outcome, one_table, the_merged, gave, gave_in, confirmed, accepted, quorum_of, on_acceptances, commit_after_ok, replied, replies, on_an_answer, on_fast_or_confirmed, may_send, may, lawful}

unfoldable pub computing : Unit {0}
unfolding all_sent one_body one_result never_both before_outcome one_table the_merged gave gave_in confirmed accepted quorum_of on_acceptances commit_after_ok replied replies on_an_answer on_fast_or_confirmed may_send may lawful same_prepare same_row same_rows same_table unequal_views bad_replies agreeing is_fast unequal_final_heard fast_beside_final count_circumstances count_number fast_of final_heard greatest_retry slow_result decided counted boxes_below fresh_group at told refusals tables_at held_in held_in_merges five_boxes written_then_read finalised_in_next_view client_dies skipped_and_late competing_views retry_kept aborted_after_ok prepared_unless_noted bent_check bent_merged_rows bent_merge two_bodies_sent two_results commit_to_old_view both_outcomes two_acceptances finished_in_old_view abort_frees agreed_unchecked answer answer_number circumstances further_circumstances taken refused refusal reply_from state_byte reply_stamp reply_value message_by_rule starts_view settled is_changing held_with_other_body held_unequal_final held_opposite_outcome new_but_full keeps_room prepare_not_held outcome_not_held for_other_view changes_to_old_view starts_old_view table_after prepare_proposed prepare_finalised outcome_proposed outcome_finalised held changed added found later write_of is_stamp is_register body_by_rule counts_by_rule contents_by_rule accesses_by_rule same_accesses same_body same_result result_by_rule retry_by_rule something_held row_by_rule rising is_group is_view mode_by_rule header_by_rule table_by_rule fresh_table proposal_check day_check day_a day_b stale common check check_by clash retry_stamp rule_a rule_b committed prepared rules.accepted overwrites number first applies both either any every count those greatest some_pair twice first_of all_of used with_stamp with_stamps stamps rows_of merged_outcome final_of is_agreed agreed_of standing unchecked_row unchecked_rows to_check is_settled checked_at checked_in_turn merged_rows merged_table are_wrong two_bodies contradictory merge_circumstances merge_number merge
computing = tt

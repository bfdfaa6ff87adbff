-- The cases, computed.
use mathlib.Core.Path.{◌≡◌, refl}
use mathlib.Core.Bool.{true}
use mathlib.Core.List.{[], ◌∷◌}
use Rattle.rules.specs.Tests.{both, either, any, every, count, those, greatest, some_pair, twice, first_of, all_of}
use Rattle.rules.specs.Stamps.{is_stamp, is_register, body_by_rule, counts_by_rule, contents_by_rule, accesses_by_rule, same_accesses, same_body}
use Rattle.rules.specs.Circumstances.{circumstances, further_circumstances, message_by_rule, is_changing, held_with_other_body, new_but_full, keeps_room}
use Rattle.rules.specs.Answers.{answer, answer_number, taken, reply_from, state_byte, reply_stamp, reply_value, proposal_check}
use Rattle.rules.specs.Tables.{same_result, something_held, fresh_table}
use Rattle.rules.specs.Numbers.{applies, first, number}
use Rattle.rules.specs.Messages.{held, changed, added, prepare_proposed, table_after}
use Rattle.rules.specs.Check.{committed, prepared, accepted, overwrites, rule_a, rule_b, retry_stamp, check_by, check}
use Rattle.rules.specs.DayOrder.{stale, day_a, common, day_b, day_check}
use Rattle.rules.specs.Merge.{used, with_stamp, with_stamps, stamps, rows_of, merged_outcome, final_of, is_agreed, agreed_of, standing, unchecked_row, unchecked_rows, to_check, is_settled, checked_at, checked_in_turn, merged_rows, merged_table, are_wrong, two_bodies, contradictory, merge_circumstances, merge_number, merge}
use Rattle.wire.specs.Numbers as read
use Rattle.wire.specs.Numbers.{bytes, number_at}
use Rattle.table.specs.Headers.{single_bytes, four_byte_fields, header_bytes}
use Rattle.rows.specs.Fields.{fields_of, fields_bytes}
use Rattle.rows.specs.Bytes.{accesses_bytes, body_bytes, bodies_bytes, bodies_length, row_bytes, rows_bytes}
use Rattle.table.specs.Images.{image}
use Rattle.rows.specs.Read.{begins, access_at, accesses_at, body_at}
use Rattle.message.specs.Messages.{message_at, message_of_kind, prepare_proposal, ends_with_body}
use Rattle.transact.specs.Replies.{reply_bytes}
use Rattle.cases.specs.Kinds.{holds}
use Rattle.cases.specs.Marked.{marked}
use Rattle.cases.specs.Beside.{Counts.c, Counts.p, Counts.n, counts_as, all, beside}

computed : (every holds marked ≡ true) × (every holds beside ≡ true)
unfolding marked beside holds both either any every count those greatest some_pair twice first_of all_of same_accesses same_body same_result something_held applies first number held changed committed prepared accepted overwrites rule_a rule_b retry_stamp check_by check stale day_a common day_b day_check proposal_check used with_stamp with_stamps stamps rows_of merged_outcome final_of is_agreed agreed_of standing unchecked_row unchecked_rows to_check is_settled checked_at checked_in_turn merged_rows merged_table are_wrong two_bodies contradictory merge_circumstances merge_number merge fresh_table image header_bytes single_bytes four_byte_fields rows_bytes row_bytes fields_of fields_bytes bodies_bytes bodies_length body_bytes accesses_bytes bytes begins answer answer_number circumstances further_circumstances message_by_rule is_changing held_with_other_body new_but_full keeps_room is_stamp body_by_rule counts_by_rule contents_by_rule accesses_by_rule is_register taken reply_from state_byte reply_stamp reply_value table_after prepare_proposed added message_at message_of_kind prepare_proposal ends_with_body reply_bytes number_at read.number body_at accesses_at access_at
computed = (refl, refl)

-- the single statement: every marked case holds
pub marked_cases : every holds marked ≡ true
marked_cases = computed.0

-- what a RETRY advises; message 1 heard, answered and stored, to the byte; an older view's table does not count; a RETRY whose stamps differ is not agreed
pub beside_cases : every holds beside ≡ true
beside_cases = computed.1

-- all 9 by 5 codes: prepare bytes 0 to 8 down, outcome bytes 0 to 4 across
pub codes : all ≡
    (n ∷ n ∷ n ∷ c ∷ n ∷ [])
    ∷ (p ∷ p ∷ p ∷ c ∷ n ∷ [])
    ∷ (n ∷ n ∷ n ∷ c ∷ n ∷ [])
    ∷ (n ∷ n ∷ n ∷ c ∷ n ∷ [])
    ∷ (n ∷ n ∷ n ∷ c ∷ n ∷ [])
    ∷ (p ∷ p ∷ p ∷ c ∷ n ∷ [])
    ∷ (n ∷ n ∷ n ∷ c ∷ n ∷ [])
    ∷ (n ∷ n ∷ n ∷ c ∷ n ∷ [])
    ∷ (n ∷ n ∷ n ∷ c ∷ n ∷ [])
    ∷ []
unfolding all counts_as committed prepared both either
codes = refl

-- How answers cross the C boundary, where they are more than 01's number.
use Rattle.std.specs.Prelude.{Option, Some, None, Ok, Err, ℕ, ◌+◌, ◌*◌}
use Rattle.rules.specs.Numbers.{Number.bad_table, number_code}
use Rattle.count.specs.Answers.{Answer, answer_number}
use Rattle.count.specs.declared.answer.Counted.TheVariants.{Fast, Slow, Wait}

-- the number in bits 0 to 7; for number 0 the image's length in bits 16 to 63; all other bits 0
abbrev pub valid_answer : Option ℕ → ℕ
valid_answer (Some length) = 65536 * length
valid_answer None = number_code bad_table

-- 02, P7, "beside the reply": the number in bits 0 to 7, the rows that were compared in bits 16 to 63; all other bits 0
abbrev pub compared_answer : ℕ → ℕ → ℕ
compared_answer number compared = number + 65536 * compared

-- for number 0: the kind in bits 8 to 9, the result in bits 10 to 12, and the retry stamp in bits 16 to 63
abbrev pub result_word : ℕ → ℕ → ℕ → ℕ
result_word kind result retry = 256 * kind + 1024 * result + 65536 * retry

-- the number in bits 0 to 7; for number 0 the kind (0 wait, 1 fast, 2 slow), the result (0 for wait) and its retry stamp; all other bits 0
abbrev pub count_answer : Answer → ℕ
count_answer (Ok (Fast result retry)) = answer_number (Ok (Fast result retry)) + result_word 1 result retry
count_answer (Ok (Slow result retry)) = answer_number (Ok (Slow result retry)) + result_word 2 result retry
count_answer (Ok Wait) = answer_number (Ok Wait) + result_word 0 0 0
count_answer (Err refusal) = answer_number (Err refusal)

-- 01, 'The coordinator's count': its answers as numbers. "An answer is taken apart before any field of it is used."
use Rattle.std.specs.Prelude.{cond, ℕ, eqb, Result, Ok, Err}
use Rattle.rules.specs.Tables.{result_code, result_retry}
use Rattle.rules.specs.Numbers.{Number.contradiction, number_code}
use Rattle.rules.specs.Count as rules
use Rattle.numbers.specs.declared.Refusal.{Refusal}
use Rattle.numbers.specs.declared.Refusal.TheVariants.{BadMessage, Contradiction}
use Rattle.numbers.specs.Refusals.{refusal_code}
use Rattle.count.specs.declared.answer.Counted.{Counted}
use Rattle.count.specs.declared.answer.Counted.TheVariants.{Fast, Slow, Wait}

-- what a count answers, or what it is refused for
abbrev pub Answer : Type 0
Answer = Result Counted Refusal

-- "fast with r .. wait .. slow with ..", and the two refusals
abbrev pub answer_as : rules.Counted → Answer
answer_as (rules.Counted.fast r) = Ok (Fast (result_code r) (result_retry r))
answer_as (rules.Counted.slow r) = Ok (Slow (result_code r) (result_retry r))
answer_as rules.Counted.wait = Ok Wait
answer_as (rules.Counted.refused k) = Err (cond (eqb k (number_code contradiction)) Contradiction BadMessage)

-- the number of each case
abbrev pub answer_number : Answer → ℕ
answer_number (Ok (Fast result retry)) = 0
answer_number (Ok (Slow result retry)) = 0
answer_number (Ok Wait) = 0
answer_number (Err refusal) = refusal_code refusal

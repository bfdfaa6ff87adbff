-- What the code's answers mean.
use Rattle.std.specs.Prelude.{Bool, List, ℕ, Ok, Err}
use Rattle.rules.specs.Tests.{either}
use Rattle.rules.specs.Count as rules
use Rattle.rows.specs.Fields.{result_numbered}
use Rattle.numbers.specs.Refusals.{refusal_code}
use Rattle.count.specs.Answers.{Answer}
use Rattle.count.specs.declared.answer.Counted.TheVariants.{Fast, Slow, Wait}

-- "Two unequal finals, or a fast count for a result other than a final one: 6."
abbrev pub contradicting : ℕ → List rules.Heard → Bool
contradicting n hs = either (rules.unequal_final_heard hs) (rules.fast_beside_final n hs)

-- each case by the paper's number and values: this is what it means
abbrev pub meant : Answer → rules.Counted
meant (Ok (Fast result retry)) = rules.Counted.fast (result_numbered result retry)
meant (Ok (Slow result retry)) = rules.Counted.slow (result_numbered result retry)
meant (Ok Wait) = rules.Counted.wait
meant (Err r) = rules.Counted.refused (refusal_code r)

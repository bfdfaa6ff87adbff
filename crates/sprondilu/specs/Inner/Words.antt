-- What is asked of an answer before its word is made.
use Rattle.std.specs.Prelude.{◌^◌, ◌<◌, Ok, Err}
use Rattle.count.specs.Answers.{Answer}
use Rattle.count.specs.declared.answer.Counted.TheVariants.{Fast, Slow, Wait}

-- a result fits its 3 bits and a retry stamp its 48: what is asked of an answer before its word is made
abbrev pub ResultFits : Answer → Type 0
ResultFits (Ok (Fast result retry)) = (result < 8) × (retry < 2 ^ 48)
ResultFits (Ok (Slow result retry)) = (result < 8) × (retry < 2 ^ 48)
ResultFits (Ok Wait) = Unit {0}
ResultFits (Err refusal) = Unit {0}

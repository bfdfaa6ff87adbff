-- What a call comes to, as the code has it: done, or refused by a name.
use Rattle.std.specs.Prelude.{ℕ, Result, Ok, Err}
use Rattle.numbers.specs.declared.Refusal.{Refusal}
use Rattle.numbers.specs.Refusals.{refusal_code}

module _ {A : Type 0} where
  -- 0 for what is done, or the number of the refusal
  abbrev pub ended_with : Result A Refusal → ℕ
  ended_with (Ok done) = 0
  ended_with (Err r) = refusal_code r

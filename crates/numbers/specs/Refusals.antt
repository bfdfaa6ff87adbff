-- 01, 'Numbers returned': what the code's names of refusals stand for.
use Rattle.std.specs.Prelude.{ℕ}
use Rattle.rules.specs.Numbers.{Number, Number.small_buffer, Number.bad_table, Number.bad_message, Number.changing, Number.other_body, Number.contradiction, Number.full, Number.unknown, Number.other_view, Number.old_view, Number.wrong_tables, number_code}
use Rattle.numbers.specs.declared.Refusal.{Refusal}
use Rattle.numbers.specs.declared.Refusal.TheVariants.{SmallBuffer, BadTable, BadMessage, Changing, OtherBody, Contradiction, Full, Unknown, OtherView, OldView, WrongTables}

-- each name by the list's
abbrev pub refusal_meant : Refusal → Number
refusal_meant SmallBuffer = small_buffer
refusal_meant BadTable = bad_table
refusal_meant BadMessage = bad_message
refusal_meant Changing = changing
refusal_meant OtherBody = other_body
refusal_meant Contradiction = contradiction
refusal_meant Full = full
refusal_meant Unknown = unknown
refusal_meant OtherView = other_view
refusal_meant OldView = old_view
refusal_meant WrongTables = wrong_tables

-- its number
abbrev pub refusal_code : Refusal → ℕ
refusal_code r = number_code (refusal_meant r)

-- What reading a message gives, as the code has it.
use Rattle.std.specs.Prelude.{◌≡◌, true, List, ℕ, drop}
use Rattle.std.specs.Prelude as given
use Rattle.std.proofs.Math.Option.{Option, none, some}
use Rattle.rules.specs.Messages as rules
use Rattle.rules.specs.Messages.{Message.propose_prepare, Message.finalise_prepare, Message.propose_outcome, Message.finalise_outcome, Message.change_view, Message.start_view, Message.read_register}
use Rattle.rules.specs.Tables.{result_by_rule}
use Rattle.rows.specs.Read.{body_at}
use Rattle.rows.specs.Inner.Results.{result_meant, verdict_meant}
use Rattle.table.specs.Images.{Form}
use Rattle.table.specs.Parse.{table_at}
use Rattle.message.specs.declared.kinds.Message.{Message}
use Rattle.message.specs.declared.kinds.Message.TheVariants.{ProposePrepare, FinalisePrepare, ProposeOutcome, FinaliseOutcome, ChangeView, StartView, ReadRegister}

-- where the body of message 1 lies: behind the kind, the stamp and the two counts
abbrev pub prepare_body : ℕ
prepare_body = 11

-- and that of message 3, which has the outcome besides
abbrev pub outcome_body : ℕ
outcome_body = 12

-- the message of `rules` that one of the code's stands for, with the body or the image that lies in the message's bytes
abbrev pub message_meant : Form → List ℕ → Message → rules.Message
message_meant F s (ProposePrepare stamp reads writes) = propose_prepare stamp (body_at s prepare_body reads writes)
message_meant F s (FinalisePrepare stamp view result) = finalise_prepare stamp view (result_meant result)
message_meant F s (ProposeOutcome stamp verdict reads writes) = propose_outcome stamp (verdict_meant verdict) (body_at s outcome_body reads writes)
message_meant F s (FinaliseOutcome stamp view verdict) = finalise_outcome stamp view (verdict_meant verdict)
message_meant F s (ChangeView view) = change_view view
message_meant F s (StartView view) = start_view view (table_at F (drop 5 s))
message_meant F s (ReadRegister stamp register) = read_register stamp register

-- what an answer of the reader stands for
abbrev pub meant : Form → List ℕ → given.Option Message → Option rules.Message
meant F s given.None = none
meant F s (given.Some m) = some (message_meant F s m)

-- what is handed on of a result is by the rules: "retry stamp (by the rows' rule)"
abbrev pub Coded : given.Option Message → Type 0
Coded (given.Some (FinalisePrepare stamp view result)) = result_by_rule (result_meant result) ≡ true
Coded _ = Unit {0}

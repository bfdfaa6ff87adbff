-- What stands in a group's history for the bytes that are sent.
use Rattle.std.specs.Prelude.{List, ℕ}
use Rattle.std.proofs.Math.Option.{Option, none, some}
use Rattle.rules.specs.Tables.{Model}
use Rattle.rules.specs.Messages.{Message, Message.read_register}
use Rattle.group.specs.Said.{message_in}

-- a message that every box refuses with 3, as it refuses such bytes: a stamp is at least 1
abbrev pub no_message : Message
no_message = read_register 0 0

abbrev pub or_no_message : Option Message → Message
or_no_message none = no_message
or_no_message (some m) = m

-- what stands in a group's history for the bytes: bytes that are no message to anybody are a message that nobody takes, and no rule speaks of it
abbrev pub said : Model → ℕ → List ℕ → Message
said M n bytes = or_no_message (message_in M n bytes)

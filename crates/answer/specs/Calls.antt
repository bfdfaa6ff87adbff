-- The answer call: any bytes in its three buffers, to the number, the table buffer and the reply buffer after it, and the rows that were compared.
use Rattle.std.specs.Prelude.{Bool, true, cond, List, [], ◌∷◌, ℕ, eqb, leb, length}
use Rattle.std.proofs.Math.Option.{Option, none, some}
use Rattle.wire.specs.Parts.{replaced}
use Rattle.rules.specs.Tests.{both, either}
use Rattle.rules.specs.Tables.{Model, Table}
use Rattle.rules.specs.Numbers.{Number.small_buffer, Number.bad_table, Number.bad_message, Circumstance, number}
use Rattle.rules.specs.Messages.{Message, Message.propose_prepare, Message.finalise_prepare, Message.propose_outcome, Message.finalise_outcome, Message.change_view, Message.start_view, Message.read_register, table_after}
use Rattle.rules.specs.Circumstances.{too_small, reply_too_small, keeps_room, circumstances}
use Rattle.rules.specs.Answers as rules
use Rattle.rows.specs.Halving.{steps}
use Rattle.table.specs.Images.{format_one}
use Rattle.table.specs.Parse.{parse}
use Rattle.edit.specs.Edited.{edited}
use Rattle.message.specs.Messages.{message_at}
use Rattle.transact.specs.Replies.{reply_as, reply_bytes}

-- what was read, or not: 2, "bad table", and 3, "bad message". With either of them, rows that come later in the order may apply as well. They lose, and are not listed
abbrev pub read_circumstances : Model → Option Table → Option Message → List Circumstance
read_circumstances M none m = (bad_table, true) ∷ []
read_circumstances M (some T) none = (bad_message, true) ∷ []
read_circumstances M (some T) (some m) = circumstances M keeps_room T m

-- 1, "small buffer": "table or output buffer (not a merge's run) below 49,176, or reply buffer below 24"
abbrev pub call_circumstances : Model → List ℕ → List ℕ → List ℕ → List Circumstance
call_circumstances M table message reply =
    (small_buffer, either (too_small M (length table)) (reply_too_small (length reply))) ∷ read_circumstances M (parse format_one M table) (message_at format_one message)

unfoldable pub call_number : Model → List ℕ → List ℕ → List ℕ → ℕ
call_number M table message reply = number (call_circumstances M table message reply)

-- the table after a message that is taken
abbrev pub change_by : Option Message → Table → Table
change_by none T = T
change_by (some m) T = table_after rules.proposal_check T m

-- "Refusals keep the table"
unfoldable pub call_table : Model → List ℕ → List ℕ → List ℕ → List ℕ
call_table M table message reply = cond (eqb (call_number M table message reply) 0) (edited format_one (change_by (message_at format_one message)) table) table

-- a reply to what was taken, or "the number in byte 0 and 23 zero bytes"
abbrev pub reply_to : ℕ → Option Table → Option Message → rules.Reply
reply_to k none m = rules.refusal k
reply_to k (some T) none = rules.refusal k
reply_to k (some T) (some m) = cond (eqb k 0) (rules.reply_from (table_after rules.proposal_check T m) m) (rules.refusal k)

-- "except number 1, which writes nothing. Bytes of a reply buffer past 24 never change."
unfoldable pub call_reply : Model → List ℕ → List ℕ → List ℕ → List ℕ
call_reply M table message reply =
    let k = call_number M table message reply in
    cond (eqb k 1) reply (replaced reply 0 (reply_bytes (reply_as (reply_to k (parse format_one M table) (message_at format_one message)))))

-- ---- 02, P7: how many rows were compared

-- the steps of the search for the stamp of messages 1 to 4, in the table that was there when the message came. Messages 5 to 7 seek no stamp
abbrev pub search_steps : Table → Message → ℕ
search_steps T (propose_prepare s x) = steps T.rows s
search_steps T (finalise_prepare s v r) = steps T.rows s
search_steps T (propose_outcome s o x) = steps T.rows s
search_steps T (finalise_outcome s v o) = steps T.rows s
search_steps T (change_view v) = 0
search_steps T (start_view v I) = 0
search_steps T (read_register s k) = 0

-- none where there is no table, or no message
abbrev pub steps_of : Option Table → Option Message → ℕ
steps_of none m = 0
steps_of (some T) none = 0
steps_of (some T) (some m) = search_steps T m

-- "with 0 for refusals numbered 1 to 4 and 9"
abbrev pub compares_none : ℕ → Bool
compares_none k = either (both (leb 1 k) (leb k 4)) (eqb k 9)

-- "The answer to messages 1 to 4 passes this number on beside the reply"
unfoldable pub call_compared : Model → List ℕ → List ℕ → List ℕ → ℕ
call_compared M table message reply = cond (compares_none (call_number M table message reply)) 0 (steps_of (parse format_one M table) (message_at format_one message))

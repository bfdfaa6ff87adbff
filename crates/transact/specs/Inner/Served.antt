-- A box's answer to a message that breaks no rule of its own: only what the table holds can still refuse it.
use Rattle.std.specs.Prelude.{cond, List, ℕ, eqb}
use Rattle.rules.specs.Tests.{either}
use Rattle.rules.specs.Tables.{Model, Table}
use Rattle.rules.specs.Numbers.{number}
use Rattle.rules.specs.Messages.{Message, Message.propose_prepare, Message.finalise_prepare, Message.propose_outcome, Message.finalise_outcome, Message.change_view, Message.start_view, Message.read_register, table_after}
use Rattle.rules.specs.Circumstances.{keeps_room, further_circumstances}
use Rattle.rules.specs.Answers.{Answer, refused, taken, proposal_check}
use Rattle.table.specs.Images.{format_one}
use Rattle.table.specs.Parse.{table_at}
use Rattle.edit.specs.Edited.{edited}
use Rattle.seek.specs.Inner.Compared.{compared_to_finalise, compared_to_propose}
use Rattle.transact.specs.declared.reply.Reply.{Reply}
use Rattle.transact.specs.Replies.{reply_as}

unfoldable pub served_number : Model → Table → Message → ℕ
served_number M T m = number (further_circumstances M keeps_room T m)

unfoldable pub served : Model → Table → Message → Answer
served M T m = cond (eqb (served_number M T m) 0) (taken (table_after proposal_check T m) m) (refused (served_number M T m) T)

-- the reply, by the table that the buffer begins with
abbrev pub served_reply : Model → Message → List ℕ → Reply
served_reply M m s = reply_as (served M (table_at format_one s) m).reply

-- the buffer after it, whole
abbrev pub served_buffer : Model → Message → List ℕ → List ℕ
served_buffer M m s = edited format_one (λ T. (served M T m).table) s

-- how many rows are compared to find the row that the message is about; messages 5 to 7 seek none
unfoldable pub served_compared : Table → Message → ℕ
served_compared T (propose_prepare s x) = compared_to_propose T s
served_compared T (finalise_prepare s v r) = compared_to_finalise T s v
served_compared T (propose_outcome s o x) = compared_to_propose T s
served_compared T (finalise_outcome s v o) = compared_to_finalise T s v
served_compared T (change_view v) = 0
served_compared T (start_view v I) = 0
served_compared T (read_register s k) = 0

-- "If a prepare byte is held, answer it. If only an outcome is held, store and answer tentative OK for commit, ABORT for abort.", by the bytes
unfoldable pub answered_byte : ℕ → ℕ → ℕ
answered_byte prepare outcome = cond (eqb prepare 0) (cond (either (eqb outcome 1) (eqb outcome 3)) 1 2) prepare

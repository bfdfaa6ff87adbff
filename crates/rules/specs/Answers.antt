-- 01, 'Messages to a box' and 'Numbers returned': a box's answer, whole: the number, the table after it, the reply.
use Rattle.std.specs.Prelude.{cond, ℕ, eqb}
use Rattle.rules.specs.Tables.{prepare_code, prepare_retry, outcome_code, Model, Table}
use Rattle.rules.specs.Numbers.{number}
use Rattle.rules.specs.Messages.{Message, Message.propose_prepare, Message.finalise_prepare, Message.propose_outcome, Message.finalise_outcome, Message.change_view, Message.start_view, Message.read_register, kind, Check, held, prepare_of, outcome_of, table_after, found}
use Rattle.rules.specs.Circumstances.{Room, circumstances}
use Rattle.rules.specs.DayOrder.{day_check}

-- "Reply, 24 bytes: number 0, kind, box, state byte .., last normal view after the call 4, stamp 8, value 8."
pub record Reply : Type 0 where
  pub number : ℕ
  pub kind : ℕ
  pub box : ℕ
  pub state : ℕ
  pub view : ℕ
  pub stamp : ℕ
  pub value : ℕ

-- "state byte (prepare byte for 1 and 2, outcome byte for 3 and 4, else 0)", as the table T holds it after the call
unfoldable pub state_byte : Table → Message → ℕ
state_byte T (propose_prepare s x) = prepare_code (prepare_of (held T.rows s))
state_byte T (finalise_prepare s v r) = prepare_code (prepare_of (held T.rows s))
state_byte T (propose_outcome s o x) = outcome_code (outcome_of (held T.rows s))
state_byte T (finalise_outcome s v o) = outcome_code (outcome_of (held T.rows s))
state_byte T (change_view v) = 0
state_byte T (start_view v I) = 0
state_byte T (read_register s k) = 0

-- "For 5 the stamp is the promised view; for 6 zero; for 7 the version found"
unfoldable pub reply_stamp : Table → Message → ℕ
reply_stamp T (propose_prepare s x) = s
reply_stamp T (finalise_prepare s v r) = s
reply_stamp T (propose_outcome s o x) = s
reply_stamp T (finalise_outcome s v o) = s
reply_stamp T (change_view v) = T.promised
reply_stamp T (start_view v I) = 0
reply_stamp T (read_register s k) = (found T.rows s k).version

-- "for 7 .. value its value, both 0 if none. For 1 and 2 value is the retry stamp; otherwise 0."
unfoldable pub reply_value : Table → Message → ℕ
reply_value T (propose_prepare s x) = prepare_retry (prepare_of (held T.rows s))
reply_value T (finalise_prepare s v r) = prepare_retry (prepare_of (held T.rows s))
reply_value T (propose_outcome s o x) = 0
reply_value T (finalise_outcome s v o) = 0
reply_value T (change_view v) = 0
reply_value T (start_view v I) = 0
reply_value T (read_register s k) = (found T.rows s k).value

-- the reply to a message that was taken, from the table after it
unfoldable pub reply_from : Table → Message → Reply
reply_from T m = record { number = 0; kind = kind m; box = T.box; state = state_byte T m; view = T.view; stamp = reply_stamp T m; value = reply_value T m }

-- "the reply has the number in byte 0 and 23 zero bytes, except number 1, which writes nothing"
unfoldable pub refusal : ℕ → Reply
refusal k = record { number = k; kind = 0; box = 0; state = 0; view = 0; stamp = 0; value = 0 }

pub record Answer : Type 0 where
  pub number : ℕ
  pub table : Table
  pub reply : Reply

-- "Refusals keep the table"
unfoldable pub refused : ℕ → Table → Answer
refused k T = record { number = k; table = T; reply = refusal k }

unfoldable pub taken : Table → Message → Answer
taken T m = record { number = 0; table = T; reply = reply_from T m }

unfoldable pub answer_number : Model → Room → Table → Message → ℕ
answer_number M room T m = number (circumstances M room T m)

-- a box's answer to one message; the check is the one for message 1
unfoldable pub answer : Model → Room → Check → Table → Message → Answer
answer M room check T m = cond (eqb (answer_number M room T m) 0) (taken (table_after check T m) m) (refused (answer_number M room T m) T)

-- the check that boxes answer message 1 by. "The merge keeps the older A and B"
unfoldable pub proposal_check : Check
proposal_check = day_check

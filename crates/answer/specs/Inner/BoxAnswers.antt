-- What a box that was lent a table answers to what it hears.
use Rattle.std.specs.Prelude.{List, ℕ}
use Rattle.std.proofs.Math.Option.{Option, none, some}
use Rattle.rules.specs.Tables.{Model, Table}
use Rattle.rules.specs.Messages.{Message}
use Rattle.rules.specs.Answers.{Answer, refusal, refused}
use Rattle.table.specs.Images.{format_one}
use Rattle.table.specs.Parse.{table_at}
use Rattle.edit.specs.Edited.{edited}
use Rattle.message.specs.Messages.{message_to}
use Rattle.transact.specs.declared.reply.Reply.{Reply}
use Rattle.transact.specs.Replies.{reply_as}
use Rattle.transact.specs.Inner.Served.{served, served_compared}

-- the answer to what was read of a message: none is 3, "bad message"
abbrev pub answer_to : Model → Option Message → Table → Answer
answer_to M none T = refused 3 T
answer_to M (some m) T = served M T m

abbrev pub answer_reply : Model → Option Message → List ℕ → Reply
answer_reply M m s = reply_as (answer_to M m (table_at format_one s)).reply

abbrev pub answer_buffer : Model → Option Message → List ℕ → List ℕ
answer_buffer M m s = edited format_one (λ T. (answer_to M m T).table) s

-- and how many rows are compared for it
abbrev pub answer_compared : Option Message → Table → ℕ
answer_compared none T = 0
answer_compared (some m) T = served_compared T m

-- the answer to the bytes of a message, by the table that a buffer begins with
abbrev pub heard : Model → List ℕ → Table → Answer
heard M message T = answer_to M (message_to format_one M T.n message) T

-- or by none: 2, "bad table"
abbrev pub heard_reply : Model → List ℕ → Option Table → Reply
heard_reply M message none = reply_as (refusal 2)
heard_reply M message (some T) = reply_as (heard M message T).reply

abbrev pub heard_buffer : Model → List ℕ → List ℕ → Option Table → List ℕ
heard_buffer M message s none = s
heard_buffer M message s (some T) = edited format_one (λ U. (heard M message U).table) s

abbrev pub heard_compared : Model → List ℕ → Option Table → ℕ
heard_compared M message none = 0
heard_compared M message (some T) = answer_compared (message_to format_one M T.n message) T

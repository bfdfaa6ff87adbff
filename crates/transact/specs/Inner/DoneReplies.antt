-- What a message's function tells, as the code makes it: the reply to a message that was taken, or the refusal.
use Rattle.std.specs.Prelude.{◌≡◌, ℕ, Result, Ok, Err}
use Rattle.numbers.specs.declared.Refusal.{Refusal}
use Rattle.numbers.specs.Refusals.{refusal_code}
use Rattle.numbers.specs.Inner.Ended.{ended_with}
use Rattle.rules.specs.Answers.{refusal}
use Rattle.table.specs.declared.header.Header.{Header}
use Rattle.transact.specs.declared.reply.Reply.{Reply}
use Rattle.transact.specs.Replies.{reply_as}

-- a reply numbered 0 by the header of the table, whose view the call does not change
abbrev pub done_reply : Header → ℕ → ℕ → ℕ → ℕ → Reply
done_reply h kind state stamp value = record { number = 0; kind = kind; boxnumber = h.boxnumber; state = state; view = h.view; stamp = stamp; value = value }

-- the reply itself, or that of the refusal: "the number in byte 0 and 23 zero bytes"
abbrev pub reply_told : Result Reply Refusal → Reply
reply_told (Ok reply) = reply
reply_told (Err r) = reply_as (refusal (refusal_code r))

-- what is told is a reply, and ends with its number
abbrev pub Tells : Result Reply Refusal → Reply → Type 0
Tells told reply = (reply_told told ≡ reply) × (ended_with told ≡ reply.number)

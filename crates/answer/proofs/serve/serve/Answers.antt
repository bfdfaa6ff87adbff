-- No message is refused, and one that was read has its answer.
use Rattle.rules.specs.Tables.{valley}
use Rattle.seek.specs.Inner.Limits.{limited}
use Rattle.seek.proofs.HeldRows.{image_holds}
use Rattle.answer.proofs.Responding.{none_answered}
use Rattle.answer.proofs.serve.serve.Goals as goal

pub returns-in_default : goal.returns-in_default
returns-in_default c =
    let s = c.args.table.now in
    let (tells, after) = none_answered (limited c.args.limit) s (image_holds valley s c.requires.begins_with_image.0) in
    rw (c.in_default.is, c.without_search.ensures.0) record { reply_value = (tells, c.without_search.ensures.1); table_after = after }

pub serve_message-requires : goal.serve_message-requires
serve_message-requires c = record {
  begins_with_image = c.requires.begins_with_image;
  asked_value = rw c.in-Some.is at c.requires.asked_value;
}

pub returns : goal.returns
returns c = rw c.in-Some.is record { reply_value = c.serve_message.ensures.reply_value; table_after = c.serve_message.ensures.table_after }

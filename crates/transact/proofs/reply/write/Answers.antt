-- The fields side by side are the reply.
use Rattle.transact.proofs.ReplySteps.{reply_steps}
use Rattle.transact.proofs.reply.write.Goals as goal

pub returns : goal.returns
returns c = rw (c.put_u64-2.ensures, c.put_u64.ensures, c.put_u32.ensures, c.put_four_u8.ensures) (reply_steps c.args.s.now c.args.r c.requires)

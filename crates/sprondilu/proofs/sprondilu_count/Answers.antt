-- A result that is counted fits the bits of its word.
use Rattle.count.proofs.CountWays.{Lent.laid}
use Rattle.sprondilu.proofs.CountWords.{lent_fits}
use Rattle.sprondilu.proofs.sprondilu_count.Goals as goal

pub answer_word-requires : goal.answer_word-requires
answer_word-requires c = lent_fits c.args.n (laid c.args.replies.now) _ c.count.ensures

-- 01, 'The coordinator's count': what is bad of replies in plain numbers.
use Rattle.std.specs.Prelude.{Bool, not, List, ℕ}
use Rattle.rules.specs.Tests.{either, every}
use Rattle.rules.specs.Count.{bad_replies}
use Rattle.replies.specs.declared.held.Reply.{Reply}
use Rattle.replies.specs.PlainReplies.{result_read, all_heard}

-- "Bad n, a box outside the group or twice, unequal views or a bad result: 3."
unfoldable pub are_bad : ℕ → List Reply → Bool
are_bad n rs = either (not (every result_read rs)) (bad_replies n (all_heard rs))

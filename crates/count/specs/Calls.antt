-- Replies that are counted, as they cross the boundary: as a list of small records, or 15 bytes a reply.
use Rattle.std.specs.Prelude.{cond, List, [], ◌∷◌, ℕ, zero, suc, ◌+◌, ◌*◌, ◌/◌, eqb, length, drop}
use Rattle.wire.specs.Numbers.{number_at}
use Rattle.rules.specs.Tests.{every}
use Rattle.rules.specs.Numbers.{Number.bad_message, number_code}
use Rattle.rules.specs.Count as rules
use Rattle.replies.specs.declared.held.Reply.{Reply}
use Rattle.replies.specs.PlainReplies.{result_read, all_heard}

-- ---- bytes to replies

unfoldable pub reply_at : List ℕ → ℕ → Reply
reply_at s at = record {
  boxnumber = number_at s at 1;
  view = number_at s (at + 1) 4;
  result = number_at s (at + 5) 1;
  retry = number_at s (at + 6) 8;
  finality = number_at s (at + 14) 1;
}

-- the first so many
unfoldable pub replies_of : ℕ → List ℕ → List Reply
replies_of zero s = []
replies_of (suc k) s = reply_at s 0 ∷ replies_of k (drop 15 s)

-- ---- the count

-- the coordinator's count: "a bad result: 3"; all else is `rules`'
unfoldable pub count_of : ℕ → List Reply → rules.Counted
count_of n rs = cond (every result_read rs) (rules.counted n (all_heard rs)) (rules.Counted.refused (number_code bad_message))

-- the count of lent bytes: 3 if they are not whole replies
unfoldable pub count_bytes : ℕ → List ℕ → rules.Counted
count_bytes n s =
    let k = length s / 15 in
    cond (eqb (length s) (15 * k)) (count_of n (replies_of k s)) (rules.Counted.refused (number_code bad_message))

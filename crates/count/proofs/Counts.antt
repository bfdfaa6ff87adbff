-- What is refused with 3 and with 6, and what is decided, of replies in plain numbers.
use mathlib.Core.Path.{◌≡◌, refl, ◌∙◌}
use mathlib.Core.Bool.{Bool, true, false, not}
use mathlib.Core.List.{List}
use Prim.Native.Nat.{ℕ, ◌<◌}
use lib.ListN.{length}
use Rattle.rules.specs.Tests.{both, either, every}
use Rattle.rules.specs.Numbers.{Number.bad_message, Number.contradiction, number_code, number, first, applies}
use Rattle.rules.specs.Count.{bad_replies, count_circumstances, count_number, decided, counted, Counted.refused}
use Rattle.replies.specs.declared.held.Reply.{Reply}
use Rattle.replies.specs.PlainReplies.{result_read, all_heard}
use Rattle.count.specs.Inner.MeantAnswers.{contradicting}
use Rattle.count.specs.Calls.{count_of}
use Rattle.replies.specs.Inner.Bad.{are_bad}
use Rattle.replies.proofs.BadReplies.{good_facts, too_many}

-- ---- what is bad is refused with 3, and the rest is counted

pub bad_refused : (n : ℕ) (rs : List Reply) → are_bad n rs ≡ true → count_of n rs ≡ refused (number_code bad_message)
unfolding are_bad count_of counted count_number count_circumstances number first applies either both
bad_refused n rs h = go (every result_read rs) refl h
  where
    go : (b : Bool) → every result_read rs ≡ b → either (not b) (bad_replies n (all_heard rs)) ≡ true → count_of n rs ≡ refused (number_code bad_message)
    go false e k = rw e refl
    go true e k = rw (e, k) refl

pub good_counted : (n : ℕ) (rs : List Reply) → are_bad n rs ≡ false → count_of n rs ≡ counted n (all_heard rs)
unfolding count_of
good_counted n rs h = rw (good_facts n rs h).read refl

-- ---- of replies that are not bad, 6 or a decision

pub contradicted : (n : ℕ) (rs : List Reply) → are_bad n rs ≡ false → contradicting n (all_heard rs) ≡ true → count_of n rs ≡ refused (number_code contradiction)
unfolding counted count_number count_circumstances number first applies either both
contradicted n rs h c = good_counted n rs h ∙ rw ((good_facts n rs h).not_bad, c) refl

pub clear : (n : ℕ) (rs : List Reply) → are_bad n rs ≡ false → contradicting n (all_heard rs) ≡ false → count_of n rs ≡ decided n (all_heard rs)
unfolding counted count_number count_circumstances number first applies either both
clear n rs h c = good_counted n rs h ∙ rw ((good_facts n rs h).not_bad, c) refl

pub many_bad : (n : ℕ) (rs : List Reply) → 7 < length rs → count_of n rs ≡ refused (number_code bad_message)
many_bad n rs l = bad_refused n rs (too_many n rs l)

-- What is answered by what was kept of the replies.
use Rattle.std.specs.Prelude.{Bool, not, true, false, cond, ℕ, ◌+◌, ◌/◌, ◌%◌, ◌^◌, max, eqb, ltb, leb, Option, None, Some, Ok, Err}
use Rattle.rules.specs.Groups.{is_group, f_of, quorum, fast_count}
use Rattle.numbers.specs.declared.Refusal.TheVariants.{BadMessage, Contradiction}
use Rattle.replies.specs.declared.tally.First.{First}
use Rattle.replies.specs.declared.tally.Range.{Range}
use Rattle.replies.specs.declared.tally.Tally.{Tally}
use Rattle.replies.specs.Inner.Tallies.{packed}
use Rattle.count.specs.Answers.{Answer}
use Rattle.count.specs.declared.answer.Counted.{Counted}
use Rattle.count.specs.declared.answer.Counted.TheVariants.{Fast, Slow, Wait}

-- "Bad n, a box outside the group", or what was bad before
unfoldable pub is_bad : ℕ → Tally → Bool
is_bad n t = cond (is_group n) (leb (2 ^ n) t.seen) true

-- "the fast count of boxes agree on r"
unfoldable pub fast_packed : ℕ → Tally → ℕ
fast_packed n t =
    cond (leb (fast_count (f_of n)) t.first.agreeing) (packed t.first.code t.first.retry)
    (cond (eqb t.others.results.least t.others.results.greatest) (cond (leb (fast_count (f_of n)) t.others.number) t.others.results.greatest 0) 0)

-- no result is packed as 0
abbrev pub unless_zero : ℕ → Option ℕ
unless_zero k = cond (eqb k 0) None (Some k)

unfoldable pub fast_by : ℕ → Tally → Option ℕ
fast_by n t = unless_zero (fast_packed n t)

-- a fast result, if there is one, is another than a final one
abbrev pub is_other : ℕ → Option ℕ → Bool
is_other final None = false
is_other final (Some fast) = not (eqb final fast)

-- "Two unequal finals, or a fast count for a result other than a final one"
unfoldable pub contradicts_by : Range → Option ℕ → Bool
contradicts_by finals fast = cond (eqb finals.greatest 0) false (cond (eqb finals.least finals.greatest) (is_other finals.greatest fast) true)

abbrev pub how_many : ℕ → First → ℕ → ℕ
how_many code f k = cond (eqb f.code code) f.agreeing k

-- "slow with the final result if there is one; slow ABORT if any is ABORT; slow OK if f+1 are OK; slow RETRY with the greatest stamp if any; slow ABSTAIN"
unfoldable pub slow_by : ℕ → Tally → ℕ
slow_by n t =
    let retry = max t.first.retry (t.others.results.greatest / 8) in
    cond (eqb t.finals.greatest 0)
    (cond (ltb 0 (how_many 2 t.first t.others.aborts)) 2
    (cond (leb (quorum (f_of n)) (how_many 1 t.first t.others.oks)) 1 (cond (ltb 0 retry) (packed 4 retry) 3)))
    t.finals.greatest

-- "fast ..; wait if fewer than f+1 replies; slow .."
unfoldable pub decided_by : ℕ → Tally → Option ℕ → Counted
decided_by n t None = cond (ltb (t.first.agreeing % 256 + t.others.number % 256) (quorum (f_of n))) Wait (Slow (slow_by n t % 8) (slow_by n t / 8))
decided_by n t (Some fast) = Fast (fast % 8) (fast / 8)

unfoldable pub answered : ℕ → Tally → Answer
answered n t = cond (is_bad n t) (Err BadMessage) (cond (contradicts_by t.finals (fast_by n t)) (Err Contradiction) (Ok (decided_by n t (fast_by n t))))

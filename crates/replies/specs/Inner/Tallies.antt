-- What is kept of the replies gone through, one by one: "the coordinator's count walks at most seven".
use Rattle.std.specs.Prelude.{Bool, true, not, cond, List, [], ◌∷◌, ℕ, ◌+◌, ◌*◌, ◌/◌, ◌%◌, ◌^◌, min, max, eqb, ltb, leb}
use Rattle.std.specs.Int.Bits.{bit_or}
use Rattle.rules.specs.Tests.{both}
use Rattle.message.specs.Messages.{result_by_code}
use Rattle.replies.specs.declared.held.Reply.{Reply}
use Rattle.replies.specs.declared.tally.First.{First}
use Rattle.replies.specs.declared.tally.Others.{Others}
use Rattle.replies.specs.declared.tally.Range.{Range}
use Rattle.replies.specs.declared.tally.Tally.{Tally}

-- "result with its retry stamp" as one number, by its code and its stamp
abbrev pub packed : ℕ → ℕ → ℕ
packed code retry = 8 * (retry % 2305843009213693952) + code % 8

abbrev pub packed_by : Reply → ℕ
packed_by r = packed r.result r.retry

-- the least and the greatest of no numbers, and with one more
abbrev pub no_range : Range
no_range = record { least = 18446744073709551615; greatest = 0 }

abbrev pub in_range : Range → ℕ → Range
in_range x k = record { least = min k x.least; greatest = max k x.greatest }

abbrev pub more_if : Bool → ℕ → ℕ
more_if t k = cond t (k % 256 + 1) k

-- a reply has the first one's result, if there was one
unfoldable pub is_said : First → Reply → Bool
is_said f r = both (eqb r.retry f.retry) (both (eqb r.result f.code) (not (eqb f.agreeing 0)))

abbrev pub no_others : Others
no_others = record { number = 0; oks = 0; aborts = 0; results = no_range }

abbrev pub with_other : Others → Reply → Others
with_other o r = record {
  number = o.number % 256 + 1;
  oks = more_if (eqb r.result 1) o.oks;
  aborts = more_if (eqb r.result 2) o.aborts;
  results = in_range o.results (packed_by r);
}

abbrev pub no_tally : Tally
no_tally = record { seen = 0; view = 0; first = record { code = 0; retry = 0; agreeing = 0 }; others = no_others; finals = no_range }

-- something was bad
abbrev pub spoilt : Tally → Tally
spoilt t = record { seen = 255; view = t.view; first = t.first; others = t.others; finals = t.finals }

-- a view is that of the replies before
unfoldable pub has_view : Tally → ℕ → Bool
has_view t view = cond (eqb t.seen 0) true (eqb view t.view)

unfoldable pub with_finality : Tally → Reply → Tally
with_finality t r = cond (eqb r.finality 1) (record { seen = t.seen; view = t.view; first = t.first; others = t.others; finals = in_range t.finals (packed_by r) }) t

-- the first reply's result, and one more that has it
abbrev pub first_by : Reply → First
first_by r = record { code = r.result; retry = r.retry; agreeing = 1 }

abbrev pub agreed_by : First → First
agreed_by f = record { code = f.code; retry = f.retry; agreeing = f.agreeing % 256 + 1 }

abbrev pub with_first : Tally → First → Tally
with_first t f = record { seen = t.seen; view = t.view; first = f; others = t.others; finals = t.finals }

unfoldable pub with_result : Tally → Reply → Tally
with_result t r =
    cond (is_said t.first r) (with_first t (agreed_by t.first))
    (cond (result_by_code r.result r.retry)
    (cond (eqb t.first.agreeing 0) (with_first t (first_by r)) (record { seen = t.seen; view = t.view; first = t.first; others = with_other t.others r; finals = t.finals }))
    (spoilt t))

-- a box that a group can have, and that was not seen
unfoldable pub is_new : ℕ → ℕ → Bool
is_new seen box = both (ltb box 7) (eqb (seen / 2 ^ box % 2) 0)

abbrev pub seen_by : Tally → Reply → Tally
seen_by t r = record { seen = bit_or t.seen (2 ^ r.boxnumber); view = r.view; first = t.first; others = t.others; finals = t.finals }

-- one reply more, whichever; "final or not" is 1 or 0
unfoldable pub with_reply : Tally → Reply → Tally
with_reply t r = cond (both (is_new t.seen r.boxnumber) (both (leb r.finality 1) (has_view t r.view))) (with_result (with_finality (seen_by t r) r) r) (spoilt t)

unfoldable pub with_replies : Tally → List Reply → Tally
with_replies t [] = t
with_replies t (r ∷ rs) = with_replies (with_reply t r) rs

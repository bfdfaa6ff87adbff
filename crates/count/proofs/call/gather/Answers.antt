-- What is kept is of the records of the bytes, one by one.
use mathlib.Core.Path.{◌≡◌, subst, ap}
use mathlib.Core.List.{List}
use Prim.Native.Nat.{ℕ, ◌/◌}
use lib.ListN.{length}
use denote.Ref.{Bor}
use Rattle.std.proofs.Common.{rules}
use Rattle.std.specs.Slice.Iter.{chunks_exact_steps}
use Rattle.replies.specs.Inner.Tallies.{no_tally, with_replies}
use Rattle.count.specs.Calls.{reply_at, replies_of}
use Rattle.count.proofs.Gathered.{all_taken, records_give}
use Rattle.count.proofs.call.gather.Goals as goal

pub returns : goal.returns
returns c =
    subst (λ (s : List ℕ). c.fold.result ≡ with_replies no_tally (replies_of (length c.args.bytes.now / 15) s)) c.chunks_exact.ensures.rest
    (all_taken chunks_exact_steps (λ (y : Bor (List ℕ)). reply_at y.now 0) _ _ (λ t x u f' k. search rules) _ _ _ _ (records_give (length c.args.bytes.now / 15) c.chunks_exact.result c.chunks_exact.ensures.size (ap (λ (s : List ℕ). length s / 15) c.chunks_exact.ensures.rest)) c.none.ensures c.fold.ensures.ran)

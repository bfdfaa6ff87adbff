use mathlib.Core.Path.{◌≡◌, subst}
use mathlib.Core.List.{List}
use Rattle.std.proofs.Common.{rules}
use Rattle.std.proofs.lemmas.Fn.{slice_gives, fronts}
use Rattle.replies.specs.declared.held.Reply.{Reply}
use Rattle.replies.specs.Inner.Tallies.{no_tally, with_replies}
use Rattle.count.proofs.Gathered.{all_taken}
use Rattle.count.proofs.lent.gather.Goals as goal

pub returns : goal.returns
returns c =
    subst (λ (l : List Reply). c.fold.result ≡ with_replies no_tally l) c.iter.ensures.rest
    (all_taken fronts (λ y. y.now) _ _ (λ t x u f' k. search rules) _ _ _ _ (slice_gives c.iter.result) c.none.ensures c.fold.ensures.ran)

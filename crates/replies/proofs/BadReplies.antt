-- What is bad of replies in plain numbers: what `rules` calls bad, with the results that cannot be read; and more than seven replies are.
use mathlib.Core.Path.{◌≡◌, refl, ap, ap₂}
use mathlib.Core.Bool.{Bool, true, false, not}
use mathlib.Core.Logic.{⊎_elim}
use mathlib.Core.List.Memᴰ
use mathlib.Core.List.{List, [], ◌∷◌}
use Prim.Native.Nat.{ℕ, ◌<◌, ◌≤◌}
use native.Mathlib.Omega.{arith}
use lib.Dec.{eqb, ltb}
use lib.ListN.{length, length-map}
use borrow.Author.Tests.{not-false, eqb-true, eq-eqb, lt-ltb}
use Rattle.rules.specs.Tests.{either, any, every, twice, some_pair}
use Rattle.rules.specs.Groups.{is_group}
use Rattle.rules.specs.Tables.{result_by_rule}
use Rattle.rules.specs.Count.{Heard, unequal_views, bad_replies}
use Rattle.rules.proofs.Logic.{impossible, cases, both_left, both_right, either_left, either_right, either_false, not_false_of}
use Rattle.rules.proofs.Lists.{◌∈◌, none_any, pair_none}
use Rattle.rules.proofs.Groups.{group_bounds}
use Rattle.rules.proofs.Votes.{different_below, replies_different, replies_inside}
use Rattle.message.proofs.KeepingRules.{ResultCoded, result_coded}
use Rattle.replies.specs.declared.held.Reply.{Reply}
use Rattle.replies.specs.PlainReplies.{result_read, heard, all_heard}
use Rattle.replies.specs.Inner.Bad.{are_bad}
use Rattle.replies.proofs.Boxes.{Below}

-- a reply's result by its code and its retry stamp
pub coded : (r : Reply) → result_read r ≡ true → ResultCoded r.result r.retry
unfolding result_read
coded r h = result_coded r.result r.retry (both_left _ _ h)

pub any_heard : (test : Heard → Bool) (rs : List Reply) → any test (all_heard rs) ≡ any (λ r. test (heard r)) rs
unfolding any
any_heard test [] = refl
any_heard test (r ∷ rs) = ap (either (test (heard r))) (any_heard test rs)

pub twice_heard : (rs : List Reply) → twice (λ h. h.box) (all_heard rs) ≡ twice (λ r. r.boxnumber) rs
unfolding twice
twice_heard [] = refl
twice_heard (r ∷ rs) = ap₂ either (any_heard (λ y. eqb y.box r.boxnumber) rs) (twice_heard rs)

-- what was read is by the rules
read_by_rule : (rs : List Reply) → every result_read rs ≡ true → any (λ h. not (result_by_rule h.result)) (all_heard rs) ≡ false
unfolding any every
read_by_rule [] h = refl
read_by_rule (r ∷ rs) h = either_false (not_false_of _ (coded r (both_left _ _ h)).by_rule) (read_by_rule rs (both_right _ _ h))

-- ---- what replies that are not bad are

pub record Good (n : ℕ) (rs : List Reply) : Type 0 where
  pub read : every result_read rs ≡ true
  pub not_bad : bad_replies n (all_heard rs) ≡ false
  pub group : is_group n ≡ true
  pub positive : 0 < n
  pub below : Below n rs
  pub at_most : length rs ≤ 7
  pub inside : Below 7 rs
  pub apart : twice (λ r. r.boxnumber) rs ≡ false
  pub one_view : (r q : Reply) → r ∈ rs → q ∈ rs → r.view ≡ q.view

pub good_facts : (n : ℕ) (rs : List Reply) → are_bad n rs ≡ false → Good n rs
unfolding are_bad bad_replies unequal_views
good_facts n rs h =
    let not_bad : bad_replies n (all_heard rs) ≡ false = either_right _ _ h in let size = group_bounds n (not-false _ (either_left _ _ not_bad)) in
    let below = different_below (λ g. g.box) n (all_heard rs) (replies_different n (all_heard rs) not_bad) (replies_inside n (all_heard rs) not_bad) in let same = length-map rs heard in
    record {
      read = not-false _ (either_left _ _ h);
      not_bad = not_bad;
      group = not-false _ (either_left _ _ not_bad);
      positive = size.0;
      below = λ r m. replies_inside n (all_heard rs) not_bad (heard r) (Memᴰ.map heard m);
      at_most = omega arith;
      inside = λ r m. let l = replies_inside n (all_heard rs) not_bad (heard r) (Memᴰ.map heard m) in omega arith;
      apart = rw (twice_heard rs) at (replies_different n (all_heard rs) not_bad);
      one_view = λ r q m i. eqb-true _ _ (not-false _ (pair_none _ (all_heard rs) (either_left _ _ (either_right _ _ (either_right _ _ (either_right _ _ not_bad)))) (heard r) (heard q) (Memᴰ.map heard m) (Memᴰ.map heard i)));
    }

-- and what is all that is not bad
pub good_by : (n : ℕ) (rs : List Reply) → is_group n ≡ true → every result_read rs ≡ true → Below n rs → twice (λ r. r.boxnumber) rs ≡ false → ((r : Reply) → r ∈ rs → (q : Reply) → q ∈ rs → r.view ≡ q.view) → are_bad n rs ≡ false
unfolding are_bad bad_replies unequal_views some_pair
good_by n rs group read inside apart views =
    either_false (not_false_of _ read) (either_false (not_false_of _ group)
    (either_false (rw (any_heard (λ h. not (ltb h.box n)) rs) (none_any _ rs (λ r m. not_false_of _ (lt-ltb _ _ (inside r m)))))
    (either_false (rw (twice_heard rs) apart) (either_false (equal_views) (read_by_rule rs read)))))
  where
    equal_views : any (λ h. any (λ g. not (eqb h.view g.view)) (all_heard rs)) (all_heard rs) ≡ false
    equal_views =
        rw (any_heard (λ h. any (λ g. not (eqb h.view g.view)) (all_heard rs)) rs)
        (none_any _ rs (λ r m. rw (any_heard (λ g. not (eqb r.view g.view)) rs) (none_any _ rs (λ q i. not_false_of _ (eq-eqb _ _ (views r m q i))))))

-- what cannot be good is bad
pub bad_unless : (n : ℕ) (rs : List Reply) → (Good n rs → ⊥) → are_bad n rs ≡ true
bad_unless n rs d = ⊎_elim (λ e. e) (λ e. absurd (d (good_facts n rs e))) (cases (are_bad n rs))

pub bad_group_lem : (n : ℕ) (rs : List Reply) → is_group n ≡ false → are_bad n rs ≡ true
bad_group_lem n rs d = bad_unless n rs (λ g. impossible g.group d)

-- more than seven are too many for any group
pub too_many : (n : ℕ) (rs : List Reply) → 7 < length rs → are_bad n rs ≡ true
too_many n rs l = bad_unless n rs (λ g. let k = g.at_most in omega arith)

-- with one more, bad replies are bad
pub bad_more : (n : ℕ) (r : Reply) (rs : List Reply) → are_bad n rs ≡ true → are_bad n (r ∷ rs) ≡ true
unfolding every twice
bad_more n r rs b = bad_unless n (r ∷ rs) (λ g. impossible b (good_by n rs g.group (both_right _ _ g.read) (λ q m. g.below q (Memᴰ.tail m)) (either_right _ _ g.apart) (λ q m p i. g.one_view q p (Memᴰ.tail m) (Memᴰ.tail i))))

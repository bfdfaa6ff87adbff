-- What one reply more does to a tally, case by case.
use mathlib.Core.Path.{◌≡◌, refl}
use mathlib.Core.Bool.{true, false}
use Prim.Native.Nat.{◌/◌, ◌%◌, ◌^◌, ◌<◌, ◌≤◌}
use native.Mathlib.Omega.{arith}
use borrow.Author.Tests.{eq-eqb, ne_eqb, lt-ltb, le-ltb, le-leb, lt-leb}
use Rattle.rules.specs.Tests.{both}
use Rattle.message.specs.Messages.{result_by_code}
use Rattle.replies.specs.declared.held.Reply.{Reply}
use Rattle.replies.specs.declared.tally.Tally.{Tally}
use Rattle.replies.specs.Inner.Tallies.{spoilt, is_said, with_finality, first_by, agreed_by, with_first, with_other, has_view, with_result, is_new, seen_by, with_reply}

module _ (t : Tally) (r : Reply) where
  -- ---- its result

  pub one_agrees : is_said t.first r ≡ true → with_result t r ≡ with_first t (agreed_by t.first)
  unfolding with_result
  one_agrees l = rw l refl

  module _ (l : is_said t.first r ≡ false) where
    pub bad_result_lem : result_by_code r.result r.retry ≡ false → with_result t r ≡ spoilt t
    unfolding with_result
    bad_result_lem e = rw (l, e) refl

    module _ (e : result_by_code r.result r.retry ≡ true) where
      pub one_begins : t.first.agreeing ≡ 0 → with_result t r ≡ with_first t (first_by r)
      unfolding with_result
      one_begins z = rw (l, e, eq-eqb _ _ z) refl

      pub one_differs : (t.first.agreeing ≡ 0 → ⊥) → with_result t r ≡ record { seen = t.seen; view = t.view; first = t.first; others = with_other t.others r; finals = t.finals }
      unfolding with_result
      one_differs z = rw (l, e, ne_eqb _ _ z) refl

  -- ---- what else is asked of it

  pub far_box : 7 ≤ r.boxnumber → with_reply t r ≡ spoilt t
  unfolding with_reply is_new both
  far_box l = rw (le-ltb _ _ l) refl

  module _ (l : r.boxnumber < 7) where
    pub old_box : t.seen / 2 ^ r.boxnumber % 2 ≡ 1 → with_reply t r ≡ spoilt t
    unfolding with_reply is_new both
    old_box e = rw (lt-ltb _ _ l, e) refl

    module _ (new : t.seen / 2 ^ r.boxnumber % 2 ≡ 1 → ⊥) where
      is_new_lem : is_new t.seen r.boxnumber ≡ true
      unfolding is_new both
      is_new_lem = rw (lt-ltb _ _ l) (eq-eqb (t.seen / 2 ^ r.boxnumber % 2) 0 (omega arith))

      pub bad_final : 1 < r.finality → with_reply t r ≡ spoilt t
      unfolding with_reply both
      bad_final m = rw (is_new_lem, lt-leb _ _ m) refl

      module _ (m : r.finality ≤ 1) where
        pub other_view_lem : has_view t r.view ≡ false → with_reply t r ≡ spoilt t
        unfolding with_reply both
        other_view_lem v = rw (is_new_lem, le-leb _ _ m, v) refl

        pub next_reply : has_view t r.view ≡ true → with_reply t r ≡ with_result (with_finality (seen_by t r) r) r
        unfolding with_reply both
        next_reply v = rw (is_new_lem, le-leb _ _ m, v) refl

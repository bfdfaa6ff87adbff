-- What is decided of replies that are not bad, by what the walks over them found.
use mathlib.Core.Path.{◌≡◌, refl, sym, ap, ◌∙◌}
use mathlib.Core.Bool.{Bool, true, false, not}
use mathlib.Core.Logic.{◌⊎◌, inl, inr, ⊎_elim}
use mathlib.Core.List.{List, [], ◌∷◌}
use mathlib.Core.Option.{none, some}
use Prim.Native.Nat.{ℕ, ◌<◌, ◌≤◌, max}
use native.Mathlib.Omega.{arith}
use lib.Dec.{eqb, ltb}
use borrow.Author.Tests.{ltb-true, ltb-false, not-false, lt-ltb, le-ltb, le-leb, lt-leb}
use Rattle.rules.specs.Tests.{both, either, any, greatest, some_pair, provided, first_of}
use Rattle.rules.specs.Groups.{f_of, quorum}
use Rattle.rules.specs.Stamps.{is_stamp}
use Rattle.rules.specs.Tables.{Result, Result.OK, Result.ABORT, Result.ABSTAIN, Result.RETRY, result_code, result_retry, same_result, result_by_rule}
use Rattle.rules.specs.Count.{Heard, bad_replies, agreeing, is_fast, unequal_final_heard, fast_beside_final, fast_of, final_heard, greatest_retry, slow_result}
use Rattle.rules.proofs.Logic.{cases, both_left, both_right, both_true, both_false, either_false, either_left, either_right, either_first, either_second, not_true_of}
use Rattle.rules.proofs.Lists.{◌∈◌, any_none, any_some, some_any, none_pair, provided_some, provided_none, first_from, first_none}
use Rattle.rules.proofs.Same.{same_result_lem, result_same, not_other_result}
use Rattle.rules.proofs.Count.{final_from_lem}
use Rattle.rules.proofs.Votes.{fast_one}
use Rattle.replies.proofs.Counted.{any_counted}
use Rattle.count.specs.Inner.MeantAnswers.{contradicting}

not_first : {a : Bool} (b : Bool) → a ≡ false → both a b ≡ false
unfolding both
not_first b e = rw e refl

module _ (n : ℕ) (hs : List Heard) (good : bad_replies n hs ≡ false) where
  pub results_good : any (λ h. not (result_by_rule h.result)) hs ≡ false
  unfolding bad_replies
  results_good = either_right _ _ (either_right _ _ (either_right _ _ (either_right _ _ good)))

  pub by_rule_lem : (h : Heard) → h ∈ hs → result_by_rule h.result ≡ true
  by_rule_lem h m = not-false _ (any_none _ hs results_good h m)

  -- a fast or a final result is a reply's, and so by the rules
  pub chosen_by_rule : (test : Heard → Bool) (r : Result) → first_of (λ h. provided (test h) h.result) hs ≡ some r → result_by_rule r ≡ true
  chosen_by_rule test r e =
      let (h, m, k) = first_from (λ h. provided (test h) h.result) hs r e in rw (← (provided_some (test h) h.result r k).1) (by_rule_lem h m)

-- ---- "Two unequal finals, or a fast count for a result other than a final one: 6."

abbrev pub other_final : Result → Heard → Bool
other_final q g = both g.is_final (not (same_result q g.result))

-- a final result is the first one, if none is unequal to that
pub final_is : (hs : List Heard) (q : Result) → any (other_final q) hs ≡ false → (h : Heard) → h ∈ hs → h.is_final ≡ true → q ≡ h.result
unfolding both
final_is hs q a h m f = not_other_result q h.result (rw f at (any_none (other_final q) hs a h m))

unequal_pair_lem : (hs : List Heard) (h g : Heard) → h ∈ hs → g ∈ hs → h.is_final ≡ true → other_final h.result g ≡ true → unequal_final_heard hs ≡ true
unfolding unequal_final_heard some_pair
unequal_pair_lem hs h g mh mg f o =
    some_any (λ h. any (λ g. both (both h.is_final g.is_final) (not (same_result h.result g.result))) hs) hs h mh
    (some_any (λ g. both (both h.is_final g.is_final) (not (same_result h.result g.result))) hs g mg (both_true (both_true f (both_left _ _ o)) (both_right _ _ o)))

-- no final result is unequal to q: no two are unequal
finals_equal : (hs : List Heard) (q : Result) → any (other_final q) hs ≡ false → unequal_final_heard hs ≡ false
unfolding unequal_final_heard
finals_equal hs q a = none_pair _ hs pair
  where
    pair : (h g : Heard) → h ∈ hs → g ∈ hs → both (both h.is_final g.is_final) (not (same_result h.result g.result)) ≡ false
    pair h g mh mg = ⊎_elim (λ t. rw (← final_is hs q a h mh (both_left h.is_final g.is_final t), ← final_is hs q a g mg (both_right h.is_final g.is_final t), result_same q) (both_false (both h.is_final g.is_final))) (λ f. not_first _ f) (cases (both h.is_final g.is_final))

abbrev beside_final : ℕ → List Heard → Heard → Heard → Bool
beside_final n hs h g = both (both h.is_final (is_fast n hs g.result)) (not (same_result h.result g.result))

-- whether there is a contradiction, found from the first final result and the fast one
module _ (n : ℕ) (hs : List Heard) (good : bad_replies n hs ≡ false) where
  abbrev Contradicts : Bool → Type 0
  Contradicts b = b ≡ contradicting n hs

  pub no_final : final_heard hs ≡ none → (h : Heard) → h ∈ hs → h.is_final ≡ false
  unfolding final_heard
  no_final e h m = provided_none h.is_final h.result (first_none (λ g. provided g.is_final g.result) hs e h m)

  -- none is final
  pub contradicts_none : final_heard hs ≡ none → Contradicts false
  unfolding unequal_final_heard fast_beside_final
  contradicts_none e =
      sym
      (either_false
      (none_pair (λ h g. both (both h.is_final g.is_final) (not (same_result h.result g.result))) hs (λ h g mh mg. not_first _ (not_first _ (no_final e h mh))))
      (none_pair (beside_final n hs) hs (λ h g mh mg. not_first _ (not_first _ (no_final e h mh)))))

  -- another is final
  pub contradicts_other : (q : Result) → final_heard hs ≡ some q → any (other_final q) hs ≡ true → Contradicts true
  contradicts_other q e o =
      let (h, mh, f, i) = final_from_lem n hs q e in let (g, mg, og) = any_some (other_final q) hs o in sym (either_first _ _ (unequal_pair_lem hs h g mh mg f (rw i og)))

  is_fast_lem : (p : Result) → fast_of n hs ≡ some p → (g : Heard) × (g ∈ hs) × (is_fast n hs g.result ≡ true) × (g.result ≡ p)
  unfolding fast_of
  is_fast_lem p e =
      let (g, mg, k) = first_from (λ g. provided (is_fast n hs g.result) g.result) hs p e in let (f, i) = provided_some (is_fast n hs g.result) g.result p k in (g, mg, f, i)

  no_fast : fast_of n hs ≡ none → (g : Heard) → g ∈ hs → is_fast n hs g.result ≡ false
  unfolding fast_of
  no_fast e g m = provided_none (is_fast n hs g.result) g.result (first_none (λ h. provided (is_fast n hs h.result) h.result) hs e g m)

  -- none is fast
  pub contradicts_slow : (q : Result) → any (other_final q) hs ≡ false → fast_of n hs ≡ none → Contradicts false
  unfolding fast_beside_final
  contradicts_slow q a e = sym (either_false (finals_equal hs q a) (none_pair (beside_final n hs) hs (λ h g mh mg. not_first _ (rw (no_fast e g mg) (both_false _)))))

  -- the fast one is another than the final one, or the same
  pub contradicts_fast : (q p : Result) → final_heard hs ≡ some q → any (other_final q) hs ≡ false → fast_of n hs ≡ some p → Contradicts (not (same_result q p))
  unfolding fast_beside_final some_pair
  contradicts_fast q p eq a ep = go (cases (same_result q p))
    where
      go : (same_result q p ≡ true) ⊎ (same_result q p ≡ false) → Contradicts (not (same_result q p))
      go (inr d) =
          let (h, mh, f, i) = final_from_lem n hs q eq in let (g, mg, enough, j) = is_fast_lem p ep in let t : beside_final n hs h g ≡ true = both_true (both_true f enough) (rw (i, j) (not_true_of _ d)) in
          rw d (sym (either_second _ _ (some_any (λ h. any (beside_final n hs h) hs) hs h mh (some_any (beside_final n hs h) hs g mg t))))
      go (inl s) = rw s (sym (either_false (finals_equal hs q a) (none_pair (beside_final n hs) hs pair)))
        where
          pair : (h g : Heard) → h ∈ hs → g ∈ hs → beside_final n hs h g ≡ false
          pair h g mh mg = at (cases (both h.is_final (is_fast n hs g.result)))
            where
              at : (both h.is_final (is_fast n hs g.result) ≡ true) ⊎ (both h.is_final (is_fast n hs g.result) ≡ false) → beside_final n hs h g ≡ false
              at (inr f) = not_first _ f
              at (inl t) =
                  let (k, mk, enough, j) = is_fast_lem p ep in
                  let e : h.result ≡ g.result = sym (final_is hs q a h mh (both_left _ _ t)) ∙ same_result_lem q p s ∙ sym j ∙ fast_one n hs k.result g.result good enough (both_right _ _ t) in
                  rw (e, result_same) (both_false _)

-- ---- "slow ABORT if any is ABORT; slow OK if f+1 are OK; slow RETRY with the greatest stamp if any; slow ABSTAIN"

-- of results by the rules, the greatest retry stamp is above 0 if one is RETRY
retried : (r : Result) → result_by_rule r ≡ true → eqb (result_code r) 4 ≡ ltb 0 (result_retry r)
unfolding result_by_rule is_stamp
retried OK h = refl
retried ABORT h = refl
retried ABSTAIN h = refl
retried (RETRY s) h = sym (both_left _ _ h)

greater : (a b : ℕ) → either (ltb 0 a) (ltb 0 b) ≡ ltb 0 (max a b)
unfolding either
greater a b = ⊎_elim (λ t. let l = ltb-true 0 a t in rw t (sym (lt-ltb 0 (max a b) (omega arith)))) (λ f. let l = ltb-false 0 a f in let e : b ≡ max a b = omega arith in rw f (ap (ltb 0) e)) (cases (ltb 0 a))

pub any_retried : (hs : List Heard) → any (λ h. not (result_by_rule h.result)) hs ≡ false → any (λ h. eqb (result_code h.result) 4) hs ≡ ltb 0 (greatest_retry hs)
unfolding any greatest_retry greatest
any_retried [] h = refl
any_retried (g ∷ hs) h = rw (retried g.result (not-false _ (either_left _ _ h)), any_retried hs (either_right _ _ h)) (greater (result_retry g.result) (greatest_retry hs))

module _ (n : ℕ) (hs : List Heard) (aborts : ℕ) (ea : aborts ≡ agreeing hs ABORT) where
  pub slow_abort : 0 < aborts → slow_result n hs ≡ ABORT
  unfolding slow_result agreeing
  slow_abort l = rw (any_counted (λ h. same_result ABORT h.result) hs, ← ea, lt-ltb 0 aborts l) refl

  module _ (nobody : aborts ≤ 0) (oks enough : ℕ) (eo : oks ≡ agreeing hs OK) (ee : enough ≡ quorum (f_of n)) where
    no_abort : any (λ h. same_result ABORT h.result) hs ≡ false
    unfolding agreeing
    no_abort = any_counted (λ h. same_result ABORT h.result) hs ∙ rw (← ea) (le-ltb 0 aborts nobody)

    pub slow_ok : enough ≤ oks → slow_result n hs ≡ OK
    unfolding slow_result
    slow_ok l = rw (no_abort, ← eo, ← ee, le-leb enough oks l) refl

    module _ (few : oks < enough) (good : bad_replies n hs ≡ false) (stamp : ℕ) (es : stamp ≡ greatest_retry hs) where
      pub slow_retry : 0 < stamp → slow_result n hs ≡ RETRY stamp
      unfolding slow_result
      slow_retry l = rw (no_abort, ← eo, ← ee, lt-leb enough oks few, any_retried hs (results_good n hs good), ← es, lt-ltb 0 stamp l) refl

      pub slow_abstain : stamp ≤ 0 → slow_result n hs ≡ ABSTAIN
      unfolding slow_result
      slow_abstain l = rw (no_abort, ← eo, ← ee, lt-leb enough oks few, any_retried hs (results_good n hs good), ← es, le-ltb 0 stamp l) refl

-- The ways a count goes, each with its circumstances as 01 has them, and its number: one of them applies, and no two give different numbers.
use mathlib.Core.Path.{◌≡◌, refl, sym, ap, ◌∙◌}
use mathlib.Core.Bool.{Bool, true, false, not, cond}
use mathlib.Core.Logic.{◌⊎◌, inl, inr, ⊎_elim}
use mathlib.Core.List.Memᴰ
use mathlib.Core.List.{List, [], ◌∷◌, ◌++◌}
use mathlib.Core.Option.{Option, none, some}
use Prim.Native.Nat.{ℕ, ◌*◌, ◌/◌, ◌≤◌, ◌<◌}
use native.Mathlib.Omega.{arith}
use lib.Dec.{eqb, ltb, leb}
use lib.ListN.{length}
use borrow.Author.Tests.{eqb-true, eqb-false, eq-eqb, ltb-false, leb-true, le-leb, not-true, not-false}
use Rattle.rules.specs.Tests.{both, either, any, every, twice, some_pair}
use Rattle.rules.specs.Groups.{is_group, f_of, quorum, fast_count}
use Rattle.rules.specs.Tables.{Result, same_result, result_by_rule}
use Rattle.rules.specs.Count.{Heard, unequal_views, bad_replies, agreeing, is_fast, unequal_final_heard, fast_beside_final, Counted, Counted.wait, Counted.refused, fast_of, final_heard, slow_result, slow_or, fast_or, decided, counted}
use Rattle.rules.specs.Inner.CountAnswers.{counted_number}
use Rattle.rules.proofs.Logic.{impossible, cases, same?, both_left, both_right, either_cases, either_left, either_right, either_first, either_second}
use Rattle.rules.proofs.Lists.{◌∈◌, places, any_none, any_some, some_any, every_one, all_every, pair_none}
use Rattle.rules.proofs.Same.{same_result_lem, result_same, not_other_result}
use Rattle.rules.proofs.Votes.{count_none}
use Rattle.replies.specs.declared.held.Reply.{Reply}
use Rattle.replies.specs.PlainReplies.{result_read, heard, all_heard}
use Rattle.count.specs.Inner.MeantAnswers.{contradicting}
use Rattle.count.specs.Calls.{count_of, replies_of, count_bytes}
use Rattle.replies.specs.Inner.Bad.{are_bad}
use Rattle.count.proofs.HeardBytes.{count_whole, count_broken}
use Rattle.replies.proofs.BadReplies.{coded, any_heard, twice_heard, bad_group_lem, good_facts}
use Rattle.count.proofs.Counts.{bad_refused, good_counted, contradicted, clear}

-- ---- what is lent

-- "Replies are lent as a list of small records", or laid end to end in bytes
pub data Lent : Type 0 where
  records : List Reply → Lent
  laid : List ℕ → Lent

-- whole replies: bytes are 15 for each
abbrev pub Whole : Lent → Type 0
Whole (records rs) = Unit {0}
Whole (laid s) = (k : ℕ) × (length s ≡ 15 * k)

-- the replies lent
abbrev pub lent_replies : Lent → List Reply
lent_replies (records rs) = rs
lent_replies (laid s) = replies_of (length s / 15) s

-- and what they say
abbrev pub lent_heard : Lent → List Heard
lent_heard lent = all_heard (lent_replies lent)

-- the count of them, as the two calls promise it
abbrev pub count_lent : ℕ → Lent → Counted
count_lent n (records rs) = count_of n rs
count_lent n (laid s) = count_bytes n s

-- whole replies that are not bad
abbrev pub GoodLent : ℕ → Lent → Type 0
GoodLent n lent = Whole lent × (are_bad n (lent_replies lent) ≡ false)

-- ---- the circumstances

-- "Bad n, a box outside the group or twice, unequal views or a bad result", and bytes that are no whole replies
pub data BadLent (n : ℕ) (lent : Lent) : Type 0 where
  -- the bytes are no whole replies: their number is no multiple of 15
  cut : (Whole lent → ⊥) → BadLent n lent
  -- "Bad n": none of 3, 5 and 7
  bad_group : is_group n ≡ false → BadLent n lent
  -- "a box outside the group"
  outside : (r : Reply) → r ∈ lent_replies lent → n ≤ r.boxnumber → BadLent n lent
  -- "or twice": two replies, at different places, are of one box
  again : (before : List Reply) (r : Reply) (between : List Reply) (q : Reply) (after : List Reply) → lent_replies lent ≡ before ++ (r ∷ (between ++ (q ∷ after))) → r.boxnumber ≡ q.boxnumber → BadLent n lent
  -- "unequal views"
  other_view : (r q : Reply) → r ∈ lent_replies lent → q ∈ lent_replies lent → (r.view ≡ q.view → ⊥) → BadLent n lent
  -- "or a bad result": its code is no result's, its retry stamp is against the rule, or final or not is neither 1 nor 0
  bad_result : (r : Reply) → r ∈ lent_replies lent → result_read r ≡ false → BadLent n lent

-- "Two unequal finals, or a fast count for a result other than a final one"
pub data Contradicting (n : ℕ) (lent : Lent) : Type 0 where
  -- "Two unequal finals"
  finals : (h g : Heard) → h ∈ lent_heard lent → g ∈ lent_heard lent → h.is_final ≡ true → g.is_final ≡ true → (h.result ≡ g.result → ⊥) → Contradicting n lent
  -- "a fast count for a result other than a final one"
  fast_against : (h : Heard) (r : Result) → h ∈ lent_heard lent → h.is_final ≡ true → fast_count (f_of n) ≤ agreeing (lent_heard lent) r → (h.result ≡ r → ⊥) → Contradicting n lent

pub data CountWay (n : ℕ) (lent : Lent) : ℕ → Type 0 where
  -- "Bad n, ..: 3"
  bad : BadLent n lent → CountWay n lent 3
  -- "Two unequal finals, ..: 6"
  against : (BadLent n lent → ⊥) → Contradicting n lent → CountWay n lent 6
  -- 0: "none below applies"
  done : (BadLent n lent → ⊥) → (Contradicting n lent → ⊥) → CountWay n lent 0

-- ---- one number twice, by the places where it stands

module _ {A : Type 0} (number : A → ℕ) where
  -- two elements, at different places, have one number
  abbrev Again : List A → Type 0
  Again xs = (before : List A) × (x : A) × (between : List A) × (y : A) × (after : List A) × (xs ≡ before ++ (x ∷ (between ++ (y ∷ after)))) × (number x ≡ number y)

  -- an element stands between what is before it and what is after it
  parted : (y : A) (xs : List A) → y ∈ xs → (before : List A) × (after : List A) × (xs ≡ before ++ (y ∷ after))
  parted y [] m = absurd (Memᴰ.not-nil m)
  parted y (x ∷ xs) m = go (Memᴰ.cases_cons m) (parted y xs)
    where
      go : (y ≡ x) ⊎ (y ∈ xs) → (y ∈ xs → (before : List A) × (after : List A) × (xs ≡ before ++ (y ∷ after))) → (before : List A) × (after : List A) × ((x ∷ xs) ≡ before ++ (y ∷ after))
      go (inl e) below = ([], xs, ap (λ z. z ∷ xs) (sym e))
      go (inr i) below = let (before, after, e) = below i in (x ∷ before, after, ap (λ zs. x ∷ zs) e)

  -- a number that stands twice is theirs
  twice_again : (xs : List A) → twice number xs ≡ true → Again xs
  unfolding twice
  twice_again [] t = impossible t refl
  twice_again (x ∷ xs) t = go (either_cases _ _ t) (twice_again xs)
    where
      go : (any (λ y. eqb (number y) (number x)) xs ≡ true) ⊎ (twice number xs ≡ true) → (twice number xs ≡ true → Again xs) → Again (x ∷ xs)
      go (inl a) below =
          let (y, m, e) = any_some (λ y. eqb (number y) (number x)) xs a in let (between, after, k) = parted y xs m in ([], x, between, y, after, ap (λ zs. x ∷ zs) k, sym (eqb-true _ _ e))
      go (inr u) below = let (before, z, between, y, after, k, e) = below u in (x ∷ before, z, between, y, after, ap (λ zs. x ∷ zs) k, e)

  -- and the other way round
  again_twice : (before : List A) (x : A) (between : List A) (y : A) (after : List A) → number x ≡ number y → twice number (before ++ (x ∷ (between ++ (y ∷ after)))) ≡ true
  unfolding twice
  again_twice [] x between y after e = either_first _ _ (some_any _ (between ++ (y ∷ after)) y (Memᴰ.append_right between (Memᴰ.head refl)) (eq-eqb _ _ (sym e)))
  again_twice (z ∷ before) x between y after e = either_second _ _ (again_twice before x between y after e)

-- ---- whole, or not

-- whole replies are counted
pub whole_lent : (n : ℕ) (lent : Lent) → Whole lent → count_lent n lent ≡ count_of n (lent_replies lent)
whole_lent n (records rs) w = refl
whole_lent n (laid s) (k, e) = count_whole n s (omega arith)

-- and other bytes are refused
whole_or_cut : (n : ℕ) (lent : Lent) → Whole lent ⊎ ((Whole lent → ⊥) × (count_lent n lent ≡ refused 3))
whole_or_cut n (records rs) = inl tt
whole_or_cut n (laid s) = go (same? (length s) (15 * (length s / 15)))
  where
    unequal : (k : ℕ) → length s ≡ 15 * k → (length s ≡ 15 * (length s / 15) → ⊥) → ⊥
    unequal k e f = f (omega arith)

    go : (length s ≡ 15 * (length s / 15)) ⊎ (eqb (length s) (15 * (length s / 15)) ≡ false) → Whole (laid s) ⊎ ((Whole (laid s) → ⊥) × (count_bytes n s ≡ refused 3))
    go (inl e) = inl (length s / 15, e)
    go (inr e) = let f = eqb-false _ _ e in inr ((λ w. unequal w.0 w.1 f), count_broken n s f)

-- ---- 3

-- one of two tests, whichever it is
whichever : {A : Type 0} (a b : Bool) → either a b ≡ true → (a ≡ true → A) → (b ≡ true → A) → A
unfolding either
whichever true b h f g = f refl
whichever false b h f g = g h

module _ (n : ℕ) (lent : Lent) where
  -- what passes a test among all that is heard is a reply's
  said : (test : Heard → Bool) → any test (lent_heard lent) ≡ true → (r : Reply) × (r ∈ lent_replies lent) × (test (heard r) ≡ true)
  said test a = any_some (λ r. test (heard r)) (lent_replies lent) (sym (any_heard test (lent_replies lent)) ∙ a)

  -- bad replies are bad by one of the circumstances
  bad_found : are_bad n (lent_replies lent) ≡ true → BadLent n lent
  unfolding are_bad bad_replies unequal_views some_pair
  bad_found b =
      whichever _ _ b unread
      (λ c. whichever _ _ c (λ t. bad_group (not-true _ t))
      (λ d. whichever _ _ d beyond (λ e. whichever _ _ e boxes (λ f. whichever _ _ f views unruly))))
    where
      unread : not (every result_read (lent_replies lent)) ≡ true → BadLent n lent
      unread t = ⊎_elim (λ a. let (r, m, f) = any_some (λ r. not (result_read r)) (lent_replies lent) a in bad_result r m (not-true _ f)) (λ a. impossible (all_every result_read (lent_replies lent) (λ r m. not-false _ (any_none (λ q. not (result_read q)) (lent_replies lent) a r m))) (not-true _ t)) (cases (any (λ r. not (result_read r)) (lent_replies lent)))

      beyond : any (λ h. not (ltb h.box n)) (lent_heard lent) ≡ true → BadLent n lent
      beyond t = let (r, m, f) = said (λ h. not (ltb h.box n)) t in outside r m (ltb-false _ _ (not-true _ f))

      boxes : twice (λ h. h.box) (lent_heard lent) ≡ true → BadLent n lent
      boxes t =
          let (before, r, between, q, after, k, e) = twice_again (λ r. r.boxnumber) (lent_replies lent) (sym (twice_heard (lent_replies lent)) ∙ t) in again before r between q after k e

      views : any (λ h. any (λ g. not (eqb h.view g.view)) (lent_heard lent)) (lent_heard lent) ≡ true → BadLent n lent
      views t =
          let (r, m, u) = said (λ h. any (λ g. not (eqb h.view g.view)) (lent_heard lent)) t in let (q, i, f) = said (λ g. not (eqb r.view g.view)) u in
          other_view r q m i (eqb-false _ _ (not-true _ f))

      unruly : any (λ h. not (result_by_rule h.result)) (lent_heard lent) ≡ true → BadLent n lent
      unruly t = let (r, m, f) = said (λ h. not (result_by_rule h.result)) t in go r m (not-true _ f) (cases (result_read r))
        where
          go : (r : Reply) → r ∈ lent_replies lent → result_by_rule (heard r).result ≡ false → (result_read r ≡ true) ⊎ (result_read r ≡ false) → BadLent n lent
          go r m f (inl c) = impossible (coded r c).by_rule f
          go r m f (inr c) = bad_result r m c

  -- and replies that are not bad by none
  pub good_none : GoodLent n lent → BadLent n lent → ⊥
  good_none (w, e) (cut c) = c w
  good_none (w, e) (bad_group g) = impossible (bad_group_lem n (lent_replies lent) g) e
  good_none (w, e) (outside r m l) = let k = (good_facts n (lent_replies lent) e).below r m in omega arith
  good_none (w, e) (again before r between q after k b) =
      impossible (ap (twice (λ (r : Reply). r.boxnumber)) k ∙ again_twice (λ (r : Reply). r.boxnumber) before r between q after b)
      (good_facts n (lent_replies lent) e).apart
  good_none (w, e) (other_view r q m i d) = d ((good_facts n (lent_replies lent) e).one_view r q m i)
  good_none (w, e) (bad_result r m f) = impossible (every_one result_read (lent_replies lent) (good_facts n (lent_replies lent) e).read r m) f

  -- 3, or not
  pub bad_or_good : (BadLent n lent × (count_lent n lent ≡ refused 3)) ⊎ GoodLent n lent
  bad_or_good = go (whole_or_cut n lent) (cases (are_bad n (lent_replies lent)))
    where
      go : Whole lent ⊎ ((Whole lent → ⊥) × (count_lent n lent ≡ refused 3)) → (are_bad n (lent_replies lent) ≡ true) ⊎ (are_bad n (lent_replies lent) ≡ false) → (BadLent n lent × (count_lent n lent ≡ refused 3)) ⊎ GoodLent n lent
      go (inr (c, e)) b = inl (cut c, e)
      go (inl w) (inl b) = inl (bad_found b, whole_lent n lent w ∙ bad_refused n (lent_replies lent) b)
      go (inl w) (inr b) = inr (w, b)

  -- what is not bad is counted by `rules`
  pub good_lent : GoodLent n lent → count_lent n lent ≡ counted n (lent_heard lent)
  good_lent (w, e) = whole_lent n lent w ∙ good_counted n (lent_replies lent) e

-- ---- 6

-- results that the test tells apart are not equal
other_result : (r q : Result) → not (same_result r q) ≡ true → r ≡ q → ⊥
other_result r q h e = impossible (ap (same_result r) (sym e) ∙ result_same r) (not-true _ h)

-- a result that boxes agree on is one box's
agreed_by_lem : (hs : List Heard) (r : Result) → 0 < agreeing hs r → (g : Heard) × (g ∈ hs) × (r ≡ g.result)
unfolding agreeing
agreed_by_lem hs r l = ⊎_elim (λ a. let (g, m, e) = any_some (λ h. same_result r h.result) hs a in (g, m, same_result_lem r g.result e)) (λ a. let z = count_none (λ h. same_result r h.result) hs a in absurd (omega arith)) (cases (any (λ h. same_result r h.result) hs))

module _ (n : ℕ) (lent : Lent) where
  -- replies contradict each other by one of the two circumstances
  against_found : contradicting n (lent_heard lent) ≡ true → Contradicting n lent
  unfolding unequal_final_heard fast_beside_final is_fast some_pair
  against_found c = whichever _ _ c two one
    where
      two : any (λ h. any (λ g. both (both h.is_final g.is_final) (not (same_result h.result g.result))) (lent_heard lent)) (lent_heard lent) ≡ true → Contradicting n lent
      two t =
          let (h, m, u) = any_some _ (lent_heard lent) t in let (g, i, v) = any_some _ (lent_heard lent) u in
          finals h g m i (both_left _ _ (both_left _ _ v)) (both_right _ _ (both_left _ _ v)) (other_result _ _ (both_right _ _ v))

      one : any (λ h. any (λ g. both (both h.is_final (leb (fast_count (f_of n)) (agreeing (lent_heard lent) g.result))) (not (same_result h.result g.result))) (lent_heard lent)) (lent_heard lent) ≡ true → Contradicting n lent
      one t =
          let (h, m, u) = any_some _ (lent_heard lent) t in let (g, i, v) = any_some _ (lent_heard lent) u in
          fast_against h g.result m (both_left _ _ (both_left _ _ v)) (leb-true _ _ (both_right _ _ (both_left _ _ v))) (other_result _ _ (both_right _ _ v))

  -- and else by none
  clear_none : contradicting n (lent_heard lent) ≡ false → Contradicting n lent → ⊥
  unfolding unequal_final_heard fast_beside_final is_fast both
  clear_none c (finals h g m i p q d) = d (not_other_result _ _ (rw (p, q) at (pair_none _ (lent_heard lent) (either_left _ _ c) h g m i)))
  clear_none c (fast_against h r m p l d) =
      let (g, i, e) = agreed_by_lem (lent_heard lent) r (omega arith) in d (not_other_result _ _ (rw (p, ← e, le-leb _ _ l) at (pair_none _ (lent_heard lent) (either_right _ _ c) h g m i)))

-- ---- 0

-- an answer that is no refusal has the number 0
decided_number : (n : ℕ) (hs : List Heard) → counted_number (decided n hs) ≡ 0
unfolding decided
decided_number n hs = go (fast_of n hs) (ltb (length hs) (quorum (f_of n))) (final_heard hs)
  where
    go : (a : Option Result) (b : Bool) (o : Option Result) → counted_number (fast_or a (cond b wait (slow_or o (slow_result n hs)))) ≡ 0
    go (some r) b o = refl
    go none true o = refl
    go none false (some r) = refl
    go none false none = refl

module _ (n : ℕ) (lent : Lent) where
  -- replies that are not bad, with a contradiction
  against_number : GoodLent n lent → contradicting n (lent_heard lent) ≡ true → counted_number (count_lent n lent) ≡ 6
  against_number (w, e) c = rw (whole_lent n lent w, contradicted n (lent_replies lent) e c)

  -- and without one
  clear_number : GoodLent n lent → contradicting n (lent_heard lent) ≡ false → counted_number (count_lent n lent) ≡ 0
  clear_number (w, e) c = rw (whole_lent n lent w, clear n (lent_replies lent) e c, decided_number)

  -- ---- one of the ways applies

  pub count_way : CountWay n lent (counted_number (count_lent n lent))
  count_way = go (bad_or_good n lent) (cases (contradicting n (lent_heard lent)))
    where
      go : (BadLent n lent × (count_lent n lent ≡ refused 3)) ⊎ GoodLent n lent → (contradicting n (lent_heard lent) ≡ true) ⊎ (contradicting n (lent_heard lent) ≡ false) → CountWay n lent (counted_number (count_lent n lent))
      go (inl (b, e)) c = rw e (bad b)
      go (inr g) (inl c) = rw (against_number g c) (against (good_none n lent g) (against_found n lent c))
      go (inr g) (inr c) = rw (clear_number g c) (done (good_none n lent g) (clear_none n lent c))

  -- ---- and a way that applies is the call's: its number is given where its circumstances are

  pub way_exactly : {k : ℕ} → CountWay n lent k → counted_number (count_lent n lent) ≡ k
  way_exactly w = go (bad_or_good n lent) (cases (contradicting n (lent_heard lent))) w
    where
      go : {k : ℕ} → (BadLent n lent × (count_lent n lent ≡ refused 3)) ⊎ GoodLent n lent → (contradicting n (lent_heard lent) ≡ true) ⊎ (contradicting n (lent_heard lent) ≡ false) → CountWay n lent k → counted_number (count_lent n lent) ≡ k
      go (inl (b, e)) c (bad d) = rw e
      go (inl (b, e)) c (against f d) = absurd (f b)
      go (inl (b, e)) c (done f d) = absurd (f b)
      go (inr g) c (bad b) = absurd (good_none n lent g b)
      go (inr g) (inl c) (against f d) = against_number g c
      go (inr g) (inl c) (done f d) = absurd (d (against_found n lent c))
      go (inr g) (inr c) (against f d) = absurd (clear_none n lent c d)
      go (inr g) (inr c) (done f d) = clear_number g c

  -- a number is given exactly in its circumstances, for every number at once
  pub count_way_exactly : (k : ℕ) → (counted_number (count_lent n lent) ≡ k → CountWay n lent k) × (CountWay n lent k → counted_number (count_lent n lent) ≡ k)
  count_way_exactly k = (λ e. rw e at count_way, way_exactly)

  -- and no other number is given: 0, 3 or 6
  pub count_numbers : counted_number (count_lent n lent) ∈ (0 ∷ 3 ∷ 6 ∷ [])
  count_numbers = go count_way
    where
      go : {k : ℕ} → CountWay n lent k → k ∈ (0 ∷ 3 ∷ 6 ∷ [])
      go (bad b) = search places depth 11
      go (against f c) = search places depth 11
      go (done f c) = search places depth 11

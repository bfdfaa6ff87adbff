-- What is answered by a tally is the count of the replies that it was kept of.
use mathlib.Core.Path.{◌≡◌, refl, sym, ap, subst, ◌∙◌}
use mathlib.Core.Bool.{Bool, true, false, not, cond}
use mathlib.Core.Logic.{◌⊎◌, inl, inr, ⊎_elim}
use mathlib.Core.List.Memᴰ
use mathlib.Core.List.{List, [], ◌∷◌}
use mathlib.Core.Option.{Option, none, some}
use Prim.Native.Nat.{ℕ, ◌+◌, ◌*◌, ◌/◌, ◌%◌, ◌^◌, ◌<◌, ◌≤◌, max}
use native.Mathlib.Omega.{arith}
use Rattle.std.specs.Prelude as code
use lib.Dec.{eqb, ltb, leb}
use lib.ListN.{length, length-map}
use borrow.Author.Tests.{eqb-true, eqb-false, eq-eqb, ne_eqb, ltb-true, ltb-false, lt-ltb, leb-true, leb-false, le-leb, lt-leb, not-true}
use Rattle.rules.specs.Tests.{both, either, bit, any, every, count, those, kept, greatest, some_pair, twice, provided, first_of}
use Rattle.rules.specs.Groups.{is_group, f_of, quorum, fast_count}
use Rattle.rules.specs.Stamps.{is_stamp}
use Rattle.rules.specs.Tables.{Result, Result.OK, Result.ABORT, Result.ABSTAIN, Result.RETRY, result_code, result_retry, same_result, result_by_rule}
use Rattle.rules.specs.Count.{Heard, agreeing, is_fast, unequal_final_heard, fast_beside_final, Counted.wait, fast_of, final_heard, greatest_retry, slow_result, decided}
use Rattle.rules.proofs.Logic.{impossible, cases, same?, both_left, both_right, both_true, both_comm, eqb_sym, not_true_of}
use Rattle.rules.proofs.Lists.{◌∈◌, any_some, some_any, none_any, any_none, every_one, all_every, those_of, in_those, greatest_above, greatest_below, provided_some, none_first, first_is}
use Rattle.rules.proofs.Same.{same_result_lem, result_same}
use Rattle.rules.proofs.Groups.{group_of}
use Rattle.rules.proofs.Count.{final_from_lem}
use Rattle.rules.proofs.Votes.{count_all, different_below, fast_one}
use Rattle.replies.specs.declared.held.Reply.{Reply}
use Rattle.replies.specs.PlainReplies.{result_read, heard, all_heard}
use Rattle.rows.specs.Fields.{result_numbered}
use Rattle.replies.specs.Inner.Bad.{are_bad}
use Rattle.replies.specs.Inner.Tallies.{packed, packed_by, in_range}
use Rattle.replies.specs.Inner.Tallies.{no_tally, with_replies}
use Rattle.replies.specs.declared.tally.Tally.{Tally}
use Rattle.replies.proofs.Counted.{any_counted, parted_length, count_most}
use Rattle.replies.proofs.Boxes.{seen_of, seen_below, seen_above}
use Rattle.replies.proofs.BadReplies.{coded, any_heard, Good, good_facts, good_by, bad_group_lem, bad_unless}
use Rattle.replies.proofs.Told.{range_of, others_of, Said, like_it, unlike_it, is_last, tally_of, Fine, Told, Told.nothing, Told.bad, Told.fine, few_told}
use Rattle.count.specs.declared.answer.Counted.TheVariants.{Wait}
use Rattle.count.specs.Calls.{count_of}
use Rattle.count.specs.Answers.{answer_as}
use Rattle.count.specs.Inner.MeantAnswers.{contradicting}
use Rattle.count.specs.Inner.TallyAnswers.{is_bad, fast_packed, unless_zero, fast_by, contradicts_by, how_many, slow_by, decided_by, answered}
use Rattle.count.proofs.Counts.{bad_refused, contradicted, clear}
use Rattle.count.proofs.Decisions.{other_final, final_is, no_final, contradicts_none, contradicts_other, contradicts_slow, contradicts_fast, slow_abort, slow_ok, slow_retry, slow_abstain}
use Rattle.count.proofs.CountCall.{count-any_order}

-- ---- a result as one number

abbrev packed_of : Result → ℕ
packed_of q = 8 * result_retry q + result_code q

abbrev packed_as : Option Result → code.Option ℕ
packed_as none = code.None
packed_as (some q) = code.Some (packed_of q)

code_fits : (q : Result) → (0 < result_code q) × (result_code q < 8)
code_fits OK = (omega arith, omega arith)
code_fits ABORT = (omega arith, omega arith)
code_fits ABSTAIN = (omega arith, omega arith)
code_fits (RETRY s) = (omega arith, omega arith)

retry_fits : (q : Result) → result_by_rule q ≡ true → result_retry q < 2305843009213693952
unfolding result_by_rule is_stamp
retry_fits OK h = omega arith
retry_fits ABORT h = omega arith
retry_fits ABSTAIN h = omega arith
retry_fits (RETRY s) h = let l : s < 281474976710656 = ltb-true _ _ (both_right _ _ h) in omega arith

-- it is taken apart again
unpacked : (q : Result) → (packed_of q % 8 ≡ result_code q) × (packed_of q / 8 ≡ result_retry q)
unpacked q = let (p, l) = code_fits q in (omega arith, omega arith)

abbrev packed_or_0 : Option Result → ℕ
packed_or_0 none = 0
packed_or_0 (some q) = packed_of q

unless_told : (o : Option Result) → unless_zero (packed_or_0 o) ≡ packed_as o
unless_told none = refl
unless_told (some q) = let above : packed_of q ≡ 0 → ⊥ = (λ e. let (p, l) = code_fits q in omega arith) in rw (ne_eqb _ _ above) refl

packed_same : (r q : Result) → packed_of r ≡ packed_of q → r ≡ q
unfolding same_result
packed_same r q e =
    let (a, l) = code_fits r in let (b, m) = code_fits q in let c : result_code r ≡ result_code q = omega arith in let d : result_retry r ≡ result_retry q = omega arith in
    same_result_lem r q (both_true (eq-eqb _ _ c) (eq-eqb _ _ d))

packed_heard : (r : Reply) → result_read r ≡ true → packed_by r ≡ packed_of (heard r).result
packed_heard r h = let c = coded r h in let code = c.same_code in let retry = c.same_retry in let l = (code_fits (heard r).result).1 in let m = retry_fits (heard r).result c.by_rule in omega arith

-- ---- the least and the greatest

in_range_lem : (rs : List Reply) (r : Reply) → r ∈ rs → ((range_of rs).least ≤ packed_by r) × (packed_by r ≤ (range_of rs).greatest)
unfolding range_of
in_range_lem [] r m = absurd (Memᴰ.not-nil m)
in_range_lem (q ∷ rs) r m = go (Memᴰ.cases_cons m) (in_range_lem rs r)
  where
    go : (r ≡ q) ⊎ (r ∈ rs) → (r ∈ rs → ((range_of rs).least ≤ packed_by r) × (packed_by r ≤ (range_of rs).greatest)) → ((range_of (q ∷ rs)).least ≤ packed_by r) × (packed_by r ≤ (range_of (q ∷ rs)).greatest)
    go (inl e) below = rw e (omega arith, omega arith)
    go (inr i) below = let (a, b) = below i in (omega arith, omega arith)

-- all the same: they are equal
range_one : (p : ℕ) (rs : List Reply) → p < 2 ^ 64 → ((r : Reply) → r ∈ rs → packed_by r ≡ p) → (p ≤ (range_of rs).least) × ((range_of rs).greatest ≤ p)
unfolding range_of
range_one p [] l k = (omega arith, omega arith)
range_one p (q ∷ rs) l k = let (a, b) = range_one p rs l (λ r m. k r (Memᴰ.tail m)) in let e = k q (Memᴰ.head refl) in (omega arith, omega arith)

range_equal : (p : ℕ) (rs : List Reply) (r : Reply) → r ∈ rs → ((q : Reply) → q ∈ rs → packed_by q ≡ p) → (range_of rs).least ≡ (range_of rs).greatest
range_equal p rs r m k = let e = k r m in let (a, b) = range_one p rs (omega arith) k in let (c, d) = in_range_lem rs r m in omega arith

-- and the greatest stamp of RETRY is the greatest number's
range_retry : (rs : List Reply) → every result_read rs ≡ true → (range_of rs).greatest / 8 ≡ greatest (λ r. r.retry) rs
unfolding range_of greatest every
range_retry [] h = refl
range_retry (r ∷ rs) h =
    let e = range_retry rs (both_right _ _ h) in let c = coded r (both_left _ _ h) in let code = c.same_code in let retry = c.same_retry in let l = (code_fits (heard r).result).1 in
    let m = retry_fits (heard r).result c.by_rule in omega arith

-- ---- counts

module _ {A : Type 0} where
  count_alike : (p q : A → Bool) (xs : List A) → ((x : A) → x ∈ xs → p x ≡ q x) → count p xs ≡ count q xs
  unfolding count
  count_alike p q [] k = refl
  count_alike p q (x ∷ xs) k = rw (k x (Memᴰ.head refl), count_alike p q xs (λ y m. k y (Memᴰ.tail m)))

  count-those : (p test : A → Bool) → ((x : A) → p x ≡ true → test x ≡ true) → (xs : List A) → count p (those test xs) ≡ count p xs
  unfolding count those
  count-those p test k [] = refl
  count-those p test k (x ∷ xs) = go (test x) refl (p x) refl (count-those p test k xs)
    where
      go : (t : Bool) → test x ≡ t → (b : Bool) → p x ≡ b → count p (those test xs) ≡ count p xs → count p (kept t x (those test xs)) ≡ bit b + count p xs
      go true e b f h = rw (f, h)
      go false e true f h = impossible (k x f) e
      go false e false f h = omega arith

  -- as many as there are: all pass
  count_full : (p : A → Bool) (xs : List A) → count p xs ≡ length xs → (x : A) → x ∈ xs → p x ≡ true
  count_full p xs e x m = ⊎_elim (λ t. t) (λ f. let l = parted_length p xs in absurd (not_in (those (λ y. not (p y)) xs) (omega arith) (in_those (λ y. not (p y)) xs x m (not_true_of _ f)))) (cases (p x))
    where
      not_in : (ys : List A) → length ys ≡ 0 → x ∈ ys → ⊥
      not_in [] z i = Memᴰ.not-nil i
      not_in (y ∷ ys) z i = omega arith

count_heard : (test : Heard → Bool) (rs : List Reply) → count test (all_heard rs) ≡ count (λ r. test (heard r)) rs
unfolding count
count_heard test [] = refl
count_heard test (r ∷ rs) = ap (λ (k : ℕ). bit (test (heard r)) + k) (count_heard test rs)

greatest_heard : (rs : List Reply) → every result_read rs ≡ true → greatest (λ h. result_retry h.result) (all_heard rs) ≡ greatest (λ r. r.retry) rs
unfolding greatest every
greatest_heard [] h = refl
greatest_heard (r ∷ rs) h = rw ((coded r (both_left _ _ h)).same_retry, greatest_heard rs (both_right _ _ h))

-- what others with a result of their own are
others_told : (ds : List Reply) → length ds ≤ 7 → ((others_of ds).number ≡ length ds) × ((others_of ds).oks ≡ count (λ r. eqb r.result 1) ds) × ((others_of ds).aborts ≡ count (λ r. eqb r.result 2) ds) × ((others_of ds).results ≡ range_of ds)
unfolding others_of range_of count
others_told [] l = (refl, refl, refl, refl)
others_told (r ∷ ds) l =
    let (a, b, c, d) = others_told ds (omega arith) in let m = count_most (λ q. eqb q.result 1) ds in let k = count_most (λ q. eqb q.result 2) ds in
    (omega arith, more (eqb r.result 1) _ _ b (omega arith), more (eqb r.result 2) _ _ c (omega arith), ap (λ z. in_range z (packed_by r)) d)
  where
    more : (t : Bool) (x y : ℕ) → x ≡ y → y ≤ 7 → cond t (x % 256 + 1) x ≡ bit t + y
    more true x y e l = omega arith
    more false x y e l = omega arith

-- ---- replies that are not bad

fast_most : (n : ℕ) → is_group n ≡ true → (0 < fast_count (f_of n)) × (n ≤ fast_count (f_of n) + 1)
fast_most n h = go (group_of n h)
  where
    go : (n ≡ 3) ⊎ ((n ≡ 5) ⊎ (n ≡ 7)) → (0 < fast_count (f_of n)) × (n ≤ fast_count (f_of n) + 1)
    go (inl e) = (omega arith, omega arith)
    go (inr (inl e)) = (omega arith, omega arith)
    go (inr (inr e)) = (omega arith, omega arith)

-- two results are the same if their numbers are
same_packed : (r q : Result) → eqb (packed_of r) (packed_of q) ≡ same_result r q
same_packed r q = go (cases (same_result r q)) (same? (packed_of r) (packed_of q))
  where
    go : (same_result r q ≡ true) ⊎ (same_result r q ≡ false) → (packed_of r ≡ packed_of q) ⊎ (eqb (packed_of r) (packed_of q) ≡ false) → eqb (packed_of r) (packed_of q) ≡ same_result r q
    go (inl t) x = rw t (eq-eqb _ _ (ap packed_of (same_result_lem r q t)))
    go (inr f) (inr d) = rw (f, d) refl
    go (inr f) (inl e) = impossible (rw (packed_same r q e) (result_same q)) f

-- OK and ABORT are told by their code
ok_code : (q : Result) → same_result OK q ≡ eqb (result_code q) 1
unfolding same_result both
ok_code OK = refl
ok_code ABORT = refl
ok_code ABSTAIN = refl
ok_code (RETRY s) = refl

abort_code : (q : Result) → same_result ABORT q ≡ eqb (result_code q) 2
unfolding same_result both
abort_code OK = refl
abort_code ABORT = refl
abort_code ABSTAIN = refl
abort_code (RETRY s) = refl

power_fits : (n : ℕ) → is_group n ≡ true → 2 ^ n ≤ 255
power_fits n h = go (group_of n h)
  where
    go : (n ≡ 3) ⊎ ((n ≡ 5) ⊎ (n ≡ 7)) → 2 ^ n ≤ 255
    go (inl e) = rw e (omega arith)
    go (inr (inl e)) = rw e (omega arith)
    go (inr (inr e)) = rw e (omega arith)

slow_final : (n : ℕ) (t : Tally) → (t.finals.greatest ≡ 0 → ⊥) → slow_by n t ≡ t.finals.greatest
unfolding slow_by
slow_final n t d = rw (ne_eqb _ _ d) refl

module _ (n v : ℕ) (s : Said) (rs : List Reply) (k : Fine v s rs) (good : are_bad n rs ≡ false) where
  abbrev hs : List Heard
  hs = all_heard rs

  abbrev ds : List Reply
  ds = those (unlike_it s) rs

  abbrev ls : List Reply
  ls = those is_last rs

  abbrev f : Result
  f = result_numbered s.code s.retry

  facts : Good n rs
  facts = good_facts n rs good

  read : (r : Reply) → r ∈ rs → result_read r ≡ true
  read = every_one result_read rs k.read

  -- the result that all are held against
  like_is : (r : Reply) → like_it s r ≡ true → (r.result ≡ s.code) × (r.retry ≡ s.retry)
  like_is r l = (eqb-true _ _ (both_right _ _ l), eqb-true _ _ (both_left _ _ l))

  like_result : (r : Reply) → like_it s r ≡ true → (heard r).result ≡ f
  like_result r l = let (a, b) = like_is r l in rw (a, b) refl

  like_heard : (r : Reply) → r ∈ rs → like_it s r ≡ same_result f (heard r).result
  unfolding same_result
  like_heard r m =
      let (q, i, l) = k.one in let (a, b) = like_is q l in let c = coded q (read q i) in let d = coded r (read r m) in
      let e : result_code f ≡ s.code = sym (ap result_code (like_result q l)) ∙ c.same_code ∙ a in let g : result_retry f ≡ s.retry = sym (ap result_retry (like_result q l)) ∙ c.same_retry ∙ b in
      rw (e, g, d.same_code, d.same_retry, both_comm (eqb s.code r.result), eqb_sym s.code, eqb_sym s.retry) refl

  first_packed : packed s.code s.retry ≡ packed_of f
  first_packed = let (q, i, l) = k.one in let (a, b) = like_is q l in rw (← a, ← b) (packed_heard q (read q i))

  agree_first : agreeing hs f ≡ count (like_it s) rs
  unfolding agreeing
  agree_first = count_heard (λ h. same_result f h.result) rs ∙ sym (count_alike (like_it s) (λ r. same_result f (heard r).result) rs like_heard)

  agreeing_is : (q : Result) → agreeing hs q ≡ count (λ r. same_result q (heard r).result) rs
  unfolding agreeing
  agreeing_is q = count_heard (λ h. same_result q h.result) rs

  some_agree : 0 < count (like_it s) rs
  some_agree = let (q, i, l) = k.one in ltb-true _ _ (sym (any_counted (like_it s) rs) ∙ some_any (like_it s) rs q i l)

  all_parted : count (like_it s) rs + length ds ≡ length rs
  all_parted = parted_length (like_it s) rs

  number_fits : length rs ≤ n
  number_fits = different_below (λ r. r.boxnumber) n rs facts.apart facts.below

  others : ((others_of ds).number ≡ length ds) × ((others_of ds).oks ≡ count (λ r. eqb r.result 1) ds) × ((others_of ds).aborts ≡ count (λ r. eqb r.result 2) ds) × ((others_of ds).results ≡ range_of ds)
  others = let l = facts.at_most in let e = all_parted in others_told ds (omega arith)

  -- ---- "fast with r if the fast count of boxes agree on r"

  fast_found : (r : Reply) → r ∈ rs → fast_count (f_of n) ≤ agreeing hs (heard r).result → fast_of n hs ≡ some (heard r).result
  unfolding fast_of is_fast
  fast_found r m l =
      first_is (λ h. provided (is_fast n hs h.result) h.result) hs (heard r) (heard r).result (Memᴰ.map heard m) (rw (le-leb _ _ l) refl)
      (λ h q i e. let (b, j) = provided_some (is_fast n hs h.result) h.result q e in sym j ∙ fast_one n hs h.result (heard r).result facts.not_bad b (le-leb _ _ l))

  fast_missing : ((r : Reply) → r ∈ rs → agreeing hs (heard r).result < fast_count (f_of n)) → fast_of n hs ≡ none
  unfolding fast_of is_fast
  fast_missing few =
      let a : any (λ h. is_fast n hs h.result) hs ≡ false = any_heard (λ h. is_fast n hs h.result) rs ∙ none_any (λ r. is_fast n hs (heard r).result) rs (λ r m. lt-leb _ _ (few r m)) in
      none_first (λ h. provided (is_fast n hs h.result) h.result) hs (λ h m. rw (any_none (λ h. is_fast n hs h.result) hs a h m) refl)

  -- whoever has another result than the first reply's differs from it
  differs : (r : Reply) → r ∈ rs → like_it s r ≡ false → (x : Reply) → same_result (heard r).result (heard x).result ≡ true → unlike_it s x ≡ true
  differs r m d x t = ⊎_elim (λ h. impossible (like_heard r m ∙ rw (same_result_lem (heard r).result (heard x).result t ∙ like_result x h) (result_same f)) d) (λ h. not_true_of _ h) (cases (like_it s x))

  -- a fast result that is not the first reply's is that of all others
  others_fast : (r : Reply) → r ∈ rs → like_it s r ≡ false → fast_count (f_of n) ≤ agreeing hs (heard r).result → ((range_of ds).least ≡ (range_of ds).greatest) × (fast_count (f_of n) ≤ length ds)
  unfolding agreeing
  others_fast r m d l =
      let q : Result = (heard r).result in let a = count_heard (λ h. same_result q h.result) rs in let b = count-those (λ x. same_result q (heard x).result) (unlike_it s) (differs r m d) rs in
      let c = count_most (λ x. same_result q (heard x).result) ds in let e = all_parted in let p = some_agree in let z = number_fits in let w = (fast_most n facts.group).1 in
      let full : count (λ x. same_result q (heard x).result) ds ≡ length ds = omega arith in (
        range_equal (packed_of q) ds r (in_those (unlike_it s) rs r m (not_true_of _ d))
            (λ x i. packed_heard x (read x (those_of (unlike_it s) rs x i).0) ∙ ap packed_of (sym (same_result_lem q (heard x).result (count_full (λ x. same_result q (heard x).result) ds full x i)))),
        omega arith,
      )

  fast_packed_told : fast_packed n (tally_of v s rs) ≡ packed_or_0 (fast_of n hs)
  unfolding fast_packed
  fast_packed_told = go (cases (leb (fast_count (f_of n)) (count (like_it s) rs))) (same? (range_of ds).least (range_of ds).greatest) (cases (leb (fast_count (f_of n)) (length ds)))
    where
      few : count (like_it s) rs < fast_count (f_of n) → ((r : Reply) → r ∈ rs → like_it s r ≡ false → agreeing hs (heard r).result < fast_count (f_of n)) → fast_of n hs ≡ none
      few l d = fast_missing (λ r m. at r m (cases (like_it s r)))
        where
          at : (r : Reply) → r ∈ rs → (like_it s r ≡ true) ⊎ (like_it s r ≡ false) → agreeing hs (heard r).result < fast_count (f_of n)
          at r m (inl t) = rw (like_result r t, agree_first) l
          at r m (inr t) = d r m t

      less : (r : Reply) → r ∈ rs → like_it s r ≡ false → (((range_of ds).least ≡ (range_of ds).greatest) × (fast_count (f_of n) ≤ length ds) → ⊥) → agreeing hs (heard r).result < fast_count (f_of n)
      less r m t never = at (cases (leb (fast_count (f_of n)) (agreeing hs (heard r).result)))
        where
          at : (leb (fast_count (f_of n)) (agreeing hs (heard r).result) ≡ true) ⊎ (leb (fast_count (f_of n)) (agreeing hs (heard r).result) ≡ false) → agreeing hs (heard r).result < fast_count (f_of n)
          at (inl y) = absurd (never (others_fast r m t (leb-true _ _ y)))
          at (inr y) = leb-false _ _ y

      go : (leb (fast_count (f_of n)) (count (like_it s) rs) ≡ true) ⊎ (leb (fast_count (f_of n)) (count (like_it s) rs) ≡ false) → ((range_of ds).least ≡ (range_of ds).greatest) ⊎ (eqb (range_of ds).least (range_of ds).greatest ≡ false) → (leb (fast_count (f_of n)) (length ds) ≡ true) ⊎ (leb (fast_count (f_of n)) (length ds) ≡ false) → fast_packed n (tally_of v s rs) ≡ packed_or_0 (fast_of n hs)
      go (inl t) x y = let (q, m, l) = k.one in let e = like_result q l in rw (t, fast_found q m (rw (e, agree_first) (leb-true _ _ t)), e) first_packed
      go (inr t) (inr d) y = rw (t, others.3, d, few (leb-false _ _ t) (λ r m i. less r m i (λ z. eqb-false _ _ d z.0))) refl
      go (inr t) (inl e) (inr y) = rw (t, others.3, eq-eqb _ _ e, others.0, y, few (leb-false _ _ t) (λ r m i. less r m i (λ z. impossible (le-leb _ _ z.1) y))) refl
      go (inr t) (inl e) (inl y) = at ds refl
        where
          same_as : (r x : Reply) → r ∈ ds → x ∈ ds → same_result (heard r).result (heard x).result ≡ true
          same_as r x m i =
              let (a, b) = in_range_lem ds r m in let (c, d) = in_range_lem ds x i in let g : packed_by r ≡ packed_by x = omega arith in
              sym (same_packed (heard r).result (heard x).result) ∙ eq-eqb _ _ (sym (packed_heard r (read r (those_of (unlike_it s) rs r m).0)) ∙ g ∙ packed_heard x (read x (those_of (unlike_it s) rs x i).0))

          all_agree : (r : Reply) → r ∈ ds → fast_count (f_of n) ≤ agreeing hs (heard r).result
          all_agree r m =
              let l : fast_count (f_of n) ≤ length ds = leb-true _ _ y in let c = count_all (λ x. same_result (heard r).result (heard x).result) ds (λ x i. same_as r x m i) in
              let (inn, d) = those_of (unlike_it s) rs r m in let b = count-those (λ x. same_result (heard r).result (heard x).result) (unlike_it s) (differs r inn (not-true _ d)) rs in
              let a = agreeing_is (heard r).result in omega arith

          at : (xs : List Reply) → ds ≡ xs → fast_packed n (tally_of v s rs) ≡ packed_or_0 (fast_of n hs)
          at [] i = let l : fast_count (f_of n) ≤ length ds = leb-true _ _ y in let z = (fast_most n facts.group).0 in let w = ap length i in absurd (omega arith)
          at (r ∷ xs) i =
              let m : r ∈ ds = subst (λ (zs : List Reply). r ∈ zs) (sym i) (Memᴰ.head refl) in let inn = (those_of (unlike_it s) rs r m).0 in
              let p : packed_by r ≡ (range_of ds).greatest = let (a, b) = in_range_lem ds r m in omega arith in
              rw (t, others.3, eq-eqb _ _ e, others.0, y, fast_found r inn (all_agree r m)) (sym p ∙ packed_heard r (read r inn))

  fast_told : fast_by n (tally_of v s rs) ≡ packed_as (fast_of n hs)
  unfolding fast_by
  fast_told = rw fast_packed_told (unless_told (fast_of n hs))

  -- ---- "Two unequal finals, or a fast count for a result other than a final one: 6."

  last_is : (r : Reply) → r ∈ ls → (r ∈ rs) × (is_last r ≡ true)
  last_is r m = those_of is_last rs r m

  -- none is final
  finals_none : final_heard hs ≡ none → (range_of ls).greatest ≡ 0
  unfolding range_of
  finals_none e = go ls (λ r m. m)
    where
      go : (xs : List Reply) → ((r : Reply) → r ∈ xs → r ∈ ls) → (range_of xs).greatest ≡ 0
      go [] i = refl
      go (r ∷ xs) i = let (m, t) = last_is r (i r (Memᴰ.head refl)) in impossible t (no_final n hs facts.not_bad e (heard r) (Memᴰ.map heard m))

  module _ (q : Result) (e : final_heard hs ≡ some q) where
    -- a reply has it
    final_by : (r : Reply) × (r ∈ ls) × (packed_by r ≡ packed_of q)
    final_by =
        let (h, m, t, i) = final_from_lem n hs q e in let a = some_any (λ h. both h.is_final (same_result q h.result)) hs h m (both_true t (rw i (result_same q))) in
        let (r, j, b) = any_some (λ r. both (heard r).is_final (same_result q (heard r).result)) rs (sym (any_heard (λ h. both h.is_final (same_result q h.result)) rs) ∙ a) in
        (r, in_those is_last rs r j (both_left _ _ b), packed_heard r (read r j) ∙ ap packed_of (sym (same_result_lem q (heard r).result (both_right _ _ b))))

    finals_some : (range_of ls).greatest ≡ 0 → ⊥
    finals_some z = let (r, m, p) = final_by in let (a, b) = in_range_lem ls r m in let l = (code_fits q).0 in omega arith

    finals_same : (range_of ls).least ≡ (range_of ls).greatest → (range_of ls).greatest ≡ packed_of q
    finals_same i = let (r, m, p) = final_by in let (a, b) = in_range_lem ls r m in omega arith

    finals_other : any (other_final q) hs ≡ not (eqb (range_of ls).least (range_of ls).greatest)
    unfolding both
    finals_other = any_heard (other_final q) rs ∙ go (same? (range_of ls).least (range_of ls).greatest) (cases (any (λ r. other_final q (heard r)) rs))
      where
        go : ((range_of ls).least ≡ (range_of ls).greatest) ⊎ (eqb (range_of ls).least (range_of ls).greatest ≡ false) → (any (λ r. other_final q (heard r)) rs ≡ true) ⊎ (any (λ r. other_final q (heard r)) rs ≡ false) → any (λ r. other_final q (heard r)) rs ≡ not (eqb (range_of ls).least (range_of ls).greatest)
        go (inl i) (inr a) = rw (eq-eqb _ _ i, a) refl
        go (inl i) (inl a) =
            let (r, m, b) = any_some (λ r. other_final q (heard r)) rs a in let last = in_those is_last rs r m (both_left _ _ b) in let (c, d) = in_range_lem ls r last in let g = finals_same i in
            let p : packed_of q ≡ packed_of (heard r).result = omega (arith, packed_heard r (read r m)) in
            impossible (sym (same_packed q (heard r).result) ∙ eq-eqb _ _ p) (not-true (same_result q (heard r).result) (both_right (heard r).is_final _ b))
        go (inr d) (inl a) = rw (d, a) refl
        go (inr d) (inr a) =
            let (r, m, p) = final_by in
            absurd (eqb-false _ _ d (range_equal (packed_of q) ls r m (λ x i. let (j, t) = last_is x i in packed_heard x (read x j) ∙ ap packed_of (sym (final_is hs q (any_heard (other_final q) rs ∙ a) (heard x) (Memᴰ.map heard j) t)))))

  contradicts_told : contradicts_by (range_of ls) (packed_as (fast_of n hs)) ≡ contradicting n hs
  unfolding contradicts_by
  contradicts_told = go (final_heard hs) refl (same? (range_of ls).least (range_of ls).greatest) (fast_of n hs) refl
    where
      go : (o : Option Result) → final_heard hs ≡ o → ((range_of ls).least ≡ (range_of ls).greatest) ⊎ (eqb (range_of ls).least (range_of ls).greatest ≡ false) → (p : Option Result) → fast_of n hs ≡ p → contradicts_by (range_of ls) (packed_as (fast_of n hs)) ≡ contradicting n hs
      go none e x p i = rw (eq-eqb _ _ (finals_none e)) (contradicts_none n hs facts.not_bad e)
      go (some q) e (inr d) p i = rw (ne_eqb _ _ (finals_some q e), d) (contradicts_other n hs facts.not_bad q e (finals_other q e ∙ rw d refl))
      go (some q) e (inl j) none i = rw (ne_eqb _ _ (finals_some q e), eq-eqb _ _ j, i) (contradicts_slow n hs facts.not_bad q (finals_other q e ∙ rw (eq-eqb _ _ j) refl) i)
      go (some q) e (inl j) (some p) i =
          rw (ne_eqb _ _ (finals_some q e), eq-eqb _ _ j, i, finals_same q e j, same_packed q p)
          (contradicts_fast n hs facts.not_bad q p e (finals_other q e ∙ rw (eq-eqb _ _ j) refl) i)

  -- ---- "slow ABORT if any is ABORT; slow OK if f+1 are OK; slow RETRY with the greatest stamp if any; slow ABSTAIN"

  how_many_told : (c : ℕ) (q : Result) → ((x : Result) → same_result q x ≡ eqb (result_code x) c) → (m : ℕ) → m ≡ count (λ r. eqb r.result c) ds → how_many c (tally_of v s rs).first m ≡ agreeing hs q
  how_many_told c q code m e = go (same? s.code c)
    where
      by_code : count (λ r. same_result q (heard r).result) rs ≡ count (λ r. eqb r.result c) rs
      by_code = count_alike (λ r. same_result q (heard r).result) (λ r. eqb r.result c) rs (λ r m. code (heard r).result ∙ rw (coded r (read r m)).same_code refl)

      unlike : (s.code ≡ c → ⊥) → (x : Reply) → eqb x.result c ≡ true → unlike_it s x ≡ true
      unlike d x t = at (cases (like_it s x))
        where
          at : (like_it s x ≡ true) ⊎ (like_it s x ≡ false) → unlike_it s x ≡ true
          at (inr l) = not_true_of _ l
          at (inl l) = absurd (d (sym (like_is x l).0 ∙ eqb-true _ _ t))

      go : (s.code ≡ c) ⊎ (eqb s.code c ≡ false) → how_many c (tally_of v s rs).first m ≡ agreeing hs q
      go (inl i) =
          let (r, j, l) = k.one in let g : result_code f ≡ c = sym (ap result_code (like_result r l)) ∙ (coded r (read r j)).same_code ∙ (like_is r l).0 ∙ i in
          rw (eq-eqb _ _ i, same_result_lem q f (code f ∙ eq-eqb _ _ g)) (sym agree_first)
      go (inr d) = rw d (e ∙ count-those (λ r. eqb r.result c) (unlike_it s) (unlike (eqb-false _ _ d)) rs ∙ sym by_code ∙ sym (agreeing_is q))

  retry_told : max s.retry ((range_of ds).greatest / 8) ≡ greatest_retry hs
  unfolding greatest_retry
  retry_told =
      let (r, m, l) = k.one in let a = range_retry ds (all_every result_read ds (λ x i. read x (those_of (unlike_it s) rs x i).0)) in let b = greatest_heard rs k.read in
      let c = greatest_above (λ x. x.retry) rs r m in let d = (like_is r l).1 in
      let e = greatest_below (λ x. x.retry) ds (greatest (λ x. x.retry) rs) (λ x i. greatest_above (λ y. y.retry) rs x (those_of (unlike_it s) rs x i).0) in
      let g = greatest_below (λ x. x.retry) rs (max s.retry (greatest (λ x. x.retry) ds)) (λ x i. at x i (cases (like_it s x))) in omega arith
    where
      at : (x : Reply) → x ∈ rs → (like_it s x ≡ true) ⊎ (like_it s x ≡ false) → x.retry ≤ max s.retry (greatest (λ y. y.retry) ds)
      at x i (inl t) = let d = (like_is x t).1 in omega arith
      at x i (inr t) = let d = greatest_above (λ y. y.retry) ds x (in_those (unlike_it s) rs x i (not_true_of _ t)) in omega arith

  retries_fit : greatest_retry hs < 2305843009213693952
  unfolding greatest_retry
  retries_fit =
      let b = greatest_heard rs k.read in
      let g = greatest_below (λ x. x.retry) rs 2305843009213693951 (λ x i. let c = coded x (read x i) in let e = c.same_retry in let l = retry_fits (heard x).result c.by_rule in omega arith) in
      omega arith

  slow_told : (range_of ls).greatest ≡ 0 → slow_by n (tally_of v s rs) ≡ packed_of (slow_result n hs)
  unfolding slow_by
  slow_told z =
      let a = how_many_told 2 ABORT abort_code (others_of ds).aborts others.2 in let b = how_many_told 1 OK ok_code (others_of ds).oks others.1 in
      rw (eq-eqb _ _ z, a, b, others.3, retry_told) (go (cases (ltb 0 (agreeing hs ABORT))) (cases (leb (quorum (f_of n)) (agreeing hs OK))) (cases (ltb 0 (greatest_retry hs))))
    where
      go : (ltb 0 (agreeing hs ABORT) ≡ true) ⊎ (ltb 0 (agreeing hs ABORT) ≡ false) → (leb (quorum (f_of n)) (agreeing hs OK) ≡ true) ⊎ (leb (quorum (f_of n)) (agreeing hs OK) ≡ false) → (ltb 0 (greatest_retry hs) ≡ true) ⊎ (ltb 0 (greatest_retry hs) ≡ false)
          → cond (ltb 0 (agreeing hs ABORT)) 2 (cond (leb (quorum (f_of n)) (agreeing hs OK)) 1 (cond (ltb 0 (greatest_retry hs)) (packed 4 (greatest_retry hs)) 3)) ≡ packed_of (slow_result n hs)
      go (inl x) y w = rw (x, slow_abort n hs _ refl (ltb-true _ _ x)) refl
      go (inr x) (inl y) w = rw (x, y, slow_ok n hs _ refl (ltb-false _ _ x) _ _ refl refl (leb-true _ _ y)) refl
      go (inr x) (inr y) (inl w) =
          let l = retries_fit in let e : packed 4 (greatest_retry hs) ≡ 8 * greatest_retry hs + 4 = omega arith in
          rw (x, y, w, slow_retry n hs _ refl (ltb-false _ _ x) _ _ refl refl (leb-false _ _ y) facts.not_bad _ refl (ltb-true _ _ w)) e
      go (inr x) (inr y) (inr w) = rw (x, y, w, slow_abstain n hs _ refl (ltb-false _ _ x) _ _ refl refl (leb-false _ _ y) facts.not_bad _ refl (ltb-false _ _ w)) refl

  -- ---- "fast with r ..; wait if fewer than f+1 replies; slow with .."

  number_told : count (like_it s) rs % 256 + (others_of ds).number % 256 ≡ length hs
  number_told = let a = all_parted in let b = others.0 in let c = facts.at_most in let d = length-map rs heard in omega arith

  decided_told : contradicting n hs ≡ false → code.Ok (decided_by n (tally_of v s rs) (packed_as (fast_of n hs))) ≡ answer_as (decided n hs)
  unfolding decided_by decided
  decided_told clear = go (fast_of n hs) refl (cases (ltb (length hs) (quorum (f_of n)))) (final_heard hs) refl (same? (range_of ls).least (range_of ls).greatest)
    where
      final_slow : (q : Result) → final_heard hs ≡ some q → (range_of ls).least ≡ (range_of ls).greatest → slow_by n (tally_of v s rs) ≡ packed_of q
      final_slow q i j = slow_final n (tally_of v s rs) (finals_some q i) ∙ finals_same q i j

      go : (o : Option Result) → fast_of n hs ≡ o → (ltb (length hs) (quorum (f_of n)) ≡ true) ⊎ (ltb (length hs) (quorum (f_of n)) ≡ false) → (p : Option Result) → final_heard hs ≡ p → ((range_of ls).least ≡ (range_of ls).greatest) ⊎ (eqb (range_of ls).least (range_of ls).greatest ≡ false) → code.Ok (decided_by n (tally_of v s rs) (packed_as (fast_of n hs))) ≡ answer_as (decided n hs)
      go (some q) e x p i y = let (a, b) = unpacked q in rw (e, a, b) refl
      go none e (inl x) p i y = rw (e, number_told, x) refl
      go none e (inr x) none i y = let (a, b) = unpacked (slow_result n hs) in rw (e, number_told, x, i, slow_told (finals_none i), a, b) refl
      go none e (inr x) (some q) i (inr d) = impossible (sym (contradicts_other n hs facts.not_bad q i (finals_other q i ∙ rw d refl))) clear
      go none e (inr x) (some q) i (inl j) = let (a, b) = unpacked q in rw (e, number_told, x, i, final_slow q i j, a, b) refl

  -- all together
  good_answered : is_group n ≡ true → seen_of rs < 2 ^ n → answered n (tally_of v s rs) ≡ answer_as (count_of n rs)
  unfolding answered is_bad
  good_answered group l = rw (group, lt-leb _ _ l, fast_told, contradicts_told) (⊎_elim (λ t. rw t (ap answer_as (sym (contradicted n rs good t)))) (λ t. rw t (decided_told t ∙ ap answer_as (sym (clear n rs good t)))) (cases (contradicting n hs)))

-- ---- whatever the replies are

bad_answered : (n : ℕ) (t : Tally) (rs : List Reply) → is_bad n t ≡ true → are_bad n rs ≡ true → answered n t ≡ answer_as (count_of n rs)
unfolding answered
bad_answered n t rs e b = rw e (ap answer_as (sym (bad_refused n rs b)))

-- of none
none_counted : (n : ℕ) → is_group n ≡ true → count_of n [] ≡ wait
unfolding decided fast_of first_of every twice unequal_final_heard fast_beside_final some_pair any either
none_counted n group =
    clear n [] (good_by n [] group refl (λ r m. absurd (Memᴰ.not-nil m)) refl (λ r m. absurd (Memᴰ.not-nil m))) refl
    ∙ rw (lt-ltb 0 (quorum (f_of n)) (omega arith)) refl

none_answered : (n : ℕ) → is_group n ≡ true → answered n no_tally ≡ code.Ok Wait
unfolding answered is_bad fast_packed fast_by contradicts_by decided_by seen_of
none_answered n group =
    rw (group, lt-leb (2 ^ n) 0 (seen_below n [] (λ r m. absurd (Memᴰ.not-nil m))), lt-leb (fast_count (f_of n)) 0 (fast_most n group).0, lt-ltb 0 (quorum (f_of n)) (omega arith)) refl

group_answered : (n : ℕ) → is_group n ≡ true → {rs : List Reply} {t : Tally} → Told rs t → answered n t ≡ answer_as (count_of n rs)
unfolding is_bad
group_answered n g nothing = none_answered n g ∙ ap answer_as (sym (none_counted n g))
group_answered n g {rs} {t} (bad e b) = bad_answered n t rs (rw (g, e) (le-leb (2 ^ n) 255 (power_fits n g))) (b n)
group_answered n g {rs} (fine v s k e) = rw e (at (cases (leb (2 ^ n) (seen_of rs))))
  where
    at : (leb (2 ^ n) (seen_of rs) ≡ true) ⊎ (leb (2 ^ n) (seen_of rs) ≡ false) → answered n (tally_of v s rs) ≡ answer_as (count_of n rs)
    at (inl x) = bad_answered n (tally_of v s rs) rs (rw g x) (bad_unless n rs (λ h. let l = seen_below n rs h.below in let m : 2 ^ n ≤ seen_of rs = leb-true _ _ x in omega arith))
    at (inr x) = good_answered n v s rs k (good_by n rs g k.read (λ r m. inside r m (cases (ltb r.boxnumber n))) k.apart (λ r m q i. k.views r m ∙ sym (k.views q i))) g (leb-false _ _ x)
      where
        inside : (r : Reply) → r ∈ rs → (ltb r.boxnumber n ≡ true) ⊎ (ltb r.boxnumber n ≡ false) → r.boxnumber < n
        inside r m (inl y) = ltb-true _ _ y
        inside r m (inr y) = let l = seen_above n rs r m (ltb-false _ _ y) in let z : seen_of rs < 2 ^ n = leb-false _ _ x in absurd (omega arith)

told_answered : (n : ℕ) {rs : List Reply} {t : Tally} → Told rs t → answered n t ≡ answer_as (count_of n rs)
unfolding is_bad
told_answered n {rs} {t} told = ⊎_elim (λ g. group_answered n g told) (λ d. bad_answered n t rs (rw d refl) (bad_group_lem n rs d)) (cases (is_group n))

-- the count of a tally of up to seven replies is theirs
pub tally_counted : (n : ℕ) (rs : List Reply) → length rs ≤ 7 → answered n (with_replies no_tally rs) ≡ answer_as (count_of n rs)
tally_counted n rs l = let (ps, p, told) = few_told rs l in told_answered n told ∙ ap answer_as (count-any_order n p)

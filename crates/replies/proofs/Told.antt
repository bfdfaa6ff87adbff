-- What a tally says of the replies gone through, the latest first: it was spoilt and they are bad, or each of its numbers is theirs.
use mathlib.Core.Path.{◌≡◌, refl, sym, ap, subst, ◌∙◌}
use mathlib.Core.Bool.{Bool, true, false, not}
use mathlib.Core.Logic.{◌⊎◌, inl, inr, ⊎_elim}
use mathlib.Core.List.Memᴰ
use mathlib.Core.List.{List, [], ◌∷◌, ◌++◌, append-nil}
use Prim.Native.Nat.{ℕ, ◌+◌, ◌/◌, ◌%◌, ◌^◌, ◌<◌, ◌≤◌}
use native.Mathlib.Nat.{zero-add}
use native.Mathlib.Omega.{arith}
use lib.Dec.{eqb, ltb, leb}
use lib.ListN.{length}
use borrow.Author.Tests.{eqb-true, eq-eqb, leb-true, leb-false, le-leb, ne_eqb, ltb-true, ltb-false}
use Rattle.rules.specs.Tests.{both, either, bit, any, every, count, those, twice}
use Rattle.rules.proofs.Logic.{impossible, cases, eqb_self, both_left, both_right, both_true, both_false, both_whole, either_left, either_false}
use Rattle.rules.proofs.Lists.{◌∈◌, some_any, every_one}
use Rattle.rules.proofs.Reordered.{Reordered, Reordered.same, Reordered.swapped, Reordered.under, Reordered.then}
use Rattle.message.specs.Messages.{result_by_code}
use Rattle.replies.specs.declared.held.Reply.{Reply}
use Rattle.replies.specs.declared.tally.Others.{Others}
use Rattle.replies.specs.declared.tally.Range.{Range}
use Rattle.replies.specs.declared.tally.Tally.{Tally}
use Rattle.replies.specs.PlainReplies.{result_read}
use Rattle.replies.specs.Inner.Tallies.{packed_by, no_range, in_range, is_said, no_others, with_other, no_tally, spoilt, has_view, with_finality, with_result, seen_by, with_reply, with_replies}
use Rattle.replies.specs.Inner.Bad.{are_bad}
use Rattle.replies.proofs.Counted.{any_counted, count_most}
use Rattle.replies.proofs.Boxes.{seen_of, Below, all_bits, seen_bit, seen_above}
use Rattle.replies.proofs.BadReplies.{Good, bad_unless, bad_more}
use Rattle.replies.proofs.Steps.{one_agrees, one_begins, one_differs, bad_result_lem, far_box, old_box, bad_final, other_view_lem, next_reply}

-- ---- the numbers of a tally, of good replies

unfoldable pub range_of : List Reply → Range
range_of [] = no_range
range_of (r ∷ rs) = in_range (range_of rs) (packed_by r)

unfoldable pub others_of : List Reply → Others
others_of [] = no_others
others_of (r ∷ rs) = with_other (others_of rs) r

-- a result that all are held against
abbrev pub Said : Type 0
Said = record { code : ℕ; retry : ℕ }

abbrev pub like_it : Said → Reply → Bool
like_it s r = both (eqb r.retry s.retry) (eqb r.result s.code)

abbrev pub unlike_it : Said → Reply → Bool
unlike_it s r = not (like_it s r)

abbrev pub is_last : Reply → Bool
is_last r = eqb r.finality 1

abbrev pub tally_of : ℕ → Said → List Reply → Tally
tally_of v s rs = record {
  seen = seen_of rs;
  view = v;
  first = record { code = s.code; retry = s.retry; agreeing = count (like_it s) rs };
  others = others_of (those (unlike_it s) rs);
  finals = range_of (those is_last rs);
}

-- what good replies are, whichever group's
pub record Fine (v : ℕ) (s : Said) (rs : List Reply) : Type 0 where
  pub read : every result_read rs ≡ true
  pub inside : Below 7 rs
  pub apart : twice (λ r. r.boxnumber) rs ≡ false
  pub views : (r : Reply) → r ∈ rs → r.view ≡ v
  pub one : (r : Reply) × (r ∈ rs) × (like_it s r ≡ true)

pub data Told : List Reply → Tally → Type 0 where
  nothing : Told [] no_tally
  bad : {rs : List Reply} {t : Tally} → t.seen ≡ 255 → ((n : ℕ) → are_bad n rs ≡ true) → Told rs t
  fine : {rs : List Reply} {t : Tally} (v : ℕ) (s : Said) → Fine v s rs → t ≡ tally_of v s rs → Told rs t

-- ---- one reply more

read_one : (r : Reply) (rs : List Reply) → every result_read (r ∷ rs) ≡ true → both (result_by_code r.result r.retry) (leb r.finality 1) ≡ true
unfolding every result_read
read_one r rs h = both_left _ _ h

valid_read : (r : Reply) → result_read r ≡ true → result_by_code r.result r.retry ≡ true
unfolding result_read
valid_read r h = both_left _ _ h

-- what holds of one more and of all others
with_one : (P : Reply → Type 0) (r : Reply) (rs : List Reply) → P r → ((q : Reply) → q ∈ rs → P q) → (q : Reply) → q ∈ (r ∷ rs) → P q
with_one P r rs p k q m = ⊎_elim (λ e. subst P (sym e) p) (λ i. k q i) (Memᴰ.cases_cons m)

-- what goes into the finals
final_more : (t : Tally) (r : Reply) (rs : List Reply) → t.finals ≡ range_of (those is_last rs) → with_finality t r ≡ record { seen = t.seen; view = t.view; first = t.first; others = t.others; finals = range_of (those is_last (r ∷ rs)) }
unfolding with_finality those range_of
final_more t r rs e = go (is_last r) refl
  where
    go : (b : Bool) → is_last r ≡ b → with_finality t r ≡ record { seen = t.seen; view = t.view; first = t.first; others = t.others; finals = range_of (those is_last (r ∷ rs)) }
    go true y = rw (e, y) refl
    go false y = rw (e, y) refl

spoils : (r : Reply) (rs : List Reply) (t t' : Tally) → t' ≡ spoilt t → ((n : ℕ) → Good n (r ∷ rs) → ⊥) → Told (r ∷ rs) t'
spoils r rs t t' i d = bad (ap (λ (z : Tally). z.seen) i) (λ n. bad_unless n (r ∷ rs) (d n))

-- its result is not one
unread : (r : Reply) (rs : List Reply) → result_by_code r.result r.retry ≡ false → (n : ℕ) → Good n (r ∷ rs) → ⊥
unread r rs b n g = impossible (valid_read r (every_one result_read (r ∷ rs) g.read r (Memᴰ.head refl))) b

-- its box and its finality are asked for, and its view; what is then left to be shown
module _ (r : Reply) (rs : List Reply) (t : Tally) (e : t.seen ≡ seen_of rs) (inside : Below 7 rs) where
  tested : (has_view t r.view ≡ false → (q : Reply) × (q ∈ rs) × (r.view ≡ q.view → ⊥)) → (Below 7 (r ∷ rs) → any (λ q. eqb q.boxnumber r.boxnumber) rs ≡ false → r.finality ≤ 1 → has_view t r.view ≡ true → Told (r ∷ rs) (with_result (with_finality (seen_by t r) r) r)) → Told (r ∷ rs) (with_reply t r)
  unfolding twice
  tested other goes = box (cases (ltb r.boxnumber 7)) (cases (any (λ q. eqb q.boxnumber r.boxnumber) rs)) (cases (leb r.finality 1)) (cases (has_view t r.view))
    where
      bit_is : r.boxnumber < 7 → t.seen / 2 ^ r.boxnumber % 2 ≡ bit (any (λ q. eqb q.boxnumber r.boxnumber) rs)
      bit_is l = rw e (seen_bit rs r.boxnumber inside l)

      box : (ltb r.boxnumber 7 ≡ true) ⊎ (ltb r.boxnumber 7 ≡ false) → (any (λ q. eqb q.boxnumber r.boxnumber) rs ≡ true) ⊎ (any (λ q. eqb q.boxnumber r.boxnumber) rs ≡ false) → (leb r.finality 1 ≡ true) ⊎ (leb r.finality 1 ≡ false) → (has_view t r.view ≡ true) ⊎ (has_view t r.view ≡ false) → Told (r ∷ rs) (with_reply t r)
      box (inr f) a m v = spoils r rs t _ (far_box t r (ltb-false _ _ f)) (λ n g. let l = g.inside r (Memᴰ.head refl) in let k : 7 ≤ r.boxnumber = ltb-false _ _ f in omega arith)
      box (inl f) (inl a) m v = spoils r rs t _ (old_box t r (ltb-true _ _ f) (bit_is (ltb-true _ _ f) ∙ rw a refl)) (λ n g. impossible a (either_left _ _ g.apart))
      box (inl f) (inr a) m v = rest m v
        where
          l : r.boxnumber < 7
          l = ltb-true _ _ f

          new : t.seen / 2 ^ r.boxnumber % 2 ≡ 1 → ⊥
          new z = let b : t.seen / 2 ^ r.boxnumber % 2 ≡ 0 = bit_is l ∙ rw a refl in omega arith

          rest : (leb r.finality 1 ≡ true) ⊎ (leb r.finality 1 ≡ false) → (has_view t r.view ≡ true) ⊎ (has_view t r.view ≡ false) → Told (r ∷ rs) (with_reply t r)
          rest (inr m) v = spoils r rs t _ (bad_final t r l new (leb-false _ _ m)) (λ n g. impossible (both_right _ _ (read_one r rs g.read)) m)
          rest (inl m) (inr v) = let (q, i, d) = other v in spoils r rs t _ (other_view_lem t r l new (leb-true _ _ m) v) (λ n g. d (g.one_view r q (Memᴰ.head refl) (Memᴰ.tail i)))
          rest (inl m) (inl v) = rw (next_reply t r l new (leb-true _ _ m) v) (goes (with_one (λ q. q.boxnumber < 7) r rs l inside) a (leb-true _ _ m) v)

-- the first
begins : (r : Reply) → Told (r ∷ []) (with_reply no_tally r)
unfolding seen_of any every twice count those others_of range_of has_view is_said result_read either
begins r = tested r [] no_tally refl (λ q m. absurd (Memᴰ.not-nil m)) (λ v. impossible refl v) (λ inside a m v. go m inside (cases (result_by_code r.result r.retry)))
  where
    s : Said
    s = record { code = r.result; retry = r.retry }

    t : Tally
    t = record { seen = seen_of (r ∷ []); view = r.view; first = no_tally.first; others = no_others; finals = range_of (those is_last (r ∷ [])) }

    like : like_it s r ≡ true
    like = both_true (eqb_self r.retry) (eqb_self r.result)

    nobody : is_said no_tally.first r ≡ false
    nobody = rw (both_false (eqb r.result 0)) (both_false (eqb r.retry 0))

    go : r.finality ≤ 1 → Below 7 (r ∷ []) → (result_by_code r.result r.retry ≡ true) ⊎ (result_by_code r.result r.retry ≡ false) → Told (r ∷ []) (with_result (with_finality (seen_by no_tally r) r) r)
    go m inside (inr b) = rw (final_more (seen_by no_tally r) r [] refl) (spoils r [] t _ (bad_result_lem t r nobody b) (unread r [] b))
    go m inside (inl b) =
        rw (final_more (seen_by no_tally r) r [] refl)
        (fine r.view s (record { read = both_true (both_true b (le-leb _ _ m)) refl; inside = inside; apart = refl; views = with_one (λ q. q.view ≡ r.view) r [] refl (λ q i. absurd (Memᴰ.not-nil i)); one = (r, Memᴰ.head refl, like) })
        (one_begins t r nobody b refl ∙ rw like refl))

-- one behind it
module _ (v : ℕ) (s : Said) (r : Reply) (rs : List Reply) (k : Fine v s rs) (few : length rs < 7) where
  -- someone has the result that all are held against
  some_like : 0 < count (like_it s) rs
  some_like = let (q, m, l) = k.one in ltb-true _ _ (sym (any_counted (like_it s) rs) ∙ some_any (like_it s) rs q m l)

  said_is : is_said (tally_of v s rs).first r ≡ like_it s r
  unfolding is_said
  said_is = let l = some_like in rw (ne_eqb (count (like_it s) rs) 0 (λ z. omega arith)) (ap (both (eqb r.retry s.retry)) (both_whole (eqb r.result s.code)))

  follows : Told (r ∷ rs) (with_reply (tally_of v s rs) r)
  unfolding seen_of twice every result_read count those others_of has_view
  follows = tested r rs (tally_of v s rs) refl k.inside (λ h. let (q, m, l) = k.one in (q, m, λ e. impossible (eq-eqb _ _ (e ∙ k.views q m)) (rw (ne_eqb (seen_of rs) 0 seen) at h))) (λ inside a m h. rw (final_more (seen_by (tally_of v s rs) r) r rs refl) (go inside a m (eqb-true _ _ (rw (ne_eqb (seen_of rs) 0 seen) at h)) (cases (like_it s r)) (cases (result_by_code r.result r.retry))))
    where
      seen : seen_of rs ≡ 0 → ⊥
      seen z = let (q, m, l) = k.one in let p = seen_above 0 rs q m (omega arith) in omega arith

      t : Tally
      t = record { seen = seen_of (r ∷ rs); view = r.view; first = (tally_of v s rs).first; others = (tally_of v s rs).others; finals = range_of (those is_last (r ∷ rs)) }

      known : result_by_code r.result r.retry ≡ true → r.finality ≤ 1 → Below 7 (r ∷ rs) → any (λ q. eqb q.boxnumber r.boxnumber) rs ≡ false → r.view ≡ v → Fine v s (r ∷ rs)
      known b m inside a e = let (q, i, l) = k.one in record { read = both_true (both_true b (le-leb _ _ m)) k.read; inside = inside; apart = either_false a k.apart; views = with_one (λ p. p.view ≡ v) r rs e k.views; one = (q, Memᴰ.tail i, l) }

      go : Below 7 (r ∷ rs) → any (λ q. eqb q.boxnumber r.boxnumber) rs ≡ false → r.finality ≤ 1 → r.view ≡ v → (like_it s r ≡ true) ⊎ (like_it s r ≡ false) → (result_by_code r.result r.retry ≡ true) ⊎ (result_by_code r.result r.retry ≡ false) → Told (r ∷ rs) (with_result t r)
      go inside a m e (inl l) x =
          let (q, i, j) = k.one in let same : r.result ≡ q.result = eqb-true _ _ (both_right _ _ l) ∙ sym (eqb-true _ _ (both_right _ _ j)) in
          let retry : r.retry ≡ q.retry = eqb-true _ _ (both_left _ _ l) ∙ sym (eqb-true _ _ (both_left _ _ j)) in let most = count_most (like_it s) rs in
          let more : count (like_it s) rs % 256 + 1 ≡ 1 + count (like_it s) rs = omega arith in
          fine v s (known (rw (same, retry) (valid_read q (every_one result_read rs k.read q i))) m inside a e) (one_agrees t r (said_is ∙ l) ∙ rw (e, l, more) refl)
      go inside a m e (inr l) (inl b) = fine v s (known b m inside a e) (one_differs t r (said_is ∙ l) b (λ z. let p = some_like in omega arith) ∙ rw (e, l, zero-add) refl)
      go inside a m e (inr l) (inr b) = spoils r rs t _ (bad_result_lem t r (said_is ∙ l) b) (unread r rs b)

pub told_more : (r : Reply) {rs : List Reply} {t : Tally} → length rs < 7 → Told rs t → Told (r ∷ rs) (with_reply t r)
told_more r few nothing = begins r
told_more r few (fine v s k e) = rw e (follows v s r _ k few)
told_more r {rs} {t} few (bad e b) =
    bad (⊎_elim (λ f. ap (λ (z : Tally). z.seen) (old_box t r (ltb-true _ _ f) (rw e (all_bits r.boxnumber (ltb-true _ _ f))))) (λ f. ap (λ (z : Tally). z.seen) (far_box t r (ltb-false _ _ f))) (cases (ltb r.boxnumber 7)))
    (λ n. bad_more n r rs (b n))

-- ---- all of a list, one after the other

-- the next goes to the front
to_front : {A : Type 0} (x : A) (xs ys : List A) → Reordered (xs ++ (x ∷ ys)) (x ∷ (xs ++ ys))
to_front x [] ys = same
to_front x (z ∷ xs) ys = then (under (to_front x xs ys)) swapped

all_told : (rs qs : List Reply) (t : Tally) → length rs + length qs ≤ 7 → Told qs t → (ps : List Reply) × Reordered ps (rs ++ qs) × Told ps (with_replies t rs)
unfolding with_replies
all_told [] qs t l k = (qs, same, k)
all_told (r ∷ rs) qs t l k = let (ps, p, m) = all_told rs (r ∷ qs) (with_reply t r) (omega arith) (told_more r (omega arith) k) in (ps, then p (to_front r rs qs), m)

-- up to seven replies are told, in some order of them
pub few_told : (rs : List Reply) → length rs ≤ 7 → (ps : List Reply) × Reordered ps rs × Told ps (with_replies no_tally rs)
few_told rs l = rw (append-nil rs) at (all_told rs [] no_tally (omega arith) nothing)

-- The count call: its answer is determined, says what `rules` answers of the replies lent, and is the same in any order of them; and what stands behind it.
use mathlib.Core.Path.{◌≡◌, refl, sym, subst, ap, ◌∙◌}
use mathlib.Core.Bool.{Bool, true, false, cond}
use mathlib.Core.Logic.{◌⊎◌, inl, inr}
use mathlib.Core.List.{List, [], ◌∷◌, map}
use mathlib.Core.Option.{Option, none, some}
use Prim.Native.Nat.{ℕ, ◌≤◌, ◌<◌}
use native.Mathlib.Omega.{arith}
use lib.Dec.{eqb, ltb, leb}
use lib.ListN.{length, length-map}
use borrow.Author.Tests.{ltb-true, ltb-false}
use Rattle.rules.specs.Tests.{both, either, any, greatest}
use Rattle.rules.specs.Groups.{f_of, quorum, fast_count}
use Rattle.rules.specs.Stamps.{is_stamp}
use Rattle.rules.specs.Tables.{Result, Result.OK, Result.ABORT, Result.ABSTAIN, Result.RETRY, result_code, result_retry, same_result, result_by_rule}
use Rattle.rules.specs.Numbers.{Number.bad_message, Number.contradiction, number, first, applies}
use Rattle.rules.specs.Count as rules
use Rattle.rules.specs.Count.{Heard, bad_replies, agreeing, is_fast, unequal_final_heard, fast_beside_final, count_circumstances, count_number, Counted.fast, Counted.slow, Counted.wait, Counted.refused, fast_of, final_heard, greatest_retry, slow_result, slow_or, fast_or, decided, counted}
use Rattle.rules.specs.Inner.CountAnswers.{counted_number}
use Rattle.rules.proofs.Logic.{cases}
use Rattle.rules.proofs.Lists.{◌∈◌, greatest_is}
use Rattle.rules.proofs.Groups.{fast_quorum}
use Rattle.rules.proofs.Votes.{counts_apart}
use Rattle.rules.proofs.Count as behind
use Rattle.rules.proofs.Reordered.{Reordered, same, swapped, under, then, every_kept}
use Rattle.rules.proofs.Orders as orders
use Rattle.message.proofs.Forms.{result_read_lem}
use Rattle.replies.specs.declared.held.Reply.{Reply}
use Rattle.replies.specs.PlainReplies.{result_read, heard, all_heard}
use Rattle.count.specs.Calls.{count_of, count_bytes}
use Rattle.count.specs.Inner.RecordBytes.{reply_of, all_bytes}
use Rattle.count.specs.Answers.{Answer, answer_as}
use Rattle.count.specs.Inner.MeantAnswers.{meant}
use Rattle.count.proofs.HeardBytes.{EachFits, ResultsByRule, count_of_records, count_of_bytes}
use Rattle.count.proofs.Decisions.{by_rule_lem, chosen_by_rule, results_good, any_retried}
use Rattle.count.proofs.CountWays.{Lent, Lent.records, Lent.laid, Whole, lent_replies, lent_heard, count_lent, BadLent, GoodLent, good_none, bad_or_good, good_lent, whole_lent}

-- ---- what `rules` answers

-- "slow RETRY with the greatest stamp": that stamp is a reply's
greatest_stamp : (hs : List Heard) → ((h : Heard) → h ∈ hs → result_by_rule h.result ≡ true) → 0 < greatest_retry hs → is_stamp (greatest_retry hs) ≡ true
unfolding greatest_retry greatest result_by_rule
greatest_stamp [] k l = absurd (omega arith)
greatest_stamp (h ∷ hs) k l =
    let (g, m, e) = greatest_is (λ (g : Heard). result_retry g.result) h hs in
    rw (← e) (stamp g.result (k g m) (rw (← e) at l))
  where
    stamp : (r : Result) → result_by_rule r ≡ true → 0 < result_retry r → is_stamp (result_retry r) ≡ true
    stamp OK h l = absurd (omega arith)
    stamp ABORT h l = absurd (omega arith)
    stamp ABSTAIN h l = absurd (omega arith)
    stamp (RETRY s) h l = h

module _ (n : ℕ) (hs : List Heard) where
  -- what is known of each answer: a result is by the rules, slow is from f+1 replies, wait from fewer, and a refusal is 3 or 6
  abbrev Stands : rules.Counted → Type 0
  Stands (fast r) = result_by_rule r ≡ true
  Stands (slow r) = (result_by_rule r ≡ true) × (quorum (f_of n) ≤ length hs)
  Stands wait = length hs < quorum (f_of n)
  Stands (refused k) = (k ≡ 3) ⊎ (k ≡ 6)

  module _ (good : bad_replies n hs ≡ false) where
    -- "slow ABORT ..; slow OK ..; slow RETRY ..; slow ABSTAIN" is by the rules too
    slow_by_rule : result_by_rule (slow_result n hs) ≡ true
    unfolding slow_result result_by_rule
    slow_by_rule = go (any (λ h. same_result ABORT h.result) hs) (leb (quorum (f_of n)) (agreeing hs OK)) (cases (any (λ h. eqb (result_code h.result) 4) hs))
      where
        go : (a b : Bool) → (any (λ h. eqb (result_code h.result) 4) hs ≡ true) ⊎ (any (λ h. eqb (result_code h.result) 4) hs ≡ false) → result_by_rule (cond a ABORT (cond b OK (cond (any (λ h. eqb (result_code h.result) 4) hs) (RETRY (greatest_retry hs)) ABSTAIN))) ≡ true
        go true b c = refl
        go false true c = refl
        go false false (inl c) = rw c (greatest_stamp hs (by_rule_lem n hs good) (ltb-true _ _ (sym (any_retried hs (results_good n hs good)) ∙ c)))
        go false false (inr c) = rw c refl

    -- "fast with r ..; wait ..; slow with .."
    decided_stands : Stands (decided n hs)
    unfolding decided fast_of final_heard
    decided_stands = go (fast_of n hs) refl (cases (ltb (length hs) (quorum (f_of n)))) (final_heard hs) refl
      where
        go : (a : Option Result) → fast_of n hs ≡ a → (ltb (length hs) (quorum (f_of n)) ≡ true) ⊎ (ltb (length hs) (quorum (f_of n)) ≡ false) → (o : Option Result) → final_heard hs ≡ o → Stands (fast_or a (cond (ltb (length hs) (quorum (f_of n))) wait (slow_or o (slow_result n hs))))
        go (some r) e b o k = chosen_by_rule n hs good (λ h. is_fast n hs h.result) r e
        go none e (inl b) o k = rw b (ltb-true _ _ b)
        go none e (inr b) (some r) k = rw b (chosen_by_rule n hs good (λ h. h.is_final) r k, ltb-false _ _ b)
        go none e (inr b) none k = rw b (slow_by_rule, ltb-false _ _ b)

  -- so it is known of whatever is counted
  counted_stands : Stands (counted n hs)
  unfolding counted count_number count_circumstances number first applies both either
  counted_stands = go (bad_replies n hs) refl (either (unequal_final_heard hs) (fast_beside_final n hs))
    where
      go : (b : Bool) → bad_replies n hs ≡ b → (c : Bool) → Stands (cond (eqb (number ((bad_message, b) ∷ (contradiction, c) ∷ [])) 0) (decided n hs) (refused (number ((bad_message, b) ∷ (contradiction, c) ∷ []))))
      go true e c = inl refl
      go false e true = inr refl
      go false e false = decided_stands e

  -- a result that is answered_by_rules is by the rules
  pub counted_by_rule : (r : Result) → (counted n hs ≡ fast r) ⊎ (counted n hs ≡ slow r) → result_by_rule r ≡ true
  counted_by_rule r (inl e) = subst Stands e counted_stands
  counted_by_rule r (inr e) = (subst Stands e counted_stands).0

-- no more boxes agree than have replied
agreeing_few : (hs : List Heard) (r : Result) → agreeing hs r ≤ length hs
unfolding agreeing
agreeing_few hs r = omega (arith, counts_apart (λ h. same_result r h.result) (λ h. false) (λ h t. refl) hs)

module _ (n : ℕ) (lent : Lent) where
  -- ---- two answers that the promise allows for one input are equal

  pub count_determined : {a b : Answer} → a ≡ answer_as (count_lent n lent) → b ≡ answer_as (count_lent n lent) → a ≡ b
  count_determined e f = e ∙ sym f

  -- ---- and each says what `rules` answers

  -- what is known of an answer, of the replies lent
  lent_stands : Stands n (lent_heard lent) (count_lent n lent)
  lent_stands = go (bad_or_good n lent)
    where
      go : (BadLent n lent × (count_lent n lent ≡ refused 3)) ⊎ GoodLent n lent → Stands n (lent_heard lent) (count_lent n lent)
      go (inl (b, e)) = rw e (inl refl)
      go (inr g) = rw (good_lent n lent g) (counted_stands n (lent_heard lent))

  -- the result of a fast or slow answer is by the rules
  pub answer_by_rule : (r : Result) → (count_lent n lent ≡ fast r) ⊎ (count_lent n lent ≡ slow r) → result_by_rule r ≡ true
  answer_by_rule r (inl e) = subst (Stands n (lent_heard lent)) e lent_stands
  answer_by_rule r (inr e) = (subst (Stands n (lent_heard lent)) e lent_stands).0

  -- so the enum's case, by its code and its retry stamp, is read as that answer again
  pub answer_meant : meant (answer_as (count_lent n lent)) ≡ count_lent n lent
  answer_meant = go (count_lent n lent) lent_stands
    where
      go : (c : rules.Counted) → Stands n (lent_heard lent) c → meant (answer_as c) ≡ c
      go (fast r) k = ap fast (result_read_lem r k).0
      go (slow r) (k, l) = ap slow (result_read_lem r k).0
      go wait k = refl
      go (refused j) (inl e) = rw e refl
      go (refused j) (inr e) = rw e refl

  -- ---- what stands behind an answer

  -- an answer that is no refusal: what is lent is not bad, and the count of `rules` of it is that answer
  pub answered_by_rules : (c : rules.Counted) → count_lent n lent ≡ c → counted_number c ≡ 0 → (BadLent n lent → ⊥) × (counted n (lent_heard lent) ≡ c)
  answered_by_rules c e z = go (bad_or_good n lent)
    where
      go : (BadLent n lent × (count_lent n lent ≡ refused 3)) ⊎ GoodLent n lent → (BadLent n lent → ⊥) × (counted n (lent_heard lent) ≡ c)
      go (inl (b, k)) = let y : counted_number c ≡ 3 = ap counted_number (sym e ∙ k) in absurd (omega arith)
      go (inr g) = (good_none n lent g, sym (good_lent n lent g) ∙ e)

  -- "fast with r if the fast count of boxes agree on r"
  pub fast_behind : (r : Result) → count_lent n lent ≡ fast r → (BadLent n lent → ⊥) × (fast_count (f_of n) ≤ agreeing (lent_heard lent) r)
  fast_behind r e = let (f, c) = answered_by_rules (fast r) e refl in (f, (behind.fast_behind n (lent_heard lent) r c).1)

  -- "wait if fewer than f+1 replies": so slow is from no fewer
  pub slow_behind : (r : Result) → count_lent n lent ≡ slow r → (BadLent n lent → ⊥) × (quorum (f_of n) ≤ length (lent_replies lent))
  slow_behind r e =
      let (f, c) = answered_by_rules (slow r) e refl in
      let l = (subst (Stands n (lent_heard lent)) e lent_stands).1 in
      let k = length-map (lent_replies lent) heard in
      (f, omega arith)

  -- "the final result if there is one; .. slow OK if f+1 are OK"
  pub slow_ok_behind : count_lent n lent ≡ slow OK → (BadLent n lent → ⊥) × (((h : Heard) × (h ∈ lent_heard lent) × (h.is_final ≡ true) × (h.result ≡ OK)) ⊎ (quorum (f_of n) ≤ agreeing (lent_heard lent) OK))
  slow_ok_behind e = let (f, c) = answered_by_rules (slow OK) e refl in (f, (behind.ok_behind n (lent_heard lent) (inr c)).1)

  -- "wait if fewer than f+1 replies", and no result has the fast count
  pub wait_behind : count_lent n lent ≡ wait → (BadLent n lent → ⊥) × (length (lent_replies lent) < quorum (f_of n)) × ((r : Result) → agreeing (lent_heard lent) r < fast_count (f_of n))
  wait_behind e =
      let (f, c) = answered_by_rules wait e refl in
      let l = subst (Stands n (lent_heard lent)) e lent_stands in
      let k = length-map (lent_replies lent) heard in
      (f, omega arith, λ r. omega (arith, agreeing_few (lent_heard lent) r, fast_quorum (f_of n)))

-- ---- the order of the replies does not matter

-- replies in another order say the same in another order
heard_reordered : {rs qs : List Reply} → Reordered rs qs → Reordered (all_heard rs) (all_heard qs)
heard_reordered same = same
heard_reordered swapped = swapped
heard_reordered (under p) = under (heard_reordered p)
heard_reordered (then p q) = then (heard_reordered p) (heard_reordered q)

-- so any order of them is counted alike
pub count-any_order : (n : ℕ) {rs qs : List Reply} → Reordered rs qs → count_of n rs ≡ count_of n qs
unfolding count_of
count-any_order n p = rw (every_kept result_read p, orders.count-any_order n (heard_reordered p))

-- and any order in which they are lent, in either form
pub count-any_lent : (n : ℕ) (lent other : Lent) → Whole lent → Whole other → Reordered (lent_replies lent) (lent_replies other) → count_lent n lent ≡ count_lent n other
count-any_lent n lent other w v p = whole_lent n lent w ∙ count-any_order n p ∙ sym (whole_lent n other v)

-- ---- replies that were heard: the answer of either call says what `rules` counts of them

-- an answer says the count that it is of
says : (n : ℕ) (lent : Lent) {c : rules.Counted} → count_lent n lent ≡ c → {a : Answer} → a ≡ answer_as (count_lent n lent) → (a ≡ answer_as c) × (meant a ≡ c)
says n lent k e = (e ∙ ap answer_as k, ap meant e ∙ answer_meant n lent ∙ k)

pub counted_heard : (n : ℕ) (hs : List Heard) → EachFits hs → {a : Answer} → a ≡ answer_as (count_bytes n (all_bytes hs)) → (a ≡ answer_as (counted n hs)) × (meant a ≡ counted n hs)
counted_heard n hs k = says n (laid (all_bytes hs)) (count_of_bytes n hs k)

pub counted_records : (n : ℕ) (hs : List Heard) → ResultsByRule hs → {a : Answer} → a ≡ answer_as (count_of n (map reply_of hs)) → (a ≡ answer_as (counted n hs)) × (meant a ≡ counted n hs)
counted_records n hs k = says n (records (map reply_of hs)) (count_of_records n hs k)

-- What stands behind a count: the replies that a fast result, and an OK, come from.
use mathlib.Core.Path.{◌≡◌, refl, subst}
use mathlib.Core.Bool.{Bool, true, false, cond}
use mathlib.Core.Logic.{◌⊎◌, inl, inr}
use mathlib.Core.List.{List}
use mathlib.Core.Option.{Option, none, some}
use Prim.Native.Nat.{ℕ, ◌≤◌, ◌<◌}
use native.Mathlib.Omega.{arith}
use lib.Dec.{eqb, leb, ltb}
use lib.ListN.{length}
use borrow.Author.Tests.{eqb-true, leb-true}
use Rattle.rules.specs.Tests.{any, twice, provided}
use Rattle.rules.specs.Groups.{f_of, quorum, fast_count}
use Rattle.rules.specs.Tables.{Result, Result.OK, Result.ABORT, Result.ABSTAIN, Result.RETRY, result_code, same_result}
use Rattle.rules.specs.Count.{Heard, bad_replies, agreeing, is_fast, count_number, Counted, Counted.fast, Counted.slow, Counted.wait, Counted.refused, fast_of, final_heard, greatest_retry, slow_result, slow_or, fast_or, decided, counted}
use Rattle.rules.proofs.Logic.{cases}
use Rattle.rules.proofs.Lists.{◌∈◌, provided_some, first_from}
use Rattle.rules.proofs.Groups.{fast_quorum}
use Rattle.rules.proofs.Votes.{replies_different, replies_inside}
use Rattle.rules.proofs.Orders.{count_good}

-- different boxes, all of the group
pub good_replies : (n : ℕ) (hs : List Heard) → bad_replies n hs ≡ false → (twice (λ h. h.box) hs ≡ false) × ((h : Heard) → h ∈ hs → h.box < n)
good_replies n hs good = (replies_different n hs good, replies_inside n hs good)

module _ (n : ℕ) (hs : List Heard) where
  -- ---- which part of the rule gave the answer

  abbrev Behind : Counted → Type 0
  Behind (fast r) = (bad_replies n hs ≡ false) × (fast_of n hs ≡ some r)
  Behind (slow r) = (bad_replies n hs ≡ false) × ((final_heard hs ≡ some r) ⊎ (slow_result n hs ≡ r))
  Behind wait = Unit {0}
  Behind (refused k) = Unit {0}

  decided_behind : bad_replies n hs ≡ false → Behind (decided n hs)
  unfolding decided
  decided_behind good = go (fast_of n hs) refl (ltb (length hs) (quorum (f_of n))) (final_heard hs) refl
    where
      go : (a : Option Result) → fast_of n hs ≡ a → (b : Bool) (o : Option Result) → final_heard hs ≡ o → Behind (fast_or a (cond b wait (slow_or o (slow_result n hs))))
      go (some r) e b o k = (good, e)
      go none e true o k = tt
      go none e false (some r) k = (good, inl k)
      go none e false none k = (good, inr refl)

  counted_behind : Behind (counted n hs)
  unfolding counted
  counted_behind = go (cases (eqb (count_number n hs) 0))
    where
      go : (eqb (count_number n hs) 0 ≡ true) ⊎ (eqb (count_number n hs) 0 ≡ false) → Behind (counted n hs)
      go (inl e) = rw e (decided_behind (count_good n hs (eqb-true _ 0 e)))
      go (inr e) = rw e tt

  -- ---- and the replies behind that part

  fast_from : (r : Result) → fast_of n hs ≡ some r → fast_count (f_of n) ≤ agreeing hs r
  unfolding fast_of is_fast
  fast_from r e =
      let (h, m, k) = first_from (λ h. provided (is_fast n hs h.result) h.result) hs r e in
      let (f, i) = provided_some (is_fast n hs h.result) h.result r k in
      rw (← i) (leb-true _ _ f)

  pub final_from_lem : (r : Result) → final_heard hs ≡ some r → (h : Heard) × (h ∈ hs) × (h.is_final ≡ true) × (h.result ≡ r)
  unfolding final_heard
  final_from_lem r e =
      let (h, m, k) = first_from (λ h. provided h.is_final h.result) hs r e in
      let (f, i) = provided_some h.is_final h.result r k in
      (h, m, f, i)

  slow_enough : slow_result n hs ≡ OK → quorum (f_of n) ≤ agreeing hs OK
  unfolding slow_result
  slow_enough e = go (any (λ h. same_result ABORT h.result) hs) (leb (quorum (f_of n)) (agreeing hs OK)) refl (any (λ h. eqb (result_code h.result) 4) hs) e
    where
      go : (a b : Bool) → leb (quorum (f_of n)) (agreeing hs OK) ≡ b → (c : Bool) → cond a ABORT (cond b OK (cond c (RETRY (greatest_retry hs)) ABSTAIN)) ≡ OK → quorum (f_of n) ≤ agreeing hs OK
      go a true l c k = leb-true _ _ l
      go true false l c k = let z : ◌≡◌ {A = ℕ} 0 1 = cc in absurd (omega arith)
      go false false l true k = let z : ◌≡◌ {A = ℕ} 0 1 = cc in absurd (omega arith)
      go false false l false k = let z : ◌≡◌ {A = ℕ} 0 1 = cc in absurd (omega arith)

  -- ---- what a coordinator may conclude

  pub fast_behind : (r : Result) → counted n hs ≡ fast r → (bad_replies n hs ≡ false) × (fast_count (f_of n) ≤ agreeing hs r)
  fast_behind r e = let (good, k) = subst Behind e counted_behind in (good, fast_from r k)

  -- an OK is from a final OK, or from f+1 that say OK
  pub ok_behind : (counted n hs ≡ fast OK) ⊎ (counted n hs ≡ slow OK) → (bad_replies n hs ≡ false) × (((h : Heard) × (h ∈ hs) × (h.is_final ≡ true) × (h.result ≡ OK)) ⊎ (quorum (f_of n) ≤ agreeing hs OK))
  ok_behind (inl e) = let (good, l) = fast_behind OK e in (good, inr (omega (arith, fast_quorum (f_of n))))
  ok_behind (inr e) = let (good, k) = subst Behind e counted_behind in (good, go k)
    where
      go : (final_heard hs ≡ some OK) ⊎ (slow_result n hs ≡ OK) → ((h : Heard) × (h ∈ hs) × (h.is_final ≡ true) × (h.result ≡ OK)) ⊎ (quorum (f_of n) ≤ agreeing hs OK)
      go (inl k) = inl (final_from_lem OK k)
      go (inr k) = inr (slow_enough k)

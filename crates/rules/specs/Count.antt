-- 01, 'The coordinator's count'. The seven rules that end that chapter are premises about what coordinators send, and no part of the count.
use Rattle.std.specs.Prelude.{Bool, not, cond, List, [], ◌∷◌, ℕ, eqb, ltb, leb, length}
use Rattle.std.proofs.Math.Option.{Option, none, some}
use Rattle.rules.specs.Tests.{both, either, any, count, greatest, some_pair, twice, provided, first_of}
use Rattle.rules.specs.Groups.{is_group, f_of, quorum, fast_count}
use Rattle.rules.specs.Tables.{Result, Result.OK, Result.ABORT, Result.ABSTAIN, Result.RETRY, result_code, result_retry, same_result, result_by_rule}
use Rattle.rules.specs.Numbers.{Number.bad_message, Number.contradiction, Circumstance, number}

-- "Replies are lent as a list of small records: box, view, result with its retry stamp, final or not."
pub record Heard : Type 0 where
  pub box : ℕ
  pub view : ℕ
  pub result : Result
  pub is_final : Bool

-- ---- "Bad n, a box outside the group or twice, unequal views or a bad result: 3."

unfoldable pub unequal_views : List Heard → Bool
unequal_views hs = some_pair (λ h g. not (eqb h.view g.view)) hs

unfoldable pub bad_replies : ℕ → List Heard → Bool
bad_replies n hs =
    either (not (is_group n))
    (either (any (λ h. not (ltb h.box n)) hs)
    (either (twice (λ h. h.box) hs) (either (unequal_views hs) (any (λ h. not (result_by_rule h.result)) hs))))

-- ---- "Two unequal finals, or a fast count for a result other than a final one: 6."

-- how many boxes agree on r
unfoldable pub agreeing : List Heard → Result → ℕ
agreeing hs r = count (λ h. same_result r h.result) hs

-- "the fast count of boxes agree on r"
unfoldable pub is_fast : ℕ → List Heard → Result → Bool
is_fast n hs r = leb (fast_count (f_of n)) (agreeing hs r)

unfoldable pub unequal_final_heard : List Heard → Bool
unequal_final_heard hs = some_pair (λ h g. both (both h.is_final g.is_final) (not (same_result h.result g.result))) hs

unfoldable pub fast_beside_final : ℕ → List Heard → Bool
fast_beside_final n hs = some_pair (λ h g. both (both h.is_final (is_fast n hs g.result)) (not (same_result h.result g.result))) hs

unfoldable pub count_circumstances : ℕ → List Heard → List Circumstance
count_circumstances n hs = (bad_message, bad_replies n hs) ∷ (contradiction, either (unequal_final_heard hs) (fast_beside_final n hs)) ∷ []

unfoldable pub count_number : ℕ → List Heard → ℕ
count_number n hs = number (count_circumstances n hs)

-- ---- "Then: fast with r .. wait .. slow with .."

pub data Counted : Type 0 where
  fast slow : Result → Counted
  wait : Counted
  refused : ℕ → Counted

-- "fast with r if the fast count of boxes agree on r"
unfoldable pub fast_of : ℕ → List Heard → Option Result
fast_of n hs = first_of (λ h. provided (is_fast n hs h.result) h.result) hs

-- "the final result if there is one"
unfoldable pub final_heard : List Heard → Option Result
final_heard hs = first_of (λ h. provided h.is_final h.result) hs

-- "slow RETRY with the greatest stamp if any"
unfoldable pub greatest_retry : List Heard → ℕ
greatest_retry hs = greatest (λ h. result_retry h.result) hs

-- "slow ABORT if any is ABORT; slow OK if f+1 are OK; slow RETRY with the greatest stamp if any; slow ABSTAIN"
unfoldable pub slow_result : ℕ → List Heard → Result
slow_result n hs =
    cond (any (λ h. same_result ABORT h.result) hs) ABORT
    (cond (leb (quorum (f_of n)) (agreeing hs OK)) OK (cond (any (λ h. eqb (result_code h.result) 4) hs) (RETRY (greatest_retry hs)) ABSTAIN))

abbrev pub slow_or : Option Result → Result → Counted
slow_or (some r) q = slow r
slow_or none q = slow q

abbrev pub fast_or : Option Result → Counted → Counted
fast_or (some r) c = fast r
fast_or none c = c

-- "fast .. ; wait if fewer than f+1 replies; slow with the final result if there is one; .."
unfoldable pub decided : ℕ → List Heard → Counted
decided n hs = fast_or (fast_of n hs) (cond (ltb (length hs) (quorum (f_of n))) wait (slow_or (final_heard hs) (slow_result n hs)))

-- the coordinator's count, whole
unfoldable pub counted : ℕ → List Heard → Counted
counted n hs = cond (eqb (count_number n hs) 0) (decided n hs) (refused (count_number n hs))

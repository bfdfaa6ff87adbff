-- The day's order: what its OK, its RETRY and its ABORT say, and how its check stands to the merge's.
use mathlib.Core.Path.{◌≡◌, refl, sym, ◌∙◌}
use mathlib.Core.Bool.{Bool, true, false}
use mathlib.Core.Logic.{◌⊎◌, inl, inr, ⊎_elim}
use mathlib.Core.List.{List}
use Prim.Native.Nat.{ℕ, ◌≤◌, ◌<◌}
use native.Mathlib.Omega.{arith}
use lib.Dec.{eqb, ltb}
use borrow.Author.Tests.{ltb-true, ltb-false, lt-ltb, eq-eqb}
use Rattle.rules.specs.Tests.{both, either, any}
use Rattle.rules.specs.Stamps.{Access, Body}
use Rattle.rules.specs.Tables.{Result, Result.OK, Result.ABSTAIN, Result.RETRY, Row}
use Rattle.rules.specs.Check.{committed, prepared, accepted, overwrites, rule_a, rule_b, retry_stamp, check_by, check}
use Rattle.rules.specs.DayOrder.{stale, day_a, common, day_b, day_check}
use Rattle.rules.specs.Inner.Clashes.{clash}
use Rattle.rules.proofs.Logic.{impossible, cases, so_neither, either_cases, both_left, both_right, both_true, either_first, either_second, same_test, eqb_sym}
use Rattle.rules.proofs.Lists.{◌∈◌, any_none, any_some, some_any}
use Rattle.rules.proofs.Check.{overwrites_at, overwrites_if, Counting, CheckByRule, Above, Fired, Fired.by_A, Fired.by_B, Fired.by_C, Fired.by_D, committed_accepted, prepared_accepted, counted, counted_so, fired, retry_says, ok_none, none_ok, a_counting, b_counting, check_clear, advice_greatest, advice_fires, by_rule_by}

-- ---- a stale read, and a register in common

module _ (w : ℕ) (writes reads : List Access) where
  pub stale_at : stale w writes reads ≡ true → (read : Access) × (read ∈ reads) × ((write : Access) × (write ∈ writes) × (eqb read.register write.register ≡ true) × (read.number < w))
  unfolding stale
  stale_at h =
      let (read, m, k) = any_some _ reads h in
      let (write, n, t) = any_some _ writes k in
      (read, m, (write, n, both_left _ _ t, ltb-true _ _ (both_right _ _ t)))

  pub stale_if : (read write : Access) → read ∈ reads → write ∈ writes → eqb read.register write.register ≡ true → read.number < w → stale w writes reads ≡ true
  unfolding stale
  stale_if read write m n e l = some_any _ reads read m (some_any _ writes write n (both_true e (lt-ltb _ _ l)))

  -- the older rule asks besides that the write lies below the reader's stamp
  pub overwrites_stale : (s : ℕ) → w < s → overwrites w writes s reads ≡ stale w writes reads
  overwrites_stale s g =
      same_test _ _ (λ h. let (read, m, (write, n, (e, l, k))) = overwrites_at w writes s reads h in stale_if read write m n e l)
      (λ h. let (read, m, (write, n, e, l)) = stale_at h in overwrites_if w writes s reads read write m n (e, l, g))

pub common_if : (these others : List Access) (a b : Access) → a ∈ these → b ∈ others → eqb a.register b.register ≡ true → common these others ≡ true
unfolding common
common_if these others a b m n e = some_any _ these a m (some_any _ others b n e)

-- ---- the rules of one row

pub day_a_counting : Counting day_a
unfolding day_a both
day_a_counting counts s x r = refl

pub day_b_counting : Counting day_b
unfolding day_b both
day_b_counting counts s x r = refl

pub day_b_above : Above day_b
unfolding day_b
day_b_above counts s x r b = ltb-true _ _ (both_left _ _ (both_right _ _ b))

-- whom B names at a stamp it names at every earlier one
pub day_b_downward : (counts : Row → Bool) (s t : ℕ) (x : Body) (r : Row) → s ≤ t → day_b counts t x r ≡ true → day_b counts s x r ≡ true
unfolding day_b
day_b_downward counts s t x r l h =
    let u = both_right _ _ h in
    let g : t < r.stamp = ltb-true _ _ (both_left _ _ u) in
    both_true (both_left _ _ h) (both_true (lt-ltb s r.stamp (omega arith)) (both_right _ _ u))

-- A asks nothing of the stamp
pub day_a_level : (counts : Row → Bool) (s t : ℕ) (x : Body) (r : Row) → day_a counts s x r ≡ day_a counts t x r
unfolding day_a
day_a_level counts s t x r = refl

-- ---- beside the merge's check

-- whom the older rules name, these name too
named_by_a : (counts : Row → Bool) (s : ℕ) (x : Body) (r : Row) → rule_a counts s x r ≡ true → day_a counts s x r ≡ true
unfolding rule_a day_a
named_by_a counts s x r h =
    let (read, m, (write, n, (e, l, g))) = overwrites_at r.stamp r.body.writes s x.reads (both_right _ _ h) in
    both_true (both_left _ _ h) (stale_if r.stamp r.body.writes x.reads read write m n e l)

named_by_b : (counts : Row → Bool) (s : ℕ) (x : Body) (r : Row) → rule_b counts s x r ≡ true → day_b counts s x r ≡ true
unfolding rule_b day_b
named_by_b counts s x r h =
    let (read, m, (write, n, (e, l, g))) = overwrites_at s x.writes r.stamp r.body.reads (both_right _ _ h) in
    both_true (both_left _ _ h) (both_true (lt-ltb _ _ g) (either_first _ _ (common_if r.body.reads x.writes read write m n e)))

-- what message 1 lets pass, the merge's check lets pass. Not the other way round: Examples.slipped_under
pub day_stricter : (rows : List Row) (s : ℕ) (x : Body) → day_check rows s x ≡ OK → check rows s x ≡ OK
unfolding day_check check
day_stricter rows s x ok =
    none_ok rule_a rule_b a_counting b_counting rows s x
    (λ r m. let (a, b) = ok_none day_a day_b day_a_counting day_b_counting rows s x ok r m in (so_neither _ _ (named_by_a accepted s x r) a, so_neither _ _ (named_by_b accepted s x r) b))

-- all that `history` asks of a check for message 1: OK, and no accepted row clashes
pub day_clear : (rows : List Row) (s : ℕ) (x : Body) → day_check rows s x ≡ OK → (r : Row) → r ∈ rows → accepted r ≡ true → clash s x r.stamp r.body ≡ false
day_clear rows s x ok = check_clear rows s x (day_stricter rows s x ok)

-- and all that later layers ask
pub day_by_rule : CheckByRule day_check
unfolding day_check
day_by_rule = by_rule_by day_a day_b day_b_counting

-- ---- "no entry may be slipped under one already accepted"

module _ (rows : List Row) (s : ℕ) (x : Body) where
  -- T and a row have a register in common that one of them writes
  abbrev pub Meeting : Row → Type 0
  Meeting r =
      (common r.body.reads x.writes ≡ true) ⊎ ((common r.body.writes x.writes ≡ true) ⊎ (common r.body.writes x.reads ≡ true))

  pub record InDaysOrder : Type 0 where
    -- every accepted row that T meets lies at or below s
    pub under : (r : Row) → r ∈ rows → accepted r ≡ true → Meeting r → r.stamp ≤ s
    -- each version that T read is at or above every accepted write of that register
    pub newest : (r : Row) → r ∈ rows → accepted r ≡ true → (read write : Access) → read ∈ x.reads → write ∈ r.body.writes → read.register ≡ write.register → r.stamp ≤ read.number

  module _ (ok : day_check rows s x ≡ OK) where
    none_named : (r : Row) → r ∈ rows → (day_a accepted s x r ≡ false) × (day_b accepted s x r ≡ false)
    unfolding day_check
    none_named r m = ok_none day_a day_b day_a_counting day_b_counting rows s x ok r m

    not_stale : (r : Row) → r ∈ rows → accepted r ≡ true → (read write : Access) → read ∈ x.reads → write ∈ r.body.writes → eqb read.register write.register ≡ true → r.stamp ≤ read.number
    unfolding day_a
    not_stale r m a read write i j e = go (cases (ltb read.number r.stamp))
      where
        go : (ltb read.number r.stamp ≡ true) ⊎ (ltb read.number r.stamp ≡ false) → r.stamp ≤ read.number
        go (inl l) = impossible (both_true a (stale_if r.stamp r.body.writes x.reads read write i j e (ltb-true _ _ l))) (none_named r m).0
        go (inr l) = ltb-false _ _ l

    not_later : (r : Row) → r ∈ rows → accepted r ≡ true → either (common r.body.reads x.writes) (common r.body.writes x.writes) ≡ true → r.stamp ≤ s
    unfolding day_b
    not_later r m a k = go (cases (ltb s r.stamp))
      where
        go : (ltb s r.stamp ≡ true) ⊎ (ltb s r.stamp ≡ false) → r.stamp ≤ s
        go (inl l) = impossible (both_true a (both_true l k)) (none_named r m).1
        go (inr l) = ltb-false _ _ l

    -- after OK, for a body whose versions are below its stamp, as 01 has every one
    pub in_days_order : ((read : Access) → read ∈ x.reads → read.number < s) → InDaysOrder
    unfolding common
    in_days_order below = record { under = under; newest = λ r m a read write i j e. not_stale r m a read write i j (eq-eqb _ _ e) }
      where
        under : (r : Row) → r ∈ rows → accepted r ≡ true → Meeting r → r.stamp ≤ s
        under r m a (inl k) = not_later r m a (either_first _ _ k)
        under r m a (inr (inl k)) = not_later r m a (either_second _ _ k)
        under r m a (inr (inr k)) =
            let (write, j, h) = any_some _ r.body.writes k in
            let (read, i, e) = any_some _ x.reads h in
            let l = not_stale r m a read write i j (sym (eqb_sym write.register read.register) ∙ e) in
            let b = below read i in
            omega arith

-- ---- later stamps

-- OK stays OK at every later stamp
pub day_upward : (rows : List Row) (s t : ℕ) (x : Body) → s ≤ t → day_check rows s x ≡ OK → day_check rows t x ≡ OK
unfolding day_check
day_upward rows s t x l ok =
    none_ok day_a day_b day_a_counting day_b_counting rows t x
    (λ r m. let (a, b) = ok_none day_a day_b day_a_counting day_b_counting rows s x ok r m in (day_a_level accepted t s x r ∙ a, so_neither _ _ (day_b_downward accepted s t x r l) b))

-- above the stamp of a RETRY B names nobody, and neither does its part of C
module _ (rows : List Row) (s : ℕ) (x : Body) (g : ℕ) (retry : day_check rows s x ≡ RETRY g) (t : ℕ) (later : g < t) where
  said : (any (day_a committed s x) rows ≡ false) × (any (day_b committed s x) rows ≡ true) × (retry_stamp day_b rows s x ≡ g)
  unfolding day_check
  said = retry_says day_a day_b rows s x g retry

  pub day_advice_clears : (counts : Row → Bool) → ((r : Row) → counts r ≡ true → accepted r ≡ true) → (r : Row) → r ∈ rows → day_b counts t x r ≡ false
  day_advice_clears counts so r m = so_neither _ _ beyond refl
    where
      beyond : day_b counts t x r ≡ true → false ≡ true
      beyond h =
          let above : s < retry_stamp day_b rows s x = advice_fires day_b day_b_above rows s x day_b_counting said.1 in
          let same = said.2 in
          let named : day_b counts s x r ≡ true = day_b_downward counts s t x r (omega arith) h in
          let at_most = advice_greatest day_b rows s x r m (counted_so day_b day_b_counting counts s x r accepted (so r (counted day_b day_b_counting counts s x r named)) named) in
          let later-still = day_b_above counts t x r h in
          absurd (omega arith)

  -- so the answer there is OK, or ABSTAIN because of a prepared write above a version that was read
  pub day_advice : (day_check rows t x ≡ OK) ⊎ ((day_check rows t x ≡ ABSTAIN) × (any (day_a prepared t x) rows ≡ true))
  unfolding day_check
  day_advice = go (check_by day_a day_b rows t x) (fired day_a day_b rows t x)
    where
      by_a_lem : any (λ r. either (day_a prepared t x r) (day_b prepared t x r)) rows ≡ true → any (day_a prepared t x) rows ≡ true
      by_a_lem c =
          let (r, m, e) = any_some _ rows c in
          ⊎_elim (λ a. some_any _ rows r m a) (λ b. impossible b (day_advice_clears prepared prepared_accepted r m)) (either_cases _ _ e)

      go : (q : Result) → Fired day_a day_b rows t x q → (q ≡ OK) ⊎ ((q ≡ ABSTAIN) × (any (day_a prepared t x) rows ≡ true))
      go q (by_A a) = let (r, m, e) = any_some _ rows a in impossible (day_a_level committed s t x r ∙ e) (any_none _ rows said.0 r m)
      go q (by_B a b) = let (r, m, e) = any_some _ rows b in impossible e (day_advice_clears committed committed_accepted r m)
      go q (by_C a b c) = inr (refl, by_a_lem c)
      go q (by_D a b c) = inl refl

-- The check: its parts over `++`, the clash behind its rules, what each answer says of the rows, and what the stamp of a RETRY says.
use mathlib.Core.Path.{◌≡◌, refl, sym, ap, ◌∙◌}
use mathlib.Core.Bool.{Bool, true, false, cond}
use mathlib.Core.Logic.{◌⊎◌, inl, inr, ⊎_elim}
use mathlib.Core.List.Memᴰ
use mathlib.Core.List.{List, [], ◌∷◌, ◌++◌}
use Prim.Native.Nat.{ℕ, ◌≤◌, ◌<◌, max}
use native.Mathlib.Omega.{arith}
use lib.Dec.{eqb, ltb}
use borrow.Author.Tests.{ltb-true, ltb-false, lt-ltb}
use Rattle.rules.specs.Tests.{both, either, any, every, those, greatest}
use Rattle.rules.specs.Stamps.{Access, Body, is_stamp}
use Rattle.rules.specs.Tables.{Result, Result.OK, Result.ABORT, Result.ABSTAIN, Result.RETRY, Outcome.no_outcome, Outcome.noted, Verdict, Verdict.commit, Verdict.abort, result_retry, result_by_rule, Row, row_by_rule}
use Rattle.rules.specs.Messages.{Check, with_outcome}
use Rattle.rules.specs.Check.{committed, prepared, accepted, Rule, overwrites, rule_a, rule_b, retry_stamp, check_by, check}
use Rattle.rules.specs.Inner.Clashes.{rule_c, clash}
use Rattle.rules.proofs.Logic.{cases, so_neither, either_cases, both_left, both_right, both_true, either_first, either_second, either_false, either_left, either_right, either_comm}
use Rattle.rules.proofs.Lists.{◌∈◌, any_append, those-append, greatest-append, any_none, none_any, any_some, some_any, every_one, all_every, those_of, those-those, any-those, in_those, greatest_above, greatest_below, greatest_is}

-- ---- over ++: A and C are Lists.any_append at their rules, and the stamp of a RETRY is the greater one

pub abort_append : (xs ys : List Row) (s : ℕ) (x : Body) → any (rule_a committed s x) (xs ++ ys) ≡ either (any (rule_a committed s x) xs) (any (rule_a committed s x) ys)
abort_append xs ys s x = any_append (rule_a committed s x) xs ys

pub advice_append : (B : Rule) (xs ys : List Row) (s : ℕ) (x : Body) → retry_stamp B (xs ++ ys) s x ≡ max (retry_stamp B xs s x) (retry_stamp B ys s x)
unfolding retry_stamp
advice_append B xs ys s x = ap (greatest (λ (r : Row). r.stamp)) (those-append _ xs ys) ∙ greatest-append _ _ _

pub abstain_append : (xs ys : List Row) (s : ℕ) (x : Body) → any (rule_c s x) (xs ++ ys) ≡ either (any (rule_c s x) xs) (any (rule_c s x) ys)
abstain_append xs ys s x = any_append (rule_c s x) xs ys

-- ---- what overwrites is told by the stamps

module _ (w : ℕ) (writes : List Access) (s : ℕ) (reads : List Access) where
  abbrev pub Between : Access → Access → Type 0
  Between read write = (eqb read.register write.register ≡ true) × (read.number < w) × (w < s)

  pub overwrites_at : overwrites w writes s reads ≡ true → (read : Access) × (read ∈ reads) × ((write : Access) × (write ∈ writes) × Between read write)
  unfolding overwrites
  overwrites_at h =
      let (read, m, k) = any_some _ reads h in
      let (write, n, t) = any_some _ writes k in
      let u = both_right _ _ t in
      (read, m, (write, n, (both_left _ _ t, ltb-true _ _ (both_left _ _ u), ltb-true _ _ (both_right _ _ u))))

  pub overwrites_if : (read write : Access) → read ∈ reads → write ∈ writes → Between read write → overwrites w writes s reads ≡ true
  unfolding overwrites
  overwrites_if read write m n (e, l, g) = some_any _ reads read m (some_any _ writes write n (both_true e (both_true (lt-ltb _ _ l) (lt-ltb _ _ g))))

  pub overwrites_below : overwrites w writes s reads ≡ true → w < s
  overwrites_below h = let (read, m, (write, n, (e, l, g))) = overwrites_at h in g

-- ---- the clash

pub clash_sym : (s : ℕ) (x : Body) (t : ℕ) (y : Body) → clash s x t y ≡ clash t y s x
unfolding clash
clash_sym s x t y = either_comm _ _

-- a write at the reader's own stamp is not below it
overwrites_self : (s : ℕ) (writes reads : List Access) → overwrites s writes s reads ≡ false
overwrites_self s writes reads = go (cases (overwrites s writes s reads))
  where
    go : (overwrites s writes s reads ≡ true) ⊎ (overwrites s writes s reads ≡ false) → overwrites s writes s reads ≡ false
    go (inl h) = let l = overwrites_below s writes s reads h in absurd (omega arith)
    go (inr h) = h

pub clash_irreflexive : (s : ℕ) (x y : Body) → clash s x s y ≡ false
unfolding clash
clash_irreflexive s x y = either_false (overwrites_self s y.writes x.reads) (overwrites_self s x.writes y.reads)

-- ---- committed, prepared, accepted

-- a noted outcome, commit or abort, leaves a row as prepared as it was without one
pub noted_stays_prepared : (r : Row) (v : Verdict) → prepared (with_outcome (noted v) r) ≡ prepared (with_outcome no_outcome r)
unfolding prepared
noted_stays_prepared r commit = refl
noted_stays_prepared r abort = refl

-- A, B and C together are: some accepted row clashes
pub rules_clash : (s : ℕ) (x : Body) (r : Row) → either (rule_a committed s x r) (either (rule_b committed s x r) (rule_c s x r)) ≡ both (accepted r) (clash s x r.stamp r.body)
unfolding rule_a rule_b rule_c accepted clash both either
rules_clash s x r = go (committed r) (prepared r) (overwrites r.stamp r.body.writes s x.reads) (overwrites s x.writes r.stamp r.body.reads)
  where
    go : (c p a b : Bool) → either (both c a) (either (both c b) (either (both p a) (both p b))) ≡ both (either c p) (either a b)
    go true true true b = refl
    go true true false true = refl
    go true true false false = refl
    go true false true b = refl
    go true false false true = refl
    go true false false false = refl
    go false true a b = refl
    go false false a b = refl

-- ---- the rows that count

-- a rule asks whether the row counts, and something that is the same whichever rows count
abbrev pub Counting : Rule → Type 0
Counting R = (counts : Row → Bool) (s : ℕ) (x : Body) (r : Row) → R counts s x r ≡ both (counts r) (R (λ q. true) s x r)

pub a_counting : Counting rule_a
unfolding rule_a both
a_counting counts s x r = refl

pub b_counting : Counting rule_b
unfolding rule_b both
b_counting counts s x r = refl

pub committed_accepted : (r : Row) → committed r ≡ true → accepted r ≡ true
unfolding accepted
committed_accepted r h = either_first _ _ h

pub prepared_accepted : (r : Row) → prepared r ≡ true → accepted r ≡ true
unfolding accepted
prepared_accepted r h = either_second _ _ h

module _ (R : Rule) (counting : Counting R) (counts : Row → Bool) (s : ℕ) (x : Body) (r : Row) where
  pub counted : R counts s x r ≡ true → counts r ≡ true
  counted h = both_left _ _ (sym (counting counts s x r) ∙ h)

  -- it holds of a row also where other rows count, if this one does
  pub counted_so : (others : Row → Bool) → others r ≡ true → R counts s x r ≡ true → R others s x r ≡ true
  counted_so others o h = counting others s x r ∙ both_true o (both_right _ _ (sym (counting counts s x r) ∙ h))

-- ---- what an answer says

-- C of one row, by any two rules
abbrev rule_c_by : Rule → Rule → ℕ → Body → Row → Bool
rule_c_by A B s x r = either (A prepared s x r) (B prepared s x r)

-- the rule that gave an answer; none before it fired
pub data Fired (A B : Rule) (rows : List Row) (s : ℕ) (x : Body) : Result → Type 0 where
  by_A : any (A committed s x) rows ≡ true → Fired A B rows s x ABORT
  by_B : any (A committed s x) rows ≡ false → any (B committed s x) rows ≡ true → Fired A B rows s x (RETRY (retry_stamp B rows s x))
  by_C : any (A committed s x) rows ≡ false → any (B committed s x) rows ≡ false → any (rule_c_by A B s x) rows ≡ true → Fired A B rows s x ABSTAIN
  by_D : any (A committed s x) rows ≡ false → any (B committed s x) rows ≡ false → any (rule_c_by A B s x) rows ≡ false → Fired A B rows s x OK

module _ (A B : Rule) (rows : List Row) (s : ℕ) (x : Body) where
  pub fired : Fired A B rows s x (check_by A B rows s x)
  unfolding check_by
  fired = go (any (A committed s x) rows) refl (any (B committed s x) rows) refl (any (rule_c_by A B s x) rows) refl
    where
      go : (a : Bool) → any (A committed s x) rows ≡ a → (b : Bool) → any (B committed s x) rows ≡ b → (c : Bool) → any (rule_c_by A B s x) rows ≡ c → Fired A B rows s x (cond a ABORT (cond b (RETRY (retry_stamp B rows s x)) (cond c ABSTAIN OK)))
      go true ea b eb c ec = by_A ea
      go false ea true eb c ec = by_B ea eb
      go false ea false eb true ec = by_C ea eb ec
      go false ea false eb false ec = by_D ea eb ec

-- RETRY, by any two rules: A did not fire, B did, and the stamp is its
pub retry_says : (A B : Rule) (rows : List Row) (s : ℕ) (x : Body) (g : ℕ) → check_by A B rows s x ≡ RETRY g → (any (A committed s x) rows ≡ false) × (any (B committed s x) rows ≡ true) × (retry_stamp B rows s x ≡ g)
retry_says A B rows s x g h = go (check_by A B rows s x) (fired A B rows s x) h
  where
    go : (q : Result) → Fired A B rows s x q → q ≡ RETRY g → (any (A committed s x) rows ≡ false) × (any (B committed s x) rows ≡ true) × (retry_stamp B rows s x ≡ g)
    go q (by_A p) e = let z : ◌≡◌ {A = ℕ} 0 1 = cc in absurd (omega arith)
    go q (by_B p k) e = (p, k, ap result_retry e)
    go q (by_C p k t) e = let z : ◌≡◌ {A = ℕ} 0 1 = cc in absurd (omega arith)
    go q (by_D p k t) e = let z : ◌≡◌ {A = ℕ} 0 1 = cc in absurd (omega arith)

-- OK, by any two rules: neither holds of an accepted row
module _ (A B : Rule) (a-counts : Counting A) (b-counts : Counting B) (rows : List Row) (s : ℕ) (x : Body) where
  abbrev pub NoneNamed : Type 0
  NoneNamed = (r : Row) → r ∈ rows → (A accepted s x r ≡ false) × (B accepted s x r ≡ false)

  -- committed or prepared, since accepted
  named_so : (R : Rule) → Counting R → (r : Row) → R accepted s x r ≡ true → either (R committed s x r) (R prepared s x r) ≡ true
  unfolding accepted
  named_so R counts r h =
      ⊎_elim (λ c. either_first _ _ (counted_so R counts accepted s x r committed c h)) (λ p. either_second _ _ (counted_so R counts accepted s x r prepared p h)) (either_cases _ _ (counted R counts accepted s x r h))

  not_named : (R : Rule) → Counting R → (r : Row) → R committed s x r ≡ false → R prepared s x r ≡ false → R accepted s x r ≡ false
  not_named R counts r c p = so_neither _ _ (named_so R counts r) (either_false c p)

  pub ok_none : check_by A B rows s x ≡ OK → NoneNamed
  ok_none h r m = go (check_by A B rows s x) (fired A B rows s x) h
    where
      go : (q : Result) → Fired A B rows s x q → q ≡ OK → (A accepted s x r ≡ false) × (B accepted s x r ≡ false)
      go q (by_A p) e = let z : ◌≡◌ {A = ℕ} 0 1 = cc in absurd (omega arith)
      go q (by_B p k) e = let z : ◌≡◌ {A = ℕ} 0 1 = cc in absurd (omega arith)
      go q (by_C p k t) e = let z : ◌≡◌ {A = ℕ} 0 1 = cc in absurd (omega arith)
      go q (by_D p k t) e =
          let c = any_none _ rows t r m in
          (not_named A a-counts r (any_none _ rows p r m) (either_left _ _ c), not_named B b-counts r (any_none _ rows k r m) (either_right _ _ c))

  unnamed : (R : Rule) → Counting R → (counts : Row → Bool) → ((r : Row) → counts r ≡ true → accepted r ≡ true) → (r : Row) → R accepted s x r ≡ false → R counts s x r ≡ false
  unnamed R counting counts so r n = so_neither _ _ (λ h. counted_so R counting counts s x r accepted (so r (counted R counting counts s x r h)) h) n

  pub none_ok : NoneNamed → check_by A B rows s x ≡ OK
  unfolding check_by
  none_ok h =
      let a = none_any (A committed s x) rows (λ r m. unnamed A a-counts committed committed_accepted r (h r m).0) in
      let b = none_any (B committed s x) rows (λ r m. unnamed B b-counts committed committed_accepted r (h r m).1) in
      let c = none_any (rule_c_by A B s x) rows (λ r m. either_false (unnamed A a-counts prepared prepared_accepted r (h r m).0) (unnamed B b-counts prepared prepared_accepted r (h r m).1)) in
      rw (a, b, c)

module _ (rows : List Row) (s : ℕ) (x : Body) where
  check_fired : Fired rule_a rule_b rows s x (check rows s x)
  unfolding check
  check_fired = fired rule_a rule_b rows s x

  -- OK: no accepted row clashes
  pub check_clear : check rows s x ≡ OK → (r : Row) → r ∈ rows → accepted r ≡ true → clash s x r.stamp r.body ≡ false
  unfolding check rule_a rule_b clash both
  check_clear h r m a = let (n, k) = ok_none rule_a rule_b a_counting b_counting rows s x h r m in either_false (rw a at n) (rw a at k)

  -- the accepted row that clashes
  abbrev pub Against : Type 0
  Against = (r : Row) × (r ∈ rows) × (accepted r ≡ true) × (clash s x r.stamp r.body ≡ true)

  -- not OK: some accepted row clashes
  pub check_against : (check rows s x ≡ OK → ⊥) → Against
  unfolding rule_c
  check_against h = go (check rows s x) check_fired h
    where
      found : (r : Row) → r ∈ rows → either (rule_a committed s x r) (either (rule_b committed s x r) (rule_c s x r)) ≡ true → Against
      found r m e = let k = sym (rules_clash s x r) ∙ e in (r, m, both_left _ _ k, both_right _ _ k)

      go : (q : Result) → Fired rule_a rule_b rows s x q → (q ≡ OK → ⊥) → Against
      go q (by_A p) n = let (r, m, e) = any_some _ rows p in found r m (either_first _ _ e)
      go q (by_B p k) n = let (r, m, e) = any_some _ rows k in found r m (either_second _ _ (either_first _ _ e))
      go q (by_C p k t) n = let (r, m, e) = any_some _ rows t in found r m (either_second _ _ (either_second _ _ e))
      go q (by_D p k t) n = absurd (n refl)

-- ---- the stamp of a RETRY: what it advises

module _ (B : Rule) (rows : List Row) (s : ℕ) (x : Body) where
  -- "the greatest": no accepted row that B names lies above it
  pub advice_greatest : (r : Row) → r ∈ rows → B accepted s x r ≡ true → r.stamp ≤ retry_stamp B rows s x
  unfolding retry_stamp
  advice_greatest r m e = greatest_above (λ (q : Row). q.stamp) (those (B accepted s x) rows) r (in_those _ rows r m e)

  -- and it is the stamp of one of them, if there is one
  pub advice_is : any (B accepted s x) rows ≡ true → (r : Row) × (r ∈ rows) × (B accepted s x r ≡ true) × (r.stamp ≡ retry_stamp B rows s x)
  unfolding retry_stamp
  advice_is h =
      let (r, m, e) = any_some _ rows h in
      go (those (B accepted s x) rows) refl r (in_those _ rows r m e)
    where
      go : (l : List Row) → those (B accepted s x) rows ≡ l → (r : Row) → r ∈ those (B accepted s x) rows → (r : Row) × (r ∈ rows) × (B accepted s x r ≡ true) × (r.stamp ≡ greatest (λ (q : Row). q.stamp) (those (B accepted s x) rows))
      go [] e r m = absurd (Memᴰ.not-nil (rw e at m))
      go (y ∷ ys) e r m =
          let (q, n, k) = greatest_is (λ (q : Row). q.stamp) y ys in
          let (i, b) = those_of (B accepted s x) rows q (rw (sym e) at n) in
          (q, i, b, k ∙ ap (greatest (λ (p : Row). p.stamp)) (sym e))

  module _ (counting : Counting B) where
    named : (r : Row) → B committed s x r ≡ true → B accepted s x r ≡ true
    named r b = counted_so B counting committed s x r accepted (committed_accepted r (counted B counting committed s x r b)) b

    -- where B fires, the stamp is that of an accepted row
    pub fired_advice : any (B committed s x) rows ≡ true → (r : Row) × (r ∈ rows) × (B accepted s x r ≡ true) × (r.stamp ≡ retry_stamp B rows s x)
    fired_advice h = let (r, m, b) = any_some _ rows h in advice_is (some_any _ rows r m (named r b))

    -- no client is worse off than with the committed rows' stamp
    pub advice_no_less : greatest (λ (r : Row). r.stamp) (those (B committed s x) rows) ≤ retry_stamp B rows s x
    advice_no_less = greatest_below (λ (r : Row). r.stamp) _ _ (λ r m. let (i, b) = those_of (B committed s x) rows r m in advice_greatest r i (named r b))

-- whom a rule names lies above the stamp
abbrev pub Above : Rule → Type 0
Above B = (counts : Row → Bool) (s : ℕ) (x : Body) (r : Row) → B counts s x r ≡ true → s < r.stamp

pub b_above : Above rule_b
unfolding rule_b
b_above counts s x r b = overwrites_below s x.writes r.stamp r.body.reads (both_right _ _ b)

module _ (B : Rule) (above : Above B) (rows : List Row) (s : ℕ) (x : Body) where
  -- where B fires the advice is above s. Not the other way round: Examples.advice_alone
  pub advice_fires : Counting B → any (B committed s x) rows ≡ true → s < retry_stamp B rows s x
  advice_fires counting h = let (r, m, b, e) = fired_advice B rows s x counting h in let l = above accepted s x r b in omega arith

  -- whom B named at s it does not name above the advice, whichever rows count
  pub advice_clears : (t : ℕ) → retry_stamp B rows s x < t → (r : Row) → r ∈ rows → B accepted s x r ≡ true → (counts : Row → Bool) → B counts t x r ≡ false
  advice_clears t g r m b counts = go (cases (B counts t x r))
    where
      go : (B counts t x r ≡ true) ⊎ (B counts t x r ≡ false) → B counts t x r ≡ false
      go (inl h) =
          let l = above counts t x r h in
          let k = advice_greatest B rows s x r m b in
          absurd (omega arith)
      go (inr h) = h

-- whom B names above the advice, and above s, has read a register that x writes at a version of s or more
pub advice_newer : (rows : List Row) (s : ℕ) (x : Body) (t : ℕ) → retry_stamp rule_b rows s x < t → s < t → (r : Row) → r ∈ rows → rule_b accepted t x r ≡ true →
    (read : Access) × (read ∈ r.body.reads) × ((write : Access) × (write ∈ x.writes) × (eqb read.register write.register ≡ true) × (s ≤ read.number))
unfolding rule_b
advice_newer rows s x t g l r m b =
    let (read, i, (write, j, (e, k, h))) = overwrites_at t x.writes r.stamp r.body.reads (both_right _ _ b) in
    (read, i, (write, j, e, newer read write i j e h (cases (ltb read.number s))))
  where
    newer : (read write : Access) → read ∈ r.body.reads → write ∈ x.writes → eqb read.register write.register ≡ true → t < r.stamp → (ltb read.number s ≡ true) ⊎ (ltb read.number s ≡ false) → s ≤ read.number
    newer read write i j e h (inr o) = ltb-false _ _ o
    newer read write i j e h (inl o) =
        let named : rule_b accepted s x r ≡ true = both_true (both_left _ _ b) (overwrites_if s x.writes r.stamp r.body.reads read write i j (e, ltb-true _ _ o, omega arith)) in
        let k = advice_greatest rule_b rows s x r m named in
        absurd (omega arith)

-- ---- only accepted rows count

module _ (A B : Rule) (a-counts : Counting A) (b-counts : Counting B) (test : Row → Bool) (h : (r : Row) → accepted r ≡ true → test r ≡ true) (rows : List Row) (s : ℕ) (x : Body) where
  by_committed : (R : Rule) → Counting R → any (R committed s x) (those test rows) ≡ any (R committed s x) rows
  by_committed R counting = any-those (R committed s x) test (λ r k. h r (committed_accepted r (counted R counting committed s x r k))) rows

  by_prepared : any (λ r. either (A prepared s x r) (B prepared s x r)) (those test rows) ≡ any (λ r. either (A prepared s x r) (B prepared s x r)) rows
  by_prepared = any-those _ test (λ r k. go r (either_cases _ _ k)) rows
    where
      go : (r : Row) → (A prepared s x r ≡ true) ⊎ (B prepared s x r ≡ true) → test r ≡ true
      go r (inl k) = h r (prepared_accepted r (counted A a-counts prepared s x r k))
      go r (inr k) = h r (prepared_accepted r (counted B b-counts prepared s x r k))

  by_accepted : retry_stamp B (those test rows) s x ≡ retry_stamp B rows s x
  unfolding retry_stamp
  by_accepted = rw (those-those (B accepted s x) test (λ r k. h r (counted B b-counts accepted s x r k)) rows)

  -- a check may pass over rows that are not accepted
  pub those_by : check_by A B (those test rows) s x ≡ check_by A B rows s x
  unfolding check_by
  those_by = rw (by_committed A a-counts, by_committed B b-counts, by_accepted, by_prepared)

-- so one that sees only settled rows may look at all
pub check_those : (test : Row → Bool) → ((r : Row) → accepted r ≡ true → test r ≡ true) → (rows : List Row) (s : ℕ) (x : Body) → check (those test rows) s x ≡ check rows s x
unfolding check
check_those = those_by rule_a rule_b a_counting b_counting

-- ---- results of a check keep the rows' rule

-- the stamp of a RETRY is that of a row
pub stamped_by : (A B : Rule) → Counting B → (rows : List Row) (s : ℕ) (x : Body) → every (λ r. is_stamp r.stamp) rows ≡ true → result_by_rule (check_by A B rows s x) ≡ true
unfolding result_by_rule
stamped_by A B counting rows s x h = go (check_by A B rows s x) (fired A B rows s x)
  where
    go : (q : Result) → Fired A B rows s x q → result_by_rule q ≡ true
    go q (by_A p) = refl
    go q (by_B p k) = let (r, m, b, e) = fired_advice B rows s x counting k in ap is_stamp (sym e) ∙ every_one _ rows h r m
    go q (by_C p k t) = refl
    go q (by_D p k t) = refl

pub check_stamped : (rows : List Row) (s : ℕ) (x : Body) → every (λ r. is_stamp r.stamp) rows ≡ true → result_by_rule (check rows s x) ≡ true
unfolding check
check_stamped = stamped_by rule_a rule_b b_counting

row_stamp : (r : Row) → row_by_rule r ≡ true → is_stamp r.stamp ≡ true
unfolding row_by_rule
row_stamp r h = both_left _ _ h

-- what later layers ask of any check that takes the place of this one
abbrev pub CheckByRule : Check → Type 0
CheckByRule any-check = (rows : List Row) (s : ℕ) (x : Body) → every row_by_rule rows ≡ true → result_by_rule (any-check rows s x) ≡ true

-- one by two rules is such a check
pub by_rule_by : (A B : Rule) → Counting B → CheckByRule (check_by A B)
by_rule_by A B counting rows s x h = stamped_by A B counting rows s x (all_every _ rows (λ r m. row_stamp r (every_one row_by_rule rows h r m)))

pub check_by_rule : CheckByRule check
unfolding check
check_by_rule = by_rule_by rule_a rule_b b_counting

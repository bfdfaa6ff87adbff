-- A check may end at its floor: what lies below it is silent, by the merge's rules and by the day's. And it may end where an ABORT is sure.
use mathlib.Core.Path.{◌≡◌, refl, ◌∙◌}
use mathlib.Core.Bool.{Bool, true, false}
use mathlib.Core.Logic.{◌⊎◌, inl, inr}
use mathlib.Core.List.Memᴰ
use mathlib.Core.List.{List, [], ◌∷◌}
use Prim.Native.Nat.{ℕ, zero, suc, ◌+◌, ◌≤◌, ◌<◌, min}
use native.Mathlib.Omega.{arith}
use lib.Dec.{ltb}
use lib.ListN.{drop}
use borrow.Author.Tests.{ltb-true, ltb-false, le-ltb}
use Rattle.rules.specs.Tests.{either, any, those, count}
use Rattle.rules.specs.Stamps.{Access, Body}
use Rattle.rules.specs.Tables.{Result.ABORT, Row, rising}
use Rattle.rules.specs.Check.{committed, prepared, accepted, Rule, rule_a, rule_b, retry_stamp, check_by}
use Rattle.rules.specs.DayOrder.{day_a, day_b}
use Rattle.rules.specs.Inner.Floor.{floor_of}
use Rattle.rules.proofs.Logic.{cases, both_left, both_right, either_second}
use Rattle.rules.proofs.Lists.{◌∈◌}
use Rattle.rules.proofs.Check.{overwrites_at, Above, b_above}
use Rattle.rules.proofs.DayOrder.{stale_at, day_b_above}

-- ---- the floor

pub floor_stamp : (s : ℕ) (reads : List Access) → floor_of s reads ≤ s
unfolding floor_of
floor_stamp s [] = omega arith
floor_stamp s (read ∷ more) = let l = floor_stamp (min s read.number) more in omega arith

pub floor_version : (s : ℕ) (reads : List Access) (read : Access) → read ∈ reads → floor_of s reads ≤ read.number
unfolding floor_of
floor_version s [] read m = absurd (Memᴰ.not-nil m)
floor_version s (a ∷ more) read m = go (Memᴰ.cases_cons m) (λ n. floor_version (min s a.number) more read n)
  where
    go : (read ≡ a) ⊎ (read ∈ more) → (read ∈ more → floor_of (min s a.number) more ≤ read.number) → floor_of (min s a.number) more ≤ read.number
    go (inl e) below = rw e (let l = floor_stamp (min s a.number) more in omega arith)
    go (inr n) below = below n

-- ---- who is silent there

-- a rule that names no row at or below the floor
abbrev pub Silent : Rule → Type 0
Silent R = (counts : Row → Bool) (s : ℕ) (x : Body) (r : Row) → r.stamp ≤ floor_of s x.reads → R counts s x r ≡ false

silent_so : (R : Rule) → ((counts : Row → Bool) (s : ℕ) (x : Body) (r : Row) → R counts s x r ≡ true → floor_of s x.reads < r.stamp) → Silent R
silent_so R so counts s x r l = go (cases (R counts s x r))
  where
    go : (R counts s x r ≡ true) ⊎ (R counts s x r ≡ false) → R counts s x r ≡ false
    go (inl h) = let g = so counts s x r h in absurd (omega arith)
    go (inr h) = h

-- A asks for a row above a version that was read
pub a_silent : Silent rule_a
unfolding rule_a
a_silent =
    silent_so rule_a
    (λ counts s x r h. let (read, m, (write, n, (e, l, g))) = overwrites_at r.stamp r.body.writes s x.reads (both_right _ _ h) in let f = floor_version s x.reads read m in omega arith)

pub day_a_silent : Silent day_a
unfolding day_a
day_a_silent =
    silent_so day_a
    (λ counts s x r h. let (read, m, (write, n, e, l)) = stale_at r.stamp r.body.writes x.reads (both_right _ _ h) in let f = floor_version s x.reads read m in omega arith)

-- B for one above the stamp
above_silent : (B : Rule) → Above B → Silent B
above_silent B above = silent_so B (λ counts s x r h. let l = above counts s x r h in let f = floor_stamp s x.reads in omega arith)

pub b_silent : Silent rule_b
b_silent = above_silent rule_b b_above

pub day_b_silent : Silent day_b
day_b_silent = above_silent day_b day_b_above

-- ---- what may be left out

-- rising rows from a stamp on have none below it
none_below : (f low : ℕ) (rows : List Row) → f ≤ low → rising low rows ≡ true → count (λ q. ltb q.stamp f) rows ≡ 0
unfolding rising count
none_below f low [] l rise = refl
none_below f low (r ∷ rows) l rise =
    let k = ltb-true low r.stamp (both_left _ _ rise) in
    rw (le-ltb r.stamp f (omega arith), none_below f r.stamp rows (omega arith) (both_right _ _ rise))

any_behind : (test : Row → Bool) (n : ℕ) (rows : List Row) → any test (drop n rows) ≡ true → any test rows ≡ true
unfolding any
any_behind test zero rows h = h
any_behind test (suc n) [] h = h
any_behind test (suc n) (r ∷ rows) h = either_second _ _ (any_behind test n rows h)

module _ (A B : Rule) (s : ℕ) (x : Body) where
  module _ (silent-a : Silent A) (silent-b : Silent B) where
    one_silent : (r : Row) (rows : List Row) → r.stamp ≤ floor_of s x.reads → check_by A B (r ∷ rows) s x ≡ check_by A B rows s x
    unfolding check_by retry_stamp any those either
    one_silent r rows l = rw (silent-a committed s x r l, silent-b committed s x r l, silent-a prepared s x r l, silent-b prepared s x r l, silent-b accepted s x r l)

    -- of rising rows the first n may be left out, if so many lie below the floor
    pub floor_silent : (low n : ℕ) (rows : List Row) → rising low rows ≡ true → n ≤ count (λ q. ltb q.stamp (floor_of s x.reads)) rows → check_by A B rows s x ≡ check_by A B (drop n rows) s x
    unfolding rising count
    floor_silent low zero rows rise l = refl
    floor_silent low (suc n) [] rise l = absurd (omega arith)
    floor_silent low (suc n) (r ∷ rows) rise l = go (cases (ltb r.stamp (floor_of s x.reads))) (λ k. floor_silent r.stamp n rows (both_right _ _ rise) k)
      where
        below : ℕ
        below = count (λ q. ltb q.stamp (floor_of s x.reads)) rows

        go : (ltb r.stamp (floor_of s x.reads) ≡ true) ⊎ (ltb r.stamp (floor_of s x.reads) ≡ false) → (n ≤ below → check_by A B rows s x ≡ check_by A B (drop n rows) s x) → check_by A B (r ∷ rows) s x ≡ check_by A B (drop n rows) s x
        go (inl e) later =
            let k : r.stamp < floor_of s x.reads = ltb-true _ _ e in
            let m : suc n ≤ 1 + below = rw e at l in
            one_silent r rows (omega arith) ∙ later (omega arith)
        go (inr e) later =
            let k : floor_of s x.reads ≤ r.stamp = ltb-false _ _ e in
            let none = none_below (floor_of s x.reads) r.stamp rows k (both_right _ _ rise) in
            let m : suc n ≤ 0 + below = rw e at l in
            absurd (omega arith)

  -- A holds of a committed one of these rows: no other row can change the answer
  pub abort_sure : (n : ℕ) (rows : List Row) → any (A committed s x) (drop n rows) ≡ true → check_by A B rows s x ≡ ABORT
  unfolding check_by
  abort_sure n rows h = rw (any_behind (A committed s x) n rows h)

-- The first write that is met from the last row on is the greatest: rows rise.
use mathlib.Core.Path.{◌≡◌, refl, sym, ap, ◌∙◌}
use mathlib.Core.Bool.{Bool, true, false, cond}
use mathlib.Core.List.{List, [], ◌∷◌}
use mathlib.Core.Logic.{◌⊎◌, inl, inr}
use Prim.Native.Nat.{ℕ, zero, suc, ◌+◌, ◌-◌, ◌*◌, ◌≤◌, ◌<◌}
use native.Mathlib.Omega.{arith}
use Rattle.std.proofs.Common.{Option, Some, None, is_some, IfSome, unwrap_or}
use lib.Dec.{eqb, ltb, leb}
use lib.ListN.{drop}
use borrow.Author.Tests.{ltb-true, ltb-false, lt-ltb, le-ltb}
use Rattle.rules.specs.Tests.{both}
use Rattle.rules.specs.Stamps.{Access}
use Rattle.rules.specs.Tables.{Row, rising}
use Rattle.rules.specs.Check.{committed}
use Rattle.rules.specs.Messages.{Found, found, nothing_found, write_of, later}
use Rattle.rules.proofs.Logic.{impossible, cases, both_left, both_right}
use Rattle.rows.specs.declared.row.RowFields.{RowFields}
use Rattle.rows.specs.Fields.{fields_at}
use Rattle.rows.specs.Read.{row_of, rows_at}
use Rattle.checks.specs.declared.newest.Written.{Written}
use Rattle.checks.specs.Inner.Given.{found_meant}
use Rattle.checks.specs.Inner.Passed.{found_in}
use Rattle.checks.proofs.Steps.{rows_step, rows_behind}
use Rattle.checks.proofs.Rounds.{found_step, found_none}

-- what a row gives has its stamp for a version, or 0
write_version : (stamp : ℕ) (writes : List Access) (k : ℕ) → ((write_of stamp writes k).version ≡ stamp) ⊎ ((write_of stamp writes k).version ≡ 0)
unfolding write_of
write_version stamp [] k = inr refl
write_version stamp (a ∷ more) k = go (eqb a.register k) (write_version stamp more k)
  where
    go : (b : Bool) → ((write_of stamp more k).version ≡ stamp) ⊎ ((write_of stamp more k).version ≡ 0) → ((cond b (record { version = stamp; value = a.number }) (write_of stamp more k)).version ≡ stamp) ⊎ ((cond b (record { version = stamp; value = a.number }) (write_of stamp more k)).version ≡ 0)
    go true rest = inl refl
    go false rest = rest

row_version : (r : Row) (s k : ℕ) → ((found_in r s k).version ≡ r.stamp) ⊎ ((found_in r s k).version ≡ 0)
unfolding found_in
row_version r s k = go (both (committed r) (leb r.stamp s))
  where
    go : (b : Bool) → ((cond b (write_of r.stamp r.body.writes k) nothing_found).version ≡ r.stamp) ⊎ ((cond b (write_of r.stamp r.body.writes k) nothing_found).version ≡ 0)
    go true = write_version r.stamp r.body.writes k
    go false = inr refl

later_second : (a b : Found) → a.version ≤ b.version → later a b ≡ b
unfolding later
later_second a b l = rw (le-ltb b.version a.version l) refl

later_first : (a b : Found) → ltb b.version a.version ≡ true → later a b ≡ a
unfolding later
later_first a b t = rw t refl

-- with nothing behind a row, what it gives is what all give
pub later_nothing : (a : Found) → 0 < a.version → later a nothing_found ≡ a
unfolding later
later_nothing a l = rw (lt-ltb 0 a.version l) refl

pub later_none : (a : Found) → a.version ≤ 0 → later a nothing_found ≡ nothing_found
later_none a l = later_second a nothing_found l

rising_on : (low : ℕ) (r : Row) (rs : List Row) → rising low (r ∷ rs) ≡ true → (low < r.stamp) × (rising r.stamp rs ≡ true)
unfolding rising
rising_on low r rs h = (ltb-true low r.stamp (both_left _ _ h), both_right _ _ h)

-- rows above a stamp give a version above it, or none
found_above : (low : ℕ) (rows : List Row) (s k : ℕ) → rising low rows ≡ true → (low < (found rows s k).version) ⊎ ((found rows s k).version ≡ 0)
found_above low [] s k rise = inr (ap (λ (f : Found). f.version) (found_none s k))
found_above low (r ∷ rs) s k rise =
    let (l, on) = rising_on low r rs rise in
    rw (found_step r rs s k) (go l (row_version r s k) (found_above r.stamp rs s k on) (cases (ltb (found rs s k).version (found_in r s k).version)))
  where
    go : low < r.stamp → ((found_in r s k).version ≡ r.stamp) ⊎ ((found_in r s k).version ≡ 0) → (r.stamp < (found rs s k).version) ⊎ ((found rs s k).version ≡ 0) → (ltb (found rs s k).version (found_in r s k).version ≡ true) ⊎ (ltb (found rs s k).version (found_in r s k).version ≡ false) → (low < (later (found_in r s k) (found rs s k)).version) ⊎ ((later (found_in r s k) (found rs s k)).version ≡ 0)
    go l a b (inl t) = first l a (ltb-true _ _ t) (later_first (found_in r s k) (found rs s k) t)
      where
        first : low < r.stamp → ((found_in r s k).version ≡ r.stamp) ⊎ ((found_in r s k).version ≡ 0) → (found rs s k).version < (found_in r s k).version → later (found_in r s k) (found rs s k) ≡ found_in r s k → (low < (later (found_in r s k) (found rs s k)).version) ⊎ ((later (found_in r s k) (found rs s k)).version ≡ 0)
        first l (inl e) m is = inl (rw (is, e) l)
        first l (inr z) m is = absurd (omega arith)
    go l a (inl m) (inr f) = let is = later_second (found_in r s k) (found rs s k) (ltb-false _ _ f) in inl (rw is (omega arith))
    go l a (inr z) (inr f) = let is = later_second (found_in r s k) (found rs s k) (ltb-false _ _ f) in inr (rw is z)

-- so what some of the last rows give is what all give, if they give anything
pub found_behind : (low n : ℕ) (rows : List Row) (s k : ℕ) → rising low rows ≡ true → 0 < (found (drop n rows) s k).version → found rows s k ≡ found (drop n rows) s k
found_behind low zero rows s k rise l = refl
found_behind low (suc n) [] s k rise l = refl
found_behind low (suc n) (r ∷ rs) s k rise l =
    let (above, on) = rising_on low r rs rise in
    let rest : found rs s k ≡ found (drop n rs) s k = found_behind r.stamp n rs s k on l in
    found_step r rs s k ∙ go (row_version r s k) (found_above r.stamp rs s k on) rest ∙ rest
  where
    go : ((found_in r s k).version ≡ r.stamp) ⊎ ((found_in r s k).version ≡ 0) → (r.stamp < (found rs s k).version) ⊎ ((found rs s k).version ≡ 0) → found rs s k ≡ found (drop n rs) s k → later (found_in r s k) (found rs s k) ≡ found rs s k
    go (inl e) (inl m) rest = later_second (found_in r s k) (found rs s k) (omega arith)
    go (inr z) b rest = later_second (found_in r s k) (found rs s k) (omega arith)
    go (inl e) (inr z) rest = let v = ap (λ (f : Found). f.version) rest in absurd (omega arith)

-- ---- what was found, or 0 and 0

abbrev pub no_write : Written
no_write = record { version = 0; value = 0 }

pub version_or : (r : Option Written) → (unwrap_or r no_write).version ≡ (found_meant r).version
version_or None = refl
version_or (Some w) = refl

pub value_or : (r : Option Written) → (unwrap_or r no_write).value ≡ (found_meant r).value
value_or None = refl
value_or (Some w) = refl

-- ---- from the last row to the first

row_stamp : (s : List ℕ) (at n i low : ℕ) → i < n → rising low (rows_at s at n) ≡ true → low < (fields_at s (at + 24 * i)).stamp
unfolding rows_at row_of
row_stamp s at zero i low l rise = absurd (omega arith)
row_stamp s at (suc n) zero low l rise =
    let e : at + 24 * 0 ≡ at = omega arith in
    rw e (rising_on low (row_of s (fields_at s at)) (rows_at s (at + 24) n) rise).0
row_stamp s at (suc n) (suc i) low l rise =
    let (above, on) = rising_on low (row_of s (fields_at s at)) (rows_at s (at + 24) n) rise in
    let e : at + 24 + 24 * i ≡ at + 24 * suc i = omega arith in
    let next = rw e at (row_stamp s (at + 24) n i (fields_at s at).stamp (omega arith) on) in
    omega (arith, above, next)

module _ (s : List ℕ) (begin n i stamp k : ℕ) (l : 0 < i) (h : i ≤ n) (none : found (rows_at s (begin + 24 * i) (n - i)) stamp k ≡ nothing_found) where
  abbrev fields : RowFields
  fields = fields_at s (begin + 24 * (i - 1))

  row_alone : found (rows_at s (begin + 24 * (i - 1)) (n - (i - 1))) stamp k ≡ later (found_in (row_of s fields) stamp k) nothing_found
  row_alone = ap (λ (rs : List Row). found rs stamp k) (rows_step s begin n i l h) ∙ found_step _ _ stamp k ∙ ap (later (found_in (row_of s fields) stamp k)) none

  -- the first row that gives something gives what all give
  pub newest_met : (r : Option Written) → rising 0 (rows_at s begin n) ≡ true → is_some r ≡ true → found_meant r ≡ found_in (row_of s fields) stamp k → IfSome r (λ w. w.version ≡ fields.stamp) → found_meant r ≡ found (rows_at s begin n) stamp k
  newest_met None rise some e v = impossible some refl
  newest_met (Some w) rise some e v =
      let row : Found = found_in (row_of s fields) stamp k in
      let first : 0 < fields.stamp = row_stamp s begin n (i - 1) 0 (omega arith) rise in
      let above : 0 < row.version = rw (← e, v) first in
      let alone = row_alone ∙ later_nothing row above in
      let behind = rows_behind s begin n (i - 1) (omega arith) in
      e ∙ sym (found_behind 0 (i - 1) (rows_at s begin n) stamp k rise (rw (behind, alone) above) ∙ rw (behind, alone))

  -- a row that gives nothing leaves nothing given
  pub newest_goes_on : (r : Option Written) → is_some r ≡ false → found_meant r ≡ found_in (row_of s fields) stamp k → found (rows_at s (begin + 24 * (i - 1)) (n - (i - 1))) stamp k ≡ nothing_found
  newest_goes_on None some e = row_alone ∙ ap (λ (f : Found). later f nothing_found) (sym e) ∙ later_none nothing_found (omega arith)
  newest_goes_on (Some w) some e = impossible refl some

-- The checks of a merge, in turn: after each of them, which rows stand as before the checks, and why the others have their results.
use mathlib.Core.Path.{◌≡◌, refl, sym, ap, ◌∙◌}
use mathlib.Core.Bool.{Bool, true, false, not}
use mathlib.Core.Logic.{◌⊎◌, inl, inr}
use mathlib.Core.List.Memᴰ
use mathlib.Core.List.{List, [], ◌∷◌}
use Prim.Native.Nat.{ℕ, suc}
use native.Mathlib.Omega.{arith}
use lib.Dec.{eqb}
use borrow.Author.Tests.{eq-eqb, not-true}
use Rattle.rules.specs.Tests.{both, those}
use Rattle.rules.specs.Tables.{Result, Result.OK, Prepare.final, Row, Table}
use Rattle.rules.specs.Messages.{with_prepare}
use Rattle.rules.specs.Check.{check}
use Rattle.rules.specs.Inner.Clashes.{clash, accepted}
use Rattle.rules.specs.Merge.{stamps, rows_of, Standing, Standing.has_none, Standing.has_final, Standing.has_agreed, Standing.has_open, standing, unchecked_row, unchecked_rows, is_settled, among_agreed, among_open, to_check, checked_at, checked_in_turn, merged_rows}
use Rattle.rules.proofs.Logic.{impossible, same?, both_left, both_right, both_true}
use Rattle.rules.proofs.Lists.{◌∈◌, those_of, in_those}
use Rattle.rules.proofs.Rows.{changed_from, in_changed}
use Rattle.rules.proofs.Stamps.{RisingFrom, rising_least, rising-those, stamps_rising}
use Rattle.rules.proofs.Check.{clash_sym, clash_irreflexive, check_clear, check_against}
use Rattle.rules.proofs.Standings.{accepted_settled, check_settled}
use Rattle.history.proofs.Fairness.OneStamp.{waiting_empty, checked_ok, ok?}

-- whatever the standing: the agreed ones, and then the open ones
abbrev pub any_of : Standing → Bool
any_of c = true

module _ (agreement : ℕ) (Us : List Table) where
  -- ---- a row on its way

  -- the row of a stamp before any check
  abbrev pub before : ℕ → Row
  before s = unchecked_row agreement s (rows_of Us s)

  abbrev pub Unchecked : Row → Type 0
  Unchecked r = r ≡ before r.stamp

  -- a stamp waits for a check, among those of such a standing
  abbrev pub Waits : (Standing → Bool) → ℕ → Type 0
  Waits among s = both (among (standing agreement (rows_of Us s))) (not (is_settled (before s))) ≡ true

  -- a row is as before the checks, or its stamp waited among these and it has its result
  abbrev pub Stands : (Standing → Bool) → Row → Type 0
  Stands among r = Unchecked r ⊎ (Waits among r.stamp × ((a : Result) × (r ≡ with_prepare (final a) (before r.stamp))))

  abbrev pub Clash : Row → Row → Type 0
  Clash r q = clash r.stamp r.body q.stamp q.body ≡ true

  -- why r was not found OK: an accepted row clashes with it, and that one was not open
  abbrev pub Reason : List Row → Row → Type 0
  Reason rows r = (q : Row) × (q ∈ rows) × Clash r q × (accepted q ≡ true) × Stands among_agreed q

  -- its check is still to come, or it was found OK, or there is a reason
  abbrev pub Reasoned : List ℕ → List Row → Row → Type 0
  Reasoned ss rows r = (r.stamp ∈ ss) ⊎ ((r.prepare ≡ final OK) ⊎ Reason rows r)

  -- the rows while the stamps ss are still to be checked, and of those checked all waited among these standings
  pub record Midway (among : Standing → Bool) (ss : List ℕ) (rows : List Row) : Type 0 where
    pub stands : (r : Row) → r ∈ rows → Stands among r
    pub to_come : (r : Row) → r ∈ rows → r.stamp ∈ ss → Unchecked r
    -- only rows that were not checked are both accepted and clash
    pub apart : (r q : Row) → r ∈ rows → q ∈ rows → Clash r q → accepted r ≡ true → accepted q ≡ true → Unchecked r × Unchecked q
    pub reasoned : (r : Row) → r ∈ rows → Waits among_agreed r.stamp → Reasoned ss rows r

  -- a stamp that waits holds nothing yet
  pub waits_unsettled : (among : Standing → Bool) (s : ℕ) → Waits among s → is_settled (before s) ≡ false
  waits_unsettled among s w = not-true _ (both_right _ _ w)

  -- ---- one check

  module _ (among : Standing → Bool) (s : ℕ) (ss : List ℕ) (rows : List Row) (way : Midway among (s ∷ ss) rows) (waits : Waits among s) (once : s ∈ ss → ⊥) where
    abbrev result : Result
    result = check (those is_settled rows) s (before s).body

    abbrev new : Row
    new = with_prepare (final result) (before s)

    -- the row of s is new, and the others are as they were
    abbrev NewOrOld : Row → Type 0
    NewOrOld r = (r ≡ new) ⊎ ((r ∈ rows) × (eqb r.stamp s ≡ false))

    made : (q : Row) → q ∈ checked_at check s rows → NewOrOld q
    unfolding checked_at
    made q n = go (changed_from s _ rows q n)
      where
        Change : Row → Row
        Change r = with_prepare (final (check (those is_settled rows) s r.body)) r

        go : (r : Row) × (r ∈ rows) × (((r.stamp ≡ s) × (q ≡ Change r)) ⊎ ((eqb r.stamp s ≡ false) × (q ≡ r))) → NewOrOld q
        go (r, i, inl (k, e)) = inl (e ∙ ap Change (way.to_come r i (Memᴰ.head k) ∙ ap before k))
        go (r, i, inr (k, e)) = inr (rw e i, rw e k)

    -- a row that was accepted waited for nothing
    stays : (q : Row) → q ∈ rows → accepted q ≡ true → q ∈ checked_at check s rows
    unfolding checked_at
    stays q n a = go (same? q.stamp s)
      where
        go : (q.stamp ≡ s) ⊎ (eqb q.stamp s ≡ false) → q ∈ checked_at check s rows
        go (inl e) = impossible (accepted_settled q a) (ap is_settled (way.to_come q n (Memᴰ.head e) ∙ ap before e) ∙ waits_unsettled among s waits)
        go (inr e) = in_changed s _ rows q n e

    -- what is accepted by the check clashes with no accepted row
    clear : (r q : Row) → r ≡ new → q ∈ rows → Clash r q → accepted r ≡ true → accepted q ≡ true → {A : Type 0} → A
    unfolding unchecked_row
    clear r q e n c a b = impossible (rw e at c) (check_clear rows s (before s).body (sym (check_settled rows s (before s).body) ∙ ok) q n b)
      where
        ok : result ≡ OK
        ok = checked_ok (before s) result (waiting_empty (before s) (waits_unsettled among s waits)).1 (rw e at a)

    -- so only old rows can be accepted and clash, and of those it is known already
    next_apart : (r q : Row) → r ∈ checked_at check s rows → q ∈ checked_at check s rows → Clash r q → accepted r ≡ true → accepted q ≡ true → Unchecked r × Unchecked q
    next_apart r q m n c a b = go (made r m) (made q n)
      where
        go : NewOrOld r → NewOrOld q → Unchecked r × Unchecked q
        go (inl e) (inl k) = impossible (rw (e, k) at c) (clash_irreflexive new.stamp new.body new.body)
        go (inl e) (inr (j, d)) = clear r q e j c a b
        go (inr (i, d)) (inl k) = clear q r k i (sym (clash_sym r.stamp r.body q.stamp q.body) ∙ c) b a
        go (inr (i, d)) (inr (j, k)) = way.apart r q i j c a b

    module _ (early : Waits among_agreed s → (q : Row) → Stands among q → Stands among_agreed q) where
      -- the check said OK, or it saw the reason
      new_reasoned : (r : Row) → r ≡ new → Waits among_agreed r.stamp → Reasoned ss (checked_at check s rows) r
      unfolding unchecked_row
      new_reasoned r e w = go (ok? result)
        where
          against : (result ≡ OK → ⊥) → Reason (checked_at check s rows) new
          against d =
              let (q, n, a, c) = check_against rows s (before s).body (λ k. d (check_settled rows s (before s).body ∙ k)) in
              (q, stays q n a, c, a, early (rw e at w) q (way.stands q n))

          go : (result ≡ OK) ⊎ (result ≡ OK → ⊥) → Reasoned ss (checked_at check s rows) r
          go (inl k) = inr (inl (ap (λ (x : Row). x.prepare) e ∙ ap final k))
          go (inr d) = inr (inr (rw e (against d)))

      old_reasoned : (r : Row) → eqb r.stamp s ≡ false → Reasoned (s ∷ ss) rows r → Reasoned ss (checked_at check s rows) r
      old_reasoned r d (inr (inl p)) = inr (inl p)
      old_reasoned r d (inr (inr (q, n, c, a, w))) = inr (inr (q, stays q n a, c, a, w))
      old_reasoned r d (inl m) = go (Memᴰ.cases_cons m)
        where
          go : (r.stamp ≡ s) ⊎ (r.stamp ∈ ss) → Reasoned ss (checked_at check s rows) r
          go (inl e) = impossible (eq-eqb r.stamp s e) d
          go (inr k) = inl k

      next : Midway among ss (checked_at check s rows)
      unfolding unchecked_row
      next = record { stands = λ r m. stands r (made r m); to_come = λ r m. to_come r (made r m); apart = next_apart; reasoned = λ r m. reasoned r (made r m) }
        where
          stands : (r : Row) → NewOrOld r → Stands among r
          stands r (inl e) = inr (rw e (waits, (result, refl)))
          stands r (inr (m, d)) = way.stands r m

          to_come : (r : Row) → NewOrOld r → r.stamp ∈ ss → Unchecked r
          to_come r (inl e) k = absurd (once (rw e at k))
          to_come r (inr (m, d)) k = way.to_come r m (Memᴰ.tail k)

          reasoned : (r : Row) → NewOrOld r → Waits among_agreed r.stamp → Reasoned ss (checked_at check s rows) r
          reasoned r (inl e) w = new_reasoned r e w
          reasoned r (inr (m, d)) w = old_reasoned r d (way.reasoned r m w)

  -- ---- all checks

  -- s may be checked after stamps of these standings: it waits among them, and if it is agreed they all are
  abbrev MayFollow : (Standing → Bool) → ℕ → Type 0
  MayFollow among s = Waits among s × (Waits among_agreed s → (q : Row) → Stands among q → Stands among_agreed q)

  in_turn : (among : Standing → Bool) (low : ℕ) (ss : List ℕ) → RisingFrom low ss → ((s : ℕ) → s ∈ ss → MayFollow among s) → (rows : List Row) → Midway among ss rows → Midway among [] (checked_in_turn check ss rows)
  unfolding checked_in_turn
  in_turn among low [] h f rows way = way
  in_turn among low (s ∷ ss) (l, h) f rows way =
      let (w, early) = f s (Memᴰ.head refl) in
      in_turn among (suc s) ss h (λ t m. f t (Memᴰ.tail m)) (checked_at check s rows) (next among s ss rows way w (λ m. omega (arith, rising_least (suc s) ss h s m)) early)

  abbrev agreed_turns : List ℕ
  agreed_turns = to_check among_agreed agreement Us

  abbrev open_turns : List ℕ
  open_turns = to_check among_open agreement Us

  rising_turns : (among : Standing → Bool) → RisingFrom 0 (to_check among agreement Us)
  unfolding to_check
  rising_turns among = rising-those _ 0 (stamps Us) (stamps_rising Us)

  turn_waits : (among : Standing → Bool) (s : ℕ) → s ∈ to_check among agreement Us → Waits among s
  unfolding to_check
  turn_waits among s m = (those_of _ (stamps Us) s m).1

  -- at first no row is checked
  before_agreed : Midway among_agreed agreed_turns (unchecked_rows agreement Us)
  unfolding unchecked_rows unchecked_row to_check
  before_agreed = record { stands = λ r m. inl (unchecked r m).1; to_come = λ r m k. (unchecked r m).1; apart = λ r q m n c a b. ((unchecked r m).1, (unchecked q n).1); reasoned = λ r m w. inl (in_those _ (stamps Us) r.stamp (unchecked r m).0 w) }
    where
      unchecked : (r : Row) → r ∈ unchecked_rows agreement Us → (r.stamp ∈ stamps Us) × Unchecked r
      unchecked r m = let (s, i, e) = Memᴰ.of_map before (stamps Us) m in rw (sym e) (i, refl)

  agreed_not_open : {A : Type 0} (s : ℕ) → Waits among_agreed s → Waits among_open s → A
  agreed_not_open {A} s w k = go (standing agreement (rows_of Us s)) (both_left _ _ w) (both_left _ _ k)
    where
      go : (c : Standing) → among_agreed c ≡ true → among_open c ≡ true → A
      go has_none h h' = impossible h refl
      go (has_final a) h h' = impossible h refl
      go (has_agreed a) h h' = impossible h' refl
      go has_open h h' = impossible h refl

  -- what was checked among the agreed is not checked again among the open
  before_open : {rows : List Row} → Midway among_agreed [] rows → Midway any_of open_turns rows
  before_open {rows} way = record { stands = λ r m. any r (way.stands r m); to_come = λ r m k. to_come r (turn_waits among_open r.stamp k) (way.stands r m); apart = way.apart; reasoned = λ r m w. reasoned r (way.reasoned r m w) }
    where
      any : (r : Row) → Stands among_agreed r → Stands any_of r
      any r (inl e) = inl e
      any r (inr (w, a)) = inr (both_true refl (both_right _ _ w), a)

      to_come : (r : Row) → Waits among_open r.stamp → Stands among_agreed r → Unchecked r
      to_come r k (inl e) = e
      to_come r k (inr (w, a)) = agreed_not_open r.stamp w k

      reasoned : (r : Row) → Reasoned [] rows r → Reasoned open_turns rows r
      reasoned r (inl m) = absurd (Memᴰ.not-nil m)
      reasoned r (inr h) = inr h

  -- the merge's rows: none is still to come
  pub all_checked : Midway any_of [] (merged_rows check agreement Us)
  unfolding merged_rows
  all_checked = in_turn any_of 0 open_turns (rising_turns among_open) opens _ (before_open (in_turn among_agreed 0 agreed_turns (rising_turns among_agreed) agrees (unchecked_rows agreement Us) before_agreed))
    where
      agrees : (s : ℕ) → s ∈ agreed_turns → MayFollow among_agreed s
      agrees s m = (turn_waits among_agreed s m, λ w q h. h)

      opens : (s : ℕ) → s ∈ open_turns → MayFollow any_of s
      opens s m = let k = turn_waits among_open s m in (both_true refl (both_right _ _ k), λ w q h. agreed_not_open s w k)

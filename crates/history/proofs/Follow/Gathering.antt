-- A list of tables of different boxes as a crowd of boxes: a fair merge of the tables is a fair merge of what the boxes hold.
use mathlib.Core.Path.{◌≡◌, refl, sym, ap, ◌∙◌}
use mathlib.Core.Bool.{Bool, true, false}
use mathlib.Core.Logic.{◌⊎◌, inl, inr}
use mathlib.Core.Option.{Option, none, some}
use mathlib.Core.List.Memᴰ
use mathlib.Core.List.{List, [], ◌∷◌}
use Prim.Native.Nat.{ℕ, ◌+◌, ◌<◌}
use native.Mathlib.Omega.{arith}
use lib.Dec.{eqb}
use borrow.Author.Tests.{eqb-true, eq-eqb, le-leb, leb-true}
use Rattle.rules.specs.Tests.{bit, count, kept, those, twice, provided, first_of, and_also, all_of}
use Rattle.rules.specs.Groups.{f_of, agreement_count}
use Rattle.rules.specs.Tables.{Result, Result.OK, Prepare.tentative, Prepare.final, Verdict, Outcome.no_outcome, Outcome.done, Row, Table}
use Rattle.rules.specs.Messages.{held, prepare_of, outcome_of}
use Rattle.rules.specs.Inner.Clashes.{accepted}
use Rattle.rules.specs.Merge.{rows_of, holds_tentative, is_agreed}
use Rattle.rules.proofs.Logic.{impossible, either_left, either_right, either_false, eqb_self}
use Rattle.rules.proofs.Lists.{◌∈◌, any_none, none_any, those_of, provided_some, first_is}
use Rattle.rules.proofs.Rows.{held_from_lem}
use Rattle.rules.proofs.Same.{result_same}
use Rattle.history.proofs.Group.Below.{list_at_least, at_least_list}
use Rattle.history.proofs.Group.Cells.{is_ok, is_accepted, Holds, accepted_is, verdict_holds, holds_verdict_lem}
use Rattle.history.proofs.Group.Entries.{Cells}
use Rattle.history.proofs.Group.Invariant.{accepted_cell, NoFinalAt, AgreedAt, FixedAt, FairCells}
use Rattle.history.proofs.Fairness.Fair.{NoFinal, Agreed, Fixed, ClashesWith, Fair}
use Rattle.history.proofs.Fairness.OneStamp.{is_tentative_lem}
use Rattle.history.proofs.Follow.World.{World, setup, cells_in}

-- ---- elements with different numbers

module _ {A : Type 0} (number : A → ℕ) where
  -- each is known by its number
  same_number : (xs : List A) → twice number xs ≡ false → (x y : A) → x ∈ xs → y ∈ xs → number x ≡ number y → x ≡ y
  unfolding twice
  same_number [] d x y m n e = absurd (Memᴰ.not-nil m)
  same_number (z ∷ zs) d x y m n e = go (Memᴰ.cases_cons m) (Memᴰ.cases_cons n) (λ m' n'. same_number zs (either_right _ _ d) x y m' n' e)
    where
      new : {B : Type 0} (u : A) → u ∈ zs → number u ≡ number z → B
      new u k i = impossible (eq-eqb (number u) (number z) i) (any_none _ zs (either_left _ _ d) u k)

      go : (x ≡ z) ⊎ (x ∈ zs) → (y ≡ z) ⊎ (y ∈ zs) → (x ∈ zs → y ∈ zs → x ≡ y) → x ≡ y
      go (inl a) (inl b) below = a ∙ sym b
      go (inl a) (inr n') below = new y n' (sym e ∙ ap number a)
      go (inr m') (inl b) below = new x m' (e ∙ ap number b)
      go (inr m') (inr n') below = below m' n'

  pub twice-those : (test : A → Bool) (xs : List A) → twice number xs ≡ false → twice number (those test xs) ≡ false
  unfolding twice those
  twice-those test [] d = refl
  twice-those test (x ∷ xs) d = go (test x) (twice-those test xs (either_right _ _ d))
    where
      go : (b : Bool) → twice number (those test xs) ≡ false → twice number (kept b x (those test xs)) ≡ false
      go true k = either_false (none_any _ (those test xs) (λ y m. any_none _ xs (either_left _ _ d) y (those_of test xs y m).0)) k
      go false k = k

-- the table of box b
abbrev pub table_of : List Table → ℕ → Option Table
table_of Ts b = first_of (λ T. provided (eqb T.box b) T) Ts

pub table_is : (Ts : List Table) → twice (λ T. T.box) Ts ≡ false → (T : Table) → T ∈ Ts → table_of Ts T.box ≡ some T
table_is Ts d T m = first_is (λ U. provided (eqb U.box T.box) U) Ts T T m (rw (eqb_self T.box) refl) one
  where
    one : (U Y : Table) → U ∈ Ts → provided (eqb U.box T.box) U ≡ some Y → Y ≡ T
    one U Y n e = let (t, i) = provided_some (eqb U.box T.box) U Y e in sym i ∙ same_number (λ X. X.box) Ts d U T n m (eqb-true _ _ t)

-- ---- the boxes of some tables

-- U are the boxes of the tables Us, and what they hold is in those tables
pub record BoxesOf (n : ℕ) (Us : List Table) (U : ℕ → Type 0) (cells : ℕ → Cells) : Type 0 where
  pub different : twice (λ T. T.box) Us ≡ false
  pub inside : (T : Table) → T ∈ Us → T.box < n
  pub same : (T : Table) → T ∈ Us → cells T.box ≡ cells_in T.rows
  pub to : (T : Table) → T ∈ Us → U T.box
  pub from : (b : ℕ) → U b → (T : Table) × (T ∈ Us) × (T.box ≡ b)

-- the votes of a stamp's rows are those of the tables
votes : (Us : List Table) (t : ℕ) (r : Result) → count (λ q. holds_tentative r q.prepare) (rows_of Us t) ≡ count (λ T. holds_tentative r (prepare_of (held T.rows t))) Us
unfolding rows_of all_of count
votes [] t r = refl
votes (T ∷ Us) t r = go (held T.rows t) (votes Us t r)
  where
    go : (h : Option Row) → count (λ q. holds_tentative r q.prepare) (rows_of Us t) ≡ count (λ U. holds_tentative r (prepare_of (held U.rows t))) Us → count (λ q. holds_tentative r q.prepare) (and_also h (rows_of Us t)) ≡ bit (holds_tentative r (prepare_of h)) + count (λ U. holds_tentative r (prepare_of (held U.rows t))) Us
    go none e = omega arith
    go (some q) e = ap (λ (c : ℕ). bit (holds_tentative r q.prepare) + c) e

module _ (W : World) (Us : List Table) (rows : List Row) (U : ℕ → Type 0) (cells : ℕ → Cells) (boxes : BoxesOf W.n Us U cells) where
  abbrev agreement : ℕ
  agreement = agreement_count (f_of W.n)

  -- what the boxes hold of a stamp
  abbrev NoneFinal : ℕ → Type 0
  NoneFinal t = NoFinalAt (setup W) U cells (cells_in rows) t

  abbrev Agree : ℕ → Result → Type 0
  Agree t r = AgreedAt (setup W) U cells (cells_in rows) t r

  abbrev Fix : ℕ → Type 0
  Fix t = FixedAt (setup W) U cells (cells_in rows) t

  -- the table of a box
  at : (b : ℕ) → U b → (T : Table) × (T ∈ Us) × (T.box ≡ b) × (cells b ≡ cells_in T.rows)
  at b u = let (T, m, e) = boxes.from b u in (T, m, e, rw e at (boxes.same T m))

  no_final : (t : ℕ) → NoneFinal t → NoFinal agreement Us rows t
  no_final t d T r m e = d T.box r (boxes.to T m) (rw (boxes.same T m) e)

  agreed : (t : ℕ) (r : Result) → Agree t r → Agreed agreement Us rows t r
  unfolding is_agreed
  agreed t r crowd = rw (votes Us t r) (le-leb _ _ (at_least_list (λ T. T.box) (λ T. holds_tentative r (prepare_of (held T.rows t))) W.n agreement Us _ boxes.different boxes.inside crowd find))
    where
      find : (b : ℕ) → U b × ((cells b t).prepare ≡ tentative r) → (T : Table) × (T ∈ Us) × (T.box ≡ b) × (holds_tentative r (prepare_of (held T.rows t)) ≡ true)
      find b (u, e) =
          let (T, m, i, s) = at b u in
          let k : prepare_of (held T.rows t) ≡ tentative r = rw s at e in
          (T, m, i, rw k (result_same r))

  agree : (t : ℕ) (r : Result) → Agreed agreement Us rows t r → Agree t r
  unfolding is_agreed
  agree t r h =
      list_at_least (λ T. T.box) (λ T. holds_tentative r (prepare_of (held T.rows t))) W.n agreement Us _ boxes.different boxes.inside (leb-true _ _ (rw (votes Us t r) at h))
      (λ T m e. (boxes.to T m, rw (boxes.same T m) (is_tentative_lem r _ e)))

  fix : (t : ℕ) → Fixed agreement Us rows t → Fix t
  fix t (inl (T, m, e)) = inl (T.box, boxes.to T m, rw (boxes.same T m) e)
  fix t (inr e) = inr e

  -- what the merge holds of a stamp is a row
  accepted_row : (t : ℕ) → accepted_cell (cells_in rows t) ≡ true → (r : Row) × (r ∈ rows) × (r.stamp ≡ t) × (accepted r ≡ true)
  accepted_row t a = go (held rows t) refl a
    where
      go : (h : Option Row) → held rows t ≡ h → is_accepted (prepare_of h) (outcome_of h) ≡ true → (r : Row) × (r ∈ rows) × (r.stamp ≡ t) × (accepted r ≡ true)
      go none e k = impossible k refl
      go (some r) e k = let (m, d) = held_from_lem rows t r e in (r, m, d, accepted_is r ∙ k)

  module _ (own : (r : Row) → r ∈ rows → r.body ≡ W.bodies r.stamp) (fair : Fair agreement Us rows) where
    outcome_from_lem : (t : ℕ) (o : Verdict) → outcome_of (held rows t) ≡ done o → (b : ℕ) × U b × Holds o (cells b t).outcome
    outcome_from_lem t o e =
        let (T, m, k) = fair.outcome_from t o (holds_verdict_lem o _ (inr e)) in
        (T.box, boxes.to T m, rw (boxes.same T m) (verdict_holds o _ k))

    -- why an agreed OK was not kept
    abbrev Clashes : ℕ → Type 0
    Clashes t = (outcome_of (held rows t) ≡ no_outcome) × ((u : ℕ) × (setup W).clash t u × (accepted_cell (cells_in rows u) ≡ true) × (Fix u ⊎ Agree u OK))

    ok_kept_lem : (t : ℕ) → NoneFinal t → Agree t OK → (prepare_of (held rows t) ≡ final OK) ⊎ Clashes t
    ok_kept_lem t d crowd = go (fair.ok_kept t (no_final t d) (agreed t OK crowd))
      where
        why : (u : ℕ) → Fixed agreement Us rows u ⊎ Agreed agreement Us rows u OK → Fix u ⊎ Agree u OK
        why u (inl x) = inl (fix u x)
        why u (inr x) = inr (agree u OK x)

        go : (prepare_of (held rows t) ≡ final OK) ⊎ ((outcome_of (held rows t) ≡ no_outcome) × ((r : Row) × (r ∈ rows) × (r.stamp ≡ t) × ClashesWith agreement Us rows r)) → (prepare_of (held rows t) ≡ final OK) ⊎ Clashes t
        go (inl e) = inl e
        go (inr (o, (r, m, e, (q, n, c, a, x)))) = inr (o, (q.stamp, rw (own r m, own q n, e) at c, rw (fair.once q n) (sym (accepted_is q) ∙ a), why q.stamp x))

    apart : (t u : ℕ) → (setup W).clash t u → accepted_cell (cells_in rows t) ≡ true → accepted_cell (cells_in rows u) ≡ true → Fix t × Fix u
    apart t u c a b =
        let (r, m, d, x) = accepted_row t a in
        let (q, n, e, y) = accepted_row u b in
        let (f, g) = fair.apart r q m n (rw (own r m, own q n, d, e) c) x y in
        (fix t (rw d at f), fix u (rw e at g))

    pub fair_boxes : FairCells (setup W) U cells (cells_in rows)
    fair_boxes =
        record {
          outcome_kept = λ b t o u h. let (T, m, e, s) = at b u in fair.outcome_kept T t o m (holds_verdict_lem o _ (rw s at h));
          outcome_from = outcome_from_lem;
          final_kept = λ b t r u h. let (T, m, e, s) = at b u in fair.final_kept T t r m (rw s at h);
          refusal_kept = λ t r d crowd k. fair.refusal_kept t r (no_final t d) (agreed t r crowd) (λ e. impossible (ap is_ok e) k);
          ok_kept = ok_kept_lem;
          apart = apart;
        }

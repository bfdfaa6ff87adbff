-- The ways a merge call goes, each with its circumstances as 01 has them, and its number: one of them applies, and no two give different numbers.
use mathlib.Core.Path.{◌≡◌, refl, sym, ap, ◌∙◌}
use mathlib.Core.Bool.{Bool, true, false, cond}
use mathlib.Core.Logic.{◌⊎◌, inl, inr}
use mathlib.Core.List.{List, [], ◌∷◌}
use mathlib.Core.Option.{Option, none, some}
use Prim.Native.Nat.{ℕ, ◌≤◌, ◌<◌}
use lib.Dec.{ltb}
use lib.ListN.{length}
use borrow.Author.Tests.{ltb-true, ltb-false, lt-ltb, le-ltb}
use Rattle.rules.specs.Tests.{either, any, some_pair}
use Rattle.rules.specs.Tables.{Row, Model, Table, table_by_rule}
use Rattle.rules.specs.Circumstances.{too_small}
use Rattle.rules.specs.Merge.{used, stamps, rows_of, two_bodies, contradictory, are_wrong, merge_number}
use Rattle.rules.proofs.Logic.{cases, impossible, none_some}
use Rattle.rules.proofs.Lists.{◌∈◌, places, any_some, none_any}
use Rattle.rules.proofs.Stamps.{rows_nowhere}
use Rattle.table.specs.Images.{format_one}
use Rattle.table.proofs.Images.{Sound}
use Rattle.image_run.specs.Inner.WholeRuns.{laid_out}
use Rattle.image_run.specs.Runs.{run_tables}
use Rattle.image_run.proofs.RunTurns.{run_laid, laid_run}
use Rattle.merge.specs.Calls.{call_number}
use Rattle.merge.proofs.MergeCall.{number_of, somewhere, tables_number, merge_number_lem}

-- "one or more whole images": tables by the rules whose images, laid end to end, are the run
abbrev pub RunOf : Model → List ℕ → List Table → Type 0
RunOf M run Ts = (0 < length Ts) × ((T : Table) → T ∈ Ts → table_by_rule M T ≡ true) × (run ≡ laid_out Ts)

-- an output buffer of its least length, and a run of these tables: neither 1 nor 2 applies
abbrev pub Lent : Model → List ℕ → List ℕ → List Table → Type 0
Lent M run out Ts = (M.least_buffer ≤ length out) × RunOf M run Ts

-- a test that the rows of no stamp meet, "these tables only": the used ones
abbrev pub Nowhere : (List Row → Bool) → List Table → Type 0
Nowhere test Ts = (s : ℕ) → test (rows_of (used Ts) s) ≡ false

-- 11 does not apply, nor does 5, nor does 6
abbrev pub Right : ℕ → List Table → Type 0
Right v Ts = are_wrong v Ts ≡ false

abbrev pub OneBody : ℕ → List Table → Type 0
OneBody v Ts = Right v Ts × Nowhere two_bodies Ts

abbrev pub Clear : ℕ → List Table → Type 0
Clear v Ts = Right v Ts × Nowhere two_bodies Ts × Nowhere contradictory Ts

pub data MergeWay (M : Model) (run : List ℕ) (v : ℕ) (out : List ℕ) : ℕ → Type 0 where
  -- 1: "table or output buffer (not a merge's run) below 49,176"
  small : length out < M.least_buffer → MergeWay M run v out 1
  -- 2: "for a merge, the run isn't one or more whole images"
  no_run : M.least_buffer ≤ length out → ((Ts : List Table) → RunOf M run Ts → ⊥) → MergeWay M run v out 2
  -- 11: "not exactly f+1 images, unequal n, a box twice, mode 0, or promised not v"
  wrong : (Ts : List Table) → Lent M run out Ts → are_wrong v Ts ≡ true → MergeWay M run v out 11
  -- 5: "for one stamp with two bodies"
  bodies : (Ts : List Table) → Lent M run out Ts → Right v Ts → (s : ℕ) → two_bodies (rows_of (used Ts) s) ≡ true → MergeWay M run v out 5
  -- 6: "for two unequal finals or opposite outcomes"
  against : (Ts : List Table) → Lent M run out Ts → OneBody v Ts → (s : ℕ) → contradictory (rows_of (used Ts) s) ≡ true → MergeWay M run v out 6
  -- 7: "a merge of more than 512 stamps"
  too_many : (Ts : List Table) → Lent M run out Ts → Clear v Ts → M.row_limit < length (stamps (used Ts)) → MergeWay M run v out 7
  -- 0: "none below applies"
  done : (Ts : List Table) → Lent M run out Ts → Clear v Ts → length (stamps (used Ts)) ≤ M.row_limit → MergeWay M run v out 0

-- ---- what is said of all stamps, and of one

no_bodies : two_bodies [] ≡ false
unfolding two_bodies some_pair any
no_bodies = refl

not_against : contradictory [] ≡ false
unfolding contradictory some_pair any either
not_against = refl

found : (test : List Row → Bool) → test [] ≡ false → (Ts : List Table) (s : ℕ) → test (rows_of (used Ts) s) ≡ true → somewhere test Ts ≡ true
found test nil Ts s h = go (cases (somewhere test Ts))
  where
    go : (somewhere test Ts ≡ true) ⊎ (somewhere test Ts ≡ false) → somewhere test Ts ≡ true
    go (inl e) = e
    go (inr e) = impossible h (rows_nowhere test nil (used Ts) e s)

not_found : (test : List Row → Bool) (Ts : List Table) → Nowhere test Ts → somewhere test Ts ≡ false
not_found test Ts h = none_any _ (stamps (used Ts)) (λ s m. h s)

module _ (M : Model) (sound : Sound format_one M) (run : List ℕ) (v : ℕ) (out : List ℕ) where
  -- ---- one of them applies

  way_of : (Ts : List Table) → Lent M run out Ts → MergeWay M run v out (merge_number M v Ts)
  way_of Ts l = rw (tables_number M v Ts) (tables (cases (are_wrong v Ts)))
    where
      many : Bool
      many = ltb M.row_limit (length (stamps (used Ts)))

      stamped : Clear v Ts → (many ≡ true) ⊎ (many ≡ false) → MergeWay M run v out (cond many 7 0)
      stamped c (inl b) = rw b (too_many Ts l c (ltb-true _ _ b))
      stamped c (inr b) = rw b (done Ts l c (ltb-false _ _ b))

      results : OneBody v Ts → (somewhere contradictory Ts ≡ true) ⊎ (somewhere contradictory Ts ≡ false) → MergeWay M run v out (cond (somewhere contradictory Ts) 6 (cond many 7 0))
      results o (inl b) = let (s, m, h) = any_some _ (stamps (used Ts)) b in rw b (against Ts l o s h)
      results (r, o) (inr b) = rw b (stamped (r, o, rows_nowhere contradictory not_against (used Ts) b) (cases many))

      held : Right v Ts → (somewhere two_bodies Ts ≡ true) ⊎ (somewhere two_bodies Ts ≡ false) → MergeWay M run v out (cond (somewhere two_bodies Ts) 5 (cond (somewhere contradictory Ts) 6 (cond many 7 0)))
      held r (inl b) = let (s, m, h) = any_some _ (stamps (used Ts)) b in rw b (bodies Ts l r s h)
      held r (inr b) = rw b (results (r, rows_nowhere two_bodies no_bodies (used Ts) b) (cases (somewhere contradictory Ts)))

      tables : (are_wrong v Ts ≡ true) ⊎ (are_wrong v Ts ≡ false) → MergeWay M run v out (cond (are_wrong v Ts) 11 (cond (somewhere two_bodies Ts) 5 (cond (somewhere contradictory Ts) 6 (cond many 7 0))))
      tables (inl b) = rw b (wrong Ts l b)
      tables (inr b) = rw b (held b (cases (somewhere two_bodies Ts)))

  pub merge_way : MergeWay M run v out (call_number M run v out)
  unfolding too_small
  merge_way = go (cases (too_small M (length out)))
    where
      read : (o : Option (List Table)) → run_tables M run ≡ o → M.least_buffer ≤ length out → MergeWay M run v out (number_of M v o)
      read none e l = no_run l (λ Ts (p, h, i). none_some (sym e ∙ ap (run_tables M) i ∙ laid_run M sound Ts p h))
      read (some Ts) e l = way_of Ts (l, run_laid M run Ts e)

      go : (too_small M (length out) ≡ true) ⊎ (too_small M (length out) ≡ false) → MergeWay M run v out (call_number M run v out)
      go (inl b) = rw (merge_number_lem M run v out, b) (small (ltb-true _ _ b))
      go (inr b) = rw (merge_number_lem M run v out, b) (read (run_tables M run) refl (ltb-false _ _ b))

  -- ---- and a way that applies is the call's: its number is given where its circumstances are

  lent_number : (Ts : List Table) → Lent M run out Ts → call_number M run v out ≡ merge_number M v Ts
  unfolding too_small
  lent_number Ts (l, (p, h, i)) =
      let r : run_tables M run ≡ some Ts = ap (run_tables M) i ∙ laid_run M sound Ts p h in
      rw (merge_number_lem M run v out, le-ltb _ _ l, r)

  no_run_lem : ((Ts : List Table) → RunOf M run Ts → ⊥) → run_tables M run ≡ none
  no_run_lem h = go (run_tables M run) refl
    where
      go : (o : Option (List Table)) → run_tables M run ≡ o → run_tables M run ≡ none
      go none e = e
      go (some Ts) e = absurd (h Ts (run_laid M run Ts e))

  pub way_exactly : {k : ℕ} → MergeWay M run v out k → call_number M run v out ≡ k
  unfolding too_small
  way_exactly (small l) = rw (merge_number_lem M run v out, lt-ltb _ _ l)
  way_exactly (no_run l n) = rw (merge_number_lem M run v out, le-ltb _ _ l, no_run_lem n)
  way_exactly (wrong Ts l w) = lent_number Ts l ∙ tables_number M v Ts ∙ rw w
  way_exactly (bodies Ts l r s h) = lent_number Ts l ∙ tables_number M v Ts ∙ rw (r, found two_bodies no_bodies Ts s h)
  way_exactly (against Ts l (r, o) s h) = lent_number Ts l ∙ tables_number M v Ts ∙ rw (r, not_found two_bodies Ts o, found contradictory not_against Ts s h)
  way_exactly (too_many Ts l (r, o, c) f) = lent_number Ts l ∙ tables_number M v Ts ∙ rw (r, not_found two_bodies Ts o, not_found contradictory Ts c, lt-ltb _ _ f)
  way_exactly (done Ts l (r, o, c) f) = lent_number Ts l ∙ tables_number M v Ts ∙ rw (r, not_found two_bodies Ts o, not_found contradictory Ts c, le-ltb _ _ f)

  -- a number is given exactly in its circumstances, for every number at once
  pub merge_way_exactly : (k : ℕ) → (call_number M run v out ≡ k → MergeWay M run v out k) × (MergeWay M run v out k → call_number M run v out ≡ k)
  merge_way_exactly k = (λ e. rw e at merge_way, way_exactly)

  -- and no other number is given: 0, 1, 2, 5, 6, 7 or 11
  pub merge_numbers : call_number M run v out ∈ (0 ∷ 1 ∷ 2 ∷ 5 ∷ 6 ∷ 7 ∷ 11 ∷ [])
  merge_numbers = go merge_way
    where
      go : {k : ℕ} → MergeWay M run v out k → k ∈ (0 ∷ 1 ∷ 2 ∷ 5 ∷ 6 ∷ 7 ∷ 11 ∷ [])
      go (small l) = search places depth 11
      go (no_run l n) = search places depth 11
      go (wrong Ts l w) = search places depth 11
      go (bodies Ts l r s h) = search places depth 11
      go (against Ts l o s h) = search places depth 11
      go (too_many Ts l c f) = search places depth 11
      go (done Ts l c f) = search places depth 11

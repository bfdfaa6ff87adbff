-- The tables that a merge gathers, as promises of the abstract group; a fair merge of them is how a view begins.
use mathlib.Core.Path.{◌≡◌, refl, sym, ap, subst, ◌∙◌}
use mathlib.Core.Bool.{true, false}
use mathlib.Core.Logic.{◌⊎◌, inl, inr}
use mathlib.Core.Option.{Option, none, some}
use mathlib.Core.List.Memᴰ
use mathlib.Core.List.{List, [], ◌∷◌}
use Prim.Native.Nat.{ℕ, ◌≤◌, ◌<◌}
use native.Mathlib.Omega.{arith}
use lib.Dec.{eqb, ltb}
use lib.ListN.{length}
use borrow.Author.Tests.{eqb-true, ltb-true, not-false}
use Rattle.rules.specs.Tests.{both, greatest, twice}
use Rattle.rules.specs.Groups.{f_of, quorum, agreement_count}
use Rattle.rules.specs.Tables.{Row, Table, normal_mode, changing_mode, mode_by_rule}
use Rattle.rules.specs.Merge.{used, group_of, are_wrong}
use Rattle.rules.proofs.Logic.{impossible, both_left, both_right, both_true, either_cases, either_left, either_right, eqb_self}
use Rattle.rules.proofs.Lists.{◌∈◌, any_none, any_some, some_any, greatest_above, greatest_is}
use Rattle.rules.proofs.Rows.{held_from_lem}
use Rattle.rules.proofs.Used.{used_newest, used_all}
use Rattle.rules.proofs.Votes.{count_all, tables_few}
use Rattle.history.proofs.Group.Below.{list_at_least}
use Rattle.history.proofs.Group.Entries.{Cells, Fact, Fact.promised, Fact.started}
use Rattle.history.proofs.Group.Invariant.{Began, Quorum}
use Rattle.history.proofs.Fairness.Fair.{Fair}
use Rattle.history.proofs.Follow.World.{World, setup, cells_in}
use Rattle.history.proofs.Follow.Boxes.{Owned}
use Rattle.history.proofs.Follow.Gathering.{twice-those, table_of, table_is, BoxesOf, fair_boxes}

-- a table that a box of the group has had
pub record HadIs (W : World) (facts : List Fact) (T : Table) : Type 0 where
  pub box : T.box < W.n
  pub group : T.n ≡ W.n
  pub mode : mode_by_rule T.mode T.view T.promised ≡ true
  pub owned : Owned W facts T.rows
  -- while the box changed view, it had promised the rows that it held, and its last normal view had begun
  pub handed : T.mode ≡ changing_mode → (promised T.box T.promised T.view (cells_in T.rows) ∈ facts) × ((T.view ≡ 0) ⊎ (started T.view ∈ facts))

-- what a box of the list handed over; outside it, what a fresh box would
abbrev view_in : Option Table → ℕ
view_in none = 0
view_in (some T) = T.view

abbrev rows_in : Option Table → List Row
rows_in none = []
rows_in (some T) = T.rows

-- f+1 tables are not none: they have a group, and one has the greatest view
some_newest : (n : ℕ) (Ts : List Table) → length Ts ≡ quorum (f_of (group_of Ts)) → ((T : Table) → T ∈ Ts → T.n ≡ n) → (group_of Ts ≡ n) × ((T : Table) × (T ∈ Ts) × (T.view ≡ greatest (λ U. U.view) Ts))
some_newest n [] few group = absurd (omega arith)
some_newest n (T ∷ Ts) few group = (group T (Memᴰ.head refl), greatest_is (λ U. U.view) T Ts)

module _ (W : World) (facts : List Fact) (v : ℕ) (Ts : List Table) (rows : List Row) (had : (T : Table) → T ∈ Ts → HadIs W facts T) where
  -- the rows of the merge have the bodies of their stamps, since those of the tables have
  pub merge_owned : Fair (agreement_count (f_of (group_of Ts))) (used Ts) rows → Owned W facts rows
  merge_owned fair r m =
      let (T, i, (q, h, e)) = fair.row_from r m in
      let (k, d) = held_from_lem T.rows r.stamp q h in
      let (own, sent) = (had T (used_newest Ts T i).0).owned q k in
      (sym e ∙ own ∙ ap W.bodies d, rw d at sent)

  module _ (right : are_wrong v Ts ≡ false) where
    -- ---- what tables that are not wrong have

    newest : (group_of Ts ≡ W.n) × ((T : Table) × (T ∈ Ts) × (T.view ≡ greatest (λ U. U.view) Ts))
    newest = some_newest W.n Ts (tables_few v Ts right) (λ T m. (had T m).group)

    right_tables : (twice (λ T. T.box) Ts ≡ false) × ((T : Table) → T ∈ Ts → (eqb T.mode normal_mode ≡ false) × (T.promised ≡ v))
    unfolding are_wrong
    right_tables =
        let a = either_right _ _ (either_right _ _ right) in
        let b = either_right _ _ a in
        (either_left _ _ a, λ T m. (any_none _ Ts (either_left _ _ b) T m, eqb-true _ _ (not-false _ (any_none _ Ts (either_right _ _ b) T m))))

    -- it changes to view v, and has handed over what it held in its last normal view
    abbrev pub HandedOver : Table → Type 0
    HandedOver T = (promised T.box v T.view (cells_in T.rows) ∈ facts) × ((T.view ≡ 0) ⊎ (started T.view ∈ facts)) × (T.view < v)

    pub handed_over : (T : Table) → T ∈ Ts → HandedOver T
    unfolding mode_by_rule
    handed_over T m = let (d, e) = right_tables.1 T m in go d e (either_cases _ _ (had T m).mode)
      where
        go : eqb T.mode normal_mode ≡ false → T.promised ≡ v → (both (eqb T.mode normal_mode) (eqb T.promised T.view) ≡ true) ⊎ (both (eqb T.mode changing_mode) (ltb T.view T.promised) ≡ true) → HandedOver T
        go d e (inl k) = impossible (both_left _ _ k) d
        go d e (inr k) =
            let (p, s) = (had T m).handed (eqb-true _ _ (both_left _ _ k)) in
            (subst (λ (x : ℕ). promised T.box x T.view (cells_in T.rows) ∈ facts) e p, s, rw e at (ltb-true T.view T.promised (both_right _ _ k)))

    -- ---- their boxes

    abbrev w : ℕ
    w = greatest (λ T. T.view) Ts

    abbrev last : ℕ → ℕ
    last b = view_in (table_of Ts b)

    abbrev tables : ℕ → Cells
    tables b = cells_in (rows_in (table_of Ts b))

    last_is : (T : Table) → T ∈ Ts → last T.box ≡ T.view
    last_is T m = ap view_in (table_is Ts right_tables.0 T m)

    tables_is : (T : Table) → T ∈ Ts → tables T.box ≡ cells_in T.rows
    tables_is T m = ap (λ (o : Option Table). cells_in (rows_in o)) (table_is Ts right_tables.0 T m)

    abbrev Gave : ℕ → Type 0
    Gave b = (promised b v (last b) (tables b) ∈ facts) × (last b ≤ w)

    gave : (T : Table) → T ∈ Ts → Gave T.box
    gave T m = rw (last_is T m, tables_is T m) ((handed_over T m).0, greatest_above (λ U. U.view) Ts T m)

    abbrev gathered : Quorum (setup W) Gave
    gathered =
        list_at_least (λ T. T.box) (λ T. true) W.n (quorum (f_of W.n)) Ts Gave right_tables.0 (λ T m. (had T m).box)
        (rw (← newest.0) (omega (arith, tables_few v Ts right, count_all (λ (T : Table). true) Ts (λ T m. refl)))) (λ T m e. gave T m)

    abbrev Used : ℕ → Type 0
    Used b = (b < W.n) × (gathered.test b ≡ true) × (last b ≡ w)

    used_box : (T : Table) → T ∈ Ts → T.view ≡ w → Used T.box
    used_box T m e = ((had T m).box, some_any _ Ts T m (both_true (eqb_self T.box) refl), last_is T m ∙ e)

    boxes : BoxesOf W.n (used Ts) Used tables
    unfolding used
    boxes =
        record {
          different = twice-those (λ T. T.box) _ Ts right_tables.0;
          inside = λ T m. (had T (used_newest Ts T m).0).box;
          same = λ T m. tables_is T (used_newest Ts T m).0;
          to = λ T m. let (i, e) = used_newest Ts T m in used_box T i e;
          from = from;
        }
      where
        from : (b : ℕ) → Used b → (T : Table) × (T ∈ used Ts) × (T.box ≡ b)
        from b (l, t, e) =
            let (T, m, k) = any_some _ Ts t in
            let i = eqb-true _ _ (both_left _ _ k) in
            (T, used_all Ts T m (sym (last_is T m) ∙ ap last i ∙ e), i)

    -- ---- the certificate

    pub merge_began : Fair (agreement_count (f_of (group_of Ts))) (used Ts) rows → Began (setup W) facts v (cells_in rows)
    merge_began fair =
        let (T, m, e) = newest.1 in
        let (p, s, l) = handed_over T m in
        let (i, t, k) = used_box T m e in
        record {
          w = w;
          before = rw (← e) l;
          tables = tables;
          last = last;
          gathered = gathered;
          top = (T.box, i, t, k);
          base = rw (← e) s;
          fair = fair_boxes W (used Ts) rows Used tables boxes (λ r m. (merge_owned fair r m).0) (rw newest.0 at fair);
        }

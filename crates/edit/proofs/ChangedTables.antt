-- After each change the buffer parses to the changed table, if what was stored is by the rules.
use mathlib.Core.Path.{◌≡◌, refl}
use mathlib.Core.Bool.{true}
use mathlib.Core.List.{List}
use mathlib.Core.Option.{none, some}
use Prim.Native.Nat.{ℕ, ◌<◌, ◌≤◌}
use native.Mathlib.Omega.{arith}
use lib.ListN.{length}
use Rattle.rules.specs.Tables.{Prepare, Outcome, Row, Table, Model, prepare_code, outcome_code, retry_by_rule, row_by_rule, is_view, mode_by_rule, table_by_rule}
use Rattle.rules.specs.Messages.{held, changed, with_prepare, with_outcome, with_rows, promising, keeping_box}
use Rattle.rules.proofs.Answers.{changed_rule, added_rule, promising_rule, keeping_box_rule, with_prepare_lem, with_outcome_lem}
use Rattle.rules.proofs.Rows.{length-changed, length-added}
use Rattle.rules.proofs.Tables.{Regular, table_facts, table_by}
use Rattle.rows.specs.declared.lookup.Place.TheVariants.{Held}
use Rattle.rows.specs.Inner.Places.{place_of}
use Rattle.table.specs.Images.{Form}
use Rattle.table.specs.Parse.{table_at, parse}
use Rattle.table.proofs.Images.{Sound, parse_by_rule, parse_reads}
use Rattle.edit.specs.Inner.Changes.{with_views, on_row, adding, taking}
use Rattle.edit.specs.Edited.{edited}
use Rattle.edit.proofs.EditedBuffers.{edited_parses}
use Rattle.edit.proofs.Indexes.{changed_at}

module _ (F : Form) (M : Model) (s : List ℕ) (T : Table) (sound : Sound F M) (h : parse F M s ≡ some T) where
  regular : Regular T
  regular = (table_facts M T (parse_by_rule F M s T h)).0

  few : length T.rows ≤ M.row_limit
  few = (table_facts M T (parse_by_rule F M s T h)).1

  changed_parses : (change : Table → Table) → table_by_rule M (change T) ≡ true → parse F M (edited F change s) ≡ some (change T)
  changed_parses change k =
      let e : table_at F s ≡ T = (parse_reads F M s T h).0 in
      rw e at (edited_parses F M change s sound (rw e k))

  -- mode and views, as the header's rule asks
  views_by_rule : (mode view promised : ℕ) → is_view view ≡ true → is_view promised ≡ true → mode_by_rule mode view promised ≡ true → table_by_rule M (with_views mode view promised T) ≡ true
  views_by_rule mode view promised v p m =
      let t = regular in
      table_by M (record { group = t.group; box = t.box; view = v; promised = p; mode = m; start = t.start; rise = t.rise; rows = t.rows }) few

  pub views_parse : (mode view promised : ℕ) → is_view view ≡ true → is_view promised ≡ true → mode_by_rule mode view promised ≡ true → parse F M (edited F (with_views mode view promised) s) ≡ some (with_views mode view promised T)
  views_parse mode view promised v p m = changed_parses (with_views mode view promised) (views_by_rule mode view promised v p m)

  -- a view above the box's own
  pub promise_parses : (v : ℕ) → is_view v ≡ true → T.view < v → parse F M (edited F (λ T. promising T v) s) ≡ some (promising T v)
  promise_parses v p l = changed_parses (λ T. promising T v) (table_by M (promising_rule T regular v p l) few)

  -- a row's state, at the index of its stamp
  pub state_parses : (stamp i : ℕ) (change : Row → Row) → place_of T.rows stamp ≡ Held i → ((r : Row) → (change r).stamp ≡ r.stamp) → ((r : Row) → row_by_rule r ≡ true → row_by_rule (change r) ≡ true) → parse F M (edited F (on_row i change) s) ≡ some (with_rows T (changed stamp change T.rows))
  state_parses stamp i change place same keeps =
      let t = regular in
      let l = few in
      let n = length-changed stamp change T.rows in
      let e = changed_at T.rows stamp i change t.rise place in
      rw e (changed_parses (on_row i change) (rw (← e) (table_by M (changed_rule T t stamp change same keeps) (omega arith))))

  pub prepare_parses : (stamp i : ℕ) (p : Prepare) → place_of T.rows stamp ≡ Held i → 0 < prepare_code p → retry_by_rule p ≡ true → parse F M (edited F (on_row i (with_prepare p)) s) ≡ some (with_rows T (changed stamp (with_prepare p) T.rows))
  prepare_parses stamp i p place l k = state_parses stamp i (with_prepare p) place (λ r. refl) (λ r. with_prepare_lem p r l k)

  pub outcome_parses : (stamp i : ℕ) (o : Outcome) → place_of T.rows stamp ≡ Held i → 0 < outcome_code o → parse F M (edited F (on_row i (with_outcome o)) s) ≡ some (with_rows T (changed stamp (with_outcome o) T.rows))
  outcome_parses stamp i o place l = state_parses stamp i (with_outcome o) place (λ r. refl) (λ r. with_outcome_lem o r l)

  -- a row of a new stamp, where there is room
  pub added_parses : (r : Row) → row_by_rule r ≡ true → held T.rows r.stamp ≡ none → length T.rows < M.row_limit → parse F M (edited F (adding r) s) ≡ some (adding r T)
  added_parses r k new room =
      let n = length-added r T.rows in
      changed_parses (adding r) (table_by M (added_rule T regular r k new) (omega arith))

  -- an image by the rules, of the same group
  pub taken_parses : (I : Table) → table_by_rule M I ≡ true → I.n ≡ T.n → parse F M (edited F (taking I) s) ≡ some (keeping_box I T.box)
  taken_parses I k e = let (i, l) = table_facts M I k in changed_parses (taking I) (table_by M (keeping_box_rule T regular I i e) l)

-- A box's answer: the table after it is a table by the rules again, of the same box and group.
use mathlib.Core.Path.{◌≡◌, refl, sym, ap, ◌∙◌}
use mathlib.Core.Bool.{Bool, true, false, cond}
use mathlib.Core.Logic.{◌⊎◌, inl, inr}
use mathlib.Core.List.{List}
use mathlib.Core.Option.{Option, none, some}
use Prim.Native.Nat.{ℕ, ◌+◌, ◌≤◌, ◌<◌}
use native.Mathlib.Omega.{arith}
use lib.Dec.{eqb, ltb}
use lib.ListN.{length}
use borrow.Author.Tests.{eqb-true, ltb-true, leb-false, lt-ltb, not-false}
use Rattle.rules.specs.Tests.{both, either, every, is_some}
use Rattle.rules.specs.Groups.{is_group, f_of}
use Rattle.rules.specs.Stamps.{Body, is_stamp, body_by_rule}
use Rattle.rules.specs.Tables.{Result.OK, Result.ABORT, Prepare, Prepare.no_prepare, Prepare.tentative, Prepare.final, Verdict, Verdict.commit, Verdict.abort, Outcome, Outcome.no_outcome, Outcome.noted, Outcome.done, prepare_code, outcome_code, result_by_rule, retry_by_rule, something_held, Row, row_by_rule, rising, Model, Table, normal_mode, changing_mode, is_view, mode_by_rule, table_by_rule, fresh_table}
use Rattle.rules.specs.Numbers.{Number, Number.bad_message, Number.full, Number.old_view, order}
use Rattle.rules.specs.Messages.{Message, Message.propose_prepare, Message.finalise_prepare, Message.propose_outcome, Message.finalise_outcome, Message.change_view, Message.start_view, Message.read_register, Check, held, changed, added, with_prepare, with_outcome, result_for, answered, noted_as, prepare_proposed, prepare_finalised, outcome_proposed, outcome_finalised, with_rows, promising, keeping_box, table_after}
use Rattle.rules.specs.Circumstances.{Room, bad_group, message_by_rule, starts_view, new_but_full, changes_to_old_view, further_circumstances, circumstances}
use Rattle.rules.specs.Answers.{answer_number, taken, refused, answer, proposal_check}
use Rattle.rules.specs.Check.{accepted}
use Rattle.rules.specs.Inner.Clashes.{clash}
use Rattle.rules.proofs.Logic.{impossible, cases, both_left, both_right, both_true, either_cases, either_second}
use Rattle.rules.proofs.Lists.{◌∈◌, places, every_one, all_every}
use Rattle.rules.proofs.Check.{CheckByRule}
use Rattle.rules.proofs.DayOrder.{day_clear, day_by_rule}
use Rattle.rules.proofs.Room.{RoomFits}
use Rattle.rules.proofs.Rows.{rising-added, rising-changed, length-added, length-changed, added_from, changed_from}
use Rattle.rules.proofs.Numbers.{number_done}
use Rattle.rules.proofs.Tables.{verdict_counts, result_counts, stamp_positive, RowByRule, row_facts, row_by, Regular, table_facts, table_by}

-- what later layers ask of the check that boxes answer message 1 by: its results keep the rows' rule, and after OK no accepted row clashes
pub proposal_by_rule : CheckByRule proposal_check
unfolding proposal_check
proposal_by_rule = day_by_rule

pub proposal_clear : (rows : List Row) (s : ℕ) (x : Body) → proposal_check rows s x ≡ OK → (r : Row) → r ∈ rows → accepted r ≡ true → clash s x r.stamp r.body ≡ false
unfolding proposal_check
proposal_clear = day_clear

pub fresh_by_rule : (M : Model) (n box : ℕ) → bad_group n box ≡ false → table_by_rule M (fresh_table n box) ≡ true
unfolding bad_group fresh_table is_view mode_by_rule rising every both either
fresh_by_rule M n box h =
    let g = not-false _ h in
    table_by M
    (record { group = both_left (is_group n) (ltb box n) g; box = ltb-true box n (both_right (is_group n) (ltb box n) g); view = refl; promised = refl; mode = refl; start = omega arith; rise = refl; rows = refl })
    (omega arith)

-- ---- rows by the rule, changed and added

every-changed : (s : ℕ) (change : Row → Row) (rows : List Row) → ((r : Row) → row_by_rule r ≡ true → row_by_rule (change r) ≡ true) → every row_by_rule rows ≡ true → every row_by_rule (changed s change rows) ≡ true
every-changed s change rows keeps h = all_every row_by_rule (changed s change rows) (λ q m. go q (changed_from s change rows q m))
  where
    go : (q : Row) → (r : Row) × (r ∈ rows) × (((r.stamp ≡ s) × (q ≡ change r)) ⊎ ((eqb r.stamp s ≡ false) × (q ≡ r))) → row_by_rule q ≡ true
    go q (r, m, inl (k, e)) = rw e (keeps r (every_one row_by_rule rows h r m))
    go q (r, m, inr (k, e)) = rw e (every_one row_by_rule rows h r m)

every-added : (r : Row) (rows : List Row) → row_by_rule r ≡ true → every row_by_rule rows ≡ true → every row_by_rule (added r rows) ≡ true
every-added r rows k h = all_every row_by_rule (added r rows) (λ q m. go q (added_from r rows q m))
  where
    go : (q : Row) → (q ≡ r) ⊎ (q ∈ rows) → row_by_rule q ≡ true
    go q (inl e) = rw e k
    go q (inr m) = every_one row_by_rule rows h q m

module _ (T : Table) (t : Regular T) where
  -- other rows in its place
  with_rows_lem : (rows : List Row) → T.start ≤ length rows → rising 0 rows ≡ true → every row_by_rule rows ≡ true → Regular (with_rows T rows)
  with_rows_lem rows s r e = record { group = t.group; box = t.box; view = t.view; promised = t.promised; mode = t.mode; start = s; rise = r; rows = e }

  -- a row is changed, with its stamp kept
  pub changed_rule : (s : ℕ) (change : Row → Row) → ((r : Row) → (change r).stamp ≡ r.stamp) → ((r : Row) → row_by_rule r ≡ true → row_by_rule (change r) ≡ true) → Regular (with_rows T (changed s change T.rows))
  changed_rule s change same keeps =
      let n = length-changed s change T.rows in
      with_rows_lem (changed s change T.rows) (omega (arith, t.start)) (rising-changed s change same 0 T.rows ∙ t.rise) (every-changed s change T.rows keeps t.rows)

  -- a row of a new stamp is added
  pub added_rule : (r : Row) → row_by_rule r ≡ true → held T.rows r.stamp ≡ none → Regular (with_rows T (added r T.rows))
  added_rule r k new =
      let n = length-added r T.rows in
      let low = stamp_positive r.stamp (row_facts r k).stamp in
      with_rows_lem (added r T.rows) (omega (arith, t.start)) (rising-added r 0 T.rows low new t.rise) (every-added r T.rows k t.rows)

  -- a later view is promised
  pub promising_rule : (v : ℕ) → is_view v ≡ true → T.view < v → Regular (promising T v)
  unfolding mode_by_rule
  promising_rule v m l = record {
    group = t.group;
    box = t.box;
    view = t.view;
    promised = m;
    mode = either_second _ _ (both_true refl (lt-ltb T.view v l));
    start = t.start;
    rise = t.rise;
    rows = t.rows;
  }

  -- another table of the group is taken
  pub keeping_box_rule : (I : Table) → Regular I → I.n ≡ T.n → Regular (keeping_box I T.box)
  keeping_box_rule I i e = record {
    group = i.group;
    box = rw e t.box;
    view = i.view;
    promised = i.promised;
    mode = i.mode;
    start = i.start;
    rise = i.rise;
    rows = i.rows;
  }

-- ---- what messages do to a row keeps its rule

pub with_prepare_lem : (p : Prepare) (r : Row) → 0 < prepare_code p → retry_by_rule p ≡ true → row_by_rule r ≡ true → row_by_rule (with_prepare p r) ≡ true
unfolding something_held
with_prepare_lem p r l k h =
    let f = row_facts r h in
    row_by (record { stamp = f.stamp; counts = f.counts; held = lt-ltb 0 (prepare_code p + outcome_code r.outcome) (omega arith); retry = k; contents = f.contents })

pub with_outcome_lem : (o : Outcome) (r : Row) → 0 < outcome_code o → row_by_rule r ≡ true → row_by_rule (with_outcome o r) ≡ true
unfolding something_held
with_outcome_lem o r l h =
    let f = row_facts r h in
    row_by (record { stamp = f.stamp; counts = f.counts; held = lt-ltb 0 (prepare_code r.prepare + outcome_code o) (omega arith); retry = f.retry; contents = f.contents })

answered_row : (r : Row) → row_by_rule r ≡ true → row_by_rule (with_prepare (answered r.prepare r.outcome) r) ≡ true
unfolding retry_by_rule result_by_rule something_held
answered_row r h = go r.prepare r.outcome refl refl
  where
    f : RowByRule r
    f = row_facts r h

    verdict : (v : Verdict) → row_by_rule (with_prepare (tentative (result_for v)) r) ≡ true
    verdict commit = with_prepare_lem (tentative OK) r (omega arith) refl h
    verdict abort = with_prepare_lem (tentative ABORT) r (omega arith) refl h

    go : (p : Prepare) (o : Outcome) → r.prepare ≡ p → r.outcome ≡ o → row_by_rule (with_prepare (answered p o) r) ≡ true
    go (tentative q) o e i = with_prepare_lem (tentative q) r (result_counts q) (ap retry_by_rule (sym e) ∙ f.retry) h
    go (final q) o e i = with_prepare_lem (final q) r (omega arith) (ap retry_by_rule (sym e) ∙ f.retry) h
    go no_prepare (noted v) e i = verdict v
    go no_prepare (done v) e i = verdict v
    go no_prepare no_outcome e i = impossible f.held (rw (e, i) refl)

noted_row : (v : Verdict) (r : Row) → row_by_rule r ≡ true → row_by_rule (with_outcome (noted_as v r.outcome) r) ≡ true
noted_row v r h = with_outcome_lem (noted_as v r.outcome) r (go r.outcome) h
  where
    go : (o : Outcome) → 0 < outcome_code (noted_as v o)
    go no_outcome = verdict_counts v
    go (noted u) = verdict_counts u
    go (done u) = omega arith

-- what a message that was taken did not meet
pub met_none : (M : Model) (room : Room) (T : Table) (m : Message) → answer_number M room T m ≡ 0 → (k : Number) (given : Bool) → k ∈ order → (k, given) ∈ circumstances M room T m → given ≡ false
unfolding answer_number
met_none M room T m h = number_done (circumstances M room T m) h

pub taken_by_rule : (M : Model) (room : Room) (T : Table) (m : Message) → answer_number M room T m ≡ 0 → message_by_rule M T.n m ≡ true
unfolding circumstances
taken_by_rule M room T m h = not-false _ (met_none M room T m h bad_message _ (search places depth 11) (search places))

-- ---- the table after a message that was taken

module _ (M : Model) (room : Room) (check : Check) (checks : CheckByRule check) (T : Table) (t : Regular T) where
  new_row : (s : ℕ) (x : Body) (p : Prepare) (o : Outcome) → both (is_stamp s) (body_by_rule s x) ≡ true → 0 < prepare_code p + outcome_code o → retry_by_rule p ≡ true → row_by_rule (record { stamp = s; body = x; prepare = p; outcome = o }) ≡ true
  unfolding body_by_rule something_held
  new_row s x p o m l k =
      let b = both_right _ _ m in
      row_by (record { stamp = both_left _ _ m; counts = both_left _ _ b; held = lt-ltb 0 (prepare_code p + outcome_code o) l; retry = k; contents = both_right _ _ b })

  after_1 : (s : ℕ) (x : Body) → both (is_stamp s) (body_by_rule s x) ≡ true → Regular (with_rows T (prepare_proposed check T.rows s x))
  unfolding prepare_proposed retry_by_rule
  after_1 s x m = go (held T.rows s) refl
    where
      go : (h : Option Row) → held T.rows s ≡ h → Regular (with_rows T (cond (is_some h) (changed s (λ r. with_prepare (answered r.prepare r.outcome) r) T.rows) (added (record { stamp = s; body = x; prepare = tentative (check T.rows s x); outcome = no_outcome }) T.rows)))
      go (some r) e = changed_rule T t s _ (λ q. refl) answered_row
      go none e = added_rule T t _ (new_row s x (tentative (check T.rows s x)) no_outcome m (omega (arith, result_counts (check T.rows s x))) (checks T.rows s x t.rows)) e

  after_3 : (s : ℕ) (v : Verdict) (x : Body) → both (is_stamp s) (body_by_rule s x) ≡ true → Regular (with_rows T (outcome_proposed T.rows s v x))
  unfolding outcome_proposed retry_by_rule
  after_3 s v x m = go (held T.rows s) refl
    where
      go : (h : Option Row) → held T.rows s ≡ h → Regular (with_rows T (cond (is_some h) (changed s (λ r. with_outcome (noted_as v r.outcome) r) T.rows) (added (record { stamp = s; body = x; prepare = no_prepare; outcome = noted v }) T.rows)))
      go (some r) e = changed_rule T t s _ (λ q. refl) (noted_row v)
      go none e = added_rule T t _ (new_row s x no_prepare (noted v) m (omega (arith, verdict_counts v)) refl) e

  view_promised : (mode view promised : ℕ) → mode_by_rule mode view promised ≡ true → view ≤ promised
  unfolding mode_by_rule
  view_promised mode view promised h = go (either_cases (both (eqb mode normal_mode) (eqb promised view)) (both (eqb mode changing_mode) (ltb view promised)) h)
    where
      go : (both (eqb mode normal_mode) (eqb promised view) ≡ true) ⊎ (both (eqb mode changing_mode) (ltb view promised) ≡ true) → view ≤ promised
      go (inl k) = let e = eqb-true promised view (both_right _ _ k) in omega arith
      go (inr k) = let l = ltb-true view promised (both_right _ _ k) in omega arith

  after_5 : (v : ℕ) → is_view v ≡ true → changes_to_old_view T v ≡ false → Regular (promising T v)
  unfolding changes_to_old_view
  after_5 v m n =
      let l = leb-false v T.promised n in
      let k = view_promised T.mode T.view T.promised t.mode in
      promising_rule T t v m (omega arith)

  after_6 : (v : ℕ) (I : Table) → table_by_rule M I ≡ true → starts_view T.n v I ≡ true → Regular (keeping_box I T.box) × (I.n ≡ T.n)
  unfolding starts_view
  after_6 v I m k =
      let e = eqb-true I.n T.n (both_left _ _ (both_right _ _ (both_right _ _ (both_right _ _ k)))) in
      (keeping_box_rule T t I (table_facts M I m).0 e, e)

  -- by the rules again, of the same group and the same box
  abbrev pub Kept : Table → Type 0
  Kept U = Regular U × (U.box ≡ T.box) × (U.n ≡ T.n)

  taken_kept : (m : Message) → answer_number M room T m ≡ 0 → message_by_rule M T.n m ≡ true → Kept (table_after check T m)
  unfolding circumstances further_circumstances message_by_rule table_after prepare_finalised outcome_finalised retry_by_rule
  taken_kept (propose_prepare s x) h k = (after_1 s x k, refl, refl)
  taken_kept (finalise_prepare s v r) h k =
      let p = both_right _ _ (both_right _ _ k) in
      (changed_rule T t s _ (λ q. refl) (λ q. with_prepare_lem (final r) q (omega arith) p), refl, refl)
  taken_kept (propose_outcome s v x) h k = (after_3 s v x k, refl, refl)
  taken_kept (finalise_outcome s v u) h k = (changed_rule T t s _ (λ q. refl) (λ q. with_outcome_lem (done u) q (omega arith)), refl, refl)
  taken_kept (change_view v) h k = (after_5 v k (met_none M room T (change_view v) h old_view _ (search places depth 11) (search places)), refl, refl)
  taken_kept (start_view v I) h k =
      let p = both_right _ _ k in
      let (i, e) = after_6 v I (both_left _ _ p) (both_right _ _ p) in
      (i, refl, e)
  taken_kept (read_register s r) h k = (t, refl, refl)

  -- whatever the message, taken or refused
  pub answer_kept : (m : Message) → Kept (answer M room check T m).table
  unfolding answer taken refused
  answer_kept m = go (cases (eqb (answer_number M room T m) 0))
    where
      go : (eqb (answer_number M room T m) 0 ≡ true) ⊎ (eqb (answer_number M room T m) 0 ≡ false) → Kept (answer M room check T m).table
      go (inl e) = let h = eqb-true (answer_number M room T m) 0 e in rw e (taken_kept m h (taken_by_rule M room T m h))
      go (inr e) = rw e (t, refl, refl)

-- ---- how many rows it has

module _ (M : Model) (room : Room) (check : Check) (fits : RoomFits room) (T : Table) (l : length T.rows ≤ M.row_limit) where
  -- there is room for a new stamp, since the message was not refused as full
  has_room : (s : ℕ) → new_but_full M room T s ≡ false → held T.rows s ≡ none → length T.rows < M.row_limit
  unfolding new_but_full both
  has_room s h e = fits M.row_limit (f_of T.n) T.start (length T.rows) (not-false _ (rw e at h))

  -- a row changed, or one more where there is room
  changed_or_added : (s : ℕ) (change : Row → Row) (r : Row) → new_but_full M room T s ≡ false → length (cond (is_some (held T.rows s)) (changed s change T.rows) (added r T.rows)) ≤ M.row_limit
  changed_or_added s change r n = go (held T.rows s) refl
    where
      go : (h : Option Row) → held T.rows s ≡ h → length (cond (is_some h) (changed s change T.rows) (added r T.rows)) ≤ M.row_limit
      go (some q) e = omega (arith, l, length-changed s change T.rows)
      go none e = omega (arith, has_room s n e, length-added r T.rows)

  taken_limit : (m : Message) → answer_number M room T m ≡ 0 → length (table_after check T m).rows ≤ M.row_limit
  unfolding circumstances further_circumstances message_by_rule table_after prepare_proposed outcome_proposed prepare_finalised outcome_finalised
  taken_limit (propose_prepare s x) h = changed_or_added s _ _ (met_none M room T (propose_prepare s x) h full _ (search places depth 11) (search places))
  taken_limit (finalise_prepare s v r) h = omega (arith, l, length-changed s (with_prepare (final r)) T.rows)
  taken_limit (propose_outcome s v x) h = changed_or_added s _ _ (met_none M room T (propose_outcome s v x) h full _ (search places depth 11) (search places))
  taken_limit (finalise_outcome s v u) h = omega (arith, l, length-changed s (with_outcome (done u)) T.rows)
  taken_limit (change_view v) h = l
  taken_limit (start_view v I) h = (table_facts M I (both_left _ _ (both_right _ _ (taken_by_rule M room T (start_view v I) h)))).1
  taken_limit (read_register s k) h = l

  answer_limit : (m : Message) → length (answer M room check T m).table.rows ≤ M.row_limit
  unfolding answer taken refused
  answer_limit m = go (cases (eqb (answer_number M room T m) 0))
    where
      go : (eqb (answer_number M room T m) 0 ≡ true) ⊎ (eqb (answer_number M room T m) 0 ≡ false) → length (answer M room check T m).table.rows ≤ M.row_limit
      go (inl e) = rw e (taken_limit m (eqb-true (answer_number M room T m) 0 e))
      go (inr e) = rw e l

-- the table after an answer is a table by the rules, with the same box and the same n
pub answer_by_rule : (M : Model) (room : Room) (check : Check) → RoomFits room → CheckByRule check → (T : Table) (m : Message) → table_by_rule M T ≡ true → table_by_rule M (answer M room check T m).table ≡ true
answer_by_rule M room check fits checks T m h = let (t, l) = table_facts M T h in table_by M (answer_kept M room check checks T t m).0 (answer_limit M room check fits T l m)

pub answer_same_box : (M : Model) (room : Room) (check : Check) → CheckByRule check → (T : Table) (m : Message) → table_by_rule M T ≡ true → ((answer M room check T m).table.box ≡ T.box) × ((answer M room check T m).table.n ≡ T.n)
answer_same_box M room check checks T m h = let k = answer_kept M room check checks T (table_facts M T h).0 m in (k.1, k.2)

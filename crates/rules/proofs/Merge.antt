-- The merge: which tables and rows it is made of, and that it is a table by the rules that starts its view.
use mathlib.Core.Path.{◌≡◌, refl, sym, ap, ◌∙◌}
use mathlib.Core.Bool.{Bool, true, false, not, cond}
use mathlib.Core.Logic.{◌⊎◌, inl, inr}
use mathlib.Core.List.Memᴰ
use mathlib.Core.List.{List, [], ◌∷◌, ◌++◌, map}
use mathlib.Core.Option.{some}
use Prim.Native.Nat.{ℕ, suc, ◌+◌, ◌≤◌, ◌<◌, ◌%◌}
use native.Mathlib.Omega.{arith}
use native.Mathlib.Nat.{mod-lt}
use lib.Dec.{eqb}
use lib.ListN.{length, length-map}
use borrow.Author.Tests.{eq-eqb, ne_eqb, lt-ltb}
use Rattle.rules.specs.Tests.{both, every, those}
use Rattle.rules.specs.Groups.{f_of, agreement_count}
use Rattle.rules.specs.Stamps.{is_stamp, counts_by_rule, contents_by_rule}
use Rattle.rules.specs.Tables.{Result, Result.OK, Result.ABORT, Result.ABSTAIN, Result.RETRY, Prepare, Prepare.no_prepare, Prepare.final, Verdict, Verdict.commit, Verdict.abort, Outcome, Outcome.no_outcome, Outcome.noted, Outcome.done, prepare_code, outcome_code, result_by_rule, retry_by_rule, something_held, Row, row_by_rule, rising, Model, Table, normal_mode, mode_by_rule, table_by_rule}
use Rattle.rules.specs.Messages.{Check, held, changed, with_prepare}
use Rattle.rules.specs.Circumstances.{settled, starts_view}
use Rattle.rules.specs.Merge.{used, stamps, rows_of, merged_outcome, Standing, Standing.has_none, Standing.has_final, Standing.has_agreed, Standing.has_open, standing, agreed_prepare, open_prepare, unchecked_prepare, body_of, unchecked_row, unchecked_rows, among_agreed, among_open, to_check, is_settled, checked_at, checked_in_turn, merged_rows, group_of, merged_table, merge_number, merge}
use Rattle.rules.proofs.Logic.{impossible, both_true, either_first, eqb_self}
use Rattle.rules.proofs.Lists.{◌∈◌, every_one, all_every, those_of, in_those, in_all}
use Rattle.rules.proofs.Check.{CheckByRule}
use Rattle.rules.proofs.Rows.{rising_above, held_cons, held_is, changed_from}
use Rattle.rules.proofs.Tables.{stamp_positive, row_facts, row_by, Regular, table_by}
use Rattle.rules.proofs.Used.{used_newest, merge_is, merge_fits, first_table}
use Rattle.rules.proofs.Standings.{NoneOrDone, outcome_cases, Says, standing_says}
use Rattle.rules.proofs.Settled.{merged_settled}
use Rattle.rules.proofs.Stamps.{RisingFrom, rising_from_one, stamps_rising, stamps_from, rows_from}

-- ---- checks change results alone

abbrev pub stamps_of : List Row → List ℕ
stamps_of rows = map (λ r. r.stamp) rows

stamps_changed : (s : ℕ) (change : Row → Row) → ((r : Row) → (change r).stamp ≡ r.stamp) → (rows : List Row) → stamps_of (changed s change rows) ≡ stamps_of rows
unfolding changed
stamps_changed s change keeps [] = refl
stamps_changed s change keeps (r ∷ rs) = rw (go (eqb r.stamp s), stamps_changed s change keeps rs) refl
  where
    go : (b : Bool) → (cond b (change r) r).stamp ≡ r.stamp
    go true = keeps r
    go false = refl

stamps_in_turn : (check : Check) (ss : List ℕ) (rows : List Row) → stamps_of (checked_in_turn check ss rows) ≡ stamps_of rows
unfolding checked_in_turn checked_at
stamps_in_turn check [] rows = refl
stamps_in_turn check (s ∷ ss) rows = stamps_in_turn check ss (checked_at check s rows) ∙ stamps_changed s _ (λ r. refl) rows

stamps_unchecked : (agreement : ℕ) (Ts : List Table) → stamps_of (unchecked_rows agreement Ts) ≡ stamps Ts
unfolding unchecked_rows unchecked_row
stamps_unchecked agreement Ts = go (stamps Ts)
  where
    go : (ss : List ℕ) → stamps_of (map (λ s. unchecked_row agreement s (rows_of Ts s)) ss) ≡ ss
    go [] = refl
    go (s ∷ ss) = ap (λ (l : List ℕ). s ∷ l) (go ss)

-- "Each stamp in them gets one row."
pub merged_stamps : (check : Check) (agreement : ℕ) (Ts : List Table) → stamps_of (merged_rows check agreement Ts) ≡ stamps Ts
unfolding merged_rows
merged_stamps check agreement Ts =
    stamps_in_turn check (to_check among_open agreement Ts) _ ∙ (stamps_in_turn check (to_check among_agreed agreement Ts) _ ∙ stamps_unchecked agreement Ts)

-- rows whose stamps rise
rising_stamps : (low : ℕ) (rows : List Row) → RisingFrom (suc low) (stamps_of rows) → rising low rows ≡ true
unfolding rising
rising_stamps low [] h = refl
rising_stamps low (r ∷ rs) (l, h) = both_true (lt-ltb low r.stamp l) (rising_stamps r.stamp rs h)

-- and each of them is the row held
pub rising-held : (low : ℕ) (rows : List Row) → RisingFrom low (stamps_of rows) → (r : Row) → r ∈ rows → held rows r.stamp ≡ some r
rising-held low [] h r m = absurd (Memᴰ.not-nil m)
rising-held low (q ∷ qs) (l, h) r m = go (Memᴰ.cases_cons m)
  where
    rise : rising q.stamp qs ≡ true
    rise = rising_stamps q.stamp qs h

    go : (r ≡ q) ⊎ (r ∈ qs) → held (q ∷ qs) r.stamp ≡ some r
    go (inl e) = rw (e, held_cons q qs q.stamp, eqb_self q.stamp) refl
    go (inr m') =
        let d = ne_eqb q.stamp r.stamp (λ e. omega (arith, rising_above q.stamp qs rise r m')) in
        rw (held_cons q qs r.stamp, d) (held_is q.stamp qs rise r m')

-- ---- rows on their way: by the rule, and held or still to be checked

pub record OnTheWay (ss : List ℕ) (r : Row) : Type 0 where
  pub stamp : is_stamp r.stamp ≡ true
  pub counts : counts_by_rule (length r.body.reads) (length r.body.writes) ≡ true
  pub retry : retry_by_rule r.prepare ≡ true
  pub contents : contents_by_rule r.stamp r.body ≡ true
  pub waits : (something_held r.prepare r.outcome ≡ true) ⊎ (r.stamp ∈ ss)

held_rule : {ss : List ℕ} {r : Row} → OnTheWay ss r → something_held r.prepare r.outcome ≡ true → row_by_rule r ≡ true
held_rule w h = row_by (record { stamp = w.stamp; counts = w.counts; held = h; retry = w.retry; contents = w.contents })

abbrev pub AllOnTheWay : List ℕ → List Row → Type 0
AllOnTheWay ss rows = (r : Row) → r ∈ rows → OnTheWay ss r

settled_rows_rule : {ss : List ℕ} (rows : List Row) → AllOnTheWay ss rows → every row_by_rule (those is_settled rows) ≡ true
unfolding is_settled
settled_rows_rule rows h = all_every row_by_rule (those is_settled rows) (λ r m. let (i, k) = those_of _ rows r m in held_rule (h r i) k)

pub final_held : (q : Result) (o : Outcome) → something_held (final q) o ≡ true
unfolding something_held
final_held q o = lt-ltb 0 (prepare_code (final q) + outcome_code o) (omega arith)

module _ (check : Check) (checks : CheckByRule check) where
  step : (s : ℕ) (ss : List ℕ) (rows : List Row) → AllOnTheWay (s ∷ ss) rows → AllOnTheWay ss (checked_at check s rows)
  unfolding checked_at retry_by_rule
  step s ss rows h q m = go (changed_from s _ rows q m)
    where
      Change : Row → Row
      Change r = with_prepare (final (check (those is_settled rows) s r.body)) r

      moved : (r : Row) → r ∈ rows → OnTheWay ss (Change r)
      moved r i =
          let w = h r i in
          record {
            stamp = w.stamp;
            counts = w.counts;
            retry = checks (those is_settled rows) s r.body (settled_rows_rule rows h);
            contents = w.contents;
            waits = inl (final_held _ r.outcome);
          }

      still : (r : Row) → eqb r.stamp s ≡ false → (something_held r.prepare r.outcome ≡ true) ⊎ (r.stamp ∈ (s ∷ ss)) → (something_held r.prepare r.outcome ≡ true) ⊎ (r.stamp ∈ ss)
      still r d (inl k) = inl k
      still r d (inr k) = past (Memᴰ.cases_cons k)
        where
          past : (r.stamp ≡ s) ⊎ (r.stamp ∈ ss) → (something_held r.prepare r.outcome ≡ true) ⊎ (r.stamp ∈ ss)
          past (inl e) = impossible (eq-eqb r.stamp s e) d
          past (inr k') = inr k'

      same : (r : Row) → r ∈ rows → eqb r.stamp s ≡ false → OnTheWay ss r
      same r i d = let w = h r i in record { stamp = w.stamp; counts = w.counts; retry = w.retry; contents = w.contents; waits = still r d w.waits }

      go : (r : Row) × (r ∈ rows) × (((r.stamp ≡ s) × (q ≡ Change r)) ⊎ ((eqb r.stamp s ≡ false) × (q ≡ r))) → OnTheWay ss q
      go (r, i, inl (k, e)) = rw e (moved r i)
      go (r, i, inr (k, e)) = rw e (same r i k)

  in_turn : (ss rest : List ℕ) (rows : List Row) → AllOnTheWay (ss ++ rest) rows → AllOnTheWay rest (checked_in_turn check ss rows)
  unfolding checked_in_turn
  in_turn [] rest rows h = h
  in_turn (s ∷ ss) rest rows h = in_turn ss rest (checked_at check s rows) (step s (ss ++ rest) rows h)

-- ---- the rows before the checks

agreed_retry : (q : Result) (o : Outcome) → result_by_rule q ≡ true → retry_by_rule (agreed_prepare q o) ≡ true
unfolding retry_by_rule result_by_rule
agreed_retry OK no_outcome h = refl
agreed_retry OK (noted v) h = refl
agreed_retry OK (done v) h = refl
agreed_retry ABORT o h = refl
agreed_retry ABSTAIN o h = refl
agreed_retry (RETRY t) o h = h

open_retry : (o : Outcome) → retry_by_rule (open_prepare o) ≡ true
unfolding retry_by_rule result_by_rule
open_retry no_outcome = refl
open_retry (noted commit) = refl
open_retry (noted abort) = refl
open_retry (done commit) = refl
open_retry (done abort) = refl

-- results come from rows by the rule
pub unchecked_retry : (rs : List Row) → ((r : Row) → r ∈ rs → row_by_rule r ≡ true) → (c : Standing) (o : Outcome) → Says rs c → retry_by_rule (unchecked_prepare c o) ≡ true
unfolding retry_by_rule
unchecked_retry rs good has_none o h = refl
unchecked_retry rs good (has_final q) o (r, m, e) = ap retry_by_rule (sym e) ∙ (row_facts r (good r m)).retry
unchecked_retry rs good (has_agreed q) o (r, m, e) = agreed_retry q o (ap retry_by_rule (sym e) ∙ (row_facts r (good r m)).retry)
unchecked_retry rs good has_open o h = open_retry o

module _ (agreement s : ℕ) (rs : List Row) (good : (r : Row) → r ∈ rs → (row_by_rule r ≡ true) × (r.stamp ≡ s)) where
  -- it holds something, or it waits among the agreed or the open
  abbrev ToCome : Standing → Outcome → Type 0
  ToCome c o = (something_held (unchecked_prepare c o) o ≡ true) ⊎ ((both (among_agreed c) (not (something_held (unchecked_prepare c o) o)) ≡ true) ⊎ (both (among_open c) (not (something_held (unchecked_prepare c o) o)) ≡ true))

  outcome_held_lem : (p : Prepare) (v : Verdict) → something_held p (done v) ≡ true
  unfolding something_held
  outcome_held_lem p v = lt-ltb 0 (prepare_code p + outcome_code (done v)) (omega arith)

  nothing_held : (r : Row) → r ∈ rs → r.prepare ≡ no_prepare → r.outcome ≡ no_outcome → {A : Type 0} → A
  unfolding something_held
  nothing_held r m p o = impossible (row_facts r (good r m).0).held (rw (p, o) refl)

  to_come_lem : (c : Standing) (o : Outcome) → Says rs c → (q : Row) → q ∈ rs → (o ≡ no_outcome → q.outcome ≡ no_outcome) → ((v : Verdict) → o ≡ noted v → ⊥) → ToCome c o
  unfolding both something_held
  to_come_lem c (done v) h q m n d = inl (outcome_held_lem (unchecked_prepare c (done v)) v)
  to_come_lem c (noted v) h q m n d = absurd (d v refl)
  to_come_lem has_none no_outcome h q m n d = nothing_held q m (h q m) (n refl)
  to_come_lem (has_final r) no_outcome h q m n d = inl (final_held r no_outcome)
  to_come_lem (has_agreed OK) no_outcome h q m n d = inr (inl refl)
  to_come_lem (has_agreed ABORT) no_outcome h q m n d = inl (final_held ABORT no_outcome)
  to_come_lem (has_agreed ABSTAIN) no_outcome h q m n d = inl (final_held ABSTAIN no_outcome)
  to_come_lem (has_agreed (RETRY t)) no_outcome h q m n d = inl (final_held (RETRY t) no_outcome)
  to_come_lem has_open no_outcome h q m n d = inr (inr refl)

module _ (agreement : ℕ) (Ts : List Table) (rules : (T : Table) → T ∈ Ts → Regular T) where
  -- the rows of a stamp are by the rule
  rows_rule : (s : ℕ) (r : Row) → r ∈ rows_of Ts s → (row_by_rule r ≡ true) × (r.stamp ≡ s)
  rows_rule s r m =
      let (T, i, k, e) = rows_from Ts s r m in
      (every_one row_by_rule T.rows (rules T i).rows r k, e)

  -- and there is one for each stamp
  pub some_row : (s : ℕ) → s ∈ stamps Ts → (r : Row) × (r ∈ rows_of Ts s)
  unfolding rows_of
  some_row s m =
      let (T, i, (r, k, e)) = stamps_from Ts s m in
      let f = rules T i in
      (r, in_all (λ U. held U.rows s) Ts T r i (rw e at (held_is 0 T.rows f.rise r k)))

  body_rule : (s : ℕ) (rs : List Row) → ((r : Row) → r ∈ rs → (row_by_rule r ≡ true) × (r.stamp ≡ s)) → (r : Row) → r ∈ rs → (is_stamp s ≡ true) × (counts_by_rule (length (body_of rs).reads) (length (body_of rs).writes) ≡ true) × (contents_by_rule s (body_of rs) ≡ true)
  body_rule s [] good r m = absurd (Memᴰ.not-nil m)
  body_rule s (q ∷ qs) good r m =
      let (k, e) = good q (Memᴰ.head refl) in
      let f = row_facts q k in
      (rw e at f.stamp, f.counts, rw e at f.contents)

  -- first the agreed, then the open stamps
  abbrev turns : List ℕ
  turns = to_check among_agreed agreement Ts ++ (to_check among_open agreement Ts ++ [])

  turn_of : (s : ℕ) → s ∈ stamps Ts → let held = something_held (unchecked_prepare (standing agreement (rows_of Ts s)) (merged_outcome (rows_of Ts s))) (merged_outcome (rows_of Ts s)) in (both (among_agreed (standing agreement (rows_of Ts s))) (not held) ≡ true) ⊎ (both (among_open (standing agreement (rows_of Ts s))) (not held) ≡ true) → s ∈ turns
  unfolding to_check is_settled unchecked_row
  turn_of s m (inl h) = Memᴰ.append_left (to_check among_open agreement Ts ++ []) (in_those _ (stamps Ts) s m h)
  turn_of s m (inr h) = Memᴰ.append_right (to_check among_agreed agreement Ts) (Memᴰ.append_left [] (in_those _ (stamps Ts) s m h))

  unchecked_way : (s : ℕ) → s ∈ stamps Ts → OnTheWay turns (unchecked_row agreement s (rows_of Ts s))
  unfolding unchecked_row settled
  unchecked_way s m =
      let (q, i) = some_row s m in
      let (a, b, c) = body_rule s (rows_of Ts s) (rows_rule s) q i in
      let says = standing_says (rows_of Ts s) agreement in
      record {
        stamp = a;
        counts = b;
        retry = unchecked_retry (rows_of Ts s) (λ r m. (rows_rule s r m).0) (standing agreement (rows_of Ts s)) (merged_outcome (rows_of Ts s)) says;
        contents = c;
        waits = go (outcome_cases (rows_of Ts s)) q i says;
      }
    where
      C : Standing
      C = standing agreement (rows_of Ts s)

      place : ToCome agreement s (rows_of Ts s) (rows_rule s) C (merged_outcome (rows_of Ts s)) → (something_held (unchecked_prepare C (merged_outcome (rows_of Ts s))) (merged_outcome (rows_of Ts s)) ≡ true) ⊎ (s ∈ turns)
      place (inl h) = inl h
      place (inr h) = inr (turn_of s m h)

      go : NoneOrDone (rows_of Ts s) → (q : Row) → q ∈ rows_of Ts s → Says (rows_of Ts s) C → (something_held (unchecked_prepare C (merged_outcome (rows_of Ts s))) (merged_outcome (rows_of Ts s)) ≡ true) ⊎ (s ∈ turns)
      go (inl (e, h)) q i says = place (to_come_lem agreement s (rows_of Ts s) (rows_rule s) C (merged_outcome (rows_of Ts s)) says q i (λ k. h q i) (λ v k. let z : ◌≡◌ {A = ℕ} 0 1 = cc in omega arith))
      go (inr (v, e)) q i says = place (to_come_lem agreement s (rows_of Ts s) (rows_rule s) C (merged_outcome (rows_of Ts s)) says q i (λ k. let z : ◌≡◌ {A = ℕ} 0 1 = cc in absurd (omega arith)) (λ u k. let z : ◌≡◌ {A = ℕ} 0 1 = cc in omega arith))

  all_on_the_way : AllOnTheWay turns (unchecked_rows agreement Ts)
  unfolding unchecked_rows
  all_on_the_way r m = let (s, i, e) = Memᴰ.of_map (λ s. unchecked_row agreement s (rows_of Ts s)) (stamps Ts) m in rw (sym e) (unchecked_way s i)

  -- in the end nothing waits
  merged_way : (check : Check) → CheckByRule check → AllOnTheWay [] (merged_rows check agreement Ts)
  unfolding merged_rows
  merged_way check checks =
      in_turn check checks (to_check among_open agreement Ts) [] _ (in_turn check checks (to_check among_agreed agreement Ts) (to_check among_open agreement Ts ++ []) (unchecked_rows agreement Ts) all_on_the_way)

  merged_rows_rule : (check : Check) → CheckByRule check → every row_by_rule (merged_rows check agreement Ts) ≡ true
  merged_rows_rule check checks = all_every row_by_rule _ (λ r m. let w = merged_way check checks r m in held_rule w (go r w.waits))
    where
      go : (r : Row) → (something_held r.prepare r.outcome ≡ true) ⊎ (r.stamp ∈ []) → something_held r.prepare r.outcome ≡ true
      go r (inl h) = h
      go r (inr m) = absurd (Memᴰ.not-nil m)

  -- stamps are above 0, and rise
  merged_rising : (check : Check) → rising 0 (merged_rows check agreement Ts) ≡ true
  merged_rising check = rising_stamps 0 (merged_rows check agreement Ts) (rw (merged_stamps check agreement Ts) (rising_from_one (stamps Ts) (stamps_rising Ts) (λ s m. above s (some_row s m))))
    where
      above : (s : ℕ) → (r : Row) × (r ∈ rows_of Ts s) → 0 < s
      above s (r, i) = let (k, e) = rows_rule s r i in rw e at (stamp_positive r.stamp (row_facts r k).stamp)

-- ---- the merged table

-- it has a row for every stamp of the used tables, and no other
pub merge_stamps : (check : Check) (v : ℕ) (Ts : List Table) → stamps_of (merged_table check v Ts).rows ≡ stamps (used Ts)
unfolding merged_table
merge_stamps check v Ts = merged_stamps check (agreement_count (f_of (group_of Ts))) (used Ts)

module _ (M : Model) (check : Check) (v : ℕ) (Ts : List Table) where
  module _ (checks : CheckByRule check) (rules : (T : Table) → T ∈ Ts → Regular T) (done : merge_number M v Ts ≡ 0) where
    used_rules : (T : Table) → T ∈ used Ts → Regular T
    used_rules T m = rules T (used_newest Ts T m).0

    abbrev agreement : ℕ
    agreement = agreement_count (f_of (group_of Ts))

    -- how many rows
    merged_length : length (merged_rows check agreement (used Ts)) ≡ length (stamps (used Ts))
    merged_length = sym (length-map (merged_rows check agreement (used Ts)) (λ (r : Row). r.stamp)) ∙ ap length (merged_stamps check agreement (used Ts))

    normal_by_rule : mode_by_rule normal_mode v v ≡ true
    unfolding mode_by_rule
    normal_by_rule = either_first _ _ (both_true refl (eqb_self v))

    pub merged_facts : Regular (merged_table check v Ts)
    unfolding merged_table
    merged_facts =
        let (T, m, g, p) = first_table M v Ts done in
        let f = rules T m in
        let b = f.box in
        record {
          group = rw g f.group;
          box = mod-lt v (rw g (omega arith));
          view = rw p at f.promised;
          promised = rw p at f.promised;
          mode = normal_by_rule;
          start = omega arith;
          rise = merged_rising agreement (used Ts) used_rules check;
          rows = merged_rows_rule agreement (used Ts) used_rules check checks;
        }

    merged_limit : length (merged_table check v Ts).rows ≤ M.row_limit
    unfolding merged_table
    merged_limit = omega (arith, merged_length, merge_fits M v Ts done)

    pub merged_starts : starts_view (group_of Ts) v (merged_table check v Ts) ≡ true
    unfolding merged_table starts_view
    merged_starts =
        both_true refl
        (both_true (eqb_self v)
        (both_true (eqb_self (v % group_of Ts))
        (both_true (eqb_self (group_of Ts)) (both_true (eqb_self (length (merged_rows check agreement (used Ts)))) (merged_settled check agreement (used Ts))))))

-- a merge of tables by the rules, however many rows they have, is a table by the rules, of their group, and one that starts view v: normal, box v mod n, start rows equal to rows, all settled
pub merge_by_rule : (M : Model) (check : Check) → CheckByRule check → (v : ℕ) (Ts : List Table) → ((T : Table) → T ∈ Ts → Regular T) → (U : Table) → merge M check v Ts ≡ some U → (table_by_rule M U ≡ true) × (U.n ≡ group_of Ts) × (starts_view (group_of Ts) v U ≡ true)
unfolding merged_table
merge_by_rule M check checks v Ts rules U h =
    let (d, e) = merge_is M check v Ts U h in
    rw e (table_by M (merged_facts M check v Ts checks rules d) (merged_limit M check v Ts checks rules d), refl, merged_starts M check v Ts checks rules d)

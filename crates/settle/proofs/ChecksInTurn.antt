-- The checks of a merge: the agreed rows that wait, then the open ones, each row where it stands.
use mathlib.Core.Path.{◌≡◌, refl, sym, ap, ap₂, ◌∙◌}
use mathlib.Core.Bool.{Bool, true, false, not, cond}
use mathlib.Core.Logic.{◌⊎◌, inl, inr}
use mathlib.Core.List.Memᴰ
use mathlib.Core.List.{List, [], ◌∷◌, ◌++◌, map, map-id}
use mathlib.Core.Option.{Option, none, some}
use Prim.Native.Nat.{ℕ, zero, suc, ◌+◌, ◌*◌, ◌<◌, ◌≤◌, ◌^◌}
use native.Mathlib.Omega.{arith}
use lib.Dec.{eqb, ltb}
use lib.ListN.{length, drop, get_or, length-map, drop_of_length-le}
use lib.Seq.{drop_at, drop-append-add}
use borrow.Author.Tests.{eq-eqb, ne_eqb, lt-ltb}
use Rattle.rules.specs.Tests.{both, either, any, every, kept, those, is_some}
use Rattle.rules.specs.Stamps.{Body, is_stamp}
use Rattle.rules.specs.Tables.{Result, Result.OK, Result.ABORT, Result.ABSTAIN, Result.RETRY, Prepare, Prepare.no_prepare, Prepare.final, Outcome, Outcome.done, Row, Table, rising, result_code, result_retry, prepare_code, outcome_code, result_by_rule, something_held, row_by_rule}
use Rattle.rules.specs.Messages.{changed, with_prepare, with_rows}
use Rattle.rules.specs.Check.{check}
use Rattle.rules.specs.Merge.{stamps, rows_of, merged_outcome, final_of, agreed_of, holds_prepare, Standing, Standing.has_none, Standing.has_final, Standing.has_agreed, Standing.has_open, standing_from, standing, unchecked_prepare, unchecked_row, unchecked_rows, is_settled, among_agreed, among_open, to_check, checked_at, checked_in_turn, merged_rows}
use Rattle.rules.proofs.Logic.{impossible, both_right, both_true, both_false, both_whole, same?, eqb_self}
use Rattle.rules.proofs.Lists.{◌∈◌, every_one, all_every, those_of}
use Rattle.rules.proofs.Check.{check_stamped}
use Rattle.rules.proofs.Rows.{rising_above}
use Rattle.rules.proofs.Stamps.{RisingFrom, rows_from}
use Rattle.rules.proofs.Standings.{NoneOrDone, outcome_cases, Says, standing_says, check_settled}
use Rattle.rules.proofs.Tables.{Regular, row_facts}
use Rattle.rules.proofs.Merge.{stamps_of, merged_stamps, some_row, final_held}
use Rattle.rows.specs.Bytes.{length_of, bodies_length}
use Rattle.rows.specs.Fields.{fields_at, prepare_numbered, result_numbered, retry_by_code}
use Rattle.rows.specs.Read.{row_of, rows_at}
use Rattle.table.specs.Images.{format_one, image_length}
use Rattle.edit.specs.Inner.Changes.{at_index}
use Rattle.edit.proofs.Indexes.{at_index_lem, none_changed}
use Rattle.settle.specs.Inner.Marks.{is_marked}
use Rattle.settle.specs.Inner.Turns.{has_stamp, waits, waiting, checked_by, checked_rows}

-- tables by the rules
abbrev AllRegular : List Table → Type 0
AllRegular Ts = (T : Table) → T ∈ Ts → Regular T

-- ---- which rows wait

-- a row waits, where it is known of each stamp whether it is agreed
abbrev pub waits_by : Bool → (ℕ → Bool) → Row → Bool
waits_by is_open agreed r = waits is_open (agreed r.stamp) r

-- rows made from things that tell their stamp and the test's answer
sifted : {A : Type 0} (test : Row → Bool) (by : A → Bool) (make : A → Row) (stamp : A → ℕ) (xs : List A) → ((x : A) → x ∈ xs → ((make x).stamp ≡ stamp x) × (test (make x) ≡ by x)) → stamps_of (those test (map make xs)) ≡ map stamp (those by xs)
unfolding those
sifted test by make stamp [] h = refl
sifted test by make stamp (x ∷ xs) h =
    let (e, t) = h x (Memᴰ.head refl) in
    rw t (go (by x) e (sifted test by make stamp xs (λ y m. h y (Memᴰ.tail m))))
  where
    go : (b : Bool) → (make x).stamp ≡ stamp x → stamps_of (those test (map make xs)) ≡ map stamp (those by xs) → stamps_of (kept b (make x) (those test (map make xs))) ≡ map stamp (kept b x (those by xs))
    go true e k = ap₂ ◌∷◌ e k
    go false e k = k

-- with a final result nothing waits; without one the agreed result is what the standing says
waits_as : (f a : Option Result) (any_held is_open : Bool) (o : Outcome) →
    let c = standing_from f a any_held in
    let held = something_held (unchecked_prepare c o) o in
    (c ≡ has_none → held ≡ true) → both (not held) (cond is_open (not (is_some a)) (is_some a)) ≡ both (cond is_open among_open among_agreed c) (not held)
unfolding both
waits_as (some q) a any_held is_open o k = rw (final_held q o) (sym (both_false (cond is_open among_open among_agreed (has_final q))))
waits_as none (some q) any_held true o k = both_false (not (something_held (unchecked_prepare (has_agreed q) o) o))
waits_as none (some q) any_held false o k = both_whole (not (something_held (unchecked_prepare (has_agreed q) o) o))
waits_as none none true true o k = both_whole (not (something_held (unchecked_prepare has_open o) o))
waits_as none none true false o k = both_false (not (something_held (unchecked_prepare has_open o) o))
waits_as none none false is_open o k = rw (k refl) (sym (both_false (cond is_open among_open among_agreed has_none)))

-- some row holds something: an outcome, if there is no prepare
none_held : (rs : List Row) → ((r : Row) → r ∈ rs → row_by_rule r ≡ true) → (r : Row) → r ∈ rs → (c : Standing) → Says rs c → c ≡ has_none → something_held (unchecked_prepare c (merged_outcome rs)) (merged_outcome rs) ≡ true
unfolding something_held
none_held rs good r m c says e = go (outcome_cases rs)
  where
    go : NoneOrDone rs → something_held (unchecked_prepare c (merged_outcome rs)) (merged_outcome rs) ≡ true
    go (inr (v, o)) = rw o (lt-ltb 0 (prepare_code (unchecked_prepare c (done v)) + outcome_code (done v)) (omega arith))
    go (inl (o, h)) = let p : Says rs has_none = rw e at says in impossible (row_facts r (good r m)).held (rw (p r m, h r m) refl)

module _ (agreement : ℕ) (Ts : List Table) where
  abbrev agreed_in : ℕ → Bool
  agreed_in s = is_some (agreed_of agreement (rows_of Ts s))

  turns : AllRegular Ts → (is_open : Bool) → stamps_of (those (waits_by is_open agreed_in) (unchecked_rows agreement Ts)) ≡ to_check (cond is_open among_open among_agreed) agreement Ts
  unfolding unchecked_rows to_check waits unchecked_row is_settled standing
  turns all is_open = sifted _ _ (λ s. unchecked_row agreement s (rows_of Ts s)) (λ s. s) (stamps Ts) (λ s m. (refl, by s (some_row agreement Ts all s m))) ∙ map-id _
    where
      by : (s : ℕ) → (r : Row) × (r ∈ rows_of Ts s) → waits_by is_open agreed_in (unchecked_row agreement s (rows_of Ts s)) ≡ both (cond is_open among_open among_agreed (standing agreement (rows_of Ts s))) (not (is_settled (unchecked_row agreement s (rows_of Ts s))))
      by s (r, m) =
          let rs = rows_of Ts s in
          let good : (q : Row) → q ∈ rs → row_by_rule q ≡ true = λ q n. let (T, i, k, e) = rows_from Ts s q n in every_one row_by_rule T.rows (all T i).rows q k in
          waits_as (final_of rs) (agreed_of agreement rs) (any (λ q. holds_prepare q.prepare) rs) is_open (merged_outcome rs) (none_held rs good r m _ (standing_says rs agreement))

-- ---- checks of agreed rows leave the open ones that wait

changed-map : (s : ℕ) (change : Row → Row) (rows : List Row) → changed s change rows ≡ map (λ (r : Row). cond (eqb r.stamp s) (change r) r) rows
unfolding changed
changed-map s change [] = refl
changed-map s change (r ∷ rs) = ap (λ (z : List Row). cond (eqb r.stamp s) (change r) r ∷ z) (changed-map s change rs)

module _ (agreed : ℕ → Bool) where
  abbrev open_stamps : List Row → List ℕ
  open_stamps rows = stamps_of (those (waits_by true agreed) rows)

  not_open : (r : Row) → agreed r.stamp ≡ true → waits_by true agreed r ≡ false
  unfolding waits
  not_open r a = rw a (both_false _)

  open_changed : (s : ℕ) (result : Row → Prepare) → agreed s ≡ true → (rows : List Row) → open_stamps (changed s (λ r. with_prepare (result r) r) rows) ≡ open_stamps rows
  open_changed s result a rows = ap open_stamps (changed-map s _ rows) ∙ sifted _ _ _ _ rows (λ r m. go r (same? r.stamp s))
    where
      go : (r : Row) → (r.stamp ≡ s) ⊎ (eqb r.stamp s ≡ false) → let q = cond (eqb r.stamp s) (with_prepare (result r) r) r in (q.stamp ≡ r.stamp) × (waits_by true agreed q ≡ waits_by true agreed r)
      go r (inl e) = let h = ap agreed e ∙ a in rw (eq-eqb r.stamp s e) (refl, not_open (with_prepare (result r) r) h ∙ sym (not_open r h))
      go r (inr e) = rw e (refl, refl)

  open_in_turn : (ss : List ℕ) (rows : List Row) → ((s : ℕ) → s ∈ ss → agreed s ≡ true) → open_stamps (checked_in_turn check ss rows) ≡ open_stamps rows
  unfolding checked_in_turn checked_at
  open_in_turn [] rows h = refl
  open_in_turn (s ∷ ss) rows h =
      open_in_turn ss (checked_at check s rows) (λ u m. h u (Memᴰ.tail m)) ∙ open_changed s (λ r. final (check (those is_settled rows) s r.body)) (h s (Memᴰ.head refl)) rows

  open_kept : (rows : List Row) → open_stamps (checked_in_turn check (stamps_of (those (waits_by false agreed) rows)) rows) ≡ open_stamps rows
  unfolding waits
  open_kept rows = open_in_turn (stamps_of (those (waits_by false agreed) rows)) rows are_agreed
    where
      are_agreed : (s : ℕ) → s ∈ stamps_of (those (waits_by false agreed) rows) → agreed s ≡ true
      are_agreed s m =
          let (r, i, e) = Memᴰ.of_map (λ (r : Row). r.stamp) (those (waits_by false agreed) rows) m in
          ap agreed (sym e) ∙ both_right _ _ (those_of (waits_by false agreed) rows r i).1

-- ---- rows with other results: what else they have is kept

abbrev blanks : List Row → List Row
blanks rows = map (with_prepare no_prepare) rows

-- two lists of rows differ in results alone
abbrev Alike : List Row → List Row → Type 0
Alike rows others = blanks rows ≡ blanks others

-- so they have this in common
pub record Kept (rows others : List Row) : Type 0 where
  pub rise : (low : ℕ) → rising low rows ≡ rising low others
  pub stamped : every has_stamp rows ≡ every has_stamp others
  pub stamps : stamps_of rows ≡ stamps_of others
  pub count : length rows ≡ length others
  pub bodies : bodies_length rows ≡ bodies_length others

blanks_keep : (rows : List Row) → Kept (blanks rows) rows
unfolding rising every bodies_length
blanks_keep [] = record { rise = λ low. refl; stamped = refl; stamps = refl; count = refl; bodies = refl }
blanks_keep (r ∷ rs) =
    let k = blanks_keep rs in
    record {
      rise = λ low. ap (both (ltb low r.stamp)) (k.rise r.stamp);
      stamped = ap (both (has_stamp r)) k.stamped;
      stamps = ap (λ (ss : List ℕ). r.stamp ∷ ss) k.stamps;
      count = ap suc k.count;
      bodies = ap (λ (n : ℕ). length_of r.body + n) k.bodies;
    }

alike_keep : (rows others : List Row) → Alike rows others → Kept rows others
alike_keep rows others e =
    let a = blanks_keep rows in
    let b = blanks_keep others in
    record {
      rise = λ low. sym (a.rise low) ∙ ap (rising low) e ∙ b.rise low;
      stamped = sym a.stamped ∙ ap (every has_stamp) e ∙ b.stamped;
      stamps = sym a.stamps ∙ ap stamps_of e ∙ b.stamps;
      count = sym a.count ∙ ap length e ∙ b.count;
      bodies = sym a.bodies ∙ ap bodies_length e ∙ b.bodies;
    }

-- the image of a table is as long with one as with the other
pub kept_image : (rows others : List Row) → Kept rows others → (T : Table) → image_length format_one (with_rows T rows) ≡ image_length format_one (with_rows T others)
kept_image rows others k T = rw (k.count, k.bodies) refl

alike_changed : (s : ℕ) (result : Row → Prepare) (rows : List Row) → Alike (changed s (λ r. with_prepare (result r) r) rows) rows
unfolding changed
alike_changed s result [] = refl
alike_changed s result (r ∷ rs) = ap₂ ◌∷◌ (go (eqb r.stamp s)) (alike_changed s result rs)
  where
    go : (b : Bool) → with_prepare no_prepare (cond b (with_prepare (result r) r) r) ≡ with_prepare no_prepare r
    go true = refl
    go false = refl

alike_in_turn : (ss : List ℕ) (rows : List Row) → Alike (checked_in_turn check ss rows) rows
unfolding checked_in_turn checked_at
alike_in_turn [] rows = refl
alike_in_turn (s ∷ ss) rows = alike_in_turn ss (checked_at check s rows) ∙ alike_changed s (λ r. final (check (those is_settled rows) s r.body)) rows

-- all that wait checked
pub checked_keep : (is_open : Bool) (marks : List ℕ) (rows : List Row) → Kept (checked_rows is_open marks rows) rows
unfolding checked_rows
checked_keep is_open marks rows = alike_keep _ rows (alike_in_turn (stamps_of (waiting is_open marks 0 rows)) rows)

-- ---- the rows before any check

module _ (agreement : ℕ) (Ts : List Table) where
  pub unchecked_rising : RisingFrom 1 (stamps Ts) → rising 0 (unchecked_rows agreement Ts) ≡ true
  unfolding unchecked_rows unchecked_row rising
  unchecked_rising = from 0 (stamps Ts)
    where
      from : (low : ℕ) (ss : List ℕ) → RisingFrom (suc low) ss → rising low (map (λ s. unchecked_row agreement s (rows_of Ts s)) ss) ≡ true
      from low [] h = refl
      from low (s ∷ ss) (l, h) = both_true (lt-ltb low s l) (from s ss h)

  pub unchecked_stamped : ((s : ℕ) → s ∈ stamps Ts → (0 < s) × (s < 2 ^ 48)) → every has_stamp (unchecked_rows agreement Ts) ≡ true
  unfolding unchecked_rows unchecked_row is_stamp
  unchecked_stamped range =
      all_every has_stamp _ (λ r m.
      let (s, i, e) = Memᴰ.of_map (λ s. unchecked_row agreement s (rows_of Ts s)) (stamps Ts) m in
      let (l, k) = range s i in
      ap has_stamp (sym e) ∙ both_true (lt-ltb 0 s l) (lt-ltb s (2 ^ 48) k))

  pub unchecked_length : length (unchecked_rows agreement Ts) ≡ length (stamps Ts)
  unfolding unchecked_rows
  unchecked_length = length-map (stamps Ts) (λ s. unchecked_row agreement s (rows_of Ts s))

  unchecked_stamps : stamps_of (unchecked_rows agreement Ts) ≡ stamps Ts
  unfolding merged_rows
  unchecked_stamps = sym (alike_keep (merged_rows check agreement Ts) (unchecked_rows agreement Ts) (alike_in_turn (to_check among_open agreement Ts) _ ∙ alike_in_turn (to_check among_agreed agreement Ts) _)).stamps ∙ merged_stamps check agreement Ts

-- ---- both turns, if the marks tell of each stamp whether it is agreed

waiting_from : (is_open : Bool) (marks : List ℕ) (agreed : ℕ → Bool) (k : ℕ) (rows : List Row) → ((i : ℕ) → i < length rows → is_marked marks (k + i) ≡ agreed (get_or (stamps_of rows) i 0)) → waiting is_open marks k rows ≡ those (waits_by is_open agreed) rows
unfolding waiting those
waiting_from is_open marks agreed k [] h = refl
waiting_from is_open marks agreed k (r ∷ rs) h =
    let e : k + 0 ≡ k = omega arith in
    let now : is_marked marks k ≡ agreed r.stamp = rw e at (h 0 (omega arith)) in
    rw (now, waiting_from is_open marks agreed (k + 1) rs (λ i l. let n : k + 1 + i ≡ k + suc i = omega arith in rw n (h (suc i) (omega arith)))) refl

pub waiting_is : (is_open : Bool) (marks : List ℕ) (agreed : ℕ → Bool) (rows : List Row) → ((i : ℕ) → i < length rows → is_marked marks i ≡ agreed (get_or (map (λ (r : Row). r.stamp) rows) i 0)) → waiting is_open marks 0 rows ≡ those (λ (r : Row). waits is_open (agreed r.stamp) r) rows
waiting_is is_open marks agreed rows h = waiting_from is_open marks agreed 0 rows (λ i l. let e : 0 + i ≡ i = omega arith in rw e (h i l))

module _ (marks : List ℕ) (agreement : ℕ) (Ts : List Table) (all : AllRegular Ts) (told : (i : ℕ) → i < length (stamps Ts) → is_marked marks i ≡ is_some (agreed_of agreement (rows_of Ts (get_or (stamps Ts) i 0)))) where
  turns_are : (is_open : Bool) (rows : List Row) → stamps_of rows ≡ stamps Ts → checked_rows is_open marks rows ≡ checked_in_turn check (stamps_of (those (waits_by is_open (agreed_in agreement Ts)) rows)) rows
  unfolding checked_rows
  turns_are is_open rows e = ap (λ (rs : List Row). checked_in_turn check (stamps_of rs) rows) (waiting_is is_open marks (agreed_in agreement Ts) rows (λ i l. rw e (told i (rw (← e, length-map rows (λ (r : Row). r.stamp)) l))))

  pub merged_in_turn : merged_rows check agreement Ts ≡ checked_rows true marks (checked_rows false marks (unchecked_rows agreement Ts))
  unfolding merged_rows
  merged_in_turn =
      let rows = unchecked_rows agreement Ts in
      let s : stamps_of rows ≡ stamps Ts = unchecked_stamps agreement Ts in
      let next = checked_rows false marks rows in
      let n : stamps_of next ≡ stamps Ts = (checked_keep false marks rows).stamps ∙ s in
      let a : checked_in_turn check (to_check among_agreed agreement Ts) rows ≡ next = ap (λ (ss : List ℕ). checked_in_turn check ss rows) (sym (turns agreement Ts all false)) ∙ sym (turns_are false rows s) in
      let o : to_check among_open agreement Ts ≡ open_stamps (agreed_in agreement Ts) next = sym (turns agreement Ts all true) ∙ sym (ap (open_stamps (agreed_in agreement Ts)) (turns_are false rows s) ∙ open_kept (agreed_in agreement Ts) rows) in
      ap₂ (checked_in_turn check) o a ∙ sym (turns_are true next n)

-- ---- one row after the other

-- a row stands at an index
pub record RowIs (rows : List Row) (i : ℕ) (r : Row) : Type 0 where
  pub before : List Row
  pub behind : List Row
  pub is : rows ≡ before ++ (r ∷ behind)
  pub index : length before ≡ i

pub row_read : (s : List ℕ) (at n i : ℕ) → i < n → RowIs (rows_at s at n) i (row_of s (fields_at s (at + 24 * i)))
unfolding rows_at
row_read s at zero i l = absurd (omega arith)
row_read s at (suc n) zero l =
    let e : at + 24 * 0 ≡ at = omega arith in
    rw e (record { before = []; behind = rows_at s (at + 24) n; is = refl; index = refl })
row_read s at (suc n) (suc i) l =
    let e : at + 24 * suc i ≡ at + 24 + 24 * i = omega arith in
    let t = row_read s (at + 24) n i (omega arith) in
    rw e (record { before = row_of s (fields_at s at) ∷ t.before; behind = t.behind; is = ap (λ (z : List Row). row_of s (fields_at s at) ∷ z) t.is; index = ap suc t.index })

-- and a change at the index is one of this row
pub at_row : (rows : List Row) (i : ℕ) (r : Row) (t : RowIs rows i r) (change : Row → Row) → at_index i change rows ≡ t.before ++ (change r ∷ t.behind)
at_row rows i r t change = ap₂ (λ (j : ℕ) (rs : List Row). at_index j change rs) (sym t.index) t.is ∙ at_index_lem t.before t.behind r change

-- the stamps that wait from an index on
abbrev pub turns_from : Bool → List ℕ → List Row → ℕ → List ℕ
turns_from is_open marks rows i = stamps_of (waiting is_open marks i (drop i rows))

drop_past : (xs ys : List Row) (r : Row) (i : ℕ) → length xs ≡ i → drop (i + 1) (xs ++ (r ∷ ys)) ≡ ys
drop_past xs ys r i e = rw (← e) (drop-append-add xs (r ∷ ys) 1)

changed_there : (low : ℕ) (change : Row → Row) (xs ys : List Row) (r : Row) → rising low (xs ++ (r ∷ ys)) ≡ true → changed r.stamp change (xs ++ (r ∷ ys)) ≡ xs ++ (change r ∷ ys)
unfolding changed rising
changed_there low change [] ys r rise = rw (eqb_self r.stamp, none_changed r.stamp r.stamp change ys (omega arith) (both_right _ _ rise)) refl
changed_there low change (x ∷ xs) ys r rise =
    let m : x.stamp < r.stamp = rising_above x.stamp (xs ++ (r ∷ ys)) (both_right _ _ rise) r (Memᴰ.append_right xs (Memᴰ.head refl)) in
    rw (ne_eqb x.stamp r.stamp (λ e. absurd (omega arith)), changed_there x.stamp change xs ys r (both_right _ _ rise))

module _ (is_open : Bool) (marks : List ℕ) where
  abbrev pub left : List Row → ℕ → List Row
  left rows i = checked_in_turn check (turns_from is_open marks rows i) rows

  pub left_keep : (rows : List Row) (i : ℕ) → Kept (left rows i) rows
  left_keep rows i = alike_keep _ rows (alike_in_turn (turns_from is_open marks rows i) rows)

  pub turn_start : (rows : List Row) → left rows 0 ≡ checked_rows is_open marks rows
  unfolding checked_rows
  turn_start rows = refl

  pub turn_end : (rows : List Row) (i : ℕ) → length rows ≤ i → left rows i ≡ rows
  unfolding checked_in_turn waiting
  turn_end rows i l = rw (drop_of_length-le rows l) refl

  module _ (rows : List Row) (i : ℕ) (r : Row) (t : RowIs rows i r) where
    here : drop i rows ≡ r ∷ t.behind
    here = ap (drop i) t.is ∙ drop_at t.before (r ∷ t.behind) i t.index

    past : drop (i + 1) rows ≡ t.behind
    past = ap (drop (i + 1)) t.is ∙ drop_past t.before t.behind r i t.index

    pub turn_passed : waits is_open (is_marked marks i) r ≡ false → left rows (i + 1) ≡ left rows i
    unfolding waiting
    turn_passed w = rw (here, past, w) refl

    turn_now : waits is_open (is_marked marks i) r ≡ true → turns_from is_open marks rows i ≡ r.stamp ∷ turns_from is_open marks rows (i + 1)
    unfolding waiting
    turn_now w = rw (here, past, w) refl

    past_checked : drop (i + 1) (at_index i (checked_by rows) rows) ≡ drop (i + 1) rows
    past_checked = ap (drop (i + 1)) (at_row rows i r t (checked_by rows)) ∙ drop_past t.before t.behind (checked_by rows r) i t.index ∙ sym past

    module _ (rise : rising 0 rows ≡ true) where
      -- the row of that stamp is the one at the index, and a check of all rows is one of the settled ones
      checked_at_lem : checked_at check r.stamp rows ≡ at_index i (checked_by rows) rows
      unfolding checked_at
      checked_at_lem =
          let change : Row → Row = λ q. with_prepare (final (check (those is_settled rows) r.stamp q.body)) q in
          let e : change r ≡ checked_by rows r = ap (λ (x : Result). with_prepare (final x) r) (check_settled rows r.stamp r.body) in
          let h : rising 0 (t.before ++ (r ∷ t.behind)) ≡ true = ap (rising 0) (sym t.is) ∙ rise in
          ap (changed r.stamp change) t.is ∙ changed_there 0 change t.before t.behind r h ∙ ap (λ (q : Row). t.before ++ (q ∷ t.behind)) e ∙ sym (at_row rows i r t (checked_by rows))

      pub row_keep : Kept (at_index i (checked_by rows) rows) rows
      unfolding checked_in_turn
      row_keep = alike_keep _ rows (ap blanks (sym checked_at_lem) ∙ alike_in_turn (r.stamp ∷ []) rows)

      pub turn_checked : waits is_open (is_marked marks i) r ≡ true → left (at_index i (checked_by rows) rows) (i + 1) ≡ left rows i
      unfolding checked_in_turn
      turn_checked w =
          let ss : List ℕ = turns_from is_open marks rows (i + 1) in
          ap (λ (z : List Row). checked_in_turn check (stamps_of (waiting is_open marks (i + 1) z)) (at_index i (checked_by rows) rows)) past_checked
          ∙ ap (checked_in_turn check ss) (sym checked_at_lem) ∙ ap (λ (z : List ℕ). checked_in_turn check z rows) (sym (turn_now w))

-- ---- what a check gives, in bytes

result_codes : (q : Result) → result_by_rule q ≡ true → (result_code q ≤ 4) × (0 < result_code q) × (retry_by_code (result_code q + 4) (result_retry q) ≡ true) × (prepare_numbered (result_code q + 4) (result_retry q) ≡ final q)
unfolding result_by_rule retry_by_code prepare_numbered result_numbered either
result_codes OK h = (omega arith, omega arith, refl, refl)
result_codes ABORT h = (omega arith, omega arith, refl, refl)
result_codes ABSTAIN h = (omega arith, omega arith, refl, refl)
result_codes (RETRY t) h = (omega arith, omega arith, h, refl)

pub check_result_codes : (rows : List Row) (s : ℕ) (x : Body) → every has_stamp rows ≡ true →
    let k = check rows s x in
    (result_code k ≤ 4) × (0 < result_code k) × (retry_by_code (result_code k + 4) (result_retry k) ≡ true) × (prepare_numbered (result_code k + 4) (result_retry k) ≡ final k)
check_result_codes rows s x h = result_codes (check rows s x) (check_stamped rows s x h)

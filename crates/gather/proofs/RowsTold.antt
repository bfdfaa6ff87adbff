-- What was gathered tells what the rows of its stamp hold: each place has the codes of one of them, in their order, or zeros.
use mathlib.Core.Path.{◌≡◌, refl, sym, ap, ◌∙◌}
use mathlib.Core.Bool.{Bool, true, false, cond}
use mathlib.Core.Logic.{◌⊎◌, inl, inr}
use mathlib.Core.List.{List, [], ◌∷◌}
use mathlib.Core.Option.{some}
use Prim.Native.Nat.{ℕ, zero, suc, ◌+◌, ◌*◌, ◌<◌, ◌≤◌, ◌-◌}
use native.Mathlib.Omega.{arith}
use lib.Dec.{eqb, leb}
use lib.ListN.{length, get_or, drop}
use Rattle.std.proofs.Common.{add-one}
use Rattle.std.proofs.Math.Seq.{drop-cons}
use Rattle.std.specs.Prelude.{Some, None}
use Rattle.std.specs.List.{filter}
use borrow.Author.Tests.{ne_eqb, ltb-true}
use Rattle.wire.specs.Inner.ByteLists.{AllBytes}
use Rattle.wire.proofs.Numbers.{all_drop}
use Rattle.rules.specs.Tests.{both, bit, count, those, all_of}
use Rattle.rules.specs.Tables.{Row, Table, valley, prepare_code, prepare_retry, outcome_code}
use Rattle.rules.specs.Merge.{rows_of, agreed_of}
use Rattle.rules.proofs.Logic.{cases, both_left}
use Rattle.rows.specs.declared.row.RowFields.{RowFields}
use Rattle.rows.specs.Fields.{fields_at}
use Rattle.rows.specs.Read.{row_of}
use Rattle.table.specs.Images.{format_one, image_length}
use Rattle.table.specs.Parse.{table_at, BeginsWithImage}
use Rattle.table.proofs.Images.{parse_reads}
use Rattle.seek.proofs.HeldRows.{prepare_here, retry_here, outcome_here}
use Rattle.image_run.specs.Runs.{images}
use Rattle.image_run.specs.Inner.WholeRuns.{tables_of, Images}
use Rattle.image_run.proofs.RunTurns.{first, some_bytes}
use Rattle.gather.specs.declared.state.State.{State}
use Rattle.gather.specs.declared.held.Gathered.{Gathered}
use Rattle.gather.specs.Inner.UsedTables.{used_of, place_in, no_fields, fields_for}
use Rattle.gather.specs.Inner.State.{none_seen, state_of, saw_fields, saw_prepare, saw_outcome}
use Rattle.gather.specs.Inner.Agreed.{is_tentative, has_codes, enough_have, agreed_among, agreed_as}
use Rattle.gather.specs.Inner.Cursors.{padded}
use Rattle.gather.specs.Inner.Gathered.{fields_in, fields_from, GatheredFrom, rows_in}
use Rattle.gather.proofs.StateSeen.{saw_row, saw_rows, state_seen}
use Rattle.gather.proofs.UsedRows.{rows_now, rows_later, Told, told, first_parts}
use Rattle.gather.proofs.AgreedSeen.{holds_codes, is_enough, agreed_of_these, agreed_all, agreed_none, row_agreed, nothing_agreed}

pub record Codes (f : RowFields) (r : Row) : Type 0 where
  pub prepare : prepare_code r.prepare ≡ f.prepare
  pub retry : prepare_retry r.prepare ≡ f.retry
  pub outcome : outcome_code r.outcome ≡ f.outcome

abbrev pub Tells : List RowFields → List Row → Type 0
Tells [] rs = rs ≡ []
Tells (f ∷ fs) rs = ((f ≡ no_fields) × Tells fs rs) ⊎ ((r : Row) × (later : List Row) × (rs ≡ r ∷ later) × Codes f r × Tells fs later)

-- ---- what was gathered does

nothing_told : (n : ℕ) → Tells (padded n no_fields []) []
unfolding padded
nothing_told zero = refl
nothing_told (suc n) = inl (refl, nothing_told n)

module _ (newest stamp : ℕ) where
  table_told : (s : List ℕ) → AllBytes s → (has_image : BeginsWithImage valley s) (Ts : List Table) (fs : List RowFields) → Tells fs (rows_of (used_of newest Ts) stamp) → Tells (fields_for s (place_in newest (table_at format_one s) stamp) ∷ fs) (rows_of (used_of newest (table_at format_one s ∷ Ts)) stamp)
  table_told s bytes has_image Ts fs later = go (told newest stamp s bytes has_image Ts)
    where
      go : Told newest stamp s bytes has_image Ts → Tells (fields_for s (place_in newest (table_at format_one s) stamp) ∷ fs) (rows_now newest stamp s bytes has_image Ts)
      go (inr (i, w)) = inl (ap (fields_for s) w.place, rw w.rows later)
      go (inl (i, h)) =
          let k = h.index in
          let c : Codes (fields_at s (24 + 24 * i)) (row_of s (fields_at s (24 + 24 * i))) = record { prepare = prepare_here valley s stamp i bytes has_image k; retry = retry_here valley s stamp i bytes has_image k; outcome = outcome_here valley s stamp i bytes has_image k } in
          inr (row_of s (fields_at s (24 + 24 * i)), rows_later newest stamp s bytes has_image Ts, h.rows, rw h.place c, later)

  all_told : (n : ℕ) (Ts : List Table) (s : List ℕ) → AllBytes s → images valley s ≡ some Ts → length Ts ≤ n → Tells (padded n no_fields (fields_in newest stamp Ts s)) (rows_of (used_of newest Ts) stamp)
  unfolding padded fields_in those rows_of all_of
  all_told n [] s bytes h l = nothing_told n
  all_told zero (T ∷ Ts) s bytes h l = absurd (omega arith)
  all_told (suc n) (T ∷ Ts) s bytes h l =
      let (p, b) = first_parts T Ts s (first valley s (T ∷ Ts) (some_bytes valley s T Ts h) h) in
      let e : table_at format_one s ≡ T = (parse_reads format_one valley s T p).0 in
      let has_image : BeginsWithImage valley s = p ∙ ap some (sym e) in
      let later = all_told n Ts (drop (image_length format_one T) s) (all_drop (image_length format_one T) s bytes) b (omega arith) in
      rw e at (table_told s bytes has_image Ts (padded n no_fields (fields_in newest stamp Ts (drop (image_length format_one T) s))) later)

-- ---- and what it then tells

seen_nothing : (x : State) → saw_outcome 0 (saw_prepare 0 0 x) ≡ x
unfolding saw_prepare saw_outcome
seen_nothing x = refl

state_told : (fs : List RowFields) (rs : List Row) → Tells fs rs → (x : State) → saw_fields x fs ≡ saw_rows x rs
unfolding saw_fields saw_rows saw_row
state_told [] rs t x = rw t refl
state_told (f ∷ fs) rs (inl (e, t)) x = rw (e, seen_nothing x) (state_told fs rs t x)
state_told (f ∷ fs) rs (inr (r, later, e, c, t)) x = rw (e, c.prepare, c.retry, c.outcome) (state_told fs later t (saw_outcome f.outcome (saw_prepare f.prepare f.retry x)))

votes_told : (fs : List RowFields) (rs : List Row) → Tells fs rs → (prepare retry : ℕ) → 0 < prepare → count (has_codes prepare retry) fs ≡ count (holds_codes prepare retry) rs
unfolding count both
votes_told [] rs t prepare retry l = rw t refl
votes_told (f ∷ fs) rs (inl (e, t)) prepare retry l = let n : eqb 0 prepare ≡ false = ne_eqb 0 prepare (λ k. absurd (omega arith)) in let v = votes_told fs rs t prepare retry l in rw (e, n) (omega arith)
votes_told (f ∷ fs) rs (inr (r, later, e, c, t)) prepare retry l = rw (e, c.prepare, c.retry, votes_told fs later t prepare retry l) refl

not_tentative : (agreement prepare retry : ℕ) (fs : List RowFields) (rs : List Row) → is_tentative prepare ≡ false → enough_have agreement fs prepare retry ≡ is_enough agreement rs prepare retry
unfolding both
not_tentative agreement prepare retry fs rs d = rw d refl

enough_told : (fs : List RowFields) (rs : List Row) → Tells fs rs → (agreement prepare retry : ℕ) → enough_have agreement fs prepare retry ≡ is_enough agreement rs prepare retry
enough_told fs rs t agreement prepare retry = go (cases (is_tentative prepare))
  where
    go : (is_tentative prepare ≡ true) ⊎ (is_tentative prepare ≡ false) → enough_have agreement fs prepare retry ≡ is_enough agreement rs prepare retry
    go (inl e) = ap (λ (n : ℕ). both (is_tentative prepare) (leb agreement n)) (votes_told fs rs t prepare retry (ltb-true 0 prepare (both_left _ _ e)))
    go (inr e) = not_tentative agreement prepare retry fs rs e

agreed_told : (agreement : ℕ) (gs : List RowFields) (all : List Row) → Tells gs all → (fs : List RowFields) (rs : List Row) → Tells fs rs → agreed_among agreement gs fs ≡ agreed_as (agreed_of_these agreement all rs)
unfolding agreed_among
agreed_told agreement gs all g [] rs t = rw (t, agreed_none agreement all) refl
agreed_told agreement gs all g (f ∷ fs) rs (inl (e, t)) = rw (e, enough_told gs all g agreement 0 0, nothing_agreed agreement 0 all) (agreed_told agreement gs all g fs rs t)
agreed_told agreement gs all g (f ∷ fs) rs (inr (r, later, e, c, t)) =
    rw (e, enough_told gs all g agreement f.prepare f.retry, agreed_told agreement gs all g fs later t)
    (sym (row_agreed agreement all r f.prepare f.retry later c.prepare c.retry))

-- ---- what was gathered from a run

pub four_on : (rows : List RowFields) (k : ℕ) → k < 4 → fields_from rows k (4 - k) ≡ get_or rows k no_fields ∷ fields_from rows (k + 1) (4 - (k + 1))
unfolding fields_from
four_on rows k l = let e : 4 - k ≡ suc (4 - (k + 1)) = omega arith in rw e refl

pub four_over : (rows : List RowFields) (k : ℕ) → 4 ≤ k → fields_from rows k (4 - k) ≡ []
unfolding fields_from
four_over rows k l = let e : 4 - k ≡ 0 = omega arith in rw e refl

pub votes_on : (test : RowFields → Bool) (rows : List RowFields) (k : ℕ) → k < 4 → count test (fields_from rows k (4 - k)) ≡ bit (test (get_or rows k no_fields)) + count test (fields_from rows (k + 1) (4 - (k + 1)))
unfolding count
votes_on test rows k l = rw (four_on rows k l) refl

pub votes_over : (test : RowFields → Bool) (rows : List RowFields) (k : ℕ) → 4 ≤ k → count test (fields_from rows k (4 - k)) ≡ 0
unfolding count
votes_over test rows k l = rw (four_over rows k l) refl

pub four_state_on : (x : State) (rows : List RowFields) (k : ℕ) → k < 4 → saw_fields (saw_outcome (get_or rows k no_fields).outcome (saw_prepare (get_or rows k no_fields).prepare (get_or rows k no_fields).retry x)) (fields_from rows (k + 1) (4 - (k + 1))) ≡ saw_fields x (fields_from rows k (4 - k))
unfolding saw_fields
four_state_on x rows k l = rw (four_on rows k l) refl

pub four_state_over : (x : State) (rows : List RowFields) (k : ℕ) → 4 ≤ k → saw_fields x (fields_from rows k (4 - k)) ≡ x
unfolding saw_fields
four_state_over x rows k l = rw (four_over rows k l) refl

pub four_agreed_on : (agreement : ℕ) (all rows : List RowFields) (k : ℕ) → k < 4 → agreed_among agreement all (fields_from rows k (4 - k)) ≡ cond (enough_have agreement all (get_or rows k no_fields).prepare (get_or rows k no_fields).retry) (Some (record { code = (get_or rows k no_fields).prepare; retry = (get_or rows k no_fields).retry })) (agreed_among agreement all (fields_from rows (k + 1) (4 - (k + 1))))
unfolding agreed_among
four_agreed_on agreement all rows k l = rw (four_on rows k l) refl

pub four_agreed_over : (agreement : ℕ) (all rows : List RowFields) (k : ℕ) → 4 ≤ k → agreed_among agreement all (fields_from rows k (4 - k)) ≡ None
unfolding agreed_among
four_agreed_over agreement all rows k l = rw (four_over rows k l) refl

-- those that pass are counted
pub count_filtered : {A : Type 0} (test : A → Bool) (xs : List A) → length (filter test xs) ≡ count test xs
unfolding count
count_filtered test [] = refl
count_filtered test (x ∷ xs) = go (test x) (count_filtered test xs)
  where
    go : (b : Bool) → length (filter test xs) ≡ count test xs → length (cond b (x ∷ filter test xs) (filter test xs)) ≡ bit b + count test xs
    go true e = omega arith
    go false e = omega arith

-- the four places are all there are
pub four_are : (rows : List RowFields) → length rows ≡ 4 → fields_from rows 0 4 ≡ rows
unfolding fields_from
four_are [] e = absurd (omega arith)
four_are (a ∷ []) e = absurd (omega arith)
four_are (a ∷ b ∷ []) e = absurd (omega arith)
four_are (a ∷ b ∷ c ∷ []) e = absurd (omega arith)
four_are (a ∷ b ∷ c ∷ d ∷ []) e = refl
four_are (a ∷ b ∷ c ∷ d ∷ x ∷ xs) e = absurd (omega arith)

nothing_left_of : (rows : List RowFields) (k : ℕ) → length rows ≤ k → drop k rows ≡ []
nothing_left_of [] zero l = refl
nothing_left_of [] (suc k) l = refl
nothing_left_of (x ∷ xs) zero l = absurd (omega arith)
nothing_left_of (x ∷ xs) (suc k) l = nothing_left_of xs k (omega arith)

-- ---- the rows from one on, as they are walked over

module _ (rows : List RowFields) (k : ℕ) (l : k < length rows) where
  abbrev pub row : RowFields
  row = get_or rows k no_fields

  rows_on : drop k rows ≡ row ∷ drop (k + 1) rows
  rows_on = drop-cons rows k no_fields l ∙ rw add-one refl

  pub state_on : (x : State) → saw_fields x (drop k rows) ≡ saw_fields (saw_outcome row.outcome (saw_prepare row.prepare row.retry x)) (drop (k + 1) rows)
  unfolding saw_fields
  state_on x = ap (saw_fields x) rows_on

  pub agreed_on : (agreement : ℕ) (all : List RowFields) → agreed_among agreement all (drop k rows) ≡ cond (enough_have agreement all row.prepare row.retry) (Some (record { code = row.prepare; retry = row.retry })) (agreed_among agreement all (drop (k + 1) rows))
  unfolding agreed_among
  agreed_on agreement all = ap (agreed_among agreement all) rows_on

module _ (rows : List RowFields) (k : ℕ) (over : length rows ≤ k) where
  pub state_over : (x : State) → saw_fields x (drop k rows) ≡ x
  unfolding saw_fields
  state_over x = ap (saw_fields x) (nothing_left_of rows k over)

  pub agreed_over : (agreement : ℕ) (all : List RowFields) → agreed_among agreement all (drop k rows) ≡ None
  unfolding agreed_among
  agreed_over agreement all = ap (agreed_among agreement all) (nothing_left_of rows k over)

four_padded : (fs : List RowFields) → fields_from (padded 4 no_fields fs) 0 4 ≡ padded 4 no_fields fs
unfolding padded fields_from
four_padded [] = refl
four_padded (a ∷ []) = refl
four_padded (a ∷ b ∷ []) = refl
four_padded (a ∷ b ∷ c ∷ []) = refl
four_padded (a ∷ b ∷ c ∷ d ∷ fs) = refl

module _ (run : List ℕ) (bytes : AllBytes run) (are : Images valley run) (few : length (tables_of valley run) ≤ 4) (g : Gathered) (from : GatheredFrom run g) where
  rows_told : Tells (fields_from g.rows 0 4) (rows_in run g)
  rows_told =
      let newest = g.cursors.newest in
      let stamp = g.cursors.last in
      let e : g.rows ≡ padded 4 no_fields (fields_in newest stamp (tables_of valley run) run) = ap (λ (x : Gathered). x.rows) from in
      rw (e, four_padded (fields_in newest stamp (tables_of valley run) run)) (all_told newest stamp 4 (tables_of valley run) run bytes are few)

  pub state_gathered : saw_fields none_seen (fields_from g.rows 0 4) ≡ state_of (rows_in run g)
  state_gathered = state_told (fields_from g.rows 0 4) (rows_in run g) rows_told none_seen ∙ state_seen (rows_in run g)

  pub agreed_gathered : (agreement : ℕ) → agreed_among agreement (fields_from g.rows 0 4) (fields_from g.rows 0 4) ≡ agreed_as (agreed_of agreement (rows_in run g))
  agreed_gathered agreement = agreed_told agreement (fields_from g.rows 0 4) (rows_in run g) rows_told (fields_from g.rows 0 4) (rows_in run g) rows_told ∙ ap agreed_as (sym (agreed_all agreement (rows_in run g)))

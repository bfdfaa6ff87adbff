-- The merge call: its numbers, each exactly in its circumstances, and what it leaves in the output buffer.
use mathlib.Core.Path.{◌≡◌, refl, sym, ap, ◌∙◌}
use mathlib.Core.Bool.{Bool, true, false, cond}
use mathlib.Core.Logic.{◌⊎◌, inl, inr}
use mathlib.Core.List.Memᴰ
use mathlib.Core.List.{List, [], ◌∷◌, ◌++◌}
use mathlib.Core.Option.{Option, none, some}
use Prim.Native.Nat.{ℕ, ◌+◌, ◌*◌, ◌≤◌}
use native.Mathlib.Omega.{arith}
use lib.Dec.{eqb, ltb}
use lib.ListN.{length, drop}
use borrow.Author.Tests.{eqb-false, ne_eqb, ltb-false}
use Rattle.wire.specs.Parts.{replaced}
use Rattle.wire.proofs.Parts.{replaced_start, length-replaced, above_stays}
use Rattle.rules.specs.Tests.{both, either, any}
use Rattle.rules.specs.Tables.{Row, Model, Table, valley, table_by_rule}
use Rattle.rules.specs.Numbers.{Number, Number.small_buffer, Number.other_body, Number.contradiction, Number.full, Number.wrong_tables, number_code, Circumstance, applies, first, number}
use Rattle.rules.specs.Circumstances.{too_small, starts_view}
use Rattle.rules.specs.Check.{check}
use Rattle.rules.specs.Merge.{used, stamps, rows_of, two_bodies, contradictory, group_of, are_wrong, merged_table, merge_circumstances, merge_number, merge}
use Rattle.rules.proofs.Logic.{cases, same?, either_none}
use Rattle.rules.proofs.Lists.{◌∈◌}
use Rattle.rules.proofs.Check.{check_by_rule}
use Rattle.rules.proofs.Tables.{table_facts}
use Rattle.rules.proofs.NumberExactly.{Wins, number_exactly, zero_exactly, small_first, table_first}
use Rattle.rules.proofs.Merge.{merge_by_rule}
use Rattle.rules.proofs.Reordered.{Reordered, reordered_in, reordered_back}
use Rattle.rules.proofs.Orders as orders
use Rattle.table.specs.Images.{format_one, image_length, image}
use Rattle.table.specs.Parse.{parse}
use Rattle.table.proofs.Images.{Sound, valley_sound, length_image, image_at_most, image_parses}
use Rattle.image_run.specs.Inner.WholeRuns.{laid_out}
use Rattle.image_run.specs.Runs.{or_none, run_tables}
use Rattle.image_run.proofs.RunTurns.{run_laid, laid_run}
use Rattle.merge.specs.Calls.{read_circumstances, call_circumstances, call_number, call_output}

-- ---- the number, computed

-- what a merge is answered with where its output buffer is large enough: 2 if "the run isn't one or more whole images", else by its tables
abbrev pub number_of : Model → ℕ → Option (List Table) → ℕ
number_of M v none = 2
number_of M v (some Ts) = merge_number M v Ts

number_of_lem : (M : Model) (v : ℕ) (o : Option (List Table)) → number (read_circumstances M v o) ≡ number_of M v o
unfolding merge_number number first applies both either
number_of_lem M v none = refl
number_of_lem M v (some Ts) = refl

in_turn : (wrong bodies against more : Bool) → number ((wrong_tables, wrong) ∷ (other_body, bodies) ∷ (contradiction, against) ∷ (full, more) ∷ []) ≡ cond wrong 11 (cond bodies 5 (cond against 6 (cond more 7 0)))
unfolding number first applies both either
in_turn wrong bodies against more = rw (either_none wrong, either_none bodies, either_none against, either_none more)

-- some stamp of the used tables whose rows meet a test: "Numbers 5, 6 and 7 look at these tables only"
abbrev pub somewhere : (List Row → Bool) → List Table → Bool
somewhere test Ts = any (λ s. test (rows_of (used Ts) s)) (stamps (used Ts))

-- 11, "wrong tables", then "5 for one stamp with two bodies, 6 for two unequal finals or opposite outcomes", then 7 for "a merge of more than 512 stamps"
pub tables_number : (M : Model) (v : ℕ) (Ts : List Table) →
    merge_number M v Ts ≡ cond (are_wrong v Ts) 11 (cond (somewhere two_bodies Ts) 5 (cond (somewhere contradictory Ts) 6 (cond (ltb M.row_limit (length (stamps (used Ts)))) 7 0)))
unfolding merge_number merge_circumstances
tables_number M v Ts = in_turn (are_wrong v Ts) (somewhere two_bodies Ts) (somewhere contradictory Ts) (ltb M.row_limit (length (stamps (used Ts))))

-- ---- the output, computed

-- the merge of what was read
abbrev pub merge_of : Model → ℕ → Option (List Table) → Option Table
merge_of M v none = none
merge_of M v (some Ts) = merge M check v Ts

-- an output buffer after a merge of this table, or of none
abbrev pub written : List ℕ → Option Table → List ℕ
written out none = out
written out (some U) = replaced out 0 (image format_one U)

module _ (M : Model) (run : List ℕ) (v : ℕ) (out : List ℕ) where
  -- ---- each number exactly in its circumstances

  -- a number of the list is given exactly if it applies and none before it in the order does: "The first that applies wins"
  pub merge_exactly : (k : Number) → (call_number M run v out ≡ number_code k → Wins (call_circumstances M run v out) k) × (Wins (call_circumstances M run v out) k → call_number M run v out ≡ number_code k)
  unfolding call_number
  merge_exactly k = number_exactly (call_circumstances M run v out) k

  -- 0 exactly if "none below applies"
  pub merge_done_exactly : (call_number M run v out ≡ 0 → (k : Number) → applies (call_circumstances M run v out) k ≡ false) × (((k : Number) → applies (call_circumstances M run v out) k ≡ false) → call_number M run v out ≡ 0)
  unfolding call_number
  merge_done_exactly = zero_exactly (call_circumstances M run v out)

  -- the same number, computed: 1, then 2 for a run that is none, then by its tables
  pub merge_number_lem : call_number M run v out ≡ cond (too_small M (length out)) 1 (number_of M v (run_tables M run))
  unfolding call_number
  merge_number_lem =
      small_first (too_small M (length out)) (read_circumstances M v (run_tables M run))
      ∙ ap (cond (too_small M (length out)) 1) (number_of_lem M v (run_tables M run))

  -- rows that call_circumstances leaves out: more may be said of images before the one that breaks the run, but 2 comes before it
  pub bad_run_wins : run_tables M run ≡ none → (others : List Circumstance) → applies others small_buffer ≡ false → number (call_circumstances M run v out ++ others) ≡ call_number M run v out
  bad_run_wins a others n = rw (merge_number_lem, a) (table_first _ others n)

  -- any number but 1: the output buffer is large enough, and it is the one of what the run holds
  pub not_small : (call_number M run v out ≡ 1 → ⊥) → (M.least_buffer ≤ length out) × (call_number M run v out ≡ number_of M v (run_tables M run))
  unfolding too_small
  not_small h = go (cases (too_small M (length out)))
    where
      go : (too_small M (length out) ≡ true) ⊎ (too_small M (length out) ≡ false) → (M.least_buffer ≤ length out) × (call_number M run v out ≡ number_of M v (run_tables M run))
      go (inl b) = absurd (h (rw (merge_number_lem, b)))
      go (inr b) = (ltb-false _ _ b, rw (merge_number_lem, b))

  -- ---- the output

  -- "Refusals keep the table or merge output"
  pub merge_refused : (call_number M run v out ≡ 0 → ⊥) → call_output M run v out ≡ out
  unfolding call_output
  merge_refused h = rw (ne_eqb (call_number M run v out) 0 h)

  -- the whole output buffer, by `rules`' merge of the tables of the run
  pub merge_output : call_output M run v out ≡ cond (too_small M (length out)) out (written out (merge_of M v (run_tables M run)))
  unfolding call_output merge
  merge_output = rw merge_number_lem (go (too_small M (length out)) (run_tables M run))
    where
      by : (b : Bool) (U : Table) → cond b (replaced out 0 (image format_one U)) out ≡ written out (cond b (some U) none)
      by true U = refl
      by false U = refl

      go : (b : Bool) (o : Option (List Table)) → cond (eqb (cond b 1 (number_of M v o)) 0) (replaced out 0 (image format_one (merged_table check v (or_none o)))) out ≡ cond b out (written out (merge_of M v o))
      go true o = refl
      go false none = refl
      go false (some Ts) = by (eqb (merge_number M v Ts) 0) (merged_table check v Ts)

  -- ---- a merge that is done

  pub record MergeDone : Type 0 where
    -- the run was read, and `rules` merges its tables
    pub tables : List Table
    pub merged : Table
    pub read : run_tables M run ≡ some tables
    pub made : merge M check v tables ≡ some merged
    -- the output is the image of that merge; "Output bytes past the image stay."
    pub holds : call_output M run v out ≡ image format_one merged ++ drop (image_length format_one merged) out
    pub fits : image_length format_one merged ≤ length out
    pub kept : length (call_output M run v out) ≡ length out
    -- it is read back as that table, which is by the rules, of the group of the tables, and starts view v: "The image is normal, view v, box v mod n, start rows equal to rows."
    pub after : parse format_one M (call_output M run v out) ≡ some merged
    pub by_rule : table_by_rule M merged ≡ true
    pub group : merged.n ≡ group_of tables
    pub starts : starts_view (group_of tables) v merged ≡ true

  done_read : call_number M run v out ≡ 0 → (M.least_buffer ≤ length out) × (Ts : List Table) × (run_tables M run ≡ some Ts) × (merge_number M v Ts ≡ 0)
  done_read e =
      let (l, is) = not_small (λ d. let z : ◌≡◌ {A = ℕ} 0 1 = sym e ∙ d in absurd (omega arith)) in
      let (Ts, a, d) = go (run_tables M run) refl (sym is ∙ e) in
      (l, Ts, a, d)
    where
      go : (o : Option (List Table)) → run_tables M run ≡ o → number_of M v o ≡ 0 → (Ts : List Table) × (run_tables M run ≡ some Ts) × (merge_number M v Ts ≡ 0)
      go none a d = absurd (omega arith)
      go (some Ts) a d = (Ts, a, d)

  done_written : (Ts : List Table) → call_number M run v out ≡ 0 → run_tables M run ≡ some Ts → call_output M run v out ≡ replaced out 0 (image format_one (merged_table check v Ts))
  unfolding call_output
  done_written Ts e a = rw (e, a)

  done_made : (Ts : List Table) → merge_number M v Ts ≡ 0 → merge M check v Ts ≡ some (merged_table check v Ts)
  unfolding merge
  done_made Ts d = rw d

  -- where the buffer has room for any table by the rules
  pub merge_done : Sound format_one M → 24 + 96 * M.row_limit ≤ M.least_buffer → call_number M run v out ≡ 0 → MergeDone
  merge_done sound room e =
      let (l, Ts, a, d) = done_read e in
      let m = done_made Ts d in
      let rules = (run_laid M run Ts a).1 in
      let (r, g, s) = merge_by_rule M check check_by_rule v Ts (λ T i. (table_facts M T (rules T i)).0) (merged_table check v Ts) m in
      let n = length_image format_one (merged_table check v Ts) sound.starts in
      let x = image_at_most format_one M (merged_table check v Ts) sound r in
      let w = done_written Ts e a in
      record {
        tables = Ts;
        merged = merged_table check v Ts;
        read = a;
        made = m;
        holds = w ∙ replaced_start out (image format_one (merged_table check v Ts)) ∙ ap (λ k. image format_one (merged_table check v Ts) ++ drop k out) n;
        fits = omega arith;
        kept = ap length w ∙ length-replaced out 0 (image format_one (merged_table check v Ts)) (omega arith);
        after = ap (parse format_one M) (w ∙ replaced_start out (image format_one (merged_table check v Ts))) ∙ image_parses format_one M (merged_table check v Ts) sound r _;
        by_rule = r;
        group = g;
        starts = s;
      }

  -- "Output bytes past the image stay."
  pub merge_past : Sound format_one M → (w : MergeDone) (at : ℕ) → image_length format_one w.merged ≤ at → drop at (call_output M run v out) ≡ drop at out
  merge_past sound w at l =
      let n = length_image format_one w.merged sound.starts in
      let f = w.fits in
      ap (drop at) (w.holds ∙ ap (λ k. image format_one w.merged ++ drop k out) (sym n) ∙ sym (replaced_start out (image format_one w.merged)))
      ∙ above_stays out 0 (image format_one w.merged) at (omega arith) (omega arith)

  -- the output buffer is as long as before, done or refused
  pub merge_length : Sound format_one M → 24 + 96 * M.row_limit ≤ M.least_buffer → length (call_output M run v out) ≡ length out
  merge_length sound room = go (same? (call_number M run v out) 0)
    where
      go : (call_number M run v out ≡ 0) ⊎ (eqb (call_number M run v out) 0 ≡ false) → length (call_output M run v out) ≡ length out
      go (inl e) = (merge_done sound room e).kept
      go (inr e) = ap length (merge_refused (eqb-false (call_number M run v out) 0 e))

  -- ---- two outcomes that the promise allows for one input are equal

  pub merge_determined : {k j : ℕ} {after later : List ℕ} →
      k ≡ call_number M run v out → after ≡ call_output M run v out →
      j ≡ call_number M run v out → later ≡ call_output M run v out →
      (k ≡ j) × (after ≡ later)
  merge_determined a b c d = (a ∙ sym c, b ∙ sym d)

-- a box of 512 rows and 49,176 bytes has that room
pub valley_done : (run : List ℕ) (v : ℕ) (out : List ℕ) → call_number valley run v out ≡ 0 → MergeDone valley run v out
valley_done run v out e = merge_done valley run v out valley_sound (omega arith) e

-- ---- the order of the images does not matter

-- runs of the same tables in any order: the number and the whole output buffer
pub merge_any_order : (M : Model) (r s : List ℕ) (v : ℕ) (out : List ℕ) {Ts Us : List Table} → run_tables M r ≡ some Ts → run_tables M s ≡ some Us → Reordered Ts Us → (call_number M r v out ≡ call_number M s v out) × (call_output M r v out ≡ call_output M s v out)
merge_any_order M r s v out {Ts} {Us} a b p = (
  rw (merge_number_lem M r v out, merge_number_lem M s v out, a, b, orders.merge_number_any_order M v p),
  rw (merge_output M r v out, merge_output M s v out, a, b, orders.merge_any_order M check v p),
)

-- "laid end to end in one lent buffer", in any order
pub merge_any_laid : (M : Model) → Sound format_one M → (v : ℕ) (out : List ℕ) (Ts Us : List Table) → ((T : Table) → T ∈ Ts → table_by_rule M T ≡ true) → Reordered Ts Us → (call_number M (laid_out Ts) v out ≡ call_number M (laid_out Us) v out) × (call_output M (laid_out Ts) v out ≡ call_output M (laid_out Us) v out)
merge_any_laid M sound v out [] [] h p = (refl, refl)
merge_any_laid M sound v out [] (U ∷ Us) h p = absurd (Memᴰ.not-nil (reordered_in (reordered_back p) (Memᴰ.head refl)))
merge_any_laid M sound v out (T ∷ Ts) [] h p = absurd (Memᴰ.not-nil (reordered_in p (Memᴰ.head refl)))
merge_any_laid M sound v out (T ∷ Ts) (U ∷ Us) h p =
    merge_any_order M (laid_out (T ∷ Ts)) (laid_out (U ∷ Us)) v out (laid_run M sound (T ∷ Ts) (omega arith) h)
    (laid_run M sound (U ∷ Us) (omega arith) (λ W m. h W (reordered_in (reordered_back p) m))) p

-- ---- "only those of the greatest last normal view are used. Numbers 5, 6 and 7 look at these tables only"

-- tables that are not wrong, or as wrong as others: the number is from the used ones
pub number_from_used : (M : Model) (v : ℕ) (Ts Us : List Table) → are_wrong v Ts ≡ are_wrong v Us → used Ts ≡ used Us → merge_number M v Ts ≡ merge_number M v Us
unfolding merge_circumstances merge_number
number_from_used M v Ts Us w u = rw (w, u)

-- and so is the merge, with the group
pub table_from_used : (v : ℕ) (Ts Us : List Table) → group_of Ts ≡ group_of Us → used Ts ≡ used Us → merged_table check v Ts ≡ merged_table check v Us
unfolding merged_table
table_from_used v Ts Us g u = rw (g, u)

-- the call
pub merge_from_used : (M : Model) (r s : List ℕ) (v : ℕ) (out : List ℕ) {Ts Us : List Table} → run_tables M r ≡ some Ts → run_tables M s ≡ some Us → are_wrong v Ts ≡ are_wrong v Us → group_of Ts ≡ group_of Us → used Ts ≡ used Us → (call_number M r v out ≡ call_number M s v out) × (call_output M r v out ≡ call_output M s v out)
unfolding merge
merge_from_used M r s v out {Ts} {Us} a b w g u = (
  rw (merge_number_lem M r v out, merge_number_lem M s v out, a, b, number_from_used M v Ts Us w u),
  rw (merge_output M r v out, merge_output M s v out, a, b, number_from_used M v Ts Us w u, table_from_used v Ts Us g u),
)

-- The merge call, test by test: what is known after each, and the two promises where it ends.
use mathlib.Core.Path.{◌≡◌, refl, sym, ap, ◌∙◌}
use mathlib.Core.Bool.{Bool, true, false, cond}
use mathlib.Core.Logic.{◌⊎◌, inl, inr}
use mathlib.Core.List.{List}
use mathlib.Core.Option.{some}
use Prim.Native.Nat.{ℕ, ◌≤◌, ◌<◌}
use native.Mathlib.Omega.{arith}
use lib.Dec.{ltb}
use lib.ListN.{length}
use borrow.Author.Tests.{lt-ltb, le-ltb, ltb-false}
use Rattle.wire.specs.Parts.{replaced}
use Rattle.rules.specs.Tests.{greatest, is_some}
use Rattle.rules.specs.Tables.{Model, Table, valley}
use Rattle.rules.specs.Circumstances.{too_small}
use Rattle.rules.specs.Check.{check}
use Rattle.rules.specs.Merge.{used, stamps, are_wrong, merge_number, merged_table}
use Rattle.rules.proofs.Logic.{cases}
use Rattle.numbers.specs.declared.Refusal.{Refusal}
use Rattle.numbers.specs.declared.Refusal.TheVariants.{SmallBuffer, BadTable, BadMessage, Changing, OtherBody, Contradiction, Full, Unknown, OtherView, OldView, WrongTables}
use Rattle.numbers.specs.Refusals.{refusal_code}
use Rattle.table.specs.declared.model.Model as declared
use Rattle.table.specs.Inner.Models.{model_of}
use Rattle.table.specs.Images.{format_one, image}
use Rattle.image_run.specs.Inner.WholeRuns.{tables_of, Images}
use Rattle.image_run.specs.Runs.{run_tables}
use Rattle.image_run.proofs.RunTurns.{run_told, not_run}
use Rattle.image_run.proofs.Wrongs.{right_few}
use Rattle.gather.specs.Inner.UsedTables.{used_of}
use Rattle.decide.specs.declared.survey.Survey.{Survey}
use Rattle.decide.specs.Inner.Surveyed.{surveyed, survey_number}
use Rattle.merge.specs.Calls.{call_number, call_output}
use Rattle.merge.proofs.MergeCall.{merge_number_lem, merge_refused, tables_number}

-- the tables of the greatest view are those that are used
pub used_is : (newest : ℕ) (Ts : List Table) → newest ≡ greatest (λ U. U.view) Ts → used_of newest Ts ≡ used Ts
unfolding used
used_is newest Ts e = rw e refl

-- 0 is the number of no refusal
some_number : (r : Refusal) → 0 < refusal_code r
some_number SmallBuffer = omega arith
some_number BadTable = omega arith
some_number BadMessage = omega arith
some_number Changing = omega arith
some_number OtherBody = omega arith
some_number Contradiction = omega arith
some_number Full = omega arith
some_number Unknown = omega arith
some_number OtherView = omega arith
some_number OldView = omega arith
some_number WrongTables = omega arith

-- of the model of a call it is known that it is the valley's
module _ (m : declared.Model) (valley-is : model_of m ≡ valley) (run out : List ℕ) (v : ℕ) where
  abbrev pub Kept : ℕ → List ℕ → Type 0
  Kept k after = (k ≡ call_number valley run v out) × (after ≡ call_output valley run v out)

  refused : (k : ℕ) → 0 < k → call_number valley run v out ≡ k → Kept k out
  refused k d e = (sym e, sym (merge_refused valley run v out (λ z. let n : k ≡ 0 = sym e ∙ z in absurd (omega arith))))

  least : m.least ≡ 49176
  least = ap (λ (M : Model). M.least_buffer) valley-is

  limit : m.limit ≡ 512
  limit = ap (λ (M : Model). M.row_limit) valley-is

  pub kept_small : length out < m.least → Kept 1 out
  unfolding too_small
  kept_small l = refused 1 (omega arith) (merge_number_lem valley run v out ∙ rw (lt-ltb (length out) 49176 (rw least at l)) refl)

  module _ (long : m.least ≤ length out) where
    pub enough : 49176 ≤ length out
    enough = rw least at long

    not_small : too_small valley (length out) ≡ false
    unfolding too_small
    not_small = le-ltb (length out) 49176 enough

    pub kept_bad : false ≡ is_some (run_tables (model_of m) run) → Kept 2 out
    kept_bad h = refused 2 (omega arith) (merge_number_lem valley run v out ∙ rw (not_small, not_run valley run (rw valley-is at (sym h))) refl)

    module _ (whole : true ≡ is_some (run_tables (model_of m) run)) where
      run_is : Images valley run × (run_tables valley run ≡ some (tables_of valley run)) × (0 < length run)
      run_is = run_told valley run (rw valley-is at (sym whole))

      pub run_ready : Images valley run × (0 < length run)
      run_ready = (run_is.0, run_is.2)

      by_tables : call_number valley run v out ≡ merge_number valley v (tables_of valley run)
      by_tables = merge_number_lem valley run v out ∙ rw (not_small, run_is.1) refl

      pub kept_wrong : true ≡ are_wrong v (tables_of valley run) → Kept 11 out
      kept_wrong w = refused 11 (omega arith) (by_tables ∙ tables_number valley v (tables_of valley run) ∙ rw (← w) refl)

      module _ (right : false ≡ are_wrong v (tables_of valley run)) where
        pub tables_ready : Images valley run × (0 < length run) × (length (tables_of valley run) ≤ 4)
        tables_ready = (run_is.0, run_is.2, right_few run run_is.2 run_is.0 v (sym right))

        module _ (newest : ℕ) (greatest-view : newest ≡ greatest (λ U. U.view) (tables_of valley run)) (seen : Survey) (told : seen ≡ surveyed (used_of newest (tables_of valley run)) (stamps (used_of newest (tables_of valley run)))) where
          seen_used : seen ≡ surveyed (used (tables_of valley run)) (stamps (used (tables_of valley run)))
          seen_used = rw (used_is newest (tables_of valley run) greatest-view) at told

          by_survey : call_number valley run v out ≡ survey_number m.limit seen
          unfolding surveyed
          by_survey = by_tables ∙ tables_number valley v (tables_of valley run) ∙ rw (← right, limit) (sym (ap (survey_number 512) seen_used))

          pub refusal_kept : (r : Refusal) → refusal_code r ≡ survey_number m.limit seen → Kept (refusal_code r) out
          refusal_kept r e = refused (refusal_code r) (some_number r) (by_survey ∙ sym e)

          -- where nothing refuses the merge
          module _ (allowed : 0 ≡ survey_number m.limit seen) where
            few : (b c : Bool) (n : ℕ) → ◌≡◌ {A = ℕ} 0 (cond b 5 (cond c 6 (cond (ltb 512 n) 7 0))) → n ≤ 512
            few true c n e = absurd (omega arith)
            few false true n e = absurd (omega arith)
            few false false n e = go (cases (ltb 512 n))
              where
                go : (ltb 512 n ≡ true) ⊎ (ltb 512 n ≡ false) → n ≤ 512
                go (inl t) = let f : ◌≡◌ {A = ℕ} 0 7 = rw t at e in absurd (omega arith)
                go (inr t) = ltb-false 512 n t

            -- what has to be written
            pub rows_ready : (used_of newest (tables_of valley run) ≡ used (tables_of valley run)) × (seen.stamps ≡ length (stamps (used (tables_of valley run)))) × (seen.stamps ≤ 512)
            unfolding surveyed
            rows_ready = (used_is newest (tables_of valley run) greatest-view, ap (λ (x : Survey). x.stamps) seen_used, few seen.bodies seen.contradiction seen.stamps (rw limit at allowed))

            pub kept_done : (after : List ℕ) → after ≡ replaced out 0 (image format_one (merged_table check v (tables_of valley run))) → Kept 0 after
            unfolding call_output
            kept_done after e = let done = sym (by_survey ∙ sym allowed) in (done, e ∙ rw (← done, run_is.1) refl)

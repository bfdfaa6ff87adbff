-- A call of `merge` on images that boxes had is one merge in the group that the bytes say.
use mathlib.Core.Path.{◌≡◌, refl, sym, ap, ◌∙◌}
use mathlib.Core.Bool.{true, false, cond}
use mathlib.Core.Logic.{◌⊎◌, inl, inr}
use mathlib.Core.List.Memᴰ
use mathlib.Core.List.{List, [], ◌∷◌, ◌++◌, map}
use mathlib.Core.Option.{Option, none, some}
use Prim.Native.Nat.{ℕ, ◌+◌, ◌*◌, ◌≤◌}
use lib.Dec.{eqb}
use lib.ListN.{length}
use Rattle.rules.specs.Tests.{all_of}
use Rattle.rules.specs.Tables.{Table, Model, table_by_rule}
use Rattle.rules.specs.Check.{check}
use Rattle.rules.specs.Merge as rules
use Rattle.rules.proofs.Logic.{same?}
use Rattle.table.specs.Images.{format_one}
use Rattle.table.specs.Parse.{table_at, parse, BeginsWithImage}
use Rattle.table.proofs.Images.{Sound, parse_reads, parse_by_rule}
use Rattle.image_run.specs.Runs.{images}
use Rattle.image_run.proofs.RunTurns.{images_laid}
use Rattle.merge.specs.Calls as merge
use Rattle.merge.proofs.MergeCall.{merge_done}
use Rattle.history.specs.Survival.{◌∈◌, Event, at}
use Rattle.history.proofs.Follow.Follows.{and_last}
use Rattle.history_cases.specs.Today as today
use Rattle.history_cases.specs.Today.{step}
use Rattle.group.specs.Acts.{Merged, GroupInBuffers, Act.merges, merging, merging_by, act}
use Rattle.group.specs.Rules.{OfBoxes}
use Rattle.group.specs.Inner.HeldGroups.{Leaves}
use Rattle.group.proofs.Reading.{merged_as, reading}
use Rattle.group.proofs.Listed.{map_last, places_of, each_mapped}
use Rattle.group.proofs.ImagesIn.{begins_with, images_in}
use Rattle.group.proofs.MergeLaid.{merge_laid}
use Rattle.group.proofs.Good.{Good}

module _ (M : Model) (sound : Sound format_one M) (room : 24 + 96 * M.row_limit ≤ M.least_buffer) (B : GroupInBuffers) (good : Good M B) where
  -- its output buffer begins with an image
  pub merges_good : (v : ℕ) (run out : List ℕ) → Good M (act M B (merges v run out))
  merges_good v run out = go (same? (merge.call_number M run v out) 0)
    where
      go : (merge.call_number M run v out ≡ 0) ⊎ (eqb (merge.call_number M run v out) 0 ≡ false) → Good M (merging_by M B v run out)
      go (inl e) =
          let w = merge_done M run v out sound room e in
          rw e record {
            group = good.group;
            buffers = good.buffers;
            had = good.had;
            replies = good.replies;
            outputs = and_last (λ m. BeginsWithImage M m.output) B.merged _ good.outputs (begins_with M _ w.merged w.after);
          }
      go (inr e) = rw e good

  module _ (v : ℕ) (run out : List ℕ) (of : OfBoxes M B run) (large : M.least_buffer ≤ length out) where
    abbrev pub tables : List Table
    tables = map (table_at format_one) of.0

    by_rules : (T : Table) → T ∈ tables → table_by_rule M T ≡ true
    by_rules = each_mapped (λ T. table_by_rule M T ≡ true) (table_at format_one) of.0 (λ s i. parse_by_rule format_one M s (table_at format_one s) (good.had s (of.2 s i)))

    pub run_is : images M run ≡ some tables
    run_is = ap (images M) (of.1 ∙ images_in M of.0 sound (λ s i. good.had s (of.2 s i))) ∙ images_laid M sound tables by_rules

    -- what is made of a merge of `rules`, or of none
    merged_as_lem : (ks : List ℕ) → all_of (at (reading M B).had) ks ≡ tables → (o : Option Table) → rules.merge M check v tables ≡ o → step M (reading M B) (Event.merges v ks) ≡ today.merging_as M (reading M B) v o
    merged_as_lem ks is o e = ap (λ Ts. today.merging_as M (reading M B) v (rules.merge M check v Ts)) is ∙ ap (today.merging_as M (reading M B) v) e

    abbrev merged_now : Merged
    merged_now = record { view = v; output = merge.call_output M run v out; sent_by_then = B.sent }

    -- at whatever places the tables stand among those that boxes have had
    pub merges_read : (ks : List ℕ) → all_of (at (reading M B).had) ks ≡ tables → reading M (act M B (merges v run out)) ≡ step M (reading M B) (Event.merges v ks)
    merges_read ks is = go (rules.merge M check v tables) refl (merge_laid M run v out sound room tables run_is large)
      where
        done : (U : Table) → parse format_one M merged_now.output ≡ some U → reading M (merging B merged_now) ≡ today.merging_as M (reading M B) v (some U)
        done U p = λ i. record {
          n = B.n;
          table = (reading M B).table;
          had = (reading M B).had;
          sent = (reading M B).sent;
          answers = (reading M B).answers;
          declared = B.declared;
          merged = (map_last (merged_as M B.n) B.merged merged_now ∙ ap (λ T. map (merged_as M B.n) B.merged ++ (record { view = v; table = T; sent_by_then = (reading M B).sent } ∷ [])) (parse_reads format_one M merged_now.output U p).0) i;
        }

        go : (o : Option Table) → rules.merge M check v tables ≡ o → Leaves M out (merge.call_number M run v out) (merge.call_output M run v out) o → reading M (merging_by M B v run out) ≡ step M (reading M B) (Event.merges v ks)
        go none e (n, stays) = ap (λ b. reading M (cond b (merging B merged_now) B)) n ∙ sym (merged_as_lem ks is none e)
        go (some U) e (n, wrote, p) = ap (λ k. reading M (cond (eqb k 0) (merging B merged_now) B)) n ∙ done U p ∙ sym (merged_as_lem ks is (some U) e)

    -- they stand at some
    pub places : (ks : List ℕ) × (all_of (at (reading M B).had) ks ≡ tables)
    places = places_of (map (table_at format_one) B.had) tables (each_mapped (λ T. T ∈ map (table_at format_one) B.had) (table_at format_one) of.0 (λ s i. Memᴰ.map (table_at format_one) (of.2 s i)))

-- One call of `merge` on images laid end to end is the merge of `rules` of their tables: number and output, done or refused.
use mathlib.Core.Path.{◌≡◌, sym, ◌∙◌}
use mathlib.Core.Bool.{false}
use mathlib.Core.Logic.{◌⊎◌, inl, inr}
use mathlib.Core.List.{List, [], ◌∷◌}
use mathlib.Core.Option.{none, some}
use Prim.Native.Nat.{ℕ, ◌+◌, ◌*◌, ◌≤◌}
use lib.Dec.{eqb}
use lib.ListN.{length}
use borrow.Author.Tests.{eqb-false, le-ltb}
use Rattle.wire.specs.Parts.{replaced}
use Rattle.rules.specs.Tests.{either}
use Rattle.rules.specs.Tables.{Table, Model}
use Rattle.rules.specs.Circumstances.{too_small}
use Rattle.rules.specs.Check.{check}
use Rattle.rules.specs.Merge as rules
use Rattle.rules.proofs.Logic.{same?}
use Rattle.table.specs.Images.{format_one, image}
use Rattle.table.proofs.Images.{Sound}
use Rattle.image_run.specs.Runs.{one_or_more, images, run_tables}
use Rattle.image_run.proofs.RunTurns.{run_read}
use Rattle.merge.specs.Calls.{call_number, call_output}
use Rattle.merge.proofs.MergeCall.{MergeDone, merge_done, merge_refused, merge_number_lem, merge_output, number_of, tables_number}
use Rattle.group.specs.Inner.HeldGroups.{Leaves}

module _ (M : Model) (run : List ℕ) (v : ℕ) (out : List ℕ) where
  module _ (sound : Sound format_one M) (room : 24 + 96 * M.row_limit ≤ M.least_buffer) (Ts : List Table) (are : images M run ≡ some Ts) (large : M.least_buffer ≤ length out) where
    pub is_number : call_number M run v out ≡ number_of M v (one_or_more (some Ts))
    unfolding run_tables too_small
    is_number = rw (merge_number_lem M run v out, le-ltb (length out) M.least_buffer large, are)

    -- no tables are no run, and the wrong tables too
    none_merged : eqb (call_number M run v out) 0 ≡ false → rules.merge M check v Ts ≡ none
    unfolding rules.merge rules.are_wrong either
    none_merged e = go Ts (rw is_number at e)
      where
        go : (Us : List Table) → eqb (number_of M v (one_or_more (some Us))) 0 ≡ false → rules.merge M check v Us ≡ none
        go [] n = rw (tables_number M v [])
        go (U ∷ Us) n = rw n

    some_merged : (w : MergeDone M run v out) → rules.merge M check v Ts ≡ some w.merged
    some_merged w =
        let is : some w.tables ≡ some Ts = sym (run_read M run w.tables w.read).0 ∙ are in
        let same : w.tables ≡ Ts = cc in
        rw same at w.made

    is_output : (w : MergeDone M run v out) → call_output M run v out ≡ replaced out 0 (image format_one w.merged)
    unfolding too_small
    is_output w = rw (merge_output M run v out, le-ltb (length out) M.least_buffer large, w.read, w.made)

    pub merge_laid : Leaves M out (call_number M run v out) (call_output M run v out) (rules.merge M check v Ts)
    merge_laid = go (same? (call_number M run v out) 0)
      where
        go : (call_number M run v out ≡ 0) ⊎ (eqb (call_number M run v out) 0 ≡ false) → Leaves M out (call_number M run v out) (call_output M run v out) (rules.merge M check v Ts)
        go (inl e) = let w = merge_done M run v out sound room e in rw (some_merged w) (e, is_output w, w.after)
        go (inr e) = rw (none_merged e) (e, merge_refused M run v out (eqb-false (call_number M run v out) 0 e))

-- The merge call: any bytes in its run and its output buffer, to the number and the output buffer after it.
use Rattle.std.specs.Prelude.{true, cond, List, [], ◌∷◌, ℕ, eqb, length}
use Rattle.std.proofs.Math.Option.{Option, none, some}
use Rattle.wire.specs.Parts.{replaced}
use Rattle.rules.specs.Tables.{Model, Table}
use Rattle.rules.specs.Numbers.{Number.small_buffer, Number.bad_table, Circumstance, number}
use Rattle.rules.specs.Circumstances.{too_small}
use Rattle.rules.specs.Check.{check}
use Rattle.rules.specs.Merge.{merge_circumstances, merged_table}
use Rattle.table.specs.Images.{format_one, image}
use Rattle.image_run.specs.Runs.{run_tables, or_none}

-- 2, "bad table": "for a merge, the run isn't one or more whole images". Rows that come later in the order may apply as well. They lose, and are not listed
abbrev pub read_circumstances : Model → ℕ → Option (List Table) → List Circumstance
read_circumstances M v none = (bad_table, true) ∷ []
read_circumstances M v (some Ts) = merge_circumstances M v Ts

-- 1, "small buffer": "table or output buffer (not a merge's run) below 49,176"
abbrev pub call_circumstances : Model → List ℕ → ℕ → List ℕ → List Circumstance
call_circumstances M run v out = (small_buffer, too_small M (length out)) ∷ read_circumstances M v (run_tables M run)

unfoldable pub call_number : Model → List ℕ → ℕ → List ℕ → ℕ
call_number M run v out = number (call_circumstances M run v out)

-- "Refusals keep the table or merge output"; "Output bytes past the image stay."
unfoldable pub call_output : Model → List ℕ → ℕ → List ℕ → List ℕ
call_output M run v out = cond (eqb (call_number M run v out) 0) (replaced out 0 (image format_one (merged_table check v (or_none (run_tables M run))))) out

-- All against the first.
use mathlib.Core.Path.{◌≡◌, ◌∙◌}
use native.Mathlib.Omega.{arith}
use Rattle.wire.proofs.Numbers.{all_of}
use Rattle.rules.specs.Tables.{valley}
use Rattle.table.specs.Images.{format_one}
use Rattle.table.specs.Parse.{table_at}
use Rattle.image_run.specs.Inner.WholeRuns.{tables_of}
use Rattle.image_run.proofs.RunTurns.{rest_of}
use Rattle.gather.specs.Inner.UsedTables.{place_in, fields_for, from_first}
use Rattle.gather.proofs.UsedRows.{FirstHeld, first_held}
use Rattle.gather.proofs.FirstImages.{first_body, two_told}
use Rattle.gather.proofs.Gathered.{part_at}
use Rattle.gather.proofs.bodies.two_bodies.Goals as goal

pub slice_bounds-some_other-start : goal.slice_bounds-some_other-start
slice_bounds-some_other-start c = let l = c.first_of-first.ensures.0 in omega arith

pub slice_bounds-some_other-end : goal.slice_bounds-some_other-end
slice_bounds-some_other-end c = let l = c.first_of-first.ensures.0 in omega arith

pub some_other-requires : goal.some_other-requires
some_other-requires c =
    let held : (let g = c.args.gathered.now in FirstHeld g.cursors.newest g.cursors.last (tables_of valley c.args.run.now) c.args.run.now (from_first c.args.gathered.now.cursors.newest c.args.gathered.now.cursors.last (tables_of valley c.args.run.now) c.args.run.now)) = (first_held _ _ _ _ (all_of c.args.run.now (λ i. (c.type_inv.run i).fits)) c.requires.0 c.requires.3) in
    let same : part_at c.args.run.now c.first_of-first.result.at ≡ (from_first c.args.gathered.now.cursors.newest c.args.gathered.now.cursors.last (tables_of valley c.args.run.now) c.args.run.now) = rest_of c.args.run.now c.first_of-first.result.at ∙ c.first_of-first.ensures.1 in
    let told : (let g = c.args.gathered.now in let first = part_at c.args.run.now c.first_of-first.result.at in c.first_of-first.result.row ≡ fields_for first (place_in g.cursors.newest (table_at format_one first) g.cursors.last)) = rw (rest_of c.args.run.now c.first_of-first.result.at) c.first_of-first.ensures.2 in
    (c.requires.0, c.requires.1, c.requires.2, first_body _ _ _ _ _ held _ same _ told)

pub returns : goal.returns
returns c =
    let held : (let g = c.args.gathered.now in FirstHeld g.cursors.newest g.cursors.last (tables_of valley c.args.run.now) c.args.run.now (from_first c.args.gathered.now.cursors.newest c.args.gathered.now.cursors.last (tables_of valley c.args.run.now) c.args.run.now)) = (first_held _ _ _ _ (all_of c.args.run.now (λ i. (c.type_inv.run i).fits)) c.requires.0 c.requires.3) in
    let same : part_at c.args.run.now c.first_of-first.result.at ≡ (from_first c.args.gathered.now.cursors.newest c.args.gathered.now.cursors.last (tables_of valley c.args.run.now) c.args.run.now) = rest_of c.args.run.now c.first_of-first.result.at ∙ c.first_of-first.ensures.1 in
    let told : (let g = c.args.gathered.now in let first = part_at c.args.run.now c.first_of-first.result.at in c.first_of-first.result.row ≡ fields_for first (place_in g.cursors.newest (table_at format_one first) g.cursors.last)) = rw (rest_of c.args.run.now c.first_of-first.result.at) c.first_of-first.ensures.2 in
    c.some_other.ensures ∙ two_told _ _ _ _ _ held _ same _ told

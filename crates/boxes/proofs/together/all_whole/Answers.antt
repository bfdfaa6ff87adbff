-- The boxes that are left decide.
use mathlib.Core.Path.{◌≡◌, refl, sym, ap, ◌∙◌}
use Rattle.rules.specs.Tables.{Model, valley}
use Rattle.table.specs.Images.{format_one}
use Rattle.table.specs.Parse.{parse, image_found}
use Rattle.boxes.proofs.NamedTables.{buffer_named, whole_turn, whole_not, whole_end}
use Rattle.boxes.proofs.together.all_whole.Goals as goal

pub loop-named-init : goal.loop-named-init
loop-named-init c = refl

pub returns-in_default : goal.returns-in_default
returns-in_default c =
    let found : (let l = c in let a = l.args in image_found format_one (parse format_one valley (buffer_named valley a.tables.now a.boxes.now l.loop-named.named-index)) ≡ c.find.result) = sym (c.find.ensures ∙ ap (λ (M : Model). image_found format_one (parse format_one M c.buffer_of-table.result.now)) c.valley.ensures ∙ ap (λ s. image_found format_one (parse format_one valley s)) c.buffer_of-table.ensures) in
    let f = c in
    let l = f in
    sym (sym l.loop-named.invariant ∙ whole_not valley _ _ _ f.loop-named-test.true (found ∙ c.in_default.is))

pub loop-named-preserved : goal.loop-named-preserved
loop-named-preserved c =
    let found : (let l = c in let a = l.args in image_found format_one (parse format_one valley (buffer_named valley a.tables.now a.boxes.now l.loop-named.named-index)) ≡ c.find.result) = sym (c.find.ensures ∙ ap (λ (M : Model). image_found format_one (parse format_one M c.buffer_of-table.result.now)) c.valley.ensures ∙ ap (λ s. image_found format_one (parse format_one valley s)) c.buffer_of-table.ensures) in
    let f = c in
    let l = f in
    sym (whole_turn valley _ _ _ f.loop-named-test.true _ (found ∙ c.in-Some.is)) ∙ l.loop-named.invariant

pub returns : goal.returns
returns c = sym (sym c.loop-named.invariant ∙ whole_end valley _ _ _ c.loop-named-test.false)

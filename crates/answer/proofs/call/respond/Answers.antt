-- No table, or what the message is to the table that was found.
use mathlib.Core.Path.{refl, sym, ◌∙◌}
use Rattle.numbers.specs.declared.Refusal.TheVariants.{BadTable}
use Rattle.table.specs.Images.{format_one}
use Rattle.table.specs.Parse.{parse}
use Rattle.seek.specs.Inner.Limits.{limited}
use Rattle.seek.proofs.HeldRows.{some_boxes}
use Rattle.transact.proofs.Serving.{tells_refusal}
use Rattle.answer.proofs.Responding.{found_nothing, found_begins, widened, heard_answered}
use Rattle.answer.proofs.call.respond.Goals as goal

pub returns-in_default : goal.returns-in_default
returns-in_default c =
    let nothing = found_nothing (parse format_one (limited c.args.limit) c.args.table.now) (sym c.in_default.is ∙ c.find.ensures) in
    rw (c.without_search.ensures.0, c.without_search.ensures.1, nothing) record { reply_value = (tells_refusal BadTable _ refl, refl); table_after = refl }

pub read-asked-requires : goal.read-asked-requires
read-asked-requires c = rw c.read-n.ensures (some_boxes (limited c.args.limit) c.args.table.now (found_begins (limited c.args.limit) c.args.table.now _ (sym c.in-Some.is ∙ c.find.ensures)))

pub serve-requires : goal.serve-requires
serve-requires c =
    let m = c.read-asked.ensures in
    record {
      begins_with_image = (widened c.args.limit c.args.table.now c.requires.0 (found_begins (limited c.args.limit) c.args.table.now _ (sym c.in-Some.is ∙ c.find.ensures)), c.requires.0, c.requires.1);
      asked_value = (rw c.read-n.ensures at m.result_value, m.coded);
    }

pub returns : goal.returns
returns c =
    let s = c.args.table.now in
    let begins = found_begins (limited c.args.limit) s _ (sym c.in-Some.is ∙ c.find.ensures) in
    let read = rw c.read-n.ensures at c.read-asked.ensures.result_value in
    let n = c.serve.ensures in
    let (tells, after, compared) = heard_answered (limited c.args.limit) s c.args.message.now begins _ read c.serve.result.found c.serve.new.table c.serve.result.compared n.reply_value.0 n.table_after n.reply_value.1 in
    record { reply_value = (tells, compared); table_after = after }

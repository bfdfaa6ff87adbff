-- Refused before its row is looked at, or by what the row holds.
use mathlib.Core.Path.{sym, ◌∙◌}
use Rattle.rules.specs.Tables.{valley}
use Rattle.table.specs.Images.{format_one}
use Rattle.table.specs.Parse.{table_at}
use Rattle.transact.specs.Inner.Served.{served_compared}
use Rattle.transact.proofs.Finalised.{known_place, outcome_finding}
use Rattle.transact.proofs.outcome.finalise_outcome.Goals as goal

pub finalise_held-requires : goal.finalise_held-requires
finalise_held-requires c =
    let place = (known_place (table_at format_one c.args.table.now) c.args.stamp c.args.view _ (sym c.row_to_finalise-sought.ensures.0 ∙ c.in-Ok.is)).2 in
    (c.requires, place)

pub returns-in-Err : goal.returns-in-Err
unfolding served_compared
returns-in-Err c =
    let (tells, after) = outcome_finding valley c.args.table.now c.args.stamp c.args.view c.requires _ _ (sym c.row_to_finalise-sought.ensures.0 ∙ c.in-Err.is) in
    rw (c.with.ensures.0, c.with.ensures.1) record { reply_value = (tells, c.row_to_finalise-sought.ensures.1); table_after = after }

pub returns-in-Ok : goal.returns-in-Ok
unfolding served_compared
returns-in-Ok c =
    let (tells, after) = c.finalise_held.ensures c.args.view (sym c.row_to_finalise-sought.ensures.0 ∙ c.in-Ok.is) in
    rw (c.with-in-Ok.ensures.0, c.with-in-Ok.ensures.1) record { reply_value = (tells, c.row_to_finalise-sought.ensures.1); table_after = after }

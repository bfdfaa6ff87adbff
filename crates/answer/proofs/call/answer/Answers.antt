-- Small buffers first, then what was heard.
use mathlib.Core.Logic.{◌⊎◌, inl, inr}
use mathlib.Core.Path.{◌≡◌, ap, ◌∙◌}
use Prim.Native.Nat.{◌<◌}
use lib.ListN.{length}
use native.Mathlib.Omega.{arith}
use Rattle.rules.specs.Tables.{Model, valley}
use Rattle.answer.proofs.AnswerWays.{large_enough}
use Rattle.answer.proofs.Responding.{left_small, compared_small, left_so, compared_so, ended_same}
use Rattle.answer.proofs.call.answer.Goals as goal

pub respond-said-requires : goal.respond-said-requires
respond-said-requires c =
    let e = ap (λ (M : Model). M.row_limit) c.valley-model.ensures in
    let l = ap (λ (M : Model). M.least_buffer) c.valley-model.ensures in
    (omega arith, omega arith)

pub returns-then-table-model : goal.returns-then-table-model
returns-then-table-model c =
    let s = c.args.table.now in
    let m = c.args.message.now in
    let r = c.args.reply.now in
    let l : c.valley-model.result.least ≡ 49176 = ap (λ (M : Model). M.least_buffer) c.valley-model.ensures in
    let short : (length s < 49176) ⊎ (length r < 24) = elim (rw l at c.then-table-model.either) [ inl below ↦ inl below | inr w ↦ inr w.1 ] in
    let (number, table, reply) = left_small valley s m r short in
    rw (c.without_search.ensures.0, c.without_search.ensures.1) record { number_value = (number, compared_small valley s m r short); table_after = table; reply_after = reply }

pub returns : goal.returns
returns c =
    let s = c.args.table.now in
    let m = c.args.message.now in
    let e : c.valley-model.result.limit ≡ 512 = ap (λ (M : Model). M.row_limit) c.valley-model.ensures in
    let l : c.valley-model.result.least ≡ 49176 = ap (λ (M : Model). M.least_buffer) c.valley-model.ensures in
    let large = large_enough valley s c.args.reply.now (rw l at c.if-table-model.false) c.if-reply-lt-LENGTH.false in
    let (number, table, reply) = left_so valley s m c.args.reply.now large in
    let compared = compared_so valley s m c.args.reply.now large in
    let (tells, ends) = rw e at c.respond-said.ensures.reply_value.0 in
    let count = rw e at c.respond-said.ensures.reply_value.1 in
    let after = rw e at c.respond-said.ensures.table_after in
    let ended = ended_same c.respond-said.result.found c.map.result _ c.map.ensures.cases c.map.ensures.variant in
    rw (c.with.ensures.0, c.with.ensures.1, c.write.ensures, c.told.ensures, tells) record { number_value = (ended ∙ ends ∙ number, count ∙ compared); table_after = after ∙ table; reply_after = reply }

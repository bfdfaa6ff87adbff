-- The counts first, then the bytes of both bodies.
use mathlib.Core.Path.{sym, ◌∙◌}
use Rattle.wire.proofs.Numbers.{all_of}
use Rattle.seek.proofs.SoughtRows.{needed_inside, row_inside, counts_differ, needed_length, bytes_tell}
use Rattle.seek.proofs.other_body.Goals as goal

pub other_counts-requires : goal.other_counts-requires
other_counts-requires c =
    row_inside c.args.table.now c.args.message.now c.args.given (all_of _ (λ i. (c.type_inv.table i).fits)) (all_of _ (λ i. (c.type_inv.message i).fits)) c.requires.0 c.requires.2 c.args.place c.requires.1

pub returns-then-other_counts : goal.returns-then-other_counts
returns-then-other_counts c =
    rw c.if-other_counts.true (counts_differ c.args.table.now c.args.message.now c.args.given (all_of _ (λ i. (c.type_inv.table i).fits)) (all_of _ (λ i. (c.type_inv.message i).fits)) c.requires.0 c.requires.2 c.args.place c.requires.1 (sym c.other_counts.ensures ∙ c.if-other_counts.true))

pub needed_body-requires : goal.needed_body-requires
needed_body-requires c =
    needed_inside c.args.table.now c.args.message.now c.args.given (all_of _ (λ i. (c.type_inv.table i).fits)) (all_of _ (λ i. (c.type_inv.message i).fits)) c.requires.0 c.requires.2 c.args.place c.requires.1

pub same_bytes-requires : goal.same_bytes-requires
same_bytes-requires c =
    rw (c.needed_body.ensures, c.body_of.ensures) (needed_length c.args.table.now c.args.message.now c.args.given (all_of _ (λ i. (c.type_inv.table i).fits)) (all_of _ (λ i. (c.type_inv.message i).fits)) c.requires.0 c.requires.2 (rw c.requires.1 at (sym c.other_counts.ensures ∙ c.if-other_counts.false)) c.args.place c.requires.1)

pub returns-else-other_counts : goal.returns-else-other_counts
returns-else-other_counts c =
    rw (c.same_bytes.ensures, c.needed_body.ensures, c.body_of.ensures) (bytes_tell c.args.table.now c.args.message.now c.args.given (all_of _ (λ i. (c.type_inv.table i).fits)) (all_of _ (λ i. (c.type_inv.message i).fits)) c.requires.0 c.requires.2 (rw c.requires.1 at (sym c.other_counts.ensures ∙ c.if-other_counts.false)) c.args.place c.requires.1)

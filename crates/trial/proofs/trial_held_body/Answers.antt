-- The body that is handed out for the place that was found is the stamp's.
use mathlib.Core.Path.{◌≡◌, ap, ◌∙◌}
use native.Mathlib.Omega.{arith}
use lib.ListN.{length}
use Rattle.wire.proofs.Numbers.{all_of}
use Rattle.rules.specs.Messages.{held}
use Rattle.rows.specs.Read.{rows_at}
use Rattle.rows.specs.Inner.Places.{held_body}
use Rattle.rows.proofs.Sought.{found_inside, found_body}
use Rattle.trial.proofs.trial_held_body.Goals as goal

pub held_body-body-requires : goal.held_body-body-requires
held_body-body-requires c =
    let s = c.args.image.now in
    found_inside s c.args.begin c.args.rows c.args.stamp (all_of s (λ i. (c.shared_slice_known-1.given i).fits)) c.requires.0 c.requires.1 _ c.find-place.ensures.0

pub copy_part-requires : goal.copy_part-requires
copy_part-requires c =
    let handed : (let a = c.args in c.held_body-body.result.now ≡ held_body (held (rows_at a.image.now a.begin a.rows) a.stamp)) = (let s = c.args.image.now in c.held_body-body.ensures ∙ found_body s c.args.begin c.args.rows c.args.stamp (all_of s (λ i. (c.shared_slice_known-1.given i).fits)) c.requires.0 c.requires.1 _ c.find-place.ensures.0) in
    let few = c.requires.2 in rw handed (omega (arith, few))

pub returns : goal.returns
returns c =
    let handed : (let a = c.args in c.held_body-body.result.now ≡ held_body (held (rows_at a.image.now a.begin a.rows) a.stamp)) = (let s = c.args.image.now in c.held_body-body.ensures ∙ found_body s c.args.begin c.args.rows c.args.stamp (all_of s (λ i. (c.shared_slice_known-1.given i).fits)) c.requires.0 c.requires.1 _ c.find-place.ensures.0) in
    let e = handed in record { value = ap length e; out_after = rw (← e) c.copy_part.ensures }

-- The rows before any check and the header, the agreed ones checked, then the open ones.
use native.Mathlib.Omega.{arith}
use Rattle.wire.proofs.Numbers.{all_of}
use Rattle.image_run.proofs.Wrongs.{first_room}
use Rattle.merge.proofs.MergedBuffers.{counted, in_group, end_fits, ready_for_agreed, ready_for_open, merged_written}
use Rattle.merge.proofs.call.write_merged.Goals as goal

pub read-n-requires : goal.read-n-requires
read-n-requires c = first_room _ c.requires.images.1 c.requires.images.0

pub write_rows-written-requires : goal.write_rows-written-requires
write_rows-written-requires c =
    let run = c.requires.images in
    let rows = c.requires.run_value in
    (run.0, run.3, counted _ c.args.out.now run.0 run.1 _ c.args.view _ rows.0 rows.1 rows.2, rows.2, run.2)

pub overflow_cast-written : goal.overflow_cast-written
overflow_cast-written c =
    let run = c.requires.images in
    let rows = c.requires.run_value in
    let fits = end_fits _ c.args.out.now run.0 run.1 _ c.args.view _ rows.0 rows.1 rows.2 _ c.read-n.ensures _ _ c.write_rows-written.ensures.end_value.0 in
    omega arith

pub start_header-requires : goal.start_header-requires
start_header-requires c =
    let run = c.requires.images in
    let rows = c.requires.run_value in
    in_group _ c.args.out.now run.0 run.1 _ c.args.view _ rows.0 rows.1 rows.2 _ c.read-n.ensures 0

pub check_rows-requires : goal.check_rows-requires
check_rows-requires c =
    let run = c.requires.images in
    let rows = c.requires.run_value in
    let written = c.write_rows-written.ensures in
    ready_for_agreed _ c.args.out.now run.0 run.1 _ c.args.view _ rows.0 rows.1 rows.2 _ c.read-n.ensures _ _ written.end_value.0 run.2 _ written.out_after _ c.start_header.ensures _ c.write.ensures
    (all_of c.write.new.s (λ i. (c.slice_known-3-1.given i).fits))

pub check_rows-requires-2 : goal.check_rows-requires-2
check_rows-requires-2 c =
    let run = c.requires.images in
    let rows = c.requires.run_value in
    let written = c.write_rows-written.ensures in
    ready_for_open _ c.args.out.now run.0 run.1 _ c.args.view _ rows.0 rows.1 rows.2 _ c.read-n.ensures _ _ written.end_value.0 run.2 _ written.out_after _ c.start_header.ensures _ c.write.ensures
    (all_of c.write.new.s (λ i. (c.slice_known-3-1.given i).fits)) _ _ c.check_rows.ensures (all_of c.check_rows.new.out (λ i. (c.slice_known-4-1.given i).fits))

pub returns : goal.returns
returns c =
    let run = c.requires.images in
    let rows = c.requires.run_value in
    let written = c.write_rows-written.ensures in
    merged_written _ c.args.out.now run.0 run.1 _ c.args.view _ rows.0 rows.1 rows.2 _ c.read-n.ensures _ _ written.end_value.0 run.2 _ written.out_after _ c.start_header.ensures _ c.write.ensures
    (all_of c.write.new.s (λ i. (c.slice_known-3-1.given i).fits)) _ _ c.check_rows.ensures (all_of c.check_rows.new.out (λ i. (c.slice_known-4-1.given i).fits))
    c.agreement-agreement.ensures written.end_value.1 _ c.check_rows-2.ensures

-- The row that is read is the one that is added.
use Rattle.trial.proofs.trial_add_row.Goals as goal

pub add_row-requires : goal.add_row-requires
add_row-requires c =
    let q = c.requires in
    rw c.row_at.ensures (record { holds = q.holds; storable = (q.row_length_in_bounds.1, q.row_length_in_bounds.2); table_bound = q.table_bound })

pub returns : goal.returns
returns c = rw (c.add_row.ensures, c.row_at.ensures)

-- The images are as many as the tables, and no more than bytes.
use mathlib.Core.Logic.{inl}
use native.Mathlib.Omega.{arith}
use Rattle.image_run.proofs.TablesWalked.{fewer_than_bytes, count_walked}
use Rattle.image_run.proofs.wrong.image_count.Goals as goal

pub count-requires-clause-fits : goal.count-requires-clause-fits
count-requires-clause-fits c = let few = fewer_than_bytes c.run.result in inl (omega arith)

pub returns : goal.returns
returns c = count_walked _ _ c.run.ensures c.count.ensures.ran

-- Two parts of one length are equal exactly if the one begins with the other.
use Rattle.std.proofs.lemmas.Bool.Decides.{Decides-eqb}
use Rattle.std.proofs.lemmas.Slice.Eq.{slice_eq-Decides}
use Rattle.seek.proofs.BodiesAlike.{equal_begins}
use Rattle.seek.proofs.same_bytes.Goals as goal

pub returns : goal.returns
returns c = equal_begins c.args.a.now c.args.b.now _ (slice_eq-Decides Decides-eqb _ _ _ c.eq.ensures) c.requires

-- The counts first, then the bytes of both bodies.
use mathlib.Core.Path.{◌≡◌, refl}
use borrow.Author.Tests.{eq-eqb, ne_eqb}
use Rattle.wire.proofs.Numbers.{all_of}
use mathlib.Core.Bool.{false}
use Rattle.rules.specs.Tests.{both}
use Rattle.rules.specs.Stamps.{same_body}
use Rattle.rows.specs.Read.{body_at}
use Rattle.rows.proofs.Turns.{length_body_part}
use Rattle.seek.proofs.BodiesAlike.{bodies_alike}
use Rattle.gather.proofs.OneRow.{reads_differ, writes_differ}
use Rattle.gather.proofs.bodies.is_other.Goals as goal
use Rattle.gather.proofs.bodies.is_other.Goals.{then-row-given-via-then-row-given, then-row-given-via-else-row-given+then-row-given-2}

pub returns-then-row-eq0 : goal.returns-then-row-eq0
unfolding both
returns-then-row-eq0 c = rw (eq-eqb _ _ c.if-row-eq0.true) refl

pub returns-then-row-given : goal.returns-then-row-given
unfolding both
returns-then-row-given c =
    let a = c.args in
    let other : same_body (body_at a.first.now a.given.offset a.given.reads a.given.writes) (body_at a.image.now a.row.offset a.row.reads a.row.writes) ≡ false = elim c.then-row-given.branch [
      | then-row-given-via-then-row-given w ↦ reads_differ a.image.now a.first.now a.row a.given w.if-row-given.true
      | then-row-given-via-else-row-given+then-row-given-2 w ↦ writes_differ a.image.now a.first.now a.row a.given w.if-row-given-2.true
    ] in
    rw (ne_eqb _ _ c.if-row-eq0.false, other) refl

pub body_of-requires : goal.body_of-requires
body_of-requires c = c.requires.0 c.if-row-eq0.false

pub same_bytes-requires : goal.same_bytes-requires
same_bytes-requires c =
    rw (c.body_of.ensures, c.body_of-2.ensures, length_body_part c.args.image.now c.args.row (c.requires.0 c.if-row-eq0.false), length_body_part c.args.first.now c.args.given c.requires.1, c.if-row-given.false, c.if-row-given-2.false) refl

pub returns : goal.returns
unfolding both
returns c =
    let a = c.args in
    let alike = bodies_alike a.image.now a.first.now a.row a.given (all_of a.image.now (λ i. (c.type_inv.image i).fits)) (all_of a.first.now (λ i. (c.type_inv.first i).fits)) (c.requires.0 c.if-row-eq0.false) c.requires.1 c.if-row-given.false c.if-row-given-2.false in
    rw (ne_eqb _ _ c.if-row-eq0.false, c.same_bytes.ensures, c.body_of.ensures, c.body_of-2.ensures, alike) refl

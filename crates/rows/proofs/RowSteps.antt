-- A row's fields written one after the other are its bytes.
use mathlib.Core.Path.{◌≡◌}
use mathlib.Core.List.{List, ◌++◌, append_assoc}
use Prim.Native.Nat.{ℕ, ◌+◌, ◌≤◌}
use native.Mathlib.Omega.{arith}
use lib.ListN.{length, length-append}
use Rattle.wire.specs.Parts.{replaced}
use Rattle.wire.specs.Numbers.{bytes}
use Rattle.wire.proofs.Parts.{replaced_joined}
use Rattle.wire.proofs.Numbers.{length_bytes}
use Rattle.rows.specs.declared.row.RowFields.{RowFields}
use Rattle.rows.specs.Fields.{fields_bytes}

pub row_steps : (s : List ℕ) (at : ℕ) (f : RowFields) → at + 24 ≤ length s →
    let rest = bytes 1 f.reads ++ (bytes 1 f.writes ++ (bytes 1 f.prepare ++ bytes 1 f.outcome)) in
    replaced (replaced (replaced (replaced s at (bytes 8 f.stamp)) (at + 8) (bytes 8 f.retry)) (at + 16) (bytes 4 f.offset)) (at + 20) rest ≡ replaced s at (fields_bytes f)
unfolding fields_bytes
row_steps s at f l =
    let a : List ℕ = bytes 8 f.stamp in
    let b : List ℕ = a ++ bytes 8 f.retry in
    let d : List ℕ = b ++ bytes 4 f.offset in
    rw (
      replaced_joined s at (at + 8) a (bytes 8 f.retry) (omega arith) (simp length_bytes),
      replaced_joined s at (at + 16) b (bytes 4 f.offset) (omega arith) (simp (length-append, length_bytes)),
      replaced_joined s at (at + 20) d _ (omega arith) (simp (length-append, length_bytes)),
    )
    (simp append_assoc)

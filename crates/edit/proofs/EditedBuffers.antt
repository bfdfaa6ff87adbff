-- A buffer whose table was changed: it holds the changed table, zeros where the old image was longer, and every byte behind both as it was.
use mathlib.Core.Path.{◌≡◌, refl, sym, ◌∙◌}
use mathlib.Core.Bool.{true}
use mathlib.Core.List.{List, [], ◌++◌, append-nil, append_assoc}
use mathlib.Core.Option.{some}
use Prim.Native.Nat.{ℕ, ◌+◌, ◌-◌, ◌≤◌}
use native.Mathlib.Omega.{arith}
use lib.ListN.{length, drop, replicate, length-append, length-replicate}
use Rattle.wire.specs.Parts.{part, replaced}
use Rattle.wire.specs.Inner.ByteLists.{AllBytes}
use Rattle.wire.proofs.Parts.{replaced_over, replaced_start, replaced_between, length-replaced, above_stays}
use Rattle.wire.proofs.Stands.{Stands, stands_between}
use Rattle.rules.specs.Tables.{Table, Model, table_by_rule}
use Rattle.rows.specs.Read.{begins}
use Rattle.rows.proofs.Begins.{begins_with, begins_stands}
use Rattle.table.specs.Images.{Form, image_length, image}
use Rattle.table.specs.Parse.{table_at, parse}
use Rattle.table.proofs.Images.{image_among, Starts, Sound, length_image, image_parses}
use Rattle.edit.specs.Inner.Holding.{Holds}
use Rattle.edit.specs.Edited.{edited}
use Rattle.edit.proofs.Holding.{holds_is, holds_long}

-- ---- for the proofs of the changes

-- nothing is given up
pub edited_grown : (F : Form) (change : Table → Table) (s : List ℕ) → image_length F (table_at F s) ≤ image_length F (change (table_at F s)) → edited F change s ≡ replaced s 0 (image F (change (table_at F s)))
unfolding edited
edited_grown F change s l =
    let e : image_length F (table_at F s) - image_length F (change (table_at F s)) ≡ 0 = omega arith in
    rw (e, append-nil)

-- an image put over one of the same length
pub image_over : (F : Form) (T U : Table) (rest : List ℕ) → length (image F T) ≡ length (image F U) → replaced (image F T ++ rest) 0 (image F U) ≡ image F U ++ rest
image_over F T U rest e = replaced_between [] (image F T) rest (image F U) 0 refl e

-- ---- for whoever changes a table

module _ (F : Form) (change : Table → Table) (s : List ℕ) (starts : Starts F) (h : Holds F s) (fits : image_length F (change (table_at F s)) ≤ length s) where
  abbrev pub before : Table
  before = table_at F s

  abbrev pub after : Table
  after = change (table_at F s)

  abbrev written : List ℕ
  written = image F after ++ replicate (image_length F before - image_length F after) 0

  length_written : length written ≡ image_length F after + (image_length F before - image_length F after)
  length_written = rw (length-append, length_image F after starts, length-replicate)

  written_inside : 0 + length written ≤ length s
  written_inside = let n = length_written in let l = holds_long F s starts h in omega arith

  -- no byte is added
  pub edited_length : length (edited F change s) ≡ length s
  unfolding edited
  edited_length = length-replaced s 0 written written_inside

  -- "bytes past the longer of the old and new image are unchanged"
  pub edited_past : (b : ℕ) → image_length F before ≤ b → image_length F after ≤ b → drop b (edited F change s) ≡ drop b s
  unfolding edited
  edited_past b l m = let n = length_written in above_stays s 0 written b (omega arith) written_inside

-- "if the image shrank, the bytes given up are zero"
pub edited_given_up : (F : Form) (change : Table → Table) (s : List ℕ) → Starts F →
    let gone = image_length F (table_at F s) - image_length F (change (table_at F s)) in
    part (edited F change s) (image_length F (change (table_at F s))) gone ≡ replicate gone 0
unfolding edited Stands
edited_given_up F change s starts =
    let T : Table = table_at F s in
    let U : Table = change T in
    let zeros : List ℕ = replicate (image_length F T - image_length F U) 0 in
    let b = stands_between (image F U) zeros (drop (length (image F U ++ zeros)) s) (image_length F U) (length_image F U starts) in
    rw (replaced_start s (image F U ++ zeros), append_assoc) (rw length-replicate at b)

-- the buffer parses to the changed table, if that is by the rules
pub edited_parses : (F : Form) (M : Model) (change : Table → Table) (s : List ℕ) → Sound F M → table_by_rule M (change (table_at F s)) ≡ true → parse F M (edited F change s) ≡ some (change (table_at F s))
unfolding edited
edited_parses F M change s k h =
    rw (replaced_start, append_assoc) (image_parses F M (change (table_at F s)) k h _)

-- a change that leaves the table as it is leaves the buffer
pub edited_same : (F : Form) (change : Table → Table) (s : List ℕ) → Holds F s → change (table_at F s) ≡ table_at F s → edited F change s ≡ s
unfolding edited
edited_same F change s h e =
    let T = table_at F s in
    let z : image_length F T - image_length F T ≡ 0 = omega arith in
    rw (e, z, append-nil, replaced_start) (sym (holds_is F s h))

-- only what a change makes of this table counts
pub edited_as : (F : Form) (change other : Table → Table) (s : List ℕ) → change (table_at F s) ≡ other (table_at F s) → edited F change s ≡ edited F other s
unfolding edited
edited_as F change other s e = rw e

-- ---- one change after another

-- the buffer holds the changed table, by the rules or not
pub edited_holds : (F : Form) (change : Table → Table) (s : List ℕ) → Starts F → AllBytes (edited F change s) → (table_at F (edited F change s) ≡ change (table_at F s)) × Holds F (edited F change s)
unfolding edited
edited_holds F change s starts a =
    let U : Table = change (table_at F s) in
    let e = replaced_start s (image F U ++ replicate (image_length F (table_at F s) - image_length F U) 0) in
    let t : List ℕ = edited F change s in
    let b : begins (edited F change s) (image F U) ≡ true = rw (e, append_assoc) (begins_with (image F U) _) in
    let k = image_among F t U starts a (begins_stands t 0 (image F U) b) in
    (k, rw k b)

-- two that give nothing up are one
pub edited_twice : (F : Form) (first second : Table → Table) (s : List ℕ) → Starts F → AllBytes (edited F first s) →
    image_length F (table_at F s) ≤ image_length F (first (table_at F s)) → image_length F (first (table_at F s)) ≤ image_length F (second (first (table_at F s))) →
    edited F second (edited F first s) ≡ edited F (λ T. second (first T)) s
edited_twice F first second s starts a l m =
    let T = table_at F s in
    let e = (edited_holds F first s starts a).0 in
    let f = edited_grown F first s l in
    let g : image_length F (table_at F (edited F first s)) ≤ image_length F (second (table_at F (edited F first s))) = rw e m in
    let u = length_image F (first T) starts in
    let v = length_image F (second (first T)) starts in
    let w = edited_grown F (λ T. second (first T)) s (omega arith) in
    edited_grown F second (edited F first s) g ∙ rw (e, f, w) (replaced_over s (image F (first T)) (image F (second (first T))) (omega arith))

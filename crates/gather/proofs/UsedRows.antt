-- One table of a run more: what it adds to the rows of a stamp, if it is used and holds one.
use mathlib.Core.Path.{◌≡◌, refl, sym, ap, ◌∙◌}
use mathlib.Core.Bool.{true, false}
use mathlib.Core.Logic.{◌⊎◌, inl, inr}
use mathlib.Core.List.{List, [], ◌∷◌}
use mathlib.Core.Option.{some}
use Prim.Native.Nat.{ℕ, ◌+◌, ◌*◌, ◌<◌}
use native.Mathlib.Omega.{arith}
use lib.Dec.{eqb}
use lib.ListN.{length, drop}
use Rattle.wire.specs.Inner.ByteLists.{AllBytes}
use Rattle.wire.proofs.Numbers.{all_drop}
use Rattle.rules.specs.Tests.{those, and_also, all_of}
use Rattle.rules.specs.Tables.{Row, Table, valley}
use Rattle.rules.specs.Messages.{held}
use Rattle.rules.specs.Merge.{rows_of}
use Rattle.rules.proofs.Logic.{cases}
use Rattle.rows.specs.declared.row.RowFields.{RowFields}
use Rattle.rows.specs.declared.lookup.Place.{Place}
use Rattle.rows.specs.declared.lookup.Place.TheVariants.{Held, Absent}
use Rattle.rows.specs.Fields.{fields_at}
use Rattle.rows.specs.Inner.Places.{place_of}
use Rattle.rows.specs.Read.{row_of}
use Rattle.rows.proofs.Sought.{absent_none}
use Rattle.table.specs.Images.{format_one, image_length}
use Rattle.table.specs.Parse.{parse, table_at, BeginsWithImage}
use Rattle.table.proofs.Images.{parse_reads}
use Rattle.seek.proofs.HeldRows.{held_here}
use Rattle.image_run.specs.Runs.{images}
use Rattle.image_run.proofs.RunTurns.{First, first, some_bytes}
use Rattle.gather.specs.Inner.UsedTables.{used_of, place_in, fields_for, from_first}

-- ---- a table that is used, and one that is not

pub used_not : (newest stamp : ℕ) (T : Table) (Ts : List Table) → eqb T.view newest ≡ false → rows_of (used_of newest (T ∷ Ts)) stamp ≡ rows_of (used_of newest Ts) stamp
unfolding those
used_not newest stamp T Ts e = rw e refl

pub used_too : (newest stamp : ℕ) (T : Table) (Ts : List Table) → eqb T.view newest ≡ true → rows_of (used_of newest (T ∷ Ts)) stamp ≡ and_also (held T.rows stamp) (rows_of (used_of newest Ts) stamp)
unfolding those rows_of all_of
used_too newest stamp T Ts e = rw e refl

-- where a table that is not used holds a stamp, and where one does that is used
pub place_not : (newest stamp : ℕ) (T : Table) → eqb T.view newest ≡ false → place_in newest T stamp ≡ Absent 0
place_not newest stamp T e = rw e refl

pub place_too : (newest stamp : ℕ) (T : Table) → eqb T.view newest ≡ true → place_in newest T stamp ≡ place_of T.rows stamp
place_too newest stamp T e = rw e refl

-- ---- a table that stands at the start of bytes, before others

module _ (newest stamp : ℕ) (s : List ℕ) (bytes : AllBytes s) (has_image : BeginsWithImage valley s) (Ts : List Table) where
  abbrev pub here : Table
  here = table_at format_one s

  abbrev pub rows_now : List Row
  rows_now = rows_of (used_of newest (table_at format_one s ∷ Ts)) stamp

  abbrev pub rows_later : List Row
  rows_later = rows_of (used_of newest Ts) stamp

  -- it holds the stamp
  pub record Holding (i : ℕ) : Type 0 where
    pub place : place_in newest (table_at format_one s) stamp ≡ Held i
    pub index : place_of (table_at format_one s).rows stamp ≡ Held i
    pub rows : rows_now ≡ row_of s (fields_at s (24 + 24 * i)) ∷ rows_later

  -- or it does not
  pub record Without (i : ℕ) : Type 0 where
    pub place : place_in newest (table_at format_one s) stamp ≡ Absent i
    pub rows : rows_now ≡ rows_later

  abbrev pub Told : Type 0
  Told = ((i : ℕ) × Holding i) ⊎ ((i : ℕ) × Without i)

  pub told : Told
  told = go (cases (eqb here.view newest)) (place_of here.rows stamp) refl
    where
      go : (eqb here.view newest ≡ true) ⊎ (eqb here.view newest ≡ false) → (p : Place) → place_of here.rows stamp ≡ p → Told
      go (inr e) p k = inr (0, record { place = place_not newest stamp here e; rows = used_not newest stamp here Ts e })
      go (inl e) (Held i) k = inl (i, record { place = place_too newest stamp here e ∙ k; index = k; rows = used_too newest stamp here Ts e ∙ rw (held_here valley s stamp i bytes has_image k) refl })
      go (inl e) (Absent i) k = inr (i, record { place = place_too newest stamp here e ∙ k; rows = used_too newest stamp here Ts e ∙ rw (absent_none here.rows stamp i k) refl })

  abbrev pub fields : RowFields
  fields = fields_for s (place_in newest (table_at format_one s) stamp)

-- ---- the first image that holds a stamp

pub record FirstHeld (newest stamp : ℕ) (Ts : List Table) (s t : List ℕ) : Type 0 where
  pub has_image : BeginsWithImage valley t
  pub bytes : AllBytes t
  pub i : ℕ
  pub place : place_in newest (table_at format_one t) stamp ≡ Held i
  pub index : place_of (table_at format_one t).rows stamp ≡ Held i
  pub others : List Row
  pub rows : rows_of (used_of newest Ts) stamp ≡ row_of t (fields_at t (24 + 24 * i)) ∷ others

from_here : (newest stamp i : ℕ) (T : Table) (Ts : List Table) (s : List ℕ) → place_in newest T stamp ≡ Held i → from_first newest stamp (T ∷ Ts) s ≡ s
unfolding from_first
from_here newest stamp i T Ts s e = rw e refl

from_later : (newest stamp i : ℕ) (T : Table) (Ts : List Table) (s : List ℕ) → place_in newest T stamp ≡ Absent i → from_first newest stamp (T ∷ Ts) s ≡ from_first newest stamp Ts (drop (image_length format_one T) s)
unfolding from_first
from_later newest stamp i T Ts s e = rw e refl

pub first_parts : (T : Table) (Ts : List Table) (s : List ℕ) → First valley s (T ∷ Ts) → (parse format_one valley s ≡ some T) × (images valley (drop (image_length format_one T) s) ≡ some Ts)
first_parts T Ts s f =
    let e = f.are in
    let t : f.table ≡ T = cc in
    let o : f.others ≡ Ts = cc in
    (rw t at f.begins, rw (t, o) at f.behind)

pub first_held : (newest stamp : ℕ) (Ts : List Table) (s : List ℕ) → AllBytes s → images valley s ≡ some Ts → 0 < length (rows_of (used_of newest Ts) stamp) → FirstHeld newest stamp Ts s (from_first newest stamp Ts s)
unfolding those rows_of all_of
first_held newest stamp [] s bytes h l = absurd (omega arith)
first_held newest stamp (T ∷ Ts) s bytes h l =
    let (p, b) = first_parts T Ts s (first valley s (T ∷ Ts) (some_bytes valley s T Ts h) h) in
    go p (first_held newest stamp Ts (drop (image_length format_one T) s) (all_drop (image_length format_one T) s bytes) b)
  where
    go : parse format_one valley s ≡ some T → (0 < length (rows_of (used_of newest Ts) stamp) → FirstHeld newest stamp Ts (drop (image_length format_one T) s) (from_first newest stamp Ts (drop (image_length format_one T) s))) → FirstHeld newest stamp (T ∷ Ts) s (from_first newest stamp (T ∷ Ts) s)
    go p later =
        let e : table_at format_one s ≡ T = (parse_reads format_one valley s T p).0 in
        let has_image : BeginsWithImage valley s = p ∙ ap some (sym e) in
        by has_image e (told newest stamp s bytes has_image Ts)
      where
        by : (has_image : BeginsWithImage valley s) → table_at format_one s ≡ T → Told newest stamp s bytes has_image Ts → FirstHeld newest stamp (T ∷ Ts) s (from_first newest stamp (T ∷ Ts) s)
        by has_image e (inl (i, w)) =
            let k : place_in newest T stamp ≡ Held i = rw e at w.place in
            rw (from_here newest stamp i T Ts s k) (record { has_image = has_image; bytes = bytes; i = i; place = w.place; index = w.index; others = rows_of (used_of newest Ts) stamp; rows = rw e at w.rows })
        by has_image e (inr (i, w)) =
            let k : place_in newest T stamp ≡ Absent i = rw e at w.place in
            let m : rows_of (used_of newest (T ∷ Ts)) stamp ≡ rows_of (used_of newest Ts) stamp = rw e at w.rows in
            let n : 0 < length (rows_of (used_of newest Ts) stamp) = rw m at l in
            let u = later n in
            rw (from_later newest stamp i T Ts s k) (record { has_image = u.has_image; bytes = u.bytes; i = u.i; place = u.place; index = u.index; others = u.others; rows = m ∙ u.rows })

-- What each walk over a run for one stamp does in a turn, and at its end.
use mathlib.Core.Path.{◌≡◌, refl, sym, ap, ◌∙◌}
use mathlib.Core.Bool.{true, false, cond}
use mathlib.Core.Logic.{◌⊎◌, inl, inr}
use mathlib.Core.List.{List, [], ◌∷◌, map}
use Prim.Native.Nat.{ℕ, suc, ◌+◌, ◌-◌, ◌≤◌, ◌<◌, ◌^◌, min}
use native.Mathlib.Omega.{arith}
use lib.Dec.{eqb}
use lib.ListN.{length, set, take, drop, replicate, length-map, length-set, length-drop}
use lib.Seq.{drop-drop}
use Rattle.wire.specs.Inner.ByteLists.{AllBytes}
use Rattle.wire.proofs.Numbers.{all_drop}
use Rattle.rules.specs.Tests.{either, any, those, all_of}
use Rattle.rules.specs.Stamps.{Body}
use Rattle.rules.specs.Tables.{Table, valley}
use Rattle.rules.specs.Merge.{rows_of, stamps}
use Rattle.rules.proofs.Logic.{impossible}
use Rattle.rules.proofs.Tables.{table_facts}
use Rattle.rows.specs.declared.row.RowFields.{RowFields}
use Rattle.table.specs.declared.header.Header.{Header}
use Rattle.table.specs.Headers.{header_at}
use Rattle.table.specs.Images.{format_one, image_length}
use Rattle.table.specs.Parse.{table_at, BeginsWithImage}
use Rattle.table.proofs.Images.{valley_sound, parsed}
use Rattle.image_run.specs.Inner.WholeRuns.{tables_of, Images}
use Rattle.image_run.specs.Inner.Walk.{NextImage}
use Rattle.image_run.proofs.RunTurns.{turn, rest_of, laid_images_lem, walked}
use Rattle.gather.specs.declared.stamps.Cursors.{Cursors}
use Rattle.gather.specs.declared.held.Gathered.{Gathered}
use Rattle.gather.specs.Inner.UsedTables.{used_of, place_in, is_held, no_fields, fields_for, from_first, other_in}
use Rattle.gather.specs.Inner.Stamps.{next_after}
use Rattle.gather.specs.Inner.Cursors.{padded, cursor_in, places_at, StandIn}
use Rattle.gather.specs.Inner.Gathered.{fields_in, gathered_at, GatheredFrom, rows_in}
use Rattle.gather.proofs.UsedRows.{Told}
use Rattle.gather.proofs.UsedRows as used
use Rattle.gather.proofs.Places.{filled_from, filled_on, filled_end, filled_padded, HasAll, has_all_four, has_next, has_none, none_beside}
use Rattle.gather.proofs.OneRow.{gathered_held, gathered_not, cursor_behind}
use Rattle.gather.proofs.StampsInTurn.{next_is_above}
use Rattle.gather.proofs.Cursors.{cursors_first, cursors_up}
use Rattle.gather.proofs.NextStamps.{AllRegular, stamps_stamped, next_most, used_regular, next_none}
use Rattle.image_run.proofs.TablesWalked as walked_over

-- what is left of a run from a place on, as it is handed on
abbrev pub part_at : List ℕ → ℕ → List ℕ
part_at s at = take (length s - at) (drop at s)

-- the tables that are left
abbrev pub left : List ℕ → ℕ → List Table
left s at = tables_of valley (drop at s)

-- the tables of whole images are regular
pub all_regular : (s : List ℕ) → Images valley s → AllRegular (tables_of valley s)
all_regular s are T m = (table_facts valley T ((laid_images_lem valley s (tables_of valley s) are).1 T m)).0

pub part_bytes : (s : List ℕ) → AllBytes s → (at : ℕ) → AllBytes (part_at s at)
part_bytes s bytes at = rw (rest_of s at) (all_drop at s bytes)

pub image_part : (s : List ℕ) (at : ℕ) → at < length s → Images valley (drop at s) → BeginsWithImage valley (part_at s at)
image_part s at more are = rw (rest_of s at) (turn s at more are).has_image

-- ---- the next image of a walk

module _ (newest stamp : ℕ) (s left : List ℕ) (n : NextImage s left) where
  length_told : image_length format_one (table_at format_one s) ≡ (header_at s).length
  length_told = sym (ap (λ (x : Header). x.length) (parsed format_one valley s (table_at format_one s) valley_sound n.has_image).header)

  behind : drop (image_length format_one (table_at format_one s)) s ≡ left
  behind = ap (λ k. drop k s) length_told ∙ sym n.behind

  pub other_on : (x : Body) → any (other_in newest stamp x) (tables_of valley s) ≡ either (other_in newest stamp x (table_at format_one s)) (any (other_in newest stamp x) (tables_of valley left))
  unfolding any
  other_on x = ap (any (other_in newest stamp x)) n.tables

  pub first_is : is_held (place_in newest (table_at format_one s) stamp) ≡ true → s ≡ from_first newest stamp (tables_of valley s) s
  unfolding from_first
  first_is e = rw n.tables (rw e refl)

  pub first_next : is_held (place_in newest (table_at format_one s) stamp) ≡ false → from_first newest stamp (tables_of valley s) s ≡ from_first newest stamp (tables_of valley left) left
  unfolding from_first
  first_next e = rw n.tables (rw (e, behind) refl)

  pub fields_on : fields_in newest stamp (tables_of valley s) s ≡ fields_for s (place_in newest (table_at format_one s) stamp) ∷ fields_in newest stamp (tables_of valley left) left
  unfolding fields_in
  fields_on = rw n.tables (rw behind refl)

  -- a table that does not hold the stamp adds nothing to its rows
  pub rows_next : AllBytes s → is_held (place_in newest (table_at format_one s) stamp) ≡ false → rows_of (used_of newest (tables_of valley s)) stamp ≡ rows_of (used_of newest (tables_of valley left)) stamp
  rows_next bytes e = rw n.tables (go (used.told newest stamp s bytes n.has_image (tables_of valley left)))
    where
      go : Told newest stamp s bytes n.has_image (tables_of valley left) → rows_of (used_of newest (table_at format_one s ∷ tables_of valley left)) stamp ≡ rows_of (used_of newest (tables_of valley left)) stamp
      go (inl (i, w)) = impossible (rw w.place refl) e
      go (inr (i, w)) = w.rows

  pub bytes_left : AllBytes s → AllBytes left
  bytes_left bytes = rw n.behind (all_drop (header_at s).length s bytes)

-- ---- how far a walk has come

-- what is left of a run is a part of it, to its end
pub record PartOf (run rest : List ℕ) : Type 0 where
  pub at : ℕ
  pub within : at ≤ length run
  pub is : rest ≡ drop at run

pub part_on : (run s left : List ℕ) → NextImage s left → PartOf run s → PartOf run left
part_on run s left n part =
    let l = part.within in
    let w = n.within in
    let e = ap length part.is ∙ length-drop part.at run in
    record { at = part.at + (header_at s).length; within = omega arith; is = n.behind ∙ ap (drop (header_at s).length) part.is ∙ drop-drop (header_at s).length part.at run }

-- it begins where as many bytes are left
pub part_begins : (run rest : List ℕ) → PartOf run rest → (length rest ≤ length run) × (drop (length run - length rest) run ≡ rest)
part_begins run rest part =
    let l = part.within in
    let e = ap length part.is ∙ length-drop part.at run in
    let k : length run - length rest ≡ part.at = omega arith in
    (omega arith, rw k (sym part.is))

-- no table that was passed holds the stamp
pub record NotYet (newest stamp : ℕ) (run rest : List ℕ) (rows : List RowFields) : Type 0 where
  pub bytes : AllBytes rest
  pub part : PartOf run rest
  pub first : from_first newest stamp (tables_of valley rest) rest ≡ from_first newest stamp (tables_of valley run) run
  pub some : 0 < length (rows_of (used_of newest (tables_of valley rest)) stamp)
  pub beside : HasAll no_fields rows (fields_in newest stamp (tables_of valley rest) rest)

-- no table that was passed holds the stamp with another body
pub record NoOther (newest stamp : ℕ) (x : Body) (run rest : List ℕ) (rows : List RowFields) : Type 0 where
  pub bytes : AllBytes rest
  pub other : any (other_in newest stamp x) (tables_of valley rest) ≡ any (other_in newest stamp x) (tables_of valley run)
  pub beside : HasAll no_fields rows (fields_in newest stamp (tables_of valley rest) rest)

-- the tables that were passed are gathered: k of them
pub record GatheredTo (newest stamp : ℕ) (run rest places : List ℕ) (k : ℕ) (rows : List RowFields) (behind : List ℕ) : Type 0 where
  pub bytes : AllBytes rest
  pub few : k + length (tables_of valley rest) ≤ 4
  pub cursors : HasAll 0 places (map (cursor_in newest stamp) (tables_of valley rest))
  pub filled : filled_from k rows (fields_in newest stamp (tables_of valley rest) rest) ≡ padded 4 no_fields (fields_in newest stamp (tables_of valley run) run)
  pub placed : filled_from k behind (map (cursor_in newest (stamp + 1)) (tables_of valley rest)) ≡ places_at newest (stamp + 1) (tables_of valley run)
  pub four_rows : length rows ≡ 4
  pub four_places : length behind ≡ 4

module _ (newest stamp : ℕ) (s left : List ℕ) (n : NextImage s left) (rows others : List RowFields) (row : RowFields) (p : rows ≡ row ∷ others) where
  -- the row beside an image is the one that was gathered from it
  pub row_beside : HasAll no_fields rows (fields_in newest stamp (tables_of valley s) s) → (row ≡ fields_for s (place_in newest (table_at format_one s) stamp)) × HasAll no_fields others (fields_in newest stamp (tables_of valley left) left)
  row_beside h = has_next no_fields row _ others _ (rw (p, fields_on newest stamp s left n) at h)

  pub row_here : HasAll no_fields rows (fields_in newest stamp (tables_of valley s) s) → row ≡ fields_for s (place_in newest (table_at format_one s) stamp)
  row_here h = (row_beside h).0

  pub held_first : (run : List ℕ) → NotYet newest stamp run s rows → (row.stamp ≡ 0 → ⊥) → s ≡ from_first newest stamp (tables_of valley run) run
  held_first run yet d = first_is newest stamp s left n (gathered_held s newest stamp yet.bytes n.has_image row (row_here yet.beside) d) ∙ yet.first

  pub still_not : (run : List ℕ) → NotYet newest stamp run s rows → row.stamp ≡ 0 → NotYet newest stamp run left others
  still_not run yet z =
      let d = gathered_not s newest stamp yet.bytes n.has_image row (row_here yet.beside) z in
      record {
        bytes = bytes_left newest stamp s left n yet.bytes;
        part = part_on run s left n yet.part;
        first = sym (first_next newest stamp s left n d) ∙ yet.first;
        some = rw (rows_next newest stamp s left n yet.bytes d) at yet.some;
        beside = (row_beside yet.beside).1;
      }

  pub still_none : (run : List ℕ) (x : Body) → NoOther newest stamp x run s rows → other_in newest stamp x (table_at format_one s) ≡ false → NoOther newest stamp x run left others
  unfolding either
  still_none run x none d = record { bytes = bytes_left newest stamp s left n none.bytes; other = sym (other_on newest stamp s left n x ∙ rw d refl) ∙ none.other; beside = (row_beside none.beside).1 }

  pub one_other : (run : List ℕ) (x : Body) → NoOther newest stamp x run s rows → other_in newest stamp x (table_at format_one s) ≡ true → true ≡ any (other_in newest stamp x) (tables_of valley run)
  unfolding either
  one_other run x none d = sym (other_on newest stamp s left n x ∙ rw d refl) ∙ none.other

module _ (newest stamp : ℕ) (run s left : List ℕ) (n : NextImage s left) (places others : List ℕ) (place : ℕ) (p : places ≡ place ∷ others) (k : ℕ) (rows : List RowFields) (behind : List ℕ) (to : GatheredTo newest stamp run s places k rows behind) where
  pub cursors_on : (place ≡ cursor_in newest stamp (table_at format_one s)) × HasAll 0 others (map (cursor_in newest stamp) (tables_of valley left))
  cursors_on = has_next 0 place _ others _ (rw (p, n.tables) at to.cursors)

  pub cursor_here : place ≡ cursor_in newest stamp (table_at format_one s)
  cursor_here = cursors_on.0

  pub one_gathered : (row : RowFields) (index : ℕ) → row ≡ fields_for s (place_in newest (table_at format_one s) stamp) → index ≡ cond (eqb row.stamp 0) place (place + 1) → GatheredTo newest stamp run left others (k + 1) (set rows k row) (set behind k index)
  one_gathered row index told placed =
      let i : index ≡ cursor_in newest (stamp + 1) (table_at format_one s) = placed ∙ cursor_behind s newest stamp to.bytes n.has_image row told place cursor_here in
      let l = to.few in
      let e = ap length n.tables in
      record {
        bytes = bytes_left newest stamp s left n to.bytes;
        few = omega arith;
        cursors = cursors_on.1;
        filled = rw told (sym (ap (filled_from k rows) (fields_on newest stamp s left n) ∙ filled_on k rows _ _)) ∙ to.filled;
        placed = rw i (sym (ap (λ (Ts : List Table). filled_from k behind (map (cursor_in newest (stamp + 1)) Ts)) n.tables ∙ filled_on k behind _ _)) ∙ to.placed;
        four_rows = length-set rows k row ∙ to.four_rows;
        four_places = length-set behind k index ∙ to.four_places;
      }

-- ---- at the end of a run

module _ (newest stamp : ℕ) (s : List ℕ) (at : ℕ) (over : length s ≤ at) where
  pub rows_end : (rows : List RowFields) (k : ℕ) → filled_from k rows (fields_in newest stamp (left s at) (drop at s)) ≡ rows
  unfolding fields_in
  rows_end rows k = rw (walked valley s at over) (filled_end k rows)

  pub places_end : (places : List ℕ) (k x : ℕ) → filled_from k places (map (cursor_in newest x) (left s at)) ≡ places
  places_end places k x = rw (walked valley s at over) (filled_end k places)

  pub none_left : rows_of (used_of newest (left s at)) stamp ≡ []
  unfolding those rows_of all_of
  none_left = rw (walked valley s at over) refl

  pub first_end : from_first newest stamp (left s at) (drop at s) ≡ drop at s
  unfolding from_first
  first_end = rw (walked valley s at over) refl

  pub next_over : (next : ℕ) → next ≤ 2 ^ 48 → min next (next_after stamp (stamps (used_of newest (left s at)))) ≡ next
  unfolding those stamps
  next_over next l = rw (walked valley s at over, next_none stamp) (omega arith)

-- before the first turn nothing above all stamps is in the way
pub next_start : (newest last : ℕ) (s : List ℕ) → Images valley s → min (2 ^ 48) (next_after last (stamps (used_of newest (tables_of valley s)))) ≡ next_after last (stamps (used_of newest (tables_of valley s)))
next_start newest last s are =
    let l = next_most last (stamps (used_of newest (tables_of valley s))) (stamps_stamped (used_of newest (tables_of valley s)) (used_regular newest (tables_of valley s) (all_regular s are))) in
    omega arith

-- ---- before the first turn

module _ (run : List ℕ) (few : length (tables_of valley run) ≤ 4) where
  pub cursors_all : (c : Cursors) → StandIn run c → HasAll 0 c.places (map (cursor_in c.newest (c.last + 1)) (tables_of valley run))
  cursors_all c stand =
      let n = length-map (tables_of valley run) (cursor_in c.newest (c.last + 1)) in
      has_all_four 0 c.places (map (cursor_in c.newest (c.last + 1)) (tables_of valley run)) (ap (λ (x : Cursors). x.places) stand) (omega arith)

  -- at the next stamp
  pub cursors_next : Images valley run → (c : Cursors) → StandIn run c → (stamp : ℕ) → stamp ≡ next_after c.last (stamps (used_of c.newest (tables_of valley run))) → stamp < 2 ^ 48 → HasAll 0 c.places (map (cursor_in c.newest stamp) (tables_of valley run)) × (0 < stamp)
  cursors_next are c stand stamp e l =
      let up : c.last < stamp = rw e (next_is_above c.last (stamps (used_of c.newest (tables_of valley run))) (rw e at l)) in
      (rw (cursors_up c.newest c.last stamp up (tables_of valley run) (all_regular run are) (omega (arith, e))) at (cursors_all c stand), omega arith)

  fields_length : (newest stamp : ℕ) (Ts : List Table) (s : List ℕ) → length (fields_in newest stamp Ts s) ≡ length Ts
  unfolding fields_in
  fields_length newest stamp [] s = refl
  fields_length newest stamp (T ∷ Ts) s = ap suc (fields_length newest stamp Ts (drop (image_length format_one T) s))

  pub rows_all : (g : Gathered) → GatheredFrom run g → HasAll no_fields g.rows (fields_in g.cursors.newest g.cursors.last (tables_of valley run) run)
  rows_all g from =
      let n = fields_length g.cursors.newest g.cursors.last (tables_of valley run) run in
      has_all_four no_fields g.rows (fields_in g.cursors.newest g.cursors.last (tables_of valley run) run) (ap (λ (x : Gathered). x.rows) from) (omega arith)

  pub filling_rows : (newest stamp : ℕ) → filled_from 0 (replicate 4 no_fields) (fields_in newest stamp (tables_of valley run) run) ≡ padded 4 no_fields (fields_in newest stamp (tables_of valley run) run)
  filling_rows newest stamp =
      let n = fields_length newest stamp (tables_of valley run) run in
      filled_padded no_fields (fields_in newest stamp (tables_of valley run) run) (omega arith)

  pub filling_places : (newest s : ℕ) → filled_from 0 (replicate 4 0) (map (cursor_in newest s) (tables_of valley run)) ≡ places_at newest s (tables_of valley run)
  filling_places newest s =
      let n = length-map (tables_of valley run) (cursor_in newest s) in
      filled_padded 0 (map (cursor_in newest s) (tables_of valley run)) (omega arith)

pub few_left : (k images places : ℕ) → k + images ≤ 4 → k + min images places < 2 ^ 64
few_left k images places l = omega arith

-- ---- the walks begin

module _ (run : List ℕ) (few : length (tables_of valley run) ≤ 4) (bytes : AllBytes run) where
  pub none_gathered : Images valley run → (c : Cursors) → StandIn run c → (stamp : ℕ) → stamp ≡ next_after c.last (stamps (used_of c.newest (tables_of valley run))) → stamp < 2 ^ 48 → (rest places : List ℕ) → rest ≡ run → places ≡ c.places → (k : ℕ) → k ≡ 0 → GatheredTo c.newest stamp run rest places k (replicate 4 no_fields) (replicate 4 0)
  none_gathered are c stand stamp e l rest places r p k z =
      rw (r, p, z) (record {
        bytes = bytes;
        few = omega arith;
        cursors = (cursors_next run few are c stand stamp e l).0;
        filled = filling_rows run few c.newest stamp;
        placed = filling_places run few c.newest (stamp + 1);
        four_rows = refl;
        four_places = refl;
      })

  module _ (g : Gathered) (from : GatheredFrom run g) (rest : List ℕ) (rows : List RowFields) (r : rest ≡ run) (p : rows ≡ g.rows) where
    pub none_yet : 0 < length (rows_in run g) → NotYet g.cursors.newest g.cursors.last run rest rows
    none_yet some = rw (r, p) (record { bytes = bytes; part = record { at = 0; within = omega arith; is = refl }; first = refl; some = some; beside = rows_all run few g from })

    pub none_other : (x : Body) → NoOther g.cursors.newest g.cursors.last x run rest rows
    none_other x = rw (r, p) (record { bytes = bytes; other = refl; beside = rows_all run few g from })

-- ---- and end, with the images or with the array beside them

pub all_gathered : (newest stamp : ℕ) (run rest places : List ℕ) (k : ℕ) (rows : List RowFields) (behind : List ℕ) → GatheredTo newest stamp run rest places k rows behind → (rest ≡ []) ⊎ (length places ≡ 0) → (rows ≡ padded 4 no_fields (fields_in newest stamp (tables_of valley run) run)) × (behind ≡ places_at newest (stamp + 1) (tables_of valley run))
unfolding fields_in
all_gathered newest stamp run rest places k rows behind to over =
    let e : tables_of valley rest ≡ [] = none_beside 0 places (cursor_in newest stamp) rest to.cursors over in
    (sym (rw e (filled_end k rows)) ∙ to.filled, sym (rw e (filled_end k behind)) ∙ to.placed)

no_row_beside : (newest stamp : ℕ) (rest : List ℕ) (rows : List RowFields) → HasAll no_fields rows (fields_in newest stamp (tables_of valley rest) rest) → (rest ≡ []) ⊎ (length rows ≡ 0) → tables_of valley rest ≡ []
unfolding fields_in
no_row_beside newest stamp rest rows h (inl e) = walked_over.none_left rest e
no_row_beside newest stamp rest rows h (inr e) = go (tables_of valley rest) (has_none no_fields rows _ e h)
  where
    go : (Ts : List Table) → fields_in newest stamp Ts rest ≡ [] → Ts ≡ []
    go [] q = refl
    go (T ∷ Ts) q = absurd cc

-- one table holds the stamp, so it is found
pub one_is_held : (newest stamp : ℕ) (run rest : List ℕ) (rows : List RowFields) → NotYet newest stamp run rest rows → (rest ≡ []) ⊎ (length rows ≡ 0) → ⊥
unfolding those rows_of all_of
one_is_held newest stamp run rest rows yet over =
    let e : tables_of valley rest ≡ [] = no_row_beside newest stamp rest rows yet.beside over in
    let l : 0 < length (rows_of (used_of newest []) stamp) = rw e at yet.some in
    absurd (omega arith)

pub no_other_left : (newest stamp : ℕ) (x : Body) (run rest : List ℕ) (rows : List RowFields) → NoOther newest stamp x run rest rows → (rest ≡ []) ⊎ (length rows ≡ 0) → false ≡ any (other_in newest stamp x) (tables_of valley run)
unfolding any
no_other_left newest stamp x run rest rows none over = sym (ap (any (other_in newest stamp x)) (no_row_beside newest stamp rest rows none.beside over)) ∙ none.other

-- ---- from stamp to stamp

pub start_stands : (run : List ℕ) → Images valley run → (newest : ℕ) (c : Cursors) → c ≡ record { newest = newest; last = 0; places = replicate 4 0 } → StandIn run c × (c.newest ≡ newest) × (c.last ≡ 0)
start_stands run are newest c e = rw e (ap (λ (z : List ℕ). record { newest = newest; last = 0; places = z }) (cursors_first newest 4 (tables_of valley run) (all_regular run are)), refl, refl)

module _ (run : List ℕ) (newest stamp : ℕ) (g : Gathered) (is : g ≡ gathered_at newest stamp (tables_of valley run) run) where
  pub gathered_from : GatheredFrom run g
  gathered_from = rw is refl

  pub behind_stands : StandIn run g.cursors × (g.cursors.newest ≡ newest) × (g.cursors.last ≡ stamp)
  behind_stands = rw is (refl, refl, refl)

  pub rows_are : rows_in run g ≡ rows_of (used_of newest (tables_of valley run)) stamp
  rows_are = rw is refl

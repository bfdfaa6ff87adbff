-- What a message finds, by what the header says and where its stamp stands.
use mathlib.Core.Path.{◌≡◌, refl, sym, ap, ◌∙◌}
use mathlib.Core.Bool.{Bool, true, false, not, cond}
use mathlib.Core.List.{List}
use mathlib.Core.Logic.{◌⊎◌, inl, inr}
use mathlib.Core.Option.{none, some}
use Prim.Native.Nat.{ℕ, ◌+◌, ◌-◌, ◌*◌, ◌/◌, ◌≤◌}
use native.Mathlib.Nat.{div-le_self}
use native.Mathlib.Omega.{arith}
use lib.Dec.{eqb, ltb}
use lib.ListN.{length}
use borrow.Author.Tests.{eq-eqb, eqb-true, ne_eqb, le-ltb}
use Rattle.wire.specs.Inner.ByteLists.{AllBytes}
use Rattle.rules.specs.Groups.{f_of, quorum}
use Rattle.rules.specs.Tables.{Row, Model, valley, rising}
use Rattle.rules.specs.Circumstances.{keeps_room, is_changing, for_other_view, held_with_other_body, new_but_full}
use Rattle.rules.specs.Tests.{both}
use Rattle.rules.specs.Stamps.{Body, same_body}
use Rattle.rules.specs.Messages.{held}
use Rattle.rules.proofs.Logic.{cases, impossible, both_left, both_right, both_true}
use Rattle.rules.proofs.Same.{same_body_lem}
use Rattle.rows.specs.declared.lookup.Place.{Place}
use Rattle.rows.specs.declared.lookup.Place.TheVariants.{Held, Absent}
use Rattle.rows.specs.declared.row.RowFields.{RowFields}
use Rattle.rows.specs.Fields.{fields_at}
use Rattle.rows.proofs.Sought.{absent_none}
use Rattle.rows.proofs.Bodies.{length-accesses_at}
use Rattle.rows.proofs.Turns.{length_body_part}
use Rattle.rows.specs.Halving.{steps}
use Rattle.rows.specs.Inner.Places.{place_of}
use Rattle.rows.specs.Read.{rows_at, begins, body_at, row_of}
use Rattle.rows.specs.Inner.Rows.{RowsInside, BodyInside, body_part}
use Rattle.table.specs.declared.header.Header.{Header}
use Rattle.table.specs.Headers.{header_at}
use Rattle.table.specs.Images.{format_one}
use Rattle.table.specs.Parse.{table_at, BeginsWithImage}
use Rattle.table.proofs.Images.{Sound, Parsed, parsed, valley_sound}
use Rattle.edit.proofs.Holding.{one_starts, holds_rows, holds_rows_at, holds_row_inside}
use Rattle.seek.specs.Inner.Limits.{limited}
use Rattle.std.specs.Prelude.{Result, Ok, Err}
use Rattle.numbers.specs.declared.Refusal.{Refusal}
use Rattle.numbers.specs.declared.Refusal.TheVariants.{Changing, OtherBody, OtherView}
use Rattle.seek.specs.Inner.Compared.{compared_to_finalise, compared_to_propose}
use Rattle.seek.specs.Inner.Findings.{in_view, row_or_unknown, new_or_full, to_finalise, to_propose, RowInside, needed_body, NeededInside, other_counts}
use Rattle.seek.proofs.HeldRows.{held_here, index_here, image_holds}
use Rattle.seek.proofs.BodiesAlike.{bodies_alike, same_begins}

not-false : (b : Bool) → not b ≡ false → b ≡ true
not-false true h = refl
not-false false h = impossible refl h

not-true : (b : Bool) → (b ≡ true → ⊥) → b ≡ false
not-true true n = absurd (n refl)
not-true false n = refl

-- ---- the header's words

module _ (s : List ℕ) where
  pub said_changing : (header_at s).mode ≡ 1 → is_changing (table_at format_one s) ≡ true
  unfolding is_changing table_at
  said_changing e = eq-eqb _ _ e

  pub said_normal : ((header_at s).mode ≡ 1 → ⊥) → is_changing (table_at format_one s) ≡ false
  unfolding is_changing table_at
  said_normal n = ne_eqb _ _ n

  pub said_other_view : (v : ℕ) → (v ≡ (header_at s).view → ⊥) → for_other_view (table_at format_one s) v ≡ true
  unfolding for_other_view table_at
  said_other_view v n = rw (ne_eqb _ _ n)

  pub said_view : (v : ℕ) → v ≡ (header_at s).view → for_other_view (table_at format_one s) v ≡ false
  unfolding for_other_view table_at
  said_view v e = rw (eq-eqb _ _ e)

  -- what a reader of the header tells of the mode is told of the table
  pub mode_told : (h : Header) (told b : Bool) → h ≡ header_at s → told ≡ eqb h.mode 1 → told ≡ b → is_changing (table_at format_one s) ≡ b
  unfolding is_changing table_at
  mode_told h told b e t same = sym (rw e at t) ∙ same

-- ---- rows that can be walked

module _ (M : Model) (s : List ℕ) (sound : Sound format_one M) (has_image : BeginsWithImage M s) where
  read_off : Parsed format_one s (table_at format_one s)
  read_off = parsed format_one M s (table_at format_one s) sound has_image

  pub rows_inside : RowsInside s 24 (header_at s).rows
  rows_inside = rw (holds_rows format_one s) at read_off.inside

  pub rows_rise : rising 0 (rows_at s 24 (header_at s).rows) ≡ true
  rows_rise = rw (holds_rows_at format_one s) at read_off.rise

  pub can_be_sought : (24 + 24 * (header_at s).rows ≤ length s) × (rising 0 (rows_at s 24 (header_at s).rows) ≡ true)
  can_be_sought = (rows_inside.0, rows_rise)

-- where a search has found a stamp, and how many rows it has compared
abbrev pub Sought : List ℕ → ℕ → Place → ℕ → Type 0
Sought s stamp place n = (place ≡ place_of (table_at format_one s).rows stamp) × (n ≡ steps (table_at format_one s).rows stamp)

-- ---- messages 2 and 4

-- what is found, and how many rows are compared for it
abbrev pub Finalises : List ℕ → ℕ → ℕ → Result ℕ Refusal → ℕ → Type 0
Finalises s stamp v found n = (found ≡ to_finalise (table_at format_one s) stamp v) × (n ≡ compared_to_finalise (table_at format_one s) stamp v)

-- where a test or two come first: what they refuse is refused with no row compared, or nothing is refused by them
refused_first : (a b : Bool) (r : Refusal) (sought : Result ℕ Refusal) (n : ℕ) → ◌≡◌ {A = Result (Unit {0}) Refusal} (Err r) (cond a (Err Changing) (cond b (Err OtherView) (Ok tt))) →
    (Err r ≡ cond a (Err Changing) (cond b (Err OtherView) sought)) × (0 ≡ cond a 0 (cond b 0 n))
refused_first true b r sought n e = let same : r ≡ Changing = cc in (ap Err same, refl)
refused_first false true r sought n e = let same : r ≡ OtherView = cc in (ap Err same, refl)
refused_first false false r sought n e = cc

neither_first : (a b : Bool) (done : Unit {0}) → Ok done ≡ cond a (Err Changing) (cond b (Err OtherView) (Ok tt)) → (a ≡ false) × (b ≡ false)
neither_first true b done e = cc
neither_first false true done e = cc
neither_first false false done e = (refl, refl)

module _ (s : List ℕ) (stamp v : ℕ) (h : Header) (is : h ≡ header_at s) where
  pub finalise_refused : (r : Refusal) → Err r ≡ in_view h v → Finalises s stamp v (Err r) 0
  unfolding to_finalise compared_to_finalise is_changing for_other_view table_at
  finalise_refused r e = refused_first _ _ r _ _ (rw is at e)

  pub finalise_sought : (done : Unit {0}) → Ok done ≡ in_view h v → (place : Place) (n : ℕ) → Sought s stamp place n → Finalises s stamp v (row_or_unknown place) n
  unfolding to_finalise compared_to_finalise is_changing for_other_view table_at
  finalise_sought done t place n (e, f) =
      let (normal, same) = neither_first _ _ done (rw is at t) in
      rw (normal, same) (ap row_or_unknown e, f)

-- ---- messages 1 and 3

-- the rows added, against a share of the rows that were left
pub room_is : (limit : ℕ) (h : Header) → ltb (h.rows - h.start) ((limit - h.start) / quorum (f_of h.n)) ≡ keeps_room limit (f_of h.n) h.start h.rows
unfolding keeps_room
room_is limit h = refl

-- nothing was left, so there is no share
pub no_room : (limit : ℕ) (h : Header) → limit ≤ h.start → false ≡ keeps_room limit (f_of h.n) h.start h.rows
unfolding keeps_room
no_room limit h l =
    let d = div-le_self (limit - h.start) (f_of h.n + 1) in
    sym (le-ltb (h.rows - h.start) ((limit - h.start) / (f_of h.n + 1)) (omega arith))

abbrev pub Proposes : List ℕ → ℕ → ℕ → Body → Result Place Refusal → ℕ → Type 0
Proposes s stamp limit x found n = (found ≡ to_propose (limited limit) (table_at format_one s) stamp x) × (n ≡ compared_to_propose (table_at format_one s) stamp)

module _ (s : List ℕ) (stamp limit : ℕ) (x : Body) where
  pub propose_changing : is_changing (table_at format_one s) ≡ true → Proposes s stamp limit x (Err Changing) 0
  unfolding to_propose compared_to_propose
  propose_changing e = rw e (refl, refl)

  module _ (normal : is_changing (table_at format_one s) ≡ false) (place : Place) (n : ℕ) (found : Sought s stamp place n) where
    compares : n ≡ compared_to_propose (table_at format_one s) stamp
    unfolding compared_to_propose
    compares = rw (normal) found.1

    pub propose_other : held_with_other_body (table_at format_one s) stamp x ≡ true → Proposes s stamp limit x (Err OtherBody) n
    unfolding to_propose
    propose_other other = (rw (normal, other), compares)

    pub propose_held : (r : Row) → held (table_at format_one s).rows stamp ≡ some r → held_with_other_body (table_at format_one s) stamp x ≡ false → Proposes s stamp limit x (Ok place) n
    unfolding to_propose new_but_full both
    propose_held r there same = (rw (normal, same, there) (ap Ok found.0), compares)

    module _ (i : ℕ) (nowhere : place ≡ Absent i) where
      absent : held (table_at format_one s).rows stamp ≡ none
      absent = absent_none (table_at format_one s).rows stamp i (sym found.0 ∙ nowhere)

      not_other : held_with_other_body (table_at format_one s) stamp x ≡ false
      unfolding held_with_other_body
      not_other = rw absent

      room_told : keeps_room limit (f_of (header_at s).n) (header_at s).start (header_at s).rows ≡ keeps_room limit (f_of (table_at format_one s).n) (table_at format_one s).start (length (table_at format_one s).rows)
      unfolding table_at
      room_told = ap (keeps_room limit (f_of (header_at s).n) (header_at s).start) (sym (holds_rows format_one s))

      pub propose_new : Proposes s stamp limit x (new_or_full (keeps_room limit (f_of (header_at s).n) (header_at s).start (header_at s).rows) place) n
      unfolding to_propose new_but_full both
      propose_new = (go (cases (keeps_room limit (f_of (header_at s).n) (header_at s).start (header_at s).rows)), compares)
        where
          room : Bool
          room = keeps_room limit (f_of (header_at s).n) (header_at s).start (header_at s).rows

          go : (room ≡ true) ⊎ (room ≡ false) → new_or_full room place ≡ to_propose (limited limit) (table_at format_one s) stamp x
          go (inl h) = let e = sym room_told ∙ h in rw (normal, not_other, absent, e, sym found.0 ∙ nowhere, h, nowhere)
          go (inr h) = let e = sym room_told ∙ h in rw (normal, not_other, absent, e, h, nowhere)

-- the row that is held has another body, or not
module _ (s m : List ℕ) (i : ℕ) (g : RowFields) (bytes : AllBytes s) (given : AllBytes m) (has_image : BeginsWithImage valley s) (place : place_of (table_at format_one s).rows g.stamp ≡ Held i) (inside : BodyInside m g) where
  abbrev f : RowFields
  f = fields_at s (24 + 24 * i)

  other_is : held_with_other_body (table_at format_one s) g.stamp (body_at m g.offset g.reads g.writes) ≡ not (same_body (body_at m g.offset g.reads g.writes) (body_at s f.offset f.reads f.writes))
  unfolding held_with_other_body row_of
  other_is = rw (held_here valley s g.stamp i bytes has_image place)

  pub body_inside_here : BodyInside s (fields_at s (24 + 24 * i))
  body_inside_here = (rows_inside valley s valley_sound has_image).1 i (index_here valley s g.stamp i bytes has_image place)

  pub same_counts : (fields_at s (24 + 24 * i)).reads ≡ g.reads → (fields_at s (24 + 24 * i)).writes ≡ g.writes →
      held_with_other_body (table_at format_one s) g.stamp (body_at m g.offset g.reads g.writes) ≡ not (begins (body_part s (fields_at s (24 + 24 * i))) (body_part m g))
  same_counts r w = other_is ∙ rw (bodies_alike s m f g bytes given body_inside_here inside r w)

  other_counts_lem : (same_body (body_at m g.offset g.reads g.writes) (body_at s f.offset f.reads f.writes) ≡ true → ⊥) → held_with_other_body (table_at format_one s) g.stamp (body_at m g.offset g.reads g.writes) ≡ true
  other_counts_lem n = other_is ∙ rw (not-true _ n)

  pub other_reads : ((fields_at s (24 + 24 * i)).reads ≡ g.reads → ⊥) → held_with_other_body (table_at format_one s) g.stamp (body_at m g.offset g.reads g.writes) ≡ true
  unfolding body_at
  other_reads n = other_counts_lem (λ e. n (sym (sym (length-accesses_at m g.offset g.reads) ∙ ap (λ (b : Body). length b.reads) (same_body_lem _ _ e) ∙ length-accesses_at s f.offset f.reads)))

  pub other_writes : ((fields_at s (24 + 24 * i)).writes ≡ g.writes → ⊥) → held_with_other_body (table_at format_one s) g.stamp (body_at m g.offset g.reads g.writes) ≡ true
  unfolding body_at
  other_writes n = other_counts_lem (λ e. n (sym (sym (length-accesses_at m _ g.writes) ∙ ap (λ (b : Body). length b.writes) (same_body_lem _ _ e) ∙ length-accesses_at s _ f.writes)))

-- ---- the same, of any place that was found

module _ (s m : List ℕ) (g : RowFields) (bytes : AllBytes s) (given : AllBytes m) (has_image : BeginsWithImage valley s) (inside : BodyInside m g) where
  abbrev other : Bool
  other = held_with_other_body (table_at format_one s) g.stamp (body_at m g.offset g.reads g.writes)

  pub needed_inside : (place : Place) → place ≡ place_of (table_at format_one s).rows g.stamp → NeededInside s m g place
  needed_inside (Held i) e = (holds_row_inside format_one s i one_starts (image_holds valley s has_image) (index_here valley s g.stamp i bytes has_image (sym e)), body_inside_here s m i g bytes given has_image (sym e) inside)
  needed_inside (Absent i) e = inside

  pub row_inside : (place : Place) → place ≡ place_of (table_at format_one s).rows g.stamp → RowInside s place
  row_inside (Held i) e = (needed_inside (Held i) e).0
  row_inside (Absent i) e = tt

  pub counts_differ : (place : Place) → place ≡ place_of (table_at format_one s).rows g.stamp → other_counts s g place ≡ true → true ≡ held_with_other_body (table_at format_one s) g.stamp (body_at m g.offset g.reads g.writes)
  counts_differ (Absent i) e h = impossible h refl
  counts_differ (Held i) e h = go (cases (eqb (fields_at s (24 + 24 * i)).reads g.reads)) (cases (eqb (fields_at s (24 + 24 * i)).writes g.writes))
    where
      go : (eqb (fields_at s (24 + 24 * i)).reads g.reads ≡ true) ⊎ (eqb (fields_at s (24 + 24 * i)).reads g.reads ≡ false) → (eqb (fields_at s (24 + 24 * i)).writes g.writes ≡ true) ⊎ (eqb (fields_at s (24 + 24 * i)).writes g.writes ≡ false) → true ≡ other
      go (inr r) w = sym (other_reads s m i g bytes given has_image (sym e) inside (λ same. impossible (eq-eqb _ _ same) r))
      go (inl r) (inr w) = sym (other_writes s m i g bytes given has_image (sym e) inside (λ same. impossible (eq-eqb _ _ same) w))
      go (inl r) (inl w) = impossible h (ap not (both_true r w))

  module _ (same : other_counts s g (place_of (table_at format_one s).rows g.stamp) ≡ false) where
    held_counts : (i : ℕ) → place_of (table_at format_one s).rows g.stamp ≡ Held i → ((fields_at s (24 + 24 * i)).reads ≡ g.reads) × ((fields_at s (24 + 24 * i)).writes ≡ g.writes)
    held_counts i e =
        let both-same = not-false _ (rw e at same) in
        (eqb-true _ _ (both_left _ _ both-same), eqb-true _ _ (both_right _ _ both-same))

    pub needed_length : (place : Place) → place ≡ place_of (table_at format_one s).rows g.stamp → length (needed_body s m g place) ≡ length (body_part m g)
    needed_length (Absent i) e = refl
    needed_length (Held i) e =
        let (r, w) = held_counts i (sym e) in
        length_body_part s _ (needed_inside (Held i) e).1 ∙ rw (r, w) (sym (length_body_part m g inside))

    pub bytes_tell : (place : Place) → place ≡ place_of (table_at format_one s).rows g.stamp → not (begins (needed_body s m g place) (body_part m g)) ≡ held_with_other_body (table_at format_one s) g.stamp (body_at m g.offset g.reads g.writes)
    unfolding held_with_other_body
    bytes_tell (Held i) e = let (r, w) = held_counts i (sym e) in sym (same_counts s m i g bytes given has_image (sym e) inside r w)
    bytes_tell (Absent i) e = rw (absent_none (table_at format_one s).rows g.stamp i (sym e), same_begins (body_part m g) (body_part m g) refl)

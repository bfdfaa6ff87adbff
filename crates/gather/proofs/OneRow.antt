-- A row that was gathered from one table, or zeros.
use mathlib.Core.Path.{◌≡◌, refl, sym, ap, ◌∙◌}
use mathlib.Core.Bool.{true, false, cond, not}
use mathlib.Core.Logic.{◌⊎◌, inl, inr}
use mathlib.Core.List.{List}
use mathlib.Core.Option.{none, some}
use Prim.Native.Nat.{ℕ, ◌+◌, ◌*◌, ◌<◌}
use native.Mathlib.Omega.{arith}
use lib.Dec.{eqb}
use lib.ListN.{length}
use borrow.Author.Tests.{ne_eqb}
use Rattle.wire.specs.Inner.ByteLists.{AllBytes}
use Rattle.rules.specs.Tests.{both, is_some}
use Rattle.rules.specs.Stamps.{Body, same_body}
use Rattle.rules.specs.Tables.{valley}
use Rattle.rules.specs.Circumstances.{held_with_other_body}
use Rattle.rules.specs.Messages.{held}
use Rattle.rules.proofs.Logic.{cases, so_neither}
use Rattle.rules.proofs.Same.{same_body_lem}
use Rattle.rules.proofs.Tables.{row_facts}
use Rattle.rows.specs.declared.row.RowFields.{RowFields}
use Rattle.rows.specs.declared.lookup.Place.{Place}
use Rattle.rows.specs.declared.lookup.Place.TheVariants.{Held, Absent}
use Rattle.rows.specs.Fields.{fields_at}
use Rattle.rows.specs.Inner.Places.{lower, place_of}
use Rattle.rows.specs.Inner.Rows.{BodyInside}
use Rattle.rows.specs.Read.{body_at, row_of}
use Rattle.rows.proofs.Bodies.{length-accesses_at}
use Rattle.rows.proofs.Sought.{absent_none}
use Rattle.table.specs.Images.{format_one}
use Rattle.table.specs.Parse.{table_at, BeginsWithImage}
use Rattle.seek.proofs.HeldRows.{held_here, by_rule_here, image_regular}
use Rattle.gather.specs.Inner.UsedTables.{place_in, is_held, no_fields, fields_for, other_in}
use Rattle.gather.specs.Inner.Cursors.{cursor_in}
use Rattle.gather.proofs.NextStamps.{stamp_range}
use Rattle.gather.proofs.UsedRows.{place_not, place_too}
use Rattle.gather.proofs.Cursors.{lower_behind, cursor_used, cursor_not}
use Rattle.gather.proofs.OneTable.{body_there}

-- ---- other counts make another body

module _ (s t : List ℕ) (f g : RowFields) where
  pub reads_differ : (f.reads ≡ g.reads → ⊥) → same_body (body_at t g.offset g.reads g.writes) (body_at s f.offset f.reads f.writes) ≡ false
  unfolding body_at
  reads_differ d = so_neither _ _ (λ h. absurd (d (sym (length-accesses_at s f.offset f.reads) ∙ sym (ap (λ (x : Body). length x.reads) (same_body_lem _ _ h)) ∙ length-accesses_at t g.offset g.reads))) refl

  pub writes_differ : (f.writes ≡ g.writes → ⊥) → same_body (body_at t g.offset g.reads g.writes) (body_at s f.offset f.reads f.writes) ≡ false
  unfolding body_at
  writes_differ d = so_neither _ _ (λ h. absurd (d (sym (length-accesses_at s _ f.writes) ∙ sym (ap (λ (x : Body). length x.writes) (same_body_lem _ _ h)) ∙ length-accesses_at t _ g.writes))) refl

-- ---- the row of one table

module _ (s : List ℕ) (newest stamp : ℕ) (bytes : AllBytes s) (has_image : BeginsWithImage valley s) (f : RowFields) (is : f ≡ fields_for s (place_in newest (table_at format_one s) stamp)) where
  -- the table is used and holds the stamp
  record There (i : ℕ) : Type 0 where
    used : eqb (table_at format_one s).view newest ≡ true
    place : place_in newest (table_at format_one s) stamp ≡ Held i
    fields : f ≡ fields_at s (24 + 24 * i)
    row : held (table_at format_one s).rows stamp ≡ some (row_of s (fields_at s (24 + 24 * i)))
    stamped : 0 < f.stamp

  -- or it does not
  record Nowhere (i : ℕ) : Type 0 where
    place : place_in newest (table_at format_one s) stamp ≡ Absent i
    fields : f ≡ no_fields
    without : (eqb (table_at format_one s).view newest ≡ false) ⊎ ((eqb (table_at format_one s).view newest ≡ true) × (held (table_at format_one s).rows stamp ≡ none))

  abbrev Found : Type 0
  Found = ((i : ℕ) × There i) ⊎ ((i : ℕ) × Nowhere i)

  is_there_lem : (i : ℕ) → eqb (table_at format_one s).view newest ≡ true → place_of (table_at format_one s).rows stamp ≡ Held i → There i
  unfolding row_of
  is_there_lem i e k =
      let p : place_in newest (table_at format_one s) stamp ≡ Held i = place_too newest stamp (table_at format_one s) e ∙ k in
      let g : f ≡ fields_at s (24 + 24 * i) = is ∙ ap (fields_for s) p in
      let l : 0 < (fields_at s (24 + 24 * i)).stamp = (stamp_range _ (row_facts _ (by_rule_here valley s stamp i bytes has_image k)).stamp).0 in
      record { used = e; place = p; fields = g; row = held_here valley s stamp i bytes has_image k; stamped = rw g l }

  found : Found
  found = go (cases (eqb (table_at format_one s).view newest)) (place_of (table_at format_one s).rows stamp) refl
    where
      go : (eqb (table_at format_one s).view newest ≡ true) ⊎ (eqb (table_at format_one s).view newest ≡ false) → (p : Place) → place_of (table_at format_one s).rows stamp ≡ p → Found
      go (inr e) p k = let q = place_not newest stamp (table_at format_one s) e in inr (0, record { place = q; fields = is ∙ ap (fields_for s) q; without = inl e })
      go (inl e) (Held i) k = inl (i, is_there_lem i e k)
      go (inl e) (Absent i) k = let q = place_too newest stamp (table_at format_one s) e ∙ k in inr (i, record { place = q; fields = is ∙ ap (fields_for s) q; without = inr (e, absent_none (table_at format_one s).rows stamp i k) })

  pub gathered_held : (f.stamp ≡ 0 → ⊥) → is_held (place_in newest (table_at format_one s) stamp) ≡ true
  gathered_held d = go found
    where
      go : Found → is_held (place_in newest (table_at format_one s) stamp) ≡ true
      go (inl (i, t)) = rw t.place refl
      go (inr (i, n)) = absurd (d (ap (λ (x : RowFields). x.stamp) n.fields))

  pub gathered_not : f.stamp ≡ 0 → is_held (place_in newest (table_at format_one s) stamp) ≡ false
  gathered_not z = go found
    where
      go : Found → is_held (place_in newest (table_at format_one s) stamp) ≡ false
      go (inl (i, t)) = let l = t.stamped in absurd (omega arith)
      go (inr (i, n)) = rw n.place refl

  pub gathered_body : (f.stamp ≡ 0 → ⊥) → BodyInside s f
  gathered_body d = go found
    where
      go : Found → BodyInside s f
      go (inl (i, t)) = rw t.fields (body_there s newest stamp i bytes has_image t.place)
      go (inr (i, n)) = absurd (d (ap (λ (x : RowFields). x.stamp) n.fields))

  -- the cursor goes on from a row that was gathered, and stays where there was none
  pub cursor_behind : (index : ℕ) → index ≡ cursor_in newest stamp (table_at format_one s) → cond (eqb f.stamp 0) index (index + 1) ≡ cursor_in newest (stamp + 1) (table_at format_one s)
  cursor_behind index e = go found
    where
      behind : lower (table_at format_one s).rows (stamp + 1) ≡ cond (is_some (held (table_at format_one s).rows stamp)) (lower (table_at format_one s).rows stamp + 1) (lower (table_at format_one s).rows stamp)
      behind = lower_behind stamp 0 (table_at format_one s).rows (image_regular valley s has_image).0.rise

      go : Found → cond (eqb f.stamp 0) index (index + 1) ≡ cursor_in newest (stamp + 1) (table_at format_one s)
      go (inl (i, t)) =
          let l = t.stamped in
          rw (ne_eqb f.stamp 0 (λ z. absurd (omega arith)), e, cursor_used newest stamp (table_at format_one s) t.used, cursor_used newest (stamp + 1) (table_at format_one s) t.used) (sym (rw t.row at behind))
      go (inr (i, n)) = rw (n.fields, e) (by n.without)
        where
          by : (eqb (table_at format_one s).view newest ≡ false) ⊎ ((eqb (table_at format_one s).view newest ≡ true) × (held (table_at format_one s).rows stamp ≡ none)) → cursor_in newest stamp (table_at format_one s) ≡ cursor_in newest (stamp + 1) (table_at format_one s)
          by (inl d) = cursor_not newest stamp (table_at format_one s) d ∙ sym (cursor_not newest (stamp + 1) (table_at format_one s) d)
          by (inr (u, h)) = cursor_used newest stamp (table_at format_one s) u ∙ sym (rw h at behind) ∙ sym (cursor_used newest (stamp + 1) (table_at format_one s) u)

  -- whether the table holds the stamp with another body, by the row that was gathered
  pub other_gathered : (x : Body) → both (not (eqb f.stamp 0)) (not (same_body x (body_at s f.offset f.reads f.writes))) ≡ other_in newest stamp x (table_at format_one s)
  unfolding both held_with_other_body row_of
  other_gathered x = go found
    where
      go : Found → both (not (eqb f.stamp 0)) (not (same_body x (body_at s f.offset f.reads f.writes))) ≡ other_in newest stamp x (table_at format_one s)
      go (inl (i, t)) =
          let l = t.stamped in
          rw (ne_eqb f.stamp 0 (λ z. absurd (omega arith)), t.used, t.row) (rw t.fields refl)
      go (inr (i, n)) = rw n.fields (by n.without)
        where
          by : (eqb (table_at format_one s).view newest ≡ false) ⊎ ((eqb (table_at format_one s).view newest ≡ true) × (held (table_at format_one s).rows stamp ≡ none)) → false ≡ other_in newest stamp x (table_at format_one s)
          by (inl d) = rw d refl
          by (inr (u, h)) = rw (u, h) refl

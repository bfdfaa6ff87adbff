-- The least stamp of the tables that were passed, as the next stamp is looked for.
use mathlib.Core.Path.{◌≡◌, refl, sym, ap, ◌∙◌}
use mathlib.Core.List.{List, [], ◌∷◌, map}
use mathlib.Core.Logic.{◌⊎◌}
use Prim.Native.Nat.{ℕ, ◌+◌, ◌≤◌, ◌^◌, min}
use native.Mathlib.Omega.{arith}
use lib.ListN.{length, length-map}
use Rattle.std.specs.Prelude.{Option, None}
use Rattle.rules.specs.Tests.{those}
use Rattle.rules.specs.Tables.{valley}
use Rattle.rules.specs.Merge.{stamps}
use Rattle.table.specs.Images.{format_one}
use Rattle.table.specs.Parse.{table_at}
use Rattle.seek.proofs.HeldRows.{image_regular}
use Rattle.image_run.specs.Inner.WholeRuns.{tables_of, Images}
use Rattle.image_run.specs.Inner.Walk.{NextImage}
use Rattle.gather.specs.declared.stamps.Cursors.{Cursors}
use Rattle.gather.specs.Inner.UsedTables.{used_of}
use Rattle.gather.specs.Inner.Stamps.{next_after, stamp_above, stamp_or_none, earlier}
use Rattle.gather.specs.Inner.Cursors.{cursor_in, StandIn}
use Rattle.gather.proofs.Places.{HasAll, has_all_four, has_next, none_beside}
use Rattle.gather.proofs.NextStamps.{next_turn, next_none, earlier_is}
use Rattle.gather.proofs.Gathered.{all_regular, next_start}

-- the least stamp of the tables that were passed, if they have one above the last, is `next`; these bytes and these places are left
pub record LeastSoFar (newest last : ℕ) (run rest places : List ℕ) (next : Option ℕ) : Type 0 where
  pub least : ℕ
  pub is : next ≡ stamp_or_none least
  pub most : least ≤ 2 ^ 48
  pub lesser : min least (next_after last (stamps (used_of newest (tables_of valley rest)))) ≡ next_after last (stamps (used_of newest (tables_of valley run)))
  pub cursors : HasAll 0 places (map (cursor_in newest (last + 1)) (tables_of valley rest))

pub none_passed : (run : List ℕ) → Images valley run → length (tables_of valley run) ≤ 4 → (c : Cursors) → StandIn run c → (rest places : List ℕ) → rest ≡ run → places ≡ c.places → LeastSoFar c.newest c.last run rest places None
none_passed run are few c stand rest places e p =
    let xs : List ℕ = map (cursor_in c.newest (c.last + 1)) (tables_of valley run) in
    let n = length-map (tables_of valley run) (cursor_in c.newest (c.last + 1)) in
    rw (e, p) (record {
      least = 2 ^ 48;
      is = refl;
      most = omega arith;
      lesser = next_start c.newest c.last run are;
      cursors = has_all_four 0 c.places xs (ap (λ (x : Cursors). x.places) stand) (omega arith);
    })

module _ (newest last : ℕ) (run rest left places others : List ℕ) (place : ℕ) (n : NextImage rest left) (on : Images valley left) (p : places ≡ place ∷ others) where
  passed : HasAll 0 places (map (cursor_in newest (last + 1)) (tables_of valley rest)) → (place ≡ cursor_in newest (last + 1) (table_at format_one rest)) × HasAll 0 others (map (cursor_in newest (last + 1)) (tables_of valley left))
  passed h = has_next 0 place _ others _ (rw (p, n.tables) at h)

  pub at_cursor : {next : Option ℕ} → LeastSoFar newest last run rest places next → place ≡ cursor_in newest (last + 1) (table_at format_one rest)
  at_cursor far = (passed far.cursors).0

  pub one_passed : (next above : Option ℕ) → LeastSoFar newest last run rest places next → above ≡ stamp_or_none (stamp_above newest (table_at format_one rest) last) → LeastSoFar newest last run left others (earlier next above)
  one_passed next above far told =
      let here : ℕ = stamp_above newest (table_at format_one rest) last in
      let turned = ap (λ Ts. next_after last (stamps (used_of newest Ts))) n.tables ∙ next_turn newest last (table_at format_one rest) (tables_of valley left) (image_regular valley rest n.has_image).0 (all_regular left on) in
      let was = far.lesser in
      let most = far.most in
      record {
        least = min far.least here;
        is = rw (far.is, told) (earlier_is far.least here);
        most = omega arith;
        lesser = omega arith;
        cursors = (passed far.cursors).1;
      }

-- a walk ends with the images, or with the places, which are no fewer
pub all_passed : (newest last : ℕ) (run rest places : List ℕ) (next : Option ℕ) → LeastSoFar newest last run rest places next → (rest ≡ []) ⊎ (length places ≡ 0) → next ≡ stamp_or_none (next_after last (stamps (used_of newest (tables_of valley run))))
unfolding those stamps
all_passed newest last run rest places next far over =
    let l = far.most in
    let e : far.least ≡ next_after last (stamps (used_of newest (tables_of valley run))) = sym (rw (none_beside 0 places (cursor_in newest (last + 1)) rest far.cursors over, next_none last) (omega arith)) ∙ far.lesser in
    far.is ∙ ap stamp_or_none e

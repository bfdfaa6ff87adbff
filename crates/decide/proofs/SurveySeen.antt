-- The survey of all stamps, one after the other.
use mathlib.Core.Path.{◌≡◌, refl, sym, ap, ◌∙◌}
use mathlib.Core.Bool.{Bool, true, false}
use mathlib.Core.Logic.{◌⊎◌, inl, inr}
use mathlib.Core.List.Memᴰ
use mathlib.Core.List.{List, [], ◌∷◌, ◌++◌}
use Prim.Native.Nat.{ℕ, suc, ◌-◌, ◌≤◌, ◌<◌, ◌^◌}
use native.Mathlib.Omega.{arith}
use lib.Dec.{ltb}
use lib.ListN.{length, replicate, length-append}
use Rattle.std.specs.Prelude.{Some, None}
use borrow.Author.Tests.{ltb-true, ltb-false}
use Rattle.rules.specs.Tests.{either, any, those}
use Rattle.rules.specs.Tables.{Row, Table, valley}
use Rattle.rules.specs.Merge.{rows_of, two_bodies, contradictory, stamps}
use Rattle.rules.proofs.Logic.{cases, either_none}
use Rattle.rules.proofs.Lists.{◌∈◌, any_append}
use Rattle.rules.proofs.Stamps.{RisingFrom}
use Rattle.rules.proofs.Merge.{some_row}
use Rattle.image_run.specs.Inner.WholeRuns.{tables_of, Images}
use Rattle.gather.specs.declared.held.Gathered.{Gathered}
use Rattle.gather.specs.declared.walk.StampsOf.{StampsOf}
use Rattle.gather.specs.Inner.UsedTables.{used_of}
use Rattle.gather.specs.Inner.Stamps.{next_after, stamp_or_none}
use Rattle.gather.specs.Inner.Gathered.{GatheredFrom, rows_in}
use Rattle.gather.specs.Inner.Walk.{GivesStamp}
use Rattle.gather.proofs.NextStamps.{AllRegular, used_regular, stamps_stamped, stamps_from_one}
use Rattle.gather.proofs.Gathered.{all_regular}
use Rattle.gather.proofs.StampsWalked.{Walking, walk_begins, step_next, step_gathered, step_rows, step_walks, walk_ends}
use Rattle.decide.specs.declared.survey.Survey.{Survey}
use Rattle.decide.specs.Inner.Surveyed.{surveyed, with_stamp}
use Rattle.gather.proofs.StampsInTurn.{below, below_all, below_first, below_next, next_in}

-- ---- one stamp more

any_more : (test : ℕ → Bool) (ss : List ℕ) (s : ℕ) → any test (ss ++ (s ∷ [])) ≡ either (any test ss) (test s)
unfolding any
any_more test ss s = any_append test ss (s ∷ []) ∙ ap (either (any test ss)) (either_none (test s))

surveyed_more : (Ts : List Table) (ss : List ℕ) (s : ℕ) → surveyed Ts (ss ++ (s ∷ [])) ≡ with_stamp (rows_of Ts s) (surveyed Ts ss)
unfolding surveyed
surveyed_more Ts ss s = rw (any_more (λ s. two_bodies (rows_of Ts s)) ss s, any_more (λ s. contradictory (rows_of Ts s)) ss s, length-append ss (s ∷ [])) refl

surveyed_none : (Ts : List Table) → surveyed Ts [] ≡ record { bodies = false; contradiction = false; stamps = 0 }
unfolding surveyed any
surveyed_none Ts = refl

-- ---- fewer stamps are below one than numbers

few_below : (x low : ℕ) (ss : List ℕ) → RisingFrom low ss → length (below x ss) ≤ x - low
unfolding below those
few_below x low [] h = omega arith
few_below x low (s ∷ ss) (k, h) = go (cases (ltb s x)) (few_below x (suc s) ss h)
  where
    go : (ltb s x ≡ true) ⊎ (ltb s x ≡ false) → length (below x ss) ≤ x - suc s → length (below x (s ∷ ss)) ≤ x - low
    go (inl e) l = let m : s < x = ltb-true s x e in rw e (omega arith)
    go (inr e) l = let m : x ≤ s = ltb-false s x e in rw e (omega arith)

some_held : (rs : List Row) (r : Row) → r ∈ rs → 0 < length rs
some_held [] r m = absurd (Memᴰ.not-nil m)
some_held (q ∷ rs) r m = omega arith

-- a stamp of the tables has a row
pub stamp_held : (Ts : List Table) → AllRegular Ts → (s : ℕ) → s ∈ stamps Ts → 0 < length (rows_of Ts s)
stamp_held Ts all s m = let (r, i) = some_row 0 Ts all s m in some_held (rows_of Ts s) r i

module _ (Ts : List Table) where
  -- all stamps below the next one are seen
  pub record Seen (seen : Survey) (stamp : ℕ) : Type 0 where
    pub is : seen ≡ surveyed Ts (below stamp (stamps Ts))
    pub one : stamp < 2 ^ 48 → stamp ∈ stamps Ts

  module _ (all : AllRegular Ts) where
    rise : RisingFrom 1 (stamps Ts)
    rise = stamps_from_one Ts all

    pub seen_first : (stamp : ℕ) → stamp ≡ next_after 0 (stamps Ts) → Seen (record { bodies = false; contradiction = false; stamps = 0 }) stamp
    seen_first stamp e = rw e (record { is = sym (ap (surveyed Ts) (below_first 0 (stamps Ts) rise) ∙ surveyed_none Ts); one = next_in 0 (stamps Ts) })

    module _ (seen : Survey) (stamp : ℕ) (h : Seen seen stamp) where
      pub seen_all : 2 ^ 48 ≤ stamp → seen ≡ surveyed Ts (stamps Ts)
      seen_all l = h.is ∙ ap (surveyed Ts) (below_all stamp (stamps Ts) (stamps_stamped Ts all) l)

      pub seen_next : stamp < 2 ^ 48 → (next : ℕ) → next ≡ next_after stamp (stamps Ts) → Seen (with_stamp (rows_of Ts stamp) seen) next
      seen_next l next e =
          rw e (record {
            is = ap (with_stamp (rows_of Ts stamp)) h.is ∙ sym (surveyed_more Ts (below stamp (stamps Ts)) stamp) ∙ ap (surveyed Ts) (sym (below_next stamp 1 (stamps Ts) rise (stamps_stamped Ts all) (h.one l)));
            one = next_in stamp (stamps Ts);
          })

      pub seen_few : stamp < 2 ^ 48 → seen.stamps < stamp
      unfolding surveyed
      seen_few l =
          let e : seen.stamps ≡ length (below stamp (stamps Ts)) = ap (λ (x : Survey). x.stamps) h.is in
          let k = few_below stamp 1 (stamps Ts) rise in
          let m : 0 < stamp = (stamps_stamped Ts all stamp (h.one l)).0 in
          omega arith

      pub seen_held : stamp < 2 ^ 48 → 0 < length (rows_of Ts stamp)
      seen_held l = stamp_held Ts all stamp (h.one l)

-- ---- step after step of the walk over the stamps

module _ (run : List ℕ) (newest : ℕ) where
  -- between two steps all stamps below the next one are seen
  pub record Seeing (left : StampsOf) (seen : Survey) : Type 0 where
    pub same-run : left.run.now ≡ run
    pub walk : Walking run newest left.cursors
    pub so-far : Seen (used_of newest (tables_of valley run)) seen (next_after left.cursors.last (stamps (used_of newest (tables_of valley run))))

  module _ (images : Images valley run) where
    used_are : AllRegular (used_of newest (tables_of valley run))
    used_are = used_regular newest (tables_of valley run) (all_regular run images)

    pub seeing_begins : (left : StampsOf) → left.run.now ≡ run → left.cursors ≡ record { newest = newest; last = 0; places = replicate 4 0 } → Seeing left (record { bodies = false; contradiction = false; stamps = 0 })
    seeing_begins left same is =
        let (walk, last) = walk_begins run newest left.cursors is in
        record { same-run = same; walk = walk; so-far = seen_first _ used_are _ (rw last refl) }

    module _ (left : StampsOf) (seen : Survey) (h : Seeing left seen) where
      pub seeing_ends : None ≡ stamp_or_none (next_after left.cursors.last (stamps (used_of left.cursors.newest (tables_of valley left.run.now)))) → seen ≡ surveyed (used_of newest (tables_of valley run)) (stamps (used_of newest (tables_of valley run)))
      seeing_ends told = seen_all _ used_are seen _ h.so-far (walk_ends run newest left.cursors h.walk (rw h.same-run at told))

      module _ (g : Gathered) (after : StampsOf) (step : (after.run.now ≡ left.run.now) × GivesStamp left.run.now left.cursors (Some g) after.cursors) where
        same-step : GivesStamp run left.cursors (Some g) after.cursors
        same-step = rw h.same-run at step.1

        next : (g.cursors.last ≡ next_after left.cursors.last (stamps (used_of newest (tables_of valley run)))) × (g.cursors.last < 2 ^ 48)
        next = step_next run newest left.cursors h.walk g same-step.0 same-step.1

        seen-here : Seen (used_of newest (tables_of valley run)) seen g.cursors.last
        seen-here = rw (← next.0) at h.so-far

        pub seeing_held : GatheredFrom run g × (0 < length (rows_in run g))
        seeing_held = (step_gathered run newest left.cursors h.walk g same-step.0 same-step.1, rw (step_rows run newest left.cursors h.walk g same-step.0 same-step.1) (seen_held _ used_are seen _ seen-here next.1))

        pub seeing_few : (seen.stamps < g.cursors.last) × (g.cursors.last < 2 ^ 48)
        seeing_few = (seen_few _ used_are seen _ seen-here next.1, next.1)

        pub seeing_next : Seeing after (with_stamp (rows_in run g) seen)
        seeing_next =
            record {
              same-run = step.0 ∙ h.same-run;
              walk = rw same-step.2 (step_walks run newest left.cursors h.walk g same-step.0 same-step.1);
              so-far = rw (same-step.2, step_rows run newest left.cursors h.walk g same-step.0 same-step.1) (seen_next _ used_are seen _ seen-here next.1 _ refl);
            }

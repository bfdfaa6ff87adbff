-- Writing the rows of a merge, stamp after stamp: what holds before the first, in each turn, and after the last.
use mathlib.Core.Path.{◌≡◌, refl, sym, ap, ◌∙◌}
use mathlib.Core.Bool.{Bool, true, false}
use mathlib.Core.Logic.{◌⊎◌, inl, inr}
use mathlib.Core.List.{List, [], ◌∷◌, ◌++◌}
use Prim.Native.Nat.{ℕ, ◌+◌, ◌*◌, ◌≤◌, ◌<◌, ◌^◌}
use native.Mathlib.Omega.{arith}
use lib.Dec.{eqb, ltb}
use lib.ListN.{length, get_or, replicate, length-append, get_or-append}
use lib.Seq.{get_or-append_seam}
use borrow.Author.Tests.{eqb-false}
use Rattle.std.specs.Prelude.{Some, None}
use Rattle.wire.specs.Inner.ByteLists.{AllBytes}
use Rattle.rules.specs.Tests.{is_some}
use Rattle.rules.specs.Tables.{Row, Table, valley}
use Rattle.rules.specs.Merge.{rows_of, stamps, agreed_of, unchecked_row, unchecked_rows}
use Rattle.rules.proofs.Logic.{same?}
use Rattle.rules.proofs.Lists.{◌∈◌, those_of}
use Rattle.rules.proofs.Stamps.{RisingFrom}
use Rattle.rules.proofs.Votes.{those-length}
use Rattle.rows.specs.Bytes.{length_of, bodies_length}
use Rattle.edit.proofs.RowsJoined.{bodies_length_joined}
use Rattle.image_run.specs.Inner.WholeRuns.{tables_of, Images}
use Rattle.gather.specs.Inner.Stamps.{next_after, stamp_or_none}
use Rattle.gather.specs.declared.held.Gathered.{Gathered}
use Rattle.gather.specs.declared.walk.StampsOf.{StampsOf}
use Rattle.gather.specs.Inner.UsedTables.{used_of}
use Rattle.gather.specs.Inner.Gathered.{GatheredFrom, rows_in}
use Rattle.gather.specs.Inner.Walk.{GivesStamp}
use Rattle.gather.proofs.NextStamps.{AllRegular, Stamped, used_regular, stamps_stamped, stamps_from_one}
use Rattle.gather.proofs.Gathered.{all_regular}
use Rattle.gather.proofs.StampsWalked.{Walking, walk_begins, step_next, step_gathered, step_rows, step_walks, walk_ends}
use Rattle.decide.proofs.SurveySeen.{stamp_held}
use Rattle.gather.proofs.StampsInTurn.{below, below_all, below_first, below_next, next_in}
use Rattle.settle.specs.Inner.Marks.{is_marked, marked}
use Rattle.settle.proofs.MarkedRows.{none_marked, none_bytes, mark_same, mark_other, marked_bytes}
use Rattle.merge.specs.Inner.Written.{laid_down, row_laid, MarkAgreed}
use Rattle.merge.proofs.RowsWritten.{rows_for, rows_for_all, rows_for_last, rows_for_length, bodies_small}
use Rattle.merge.proofs.RowsLaid.{laid_none, laid_more}

few_below : (x : ℕ) (ss : List ℕ) → length (below x ss) ≤ length ss
unfolding below
few_below x ss = those-length (λ t. ltb t x) ss

bodies_none : bodies_length [] ≡ 0
unfolding bodies_length
bodies_none = refl

bodies_one : (r : Row) → bodies_length (r ∷ []) ≡ length_of r.body
unfolding bodies_length
bodies_one r = omega arith

-- what holds before the turn of a stamp, when those below it were passed: the buffer, where the next body is due, how many rows there are, and that the stamp is one
pub record Passed (agreement : ℕ) (Ts : List Table) (out : List ℕ) (base stamp : ℕ) (now : List ℕ) (due rows : ℕ) : Type 0 where
  pub is : now ≡ laid_down out base (rows_for agreement Ts (below stamp (stamps Ts)))
  pub ends : due ≡ base + bodies_length (rows_for agreement Ts (below stamp (stamps Ts)))
  pub count : rows ≡ length (below stamp (stamps Ts))
  pub one : stamp < 2 ^ 48 → stamp ∈ stamps Ts

module _ (agreement : ℕ) (Ts : List Table) (all : AllRegular Ts) (out : List ℕ) (base : ℕ) (behind : base ≡ 24 + 24 * length (stamps Ts)) where
  stamped : Stamped (stamps Ts)
  stamped = stamps_stamped Ts all

  from_one : RisingFrom 1 (stamps Ts)
  from_one = stamps_from_one Ts all

  -- before the first
  pub none_passed : (stamp : ℕ) → stamp ≡ next_after 0 (stamps Ts) → Passed agreement Ts out base stamp out base 0
  none_passed stamp e =
      let n : below stamp (stamps Ts) ≡ [] = rw e (below_first 0 (stamps Ts) from_one) in
      record {
        is = rw n (sym (laid_none out base));
        ends = rw (n, bodies_none) (omega arith);
        count = rw n refl;
        one = λ l. rw e (next_in 0 (stamps Ts) (rw e at l));
      }

  -- after the last
  module _ (stamp : ℕ) (now : List ℕ) (due rows : ℕ) (passed : Passed agreement Ts out base stamp now due rows) where
    pub all_passed : 2 ^ 48 ≤ stamp → (now ≡ laid_down out base (unchecked_rows agreement Ts)) × (due ≡ base + bodies_length (unchecked_rows agreement Ts))
    all_passed l =
        let e : rows_for agreement Ts (below stamp (stamps Ts)) ≡ unchecked_rows agreement Ts = ap (rows_for agreement Ts) (below_all stamp (stamps Ts) stamped l) ∙ rows_for_all agreement Ts in
        (passed.is ∙ ap (laid_down out base) e, passed.ends ∙ ap (λ rows. base + bodies_length rows) e)

    -- in a turn
    module _ (there : stamp ∈ stamps Ts) (few : length (stamps Ts) ≤ 512) (long : 49176 ≤ length out) where
      abbrev passing : List Row
      passing = rows_for agreement Ts (below stamp (stamps Ts))

      abbrev row : Row
      row = unchecked_row agreement stamp (rows_of Ts stamp)

      next_below : below (next_after stamp (stamps Ts)) (stamps Ts) ≡ below stamp (stamps Ts) ++ (stamp ∷ [])
      next_below = below_next stamp 1 (stamps Ts) from_one stamped there

      next_rows : rows_for agreement Ts (below (next_after stamp (stamps Ts)) (stamps Ts)) ≡ passing ++ (row ∷ [])
      next_rows = ap (rows_for agreement Ts) next_below ∙ rows_for_last agreement Ts (below stamp (stamps Ts)) stamp

      next_count : length (below (next_after stamp (stamps Ts)) (stamps Ts)) ≡ length (below stamp (stamps Ts)) + 1
      next_count = ap length next_below ∙ length-append (below stamp (stamps Ts)) (stamp ∷ [])

      next_bodies : bodies_length (rows_for agreement Ts (below (next_after stamp (stamps Ts)) (stamps Ts))) ≡ bodies_length passing + length_of row.body
      next_bodies = ap bodies_length next_rows ∙ bodies_length_joined passing (row ∷ []) ∙ ap (λ n. bodies_length passing + n) (bodies_one row)

      below_among : (x s : ℕ) → s ∈ below x (stamps Ts) → s ∈ stamps Ts
      unfolding below
      below_among x s m = (those_of (λ t. ltb t x) (stamps Ts) s m).0

      -- there is room for a row and its body, and no offset outgrows its four bytes
      pub turn_room : (rows < 512) × (24 + 24 * rows + 24 ≤ base) × (due + length_of (unchecked_row agreement stamp (rows_of Ts stamp)).body ≤ 49176)
      turn_room =
          let c = next_count in
          let f = few_below (next_after stamp (stamps Ts)) (stamps Ts) in
          let b = bodies_small agreement Ts all (below (next_after stamp (stamps Ts)) (stamps Ts)) (below_among (next_after stamp (stamps Ts))) in
          let n = next_bodies in
          let e = passed.ends in
          let r = passed.count in
          (omega arith, omega arith, omega arith)

      pub turn_passed : (next : ℕ) (after : List ℕ) (then : ℕ) → next ≡ next_after stamp (stamps Ts) → after ≡ row_laid now rows due row → then ≡ due + length_of row.body → Passed agreement Ts out base next after then (rows + 1)
      turn_passed next after then e f g =
          let room = turn_room in
          let n = rows_for_length agreement Ts (below stamp (stamps Ts)) in
          let r : rows ≡ length passing = passed.count ∙ sym n in
          let d : due ≡ base + bodies_length passing = passed.ends in
          let laid = laid_more out base passing row (omega arith) (omega arith) in
          let b = next_bodies in
          record {
            is = f ∙ rw (passed.is, r, d) laid ∙ ap (laid_down out base) (sym next_rows) ∙ ap (λ x. laid_down out base (rows_for agreement Ts (below x (stamps Ts)))) (sym e);
            ends = rw e (omega arith);
            count = rw e (let c = next_count in let k = passed.count in omega arith);
            one = λ l. rw e (next_in stamp (stamps Ts) (rw e at l));
          }

-- ---- the marks of the rows that were written

-- the rows of the stamps below one are marked if they are agreed, and no row behind them is
pub record MarkedTo (agreed : ℕ → Bool) (ss : List ℕ) (stamp : ℕ) (marks : List ℕ) : Type 0 where
  pub bytes : AllBytes marks
  pub long : length marks ≡ 64
  pub known : (i : ℕ) → i < length (below stamp ss) → is_marked marks i ≡ agreed (get_or (below stamp ss) i 0)
  pub free : (i : ℕ) → length (below stamp ss) ≤ i → is_marked marks i ≡ false

module _ (agreed : ℕ → Bool) (Ts : List Table) (all : AllRegular Ts) where
  pub none_marked_yet : (stamp : ℕ) → stamp ≡ next_after 0 (stamps Ts) → MarkedTo agreed (stamps Ts) stamp (replicate 64 0)
  none_marked_yet stamp e =
      let z : below stamp (stamps Ts) ≡ [] = rw e (below_first 0 (stamps Ts) (stamps_from_one Ts all)) in
      let n : length (below stamp (stamps Ts)) ≡ 0 = ap length z in
      record { bytes = none_bytes.0; long = none_bytes.1; known = λ i l. absurd (omega arith); free = λ i l. none_marked i }

  pub all_marked : (stamp : ℕ) (marks : List ℕ) → MarkedTo agreed (stamps Ts) stamp marks → 2 ^ 48 ≤ stamp → (i : ℕ) → i < length (stamps Ts) → is_marked marks i ≡ agreed (get_or (stamps Ts) i 0)
  all_marked stamp marks m l i k = rw (below_all stamp (stamps Ts) (stamps_stamped Ts all) l) at (m.known i) k

  module _ (stamp : ℕ) (there : stamp ∈ stamps Ts) (marks : List ℕ) (m : MarkedTo agreed (stamps Ts) stamp marks) (i : ℕ) (at-end : i ≡ length (below stamp (stamps Ts))) (next : ℕ) (e : next ≡ next_after stamp (stamps Ts)) where
    one_more : below next (stamps Ts) ≡ below stamp (stamps Ts) ++ (stamp ∷ [])
    one_more = rw e (below_next stamp 1 (stamps Ts) (stamps_from_one Ts all) (stamps_stamped Ts all) there)

    one_longer : length (below next (stamps Ts)) ≡ i + 1
    one_longer = ap length one_more ∙ length-append (below stamp (stamps Ts)) (stamp ∷ []) ∙ ap (λ k. k + 1) (sym at-end)

    earlier : (j : ℕ) → j < i → get_or (below next (stamps Ts)) j 0 ≡ get_or (below stamp (stamps Ts)) j 0
    earlier j l = rw one_more (get_or-append (below stamp (stamps Ts)) (stamp ∷ []) 0 j (omega (arith, at-end)))

    latest : get_or (below next (stamps Ts)) i 0 ≡ stamp
    latest = rw (one_more, at-end) (get_or-append_seam (below stamp (stamps Ts)) stamp [] 0)

    -- marks that are these, but for the row at hand
    marked_so : (then : List ℕ) → AllBytes then × (length then ≡ 64) → is_marked then i ≡ agreed stamp → ((j : ℕ) → (j ≡ i → ⊥) → is_marked then j ≡ is_marked marks j) → MarkedTo agreed (stamps Ts) next then
    marked_so then (b, n) here others = record { bytes = b; long = n; known = λ j l. go j (same? j i) l; free = λ j l. others j (λ k. let o = one_longer in absurd (omega arith)) ∙ m.free j (let o = one_longer in omega (arith, at-end)) }
      where
        go : (j : ℕ) → (j ≡ i) ⊎ (eqb j i ≡ false) → j < length (below next (stamps Ts)) → is_marked then j ≡ agreed (get_or (below next (stamps Ts)) j 0)
        go j (inl k) l = rw k (here ∙ ap agreed (sym latest))
        go j (inr d) l =
            let o = one_longer in
            let ne = eqb-false j i d in
            let less : j < i = below_it j ne (omega arith) in
            others j ne ∙ m.known j (omega (arith, at-end)) ∙ ap agreed (sym (earlier j less))
          where
            below_it : (j : ℕ) → (j ≡ i → ⊥) → j < i + 1 → j < i
            below_it j ne l = omega (arith, ne)

    pub marked_next : i < 512 → agreed stamp ≡ true → MarkedTo agreed (stamps Ts) next (marked marks i)
    marked_next l a =
        let f = m.free i (omega (arith, at-end)) in
        marked_so (marked marks i) (marked_bytes marks m.bytes m.long i l f) (mark_same marks m.bytes m.long i l f ∙ sym a) (λ j ne. mark_other marks m.bytes m.long i l f j (λ k. ne (sym k)))

    pub unmarked_next : agreed stamp ≡ false → MarkedTo agreed (stamps Ts) next marks
    unmarked_next a = marked_so marks (m.bytes, m.long) (m.free i (omega (arith, at-end)) ∙ sym a) (λ j ne. refl)

-- ---- turn after turn, by what each step of the code promises

-- whether the result of a stamp is agreed
abbrev pub agreed_in : ℕ → List Table → ℕ → Bool
agreed_in agreement Ts s = is_some (agreed_of agreement (rows_of Ts s))

module _ (run out : List ℕ) (newest agreement rows : ℕ) where
  -- between two steps of the walk: the stamps below the next one were passed, and the marks say which of them are agreed
  pub record Writing (left : StampsOf) (now : List ℕ) (due i : ℕ) (marks : List ℕ) : Type 0 where
    pub same-run : left.run.now ≡ run
    pub walk : Walking run newest left.cursors
    pub passed : Passed agreement (used_of newest (tables_of valley run)) out (24 + 24 * rows) (next_after left.cursors.last (stamps (used_of newest (tables_of valley run)))) now due i
    pub marks-are : MarkedTo (agreed_in agreement (used_of newest (tables_of valley run))) (stamps (used_of newest (tables_of valley run))) (next_after left.cursors.last (stamps (used_of newest (tables_of valley run)))) marks

  module _ (images : Images valley run) (counted : rows ≡ length (stamps (used_of newest (tables_of valley run)))) where
    regular : AllRegular (used_of newest (tables_of valley run))
    regular = used_regular newest (tables_of valley run) (all_regular run images)

    behind-rows : 24 + 24 * rows ≡ 24 + 24 * length (stamps (used_of newest (tables_of valley run)))
    behind-rows = ap (λ k. 24 + 24 * k) counted

    pub writing_begins : (left : StampsOf) → left.run.now ≡ run → left.cursors ≡ record { newest = newest; last = 0; places = replicate 4 0 } → Writing left out (24 + 24 * rows) 0 (replicate 64 0)
    writing_begins left same is =
        let (walk, last) = walk_begins run newest left.cursors is in
        record { same-run = same; walk = walk; passed = none_passed agreement _ regular out _ behind-rows _ (rw last refl); marks-are = none_marked_yet _ _ regular _ (rw last refl) }

    module _ (left : StampsOf) (now : List ℕ) (due i : ℕ) (marks : List ℕ) (w : Writing left now due i marks) where
      pub writing_ends : None ≡ stamp_or_none (next_after left.cursors.last (stamps (used_of left.cursors.newest (tables_of valley left.run.now)))) → (due ≡ 24 + 24 * rows + bodies_length (unchecked_rows agreement (used_of newest (tables_of valley run)))) × MarkAgreed marks agreement (used_of newest (tables_of valley run)) × (now ≡ laid_down out (24 + 24 * rows) (unchecked_rows agreement (used_of newest (tables_of valley run))))
      writing_ends told =
          let over = walk_ends run newest left.cursors w.walk (rw w.same-run at told) in
          let (is, ends) = all_passed agreement _ regular out _ behind-rows _ now due i w.passed over in
          (ends, all_marked _ _ regular _ marks w.marks-are over, is)

      -- a step, with the rows of the next stamp gathered
      module _ (g : Gathered) (after : StampsOf) (step : (after.run.now ≡ left.run.now) × GivesStamp left.run.now left.cursors (Some g) after.cursors) where
        same-step : GivesStamp run left.cursors (Some g) after.cursors
        same-step = rw w.same-run at step.1

        next : (g.cursors.last ≡ next_after left.cursors.last (stamps (used_of newest (tables_of valley run)))) × (g.cursors.last < 2 ^ 48)
        next = step_next run newest left.cursors w.walk g same-step.0 same-step.1

        rows-are : rows_in run g ≡ rows_of (used_of newest (tables_of valley run)) g.cursors.last
        rows-are = step_rows run newest left.cursors w.walk g same-step.0 same-step.1

        passed-here : Passed agreement (used_of newest (tables_of valley run)) out (24 + 24 * rows) g.cursors.last now due i
        passed-here = rw (← next.0) at w.passed

        marks-here : MarkedTo (agreed_in agreement (used_of newest (tables_of valley run))) (stamps (used_of newest (tables_of valley run))) g.cursors.last marks
        marks-here = rw (← next.0) at w.marks-are

        there : g.cursors.last ∈ stamps (used_of newest (tables_of valley run))
        there = passed-here.one next.1

        abbrev written_row : Row
        written_row = unchecked_row agreement g.cursors.last (rows_in run g)

        pub writing_held : GatheredFrom run g × (0 < length (rows_in run g))
        writing_held = (step_gathered run newest left.cursors w.walk g same-step.0 same-step.1, rw rows-are (stamp_held _ regular _ there))

        pub writing_free : is_marked marks i ≡ false
        writing_free = let n = passed-here.count in marks-here.free i (omega (arith, n))

        module _ (few : rows ≤ 512) (room : 49176 ≤ length out) where
          pub writing_room : (i < 512) × (24 + 24 * i + 24 ≤ 24 + 24 * rows) × (due + length_of written_row.body ≤ 49176)
          writing_room = rw rows-are (turn_room agreement _ regular out _ behind-rows _ now due i passed-here there (rw counted at few) room)

          -- behind it: the row is laid in the buffer, and marked if its result is agreed
          pub writing_next : (index count : ℕ) → (index ≡ i) × (count ≡ i + 1) → (agreed : Bool) → agreed ≡ is_some (agreed_of agreement (rows_in run g)) → (later : List ℕ) → later ≡ row_laid now index due written_row → (then : ℕ) → then ≡ due + length_of written_row.body → (others : List ℕ) → ((agreed ≡ true) × (others ≡ marked marks index)) ⊎ ((agreed ≡ false) × (others ≡ marks)) → Writing after later then count others
          writing_next index count (index-is, count-is) agreed told later laid then ends others which =
              let same : agreed ≡ agreed_in agreement (used_of newest (tables_of valley run)) g.cursors.last = told ∙ rw rows-are refl in
              let here = passed-here.count in
              rw count-is (record {
                same-run = step.0 ∙ w.same-run;
                walk = rw same-step.2 (step_walks run newest left.cursors w.walk g same-step.0 same-step.1);
                passed = rw same-step.2 (turn_passed agreement _ regular out _ behind-rows _ now due i passed-here there (rw counted at few) room _ later then refl (rw (index-is, rows-are) at laid) (rw rows-are at ends));
                marks-are = rw same-step.2 (go same here writing_room.0 (rw index-is at which));
              })
            where
              go : agreed ≡ agreed_in agreement (used_of newest (tables_of valley run)) g.cursors.last → i ≡ length (below g.cursors.last (stamps (used_of newest (tables_of valley run)))) → i < 512 → ((agreed ≡ true) × (others ≡ marked marks i)) ⊎ ((agreed ≡ false) × (others ≡ marks)) → MarkedTo (agreed_in agreement (used_of newest (tables_of valley run))) (stamps (used_of newest (tables_of valley run))) (next_after g.cursors.last (stamps (used_of newest (tables_of valley run)))) others
              go same count here (inl (a, e)) = rw e (marked_next _ _ regular _ there marks marks-here i count _ refl here (sym same ∙ a))
              go same count here (inr (a, e)) = rw e (unmarked_next _ _ regular _ there marks marks-here i count _ refl (sym same ∙ a))

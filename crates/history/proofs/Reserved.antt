-- With a rule of room that leaves each table of a merge its share, no merge is refused as full.
use mathlib.Core.Path.{◌≡◌, refl, sym, ap, subst, ◌∙◌}
use mathlib.Core.Bool.{Bool, true, false, cond}
use mathlib.Core.Logic.{◌⊎◌, inl, inr}
use mathlib.Core.Option.{Option, none, some}
use mathlib.Core.List.Memᴰ
use mathlib.Core.List.{List, [], ◌∷◌}
use Prim.Native.Nat.{ℕ, suc, ◌+◌, ◌-◌, ◌*◌, ◌/◌, ◌≤◌, ◌<◌}
use native.Mathlib.Omega.{arith}
use lib.Dec.{eqb, ltb}
use lib.ListN.{length, length-map}
use borrow.Author.Tests.{eq-eqb, ne_eqb, eqb-true, ltb-true, le-ltb, not-false}
use Rattle.rules.specs.Tests.{both, either, every, is_some, all_of, greatest}
use Rattle.rules.specs.Groups.{is_group, f_of, quorum}
use Rattle.rules.specs.Tables.{Prepare.final, Outcome.done, Row, Table, Model, rising, normal_mode, fresh_table}
use Rattle.rules.specs.Numbers.{Number.full, Number.wrong_tables, number_code, applies}
use Rattle.rules.specs.Messages.{Message, Message.propose_prepare, Message.finalise_prepare, Message.propose_outcome, Message.finalise_outcome, Message.change_view, Message.start_view, Message.read_register, Check, held, changed, added, with_prepare, with_outcome, prepare_proposed, prepare_finalised, outcome_proposed, outcome_finalised, with_rows, table_after}
use Rattle.rules.specs.Circumstances.{Room, settled, starts_view, new_but_full, circumstances, further_circumstances}
use Rattle.rules.specs.Answers.{answer_number, taken, refused, answer, proposal_check}
use Rattle.rules.specs.Check.{check}
use Rattle.rules.specs.Merge.{used, stamps, group_of, are_wrong, merge, merge_number, merge_circumstances}
use Rattle.rules.proofs.Logic.{impossible, cases, either_first, either_false, not_false_of, same?, both_left, both_right, eqb_self}
use Rattle.rules.proofs.Lists.{◌∈◌, places, none_any}
use Rattle.rules.proofs.Check.{CheckByRule}
use Rattle.rules.proofs.Rows.{length-changed, length-added, held_from_lem, held_is, held-changed, held_unchanged, held-added, changed_held}
use Rattle.rules.proofs.Tables.{Regular, table_facts}
use Rattle.rules.proofs.Answers.{met_none, proposal_by_rule, proposal_clear}
use Rattle.rules.proofs.Room.{Reserves}
use Rattle.rules.proofs.Taken.{taken_6}
use Rattle.rules.proofs.Stamps.{RisingFrom, HasStamp}
use Rattle.rules.proofs.Union.{GrownFrom, stamps_together, shares_fit}
use Rattle.rules.proofs.Used.{used_newest}
use Rattle.rules.proofs.Votes.{tables_few, those-length}
use Rattle.rules.proofs.NumberExactly.{number_exactly, earlier_7}
use Rattle.rules.proofs.Merge.{stamps_of}
use Rattle.history.specs.Survival.{Sent, Group, boxes_below, fresh_group, Event, Event.sends, Event.arrives, Event.declares, Event.merges, at, put, answering, arriving, merging_as, step, after, Lawful}
use Rattle.history.specs.Beyond.{DoneOrNoMerge, PromisedBy, NeverFull}
use Rattle.history.proofs.Follow.World.{Clear}
use Rattle.history.proofs.Follow.Follows.{and_last}
use Rattle.history.proofs.Follow.Arrivals.{at_in, chosen_in}
use Rattle.history.proofs.Follow.Following.{after_sent}
use Rattle.history.proofs.Follow.Names.{rows_named, OneEach, one_each, named_empty, rows_named_lem}
use Rattle.history.proofs.Survival.{fresh_one}
use Rattle.history.proofs.Regular.{AllRegular, event_regular, merge_starts, fresh_regular, all_regular}
use Rattle.history.proofs.Beyond.{goes_through_with}

-- ---- lists of rows

rises_stamps : (low : ℕ) (rows : List Row) → rising low rows ≡ true → RisingFrom 0 (stamps_of rows)
unfolding rising
rises_stamps low [] h = tt
rises_stamps low (r ∷ rs) h = (omega arith, above r.stamp rs (both_right _ _ h))
  where
    above : (low : ℕ) (rows : List Row) → rising low rows ≡ true → RisingFrom (suc low) (stamps_of rows)
    above low [] h = tt
    above low (q ∷ qs) h = (ltb-true low q.stamp (both_left _ _ h), above q.stamp qs (both_right _ _ h))

length_stamps : (rows : List Row) → length (stamps_of rows) ≡ length rows
length_stamps rows = length-map rows (λ (r : Row). r.stamp)

-- a stamp that is held stays so, whichever row is changed or added
held_when_changed : (s : ℕ) (change : Row → Row) → ((r : Row) → (change r).stamp ≡ r.stamp) → (rows : List Row) (t : ℕ) → is_some (held rows t) ≡ true → is_some (held (changed s change rows) t) ≡ true
held_when_changed s change keeps rows t h = go (same? s t)
  where
    some_changed : (o : Option Row) → is_some o ≡ true → is_some (changed_held s change keeps o) ≡ true
    some_changed none e = e
    some_changed (some r) e = refl

    go : (s ≡ t) ⊎ (eqb s t ≡ false) → is_some (held (changed s change rows) t) ≡ true
    go (inl e) = rw (← e, held-changed s change keeps rows) (some_changed (held rows s) (rw e h))
    go (inr e) = rw (held_unchanged s change keeps rows t e) h

held_when_added : (r : Row) (rows : List Row) → held rows r.stamp ≡ none → (t : ℕ) → is_some (held rows t) ≡ true → is_some (held (added r rows) t) ≡ true
held_when_added r rows new t h = rw (held-added r rows t new) (go (eqb r.stamp t))
  where
    go : (b : Bool) → is_some (cond b (some r) (held rows t)) ≡ true
    go true = refl
    go false = h

held_has : (rows : List Row) (t : ℕ) → is_some (held rows t) ≡ true → HasStamp t rows
held_has rows t h = go (held rows t) refl h
  where
    go : (o : Option Row) → held rows t ≡ o → is_some o ≡ true → HasStamp t rows
    go none e h = impossible h refl
    go (some r) e h = let (m, d) = held_from_lem rows t r e in (r, m, d)

-- ---- one table

module _ (M : Model) (n : ℕ) (begun : ℕ → List Row) where
  -- at most the rows that a view began with, and a share of those that were left
  abbrev Few : Table → List Row → Type 0
  Few T rows = length rows ≤ T.start + (M.row_limit - T.start) / (f_of n + 1)

  -- all stamps that the table's view began with
  abbrev Begun : Table → List Row → Type 0
  Begun T rows = (r : Row) → r ∈ begun T.view → is_some (held rows r.stamp) ≡ true

  -- a table has what its view began with, and at most its share more
  pub record WithinShare (T : Table) : Type 0 where
    pub start : T.start ≡ length (begun T.view)
    pub rises : RisingFrom 0 (stamps_of (begun T.view))
    pub small : T.start ≤ M.row_limit
    pub began : Begun T T.rows
    pub few : Few T T.rows

  with_rows_lem : (T : Table) → WithinShare T → (rows : List Row) → Begun T rows → Few T rows → WithinShare (with_rows T rows)
  with_rows_lem T w rows b l = record { start = w.start; rises = w.rises; small = w.small; began = b; few = l }

  -- the start-view message that is sent for a view carries what the view began with
  abbrev Begins : Message → Type 0
  Begins (propose_prepare s x) = Unit {0}
  Begins (finalise_prepare s v r) = Unit {0}
  Begins (propose_outcome s o x) = Unit {0}
  Begins (finalise_outcome s v o) = Unit {0}
  Begins (change_view v) = Unit {0}
  Begins (start_view v I) = every settled I.rows ≡ true → 0 < v → begun v ≡ I.rows
  Begins (read_register s k) = Unit {0}

  module _ (room : Room) (reserves : Reserves room) (proposals : Check) where
    module _ (T : Table) (t : Regular T) (size : T.n ≡ n) (w : WithinShare T) where
      changed_within : (s : ℕ) (change : Row → Row) → ((r : Row) → (change r).stamp ≡ r.stamp) → Begun T (changed s change T.rows) × Few T (changed s change T.rows)
      changed_within s change keeps = (λ r m. held_when_changed s change keeps T.rows r.stamp (w.began r m), rw (length-changed s change T.rows) w.few)

      -- one more row only where the rule of room let it in
      proposed_within : (s : ℕ) (change : Row → Row) → ((r : Row) → (change r).stamp ≡ r.stamp) → (q : Row) → q.stamp ≡ s → new_but_full M room T s ≡ false → WithinShare (with_rows T (cond (is_some (held T.rows s)) (changed s change T.rows) (added q T.rows)))
      unfolding new_but_full both
      proposed_within s change keeps q e given = let (b, l) = go (held T.rows s) refl in with_rows_lem T w _ b l
        where
          go : (h : Option Row) → held T.rows s ≡ h → let rows = cond (is_some h) (changed s change T.rows) (added q T.rows) in Begun T rows × Few T rows
          go (some p) k = changed_within s change keeps
          go none k =
              let free = not-false _ (rw k at given) in
              let l = reserves M.row_limit (f_of T.n) T.start (length T.rows) t.start free in
              (λ r m. held_when_added q T.rows (rw e k) r.stamp (w.began r m), rw (length-added q T.rows) (rw size at l))

      finalised_within : (s : ℕ) (change : Row → Row) → ((r : Row) → (change r).stamp ≡ r.stamp) → WithinShare (with_rows T (changed s change T.rows))
      finalised_within s change keeps = let (b, l) = changed_within s change keeps in with_rows_lem T w _ b l

      started_within : (v : ℕ) (I : Table) → (every settled I.rows ≡ true → 0 < v → begun v ≡ I.rows) → answer_number M room T (start_view v I) ≡ 0 → WithinShare (table_after proposals T (start_view v I))
      unfolding table_after starts_view
      started_within v I b h =
          let (l, u, rule, starts) = taken_6 M room T v I h in
          let (i, fits) = table_facts M I rule in
          let a = both_right _ _ starts in
          let view : I.view ≡ v = eqb-true _ _ (both_left _ _ a) in
          let c = both_right _ _ (both_right _ _ (both_right _ _ a)) in
          let start : I.start ≡ length I.rows = eqb-true _ _ (both_left _ _ c) in
          let is : begun I.view ≡ I.rows = ap begun view ∙ b (both_right _ _ c) (omega arith) in
          record {
            start = start ∙ ap length (sym is);
            rises = rw is (rises_stamps 0 I.rows i.rise);
            small = omega arith;
            began = λ r m. ap is_some (held_is 0 I.rows i.rise r (rw is at m));
            few = omega arith;
          }

      taken_within : (m : Message) → Begins m → answer_number M room T m ≡ 0 → WithinShare (table_after proposals T m)
      unfolding table_after prepare_proposed outcome_proposed prepare_finalised outcome_finalised circumstances further_circumstances
      taken_within (propose_prepare s x) b h = proposed_within s _ (λ r. refl) _ refl (met_none M room T (propose_prepare s x) h full _ (search places depth 11) (search places))
      taken_within (finalise_prepare s v r) b h = finalised_within s (with_prepare (final r)) (λ q. refl)
      taken_within (propose_outcome s o x) b h = proposed_within s _ (λ r. refl) _ refl (met_none M room T (propose_outcome s o x) h full _ (search places depth 11) (search places))
      taken_within (finalise_outcome s v o) b h = finalised_within s (with_outcome (done o)) (λ q. refl)
      taken_within (change_view v) b h = record { start = w.start; rises = w.rises; small = w.small; began = w.began; few = w.few }
      taken_within (start_view v I) b h = started_within v I b h
      taken_within (read_register s k) b h = w

      answer_within : (m : Message) → Begins m → WithinShare (answer M room proposals T m).table
      unfolding answer taken refused
      answer_within m b = go (cases (eqb (answer_number M room T m) 0))
        where
          go : (eqb (answer_number M room T m) 0 ≡ true) ⊎ (eqb (answer_number M room T m) 0 ≡ false) → WithinShare (answer M room proposals T m).table
          go (inl e) = rw e (taken_within m b (eqb-true _ 0 e))
          go (inr e) = rw e w

  -- ---- a group over time

  pub record AllWithin (G : Group) : Type 0 where
    pub tables : (b : ℕ) → b < n → WithinShare (G.table b)
    pub had : (T : Table) → T ∈ G.had → WithinShare T

  -- every start-view message among these carries what its view began with
  abbrev Starts : List Sent → Type 0
  Starts xs = (b v : ℕ) (I : Table) → record { box = b; message = start_view v I } ∈ xs → every settled I.rows ≡ true → 0 < v → begun v ≡ I.rows

  begins : (xs : List Sent) → Starts xs → (b : ℕ) (m : Message) → record { box = b; message = m } ∈ xs → Begins m
  begins xs starts b (propose_prepare s y) i = tt
  begins xs starts b (finalise_prepare s v r) i = tt
  begins xs starts b (propose_outcome s o y) i = tt
  begins xs starts b (finalise_outcome s v o) i = tt
  begins xs starts b (change_view v) i = tt
  begins xs starts b (start_view v I) i = starts b v I i
  begins xs starts b (read_register s c) i = tt

  module _ (room : Room) (reserves : Reserves room) (proposals : Check) where
    module _ (G : Group) (A : AllRegular M n G) (all : AllWithin G) (starts : Starts G.sent) where
      arrival_within : (x : Sent) → x ∈ G.sent → AllWithin (arriving M room proposals G (some x))
      arrival_within x i = go (cases (ltb x.box G.n))
        where
          now : x.box < n → WithinShare (answer M room proposals (G.table x.box) x.message).table
          now l = let (r, e) = A.tables x.box l in answer_within room reserves proposals (G.table x.box) r e (all.tables x.box l) x.message (begins G.sent starts x.box x.message i)

          at_box : x.box < n → (b : ℕ) → b < n → (x.box ≡ b) ⊎ (eqb x.box b ≡ false) → WithinShare (put G.table x.box (answer M room proposals (G.table x.box) x.message).table b)
          at_box inside b l (inl e) = rw (← e, eqb_self x.box) (now inside)
          at_box inside b l (inr e) = rw e (all.tables b l)

          go : (ltb x.box G.n ≡ true) ⊎ (ltb x.box G.n ≡ false) → AllWithin (arriving M room proposals G (some x))
          go (inl e) = let l : x.box < n = rw A.size at (ltb-true x.box G.n e) in rw e (record { tables = λ b j. at_box l b j (same? x.box b); had = and_last WithinShare G.had _ all.had (now l) })
          go (inr e) = rw e all

      merging_within : (v : ℕ) (o : Option Table) → AllWithin (merging_as M room proposals G v o)
      merging_within v none = all
      merging_within v (some T) = record { tables = all.tables; had = all.had }

      event_within : (e : Event) → AllWithin (step M room proposals G e)
      event_within (sends b m) = record { tables = all.tables; had = all.had }
      event_within (arrives k) = go (at G.sent k) refl
        where
          go : (x : Option Sent) → at G.sent k ≡ x → AllWithin (arriving M room proposals G x)
          go none e = all
          go (some x) e = arrival_within x (at_in G.sent k x e)
      event_within (declares s v r) = record { tables = all.tables; had = all.had }
      event_within (merges v ks) = merging_within v (merge M check v (all_of (at G.had) ks))

    pub all_within : CheckByRule proposals → (es : List Event) (G : Group) → Lawful M room proposals G es → AllRegular M n G → AllWithin G → Starts (after M room proposals G es).sent → AllWithin (after M room proposals G es)
    all_within checks [] G law A all starts = all
    all_within checks (e ∷ es) G (may, rest) A all starts =
        let so_far : Starts G.sent = λ b v I i. starts b v I (after_sent M room proposals (e ∷ es) G _ i) in
        all_within checks es (step M room proposals G e) rest (event_regular M room proposals checks n G A e may) (event_within G A all so_far e) starts

  pub fresh_within : begun 0 ≡ [] → AllWithin (fresh_group n)
  unfolding fresh_group fresh_table
  fresh_within empty = record { tables = λ b l. one b; had = λ T m. let (b, i, e) = Memᴰ.of_map (fresh_table n) (boxes_below n) m in subst WithinShare e (one b) }
    where
      one : (b : ℕ) → WithinShare (fresh_table n b)
      one b = record { start = ap length (sym empty); rises = rw empty tt; small = omega arith; began = λ r m. absurd (Memᴰ.not-nil (rw empty at m)); few = omega arith }

  -- ---- a merge of such tables

  module _ (G : Group) (A : AllRegular M n G) (v : ℕ) (Ts : List Table) (had : (T : Table) → T ∈ Ts → T ∈ G.had) where
    -- the group's n is theirs
    group_is : 0 < length Ts → group_of Ts ≡ n
    group_is there = go Ts had there
      where
        go : (Us : List Table) → ((T : Table) → T ∈ Us → T ∈ G.had) → 0 < length Us → group_of Us ≡ n
        go [] each l = absurd (omega arith)
        go (T ∷ Us) each l = (A.had T (each T (Memᴰ.head refl))).1

    module _ (all : AllWithin G) (right : are_wrong v Ts ≡ false) where
      abbrev newest : ℕ
      newest = greatest (λ T. T.view) Ts

      abbrev share : ℕ
      share = (M.row_limit - length (begun newest)) / (f_of n + 1)

      few_used : length (used Ts) ≤ f_of n + 1
      unfolding used
      few_used =
          let e = tables_few v Ts right in
          let d : length Ts ≡ quorum (f_of n) = e ∙ ap (λ (x : ℕ). quorum (f_of x)) (group_is (omega arith)) in
          omega (arith, those-length (λ T. eqb T.view newest) Ts)

      used_within : (U : Table) → U ∈ used Ts → WithinShare U × (U.view ≡ newest)
      used_within U m = let (i, e) = used_newest Ts U m in (all.had U (had U i), e)

      grown : (U : Table) → U ∈ used Ts → GrownFrom (stamps_of (begun newest)) share U
      grown U m =
          let (w, e) = used_within U m in
          let s : U.start ≡ length (begun newest) = w.start ∙ ap (λ (x : ℕ). length (begun x)) e in
          record {
            rise = (A.had U (had U (used_newest Ts U m).0)).0.rise;
            began = λ t k. let (q, j, d) = Memᴰ.of_map (λ (x : Row). x.stamp) (begun newest) k in rw d at (held_has U.rows q.stamp (w.began q (rw e j)));
            added = rw (length_stamps (begun newest)) (rw s at w.few);
          }

      fits : length (stamps (used Ts)) ≤ M.row_limit
      unfolding stamps
      fits = go (used Ts) refl
        where
          go : (Us : List Table) → used Ts ≡ Us → length (stamps (used Ts)) ≤ M.row_limit
          go [] e = rw e (omega arith)
          go (U ∷ Us) e =
              let (w, d) = used_within U (rw e (Memᴰ.head refl)) in
              let small : length (begun newest) ≤ M.row_limit = rw (w.start ∙ ap (λ (x : ℕ). length (begun x)) d) at w.small in
              let rise : RisingFrom 0 (stamps_of (begun newest)) = rw d at w.rises in
              omega (arith, length_stamps (begun newest), stamps_together (stamps_of (begun newest)) rise share (used Ts) grown, shares_fit M.row_limit (length (begun newest)) (f_of n) (length (used Ts)) small few_used)

      pub not_full : ltb M.row_limit (length (stamps (used Ts))) ≡ false
      not_full = le-ltb M.row_limit (length (stamps (used Ts))) fits

    -- tables that were promised are not wrong
    promised_right : PromisedBy n v Ts → are_wrong v Ts ≡ false
    unfolding are_wrong
    promised_right p =
        let g = group_is (omega (arith, p.enough)) in
        either_false (not_false_of _ (eq-eqb _ _ (p.enough ∙ ap (λ (x : ℕ). quorum (f_of x)) (sym g))))
        (either_false (none_any _ Ts (λ T m. not_false_of _ (eq-eqb _ _ ((A.had T (had T m)).1 ∙ sym g))))
        (either_false p.different
        (either_false (none_any _ Ts (λ T m. ne_eqb _ _ (λ e. let z : ◌≡◌ {A = ℕ} 0 1 = sym e ∙ (p.changing T m).0 in absurd (omega arith)))) (none_any _ Ts (λ T m. not_false_of _ (eq-eqb _ _ (p.changing T m).1))))))

-- ---- the theorem

-- a merge that is done, full or of wrong tables is not full
done_or_wrong : (M : Model) (v : ℕ) (Ts : List Table) → (are_wrong v Ts ≡ false → ltb M.row_limit (length (stamps (used Ts))) ≡ false) → DoneOrNoMerge (merge_number M v Ts) → (merge_number M v Ts ≡ 0) ⊎ (merge_number M v Ts ≡ number_code wrong_tables)
unfolding merge_number merge_circumstances applies both either
done_or_wrong M v Ts not_full (inl e) = inl e
done_or_wrong M v Ts not_full (inr (inr e)) = inr e
done_or_wrong M v Ts not_full (inr (inl e)) = go (cases (are_wrong v Ts))
  where
    go : (are_wrong v Ts ≡ true) ⊎ (are_wrong v Ts ≡ false) → (merge_number M v Ts ≡ 0) ⊎ (merge_number M v Ts ≡ number_code wrong_tables)
    go (inl k) = let g = ((number_exactly (merge_circumstances M v Ts) full).0 e).1 wrong_tables (rw earlier_7 (search places depth 11)) in impossible (either_first _ _ k) g
    go (inr k) = let g = ((number_exactly (merge_circumstances M v Ts) full).0 e).0 in impossible g (ap (λ b. either b false) (not_full k))

-- and one of right tables is done
right_done : (M : Model) (v : ℕ) (Ts : List Table) → are_wrong v Ts ≡ false → (merge_number M v Ts ≡ 0) ⊎ (merge_number M v Ts ≡ number_code wrong_tables) → merge_number M v Ts ≡ 0
unfolding merge_number merge_circumstances applies both either
right_done M v Ts right (inl e) = e
right_done M v Ts right (inr e) = let g = ((number_exactly (merge_circumstances M v Ts) wrong_tables).0 e).0 in impossible g (ap (λ b. either b false) right)

-- for any check of message 1 that is clear and by the rules, and any rule of room that reserves
pub never_full_with : (n : ℕ) → is_group n ≡ true → (M : Model) (room : Room) → Reserves room → (proposals : Check) → Clear proposals → CheckByRule proposals → (es : List Event) → Lawful M room proposals (fresh_group n) es → NeverFull M (after M room proposals (fresh_group n) es)
never_full_with n group M room reserves proposals clear by_rule_lem es law =
    record { merges = λ v ks. number_left v ks; view_change = λ v ks p. (right_done M v (chosen ks) (right v ks p) (number_left v ks), λ I e. rw regular.size (merge_starts M room proposals by_rule_lem n H regular v (chosen ks) (chosen_in H.had ks) I e)) }
  where
    H : Group
    H = after M room proposals (fresh_group n) es

    one : OneEach H.sent
    one = one_each M room proposals es (fresh_group n) law (fresh_one n)

    regular : AllRegular M n H
    regular = all_regular M room proposals by_rule_lem n es (fresh_group n) law (fresh_regular M n group)

    within : AllWithin M n (rows_named H.sent) H
    within = all_within M n (rows_named H.sent) room reserves proposals by_rule_lem es (fresh_group n) law (fresh_regular M n group) (fresh_within M n (rows_named H.sent) (named_empty H.sent)) (λ b u I i shut l. rows_named_lem H.sent one b u I i shut l)

    chosen : List ℕ → List Table
    chosen ks = all_of (at H.had) ks

    number_left : (v : ℕ) (ks : List ℕ) → (merge_number M v (chosen ks) ≡ 0) ⊎ (merge_number M v (chosen ks) ≡ number_code wrong_tables)
    number_left v ks =
        done_or_wrong M v (chosen ks) (λ right. not_full M n (rows_named H.sent) H regular v (chosen ks) (chosen_in H.had ks) within right)
        ((goes_through_with n group M room proposals clear by_rule_lem es law).merges v ks)

    right : (v : ℕ) (ks : List ℕ) → PromisedBy H.n v (chosen ks) → are_wrong v (chosen ks) ≡ false
    right v ks p = promised_right M n (rows_named H.sent) H regular v (chosen ks) (chosen_in H.had ks) (rw regular.size at p)

-- the check of boxes is such a one
pub never_full : (n : ℕ) → is_group n ≡ true → (M : Model) (room : Room) → Reserves room → (es : List Event) → Lawful M room proposal_check (fresh_group n) es → NeverFull M (after M room proposal_check (fresh_group n) es)
never_full n group M room reserves = never_full_with n group M room reserves proposal_check proposal_clear proposal_by_rule

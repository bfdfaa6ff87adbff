-- The group's state, what is sound, and that every act of a box at one stamp keeps it.
use mathlib.Core.Path.{◌≡◌, sym, ap, subst₂, ◌∙◌}
use mathlib.Core.Bool.{true, false}
use mathlib.Core.Logic.{◌⊎◌, inl, inr}
use mathlib.Core.List.{List}
use Prim.Native.Nat.{ℕ, ◌≤◌, ◌<◌}
use native.Mathlib.Omega.{arith}
use Rattle.rules.specs.Tables.{Result, Result.OK, Verdict.abort, Outcome.done}
use Rattle.rules.proofs.Lists.{◌∈◌}
use Rattle.history.proofs.Group.Below.{at_least_map}
use Rattle.history.proofs.Group.Cells.{is_accepted, dead_if_refused}
use Rattle.history.proofs.Group.Entries.{Cells, Fact, Fact.promised, Fact.started, Said.said, Entry, Good, Act, Act.add_row, apply, Can, keep}
use Rattle.history.proofs.Group.Invariant.{Setup, accepted_cell, Touched, Entries, DeadEntry, Rests, Crowds, Promise, Invariant}
use Rattle.history.proofs.Group.Growth.{Grows, grows_refl, grows, aborted_here, checked_from, with_entry, Place, place}

pub record State : Type 0 where
  pub view : ℕ → ℕ  -- a box's last normal view
  pub promised : ℕ → ℕ  -- its promised view; it is normal exactly if the two are equal
  pub entry : Entries  -- by box, view and stamp; a box's table is at its view
  pub facts : List Fact

-- what a promise of v, with last normal view x, says of the box's views since
abbrev pub Bound : State → ℕ → ℕ → ℕ → Type 0
Bound s b v x = (v ≤ s.promised b) × ((s.view b ≡ x) ⊎ (v ≤ s.view b))

-- the invariant, and what holds of the boxes' views: none is above the promised one, each began, promises bind, and a box has answered in none above its own
pub record Sound (X : Setup) (s : State) : Type 0 where
  pub invariant : Invariant X s.facts s.entry
  pub order : (b : ℕ) → s.view b ≤ s.promised b
  pub based : (b : ℕ) → (s.view b ≡ 0) ⊎ (started (s.view b) ∈ s.facts)
  pub promises : (b v x : ℕ) (cells : Cells) → promised b v x cells ∈ s.facts → Bound s b v x
  pub reached : (b w t : ℕ) → Touched (s.entry b w t) → w ≤ s.view b

-- the check's only duty: an OK clashes with no accepted row of the table
abbrev pub Passed : Setup → State → ℕ → ℕ → Type 0
Passed X s b t = (u : ℕ) → X.clash t u → is_accepted (s.entry b (s.view b) u).prepare (s.entry b (s.view b) u).outcome ≡ false

-- ---- a box's act at one stamp

abbrev pub acting : State → ℕ → ℕ → Act → State
acting s b t a = record { view = s.view; promised = s.promised; entry = with_entry s.entry b (s.view b) t (apply a (s.entry b (s.view b) t)); facts = s.facts }

module _ (X : Setup) (s : State) (i : Sound X s) (b t : ℕ) (a : Act) (normal : s.promised b ≡ s.view b) (can : Can s.facts (s.view b) t a (s.entry b (s.view b) t)) (passed : a ≡ add_row OK → Passed X s b t) where
  abbrev w : ℕ
  w = s.view b

  abbrev was : Entry
  was = s.entry b w t

  abbrev new : Entries
  new = with_entry s.entry b w t (apply a was)

  -- the place that changed, or another
  abbrev At : ℕ → ℕ → ℕ → Type 0
  At b' w' t' = Place s.entry b w t (apply a was) b' w' t'

  at : (b' w' t' : ℕ) → At b' w' t'
  at b' w' t' = place s.entry b w t (apply a was) b' w' t'

  -- the stamp that an OK of the check was just given for
  abbrev Now : ℕ → ℕ → ℕ → Type 0
  Now b' w' t' = (b ≡ b') × (w ≡ w') × (t ≡ t') × Passed X s b t

  new_good : (b' w' t' : ℕ) → Good s.facts w' t' (X.begun w' t') (new b' w' t')
  new_good b' w' t' = go (at b' w' t')
    where
      go : At b' w' t' → Good s.facts w' t' (X.begun w' t') (new b' w' t')
      go (inr e) = rw e (i.invariant.good b' w' t')
      go (inl (p, q, r, e)) = rw (e, ← q, ← r) (keep (X.settled w t) a can (i.invariant.good b w t))

  new_grows : (b' w' t' : ℕ) → Grows (s.entry b' w' t') (new b' w' t')
  new_grows b' w' t' = go (at b' w' t')
    where
      go : At b' w' t' → Grows (s.entry b' w' t') (new b' w' t')
      go (inr e) = rw e (grows_refl (s.entry b' w' t'))
      go (inl (p, q, r, e)) = rw (e, ← p, ← q, ← r) (grows (X.settled w t) (i.invariant.good b w t) a can)

  -- what is checked now was checked before, or is t, just now
  checked_back : (b' w' t' : ℕ) → (new b' w' t').checked ≡ true → ((s.entry b' w' t').checked ≡ true) ⊎ Now b' w' t'
  checked_back b' w' t' k = go (at b' w' t')
    where
      new_here : (b ≡ b') → (w ≡ w') → (t ≡ t') → (was.checked ≡ true) ⊎ (a ≡ add_row OK) → ((s.entry b' w' t').checked ≡ true) ⊎ Now b' w' t'
      new_here p q r (inl h) = inl (rw (← p, ← q, ← r) h)
      new_here p q r (inr h) = inr (p, q, r, passed h)

      go : At b' w' t' → ((s.entry b' w' t').checked ≡ true) ⊎ Now b' w' t'
      go (inr e) = inl (rw e at k)
      go (inl (p, q, r, e)) = new_here p q r (checked_from a was (rw e at k))

  new_clear : (b' w' t' u : ℕ) → X.clash t' u → accepted_cell (X.begun w' t') ≡ true → (new b' w' u).checked ≡ true → (new b' w' t').outcome ≡ done abort
  new_clear b' w' t' u cl ac k = (new_grows b' w' t').done_stays abort (go (checked_back b' w' u k))
    where
      go : ((s.entry b' w' u).checked ≡ true) ⊎ Now b' w' u → (s.entry b' w' t').outcome ≡ done abort
      go (inl h) = i.invariant.clear_of_begun b' w' t' u cl ac h
      go (inr (p, q, r, ps)) =
          aborted_here (X.settled w' t') (i.invariant.good b' w' t') ac (rw (← p, ← q) (ps t' (rw r (X.clash_sym t' u cl))))

  new_apart : (b' w' t' u : ℕ) → X.clash t' u → (new b' w' t').checked ≡ true → (new b' w' u).checked ≡ true → DeadEntry (new b' w' t') ⊎ DeadEntry (new b' w' u)
  new_apart b' w' t' u cl k k' = go (checked_back b' w' t' k) (checked_back b' w' u k')
    where
      -- a row checked before, under a check that passed just now
      dead : (x y : ℕ) → X.clash x y → Now b' w' x → (s.entry b' w' y).checked ≡ true → DeadEntry (new b' w' y)
      dead x y c (p, q, r, ps) h =
          (new_grows b' w' y).dead_stays (dead_if_refused (s.entry b' w' y).prepare (s.entry b' w' y).outcome ((i.invariant.good b' w' y).checked_placed h) (rw (← p, ← q) (ps y (rw r c))))

      both : DeadEntry (s.entry b' w' t') ⊎ DeadEntry (s.entry b' w' u) → DeadEntry (new b' w' t') ⊎ DeadEntry (new b' w' u)
      both (inl d) = inl ((new_grows b' w' t').dead_stays d)
      both (inr d) = inr ((new_grows b' w' u).dead_stays d)

      go : ((s.entry b' w' t').checked ≡ true) ⊎ Now b' w' t' → ((s.entry b' w' u).checked ≡ true) ⊎ Now b' w' u → DeadEntry (new b' w' t') ⊎ DeadEntry (new b' w' u)
      go (inl h) (inl h') = both (i.invariant.checked_apart b' w' t' u cl h h')
      go (inr x) (inl h') = inr (dead t' u cl x h')
      go (inl h) (inr y) = inl (dead u t' (X.clash_sym t' u cl) y h)
      go (inr x) (inr y) = absurd (X.clash_irr t (subst₂ X.clash (sym x.2) (sym y.2) cl))

  -- a place whose rows a promise handed over is not the one that changed
  frozen : (b' v x t' : ℕ) (cells : Cells) → promised b' v x cells ∈ s.facts → x < v → new b' x t' ≡ s.entry b' x t'
  frozen b' v x t' cells m l = go (at b' x t')
    where
      clear : (b ≡ b') → (w ≡ x) → Bound s b v x → ⊥
      clear p q (vl, z) = omega (arith, normal)

      go : At b' x t' → new b' x t' ≡ s.entry b' x t'
      go (inr e) = e
      go (inl (p, q, r, e)) = absurd (clear p q (i.promises b v x cells (rw p m)))

  -- what is touched now was touched before, or is at the box's view
  touched_back : (b' w' t' : ℕ) → Touched (new b' w' t') → Touched (s.entry b' w' t') ⊎ ((b ≡ b') × (w ≡ w'))
  touched_back b' w' t' h = go (at b' w' t')
    where
      go : At b' w' t' → Touched (s.entry b' w' t') ⊎ ((b ≡ b') × (w ≡ w'))
      go (inr e) = inl (rw e at h)
      go (inl (p, q, r, e)) = inr (p, q)

  new_promise : (b' v x : ℕ) (cells : Cells) → promised b' v x cells ∈ s.facts → Promise new b' v x cells
  new_promise b' v x cells m =
      record {
        later = old.later;
        same_prepare = λ t'. old.same_prepare t' ∙ ap (λ (y : Entry). y.prepare) (sym (frozen b' v x t' cells m old.later));
        same_outcome = λ t'. old.same_outcome t' ∙ ap (λ (y : Entry). y.outcome) (sym (frozen b' v x t' cells m old.later));
      }
    where
      old : Promise s.entry b' v x cells
      old = i.invariant.promise b' v x cells m

  new_crossing : (b' v x : ℕ) (cells : Cells) (u t' : ℕ) → promised b' v x cells ∈ s.facts → Touched (new b' u t') → (u ≤ x) ⊎ (v ≤ u)
  new_crossing b' v x cells u t' m h = go (touched_back b' u t' h)
    where
      go : Touched (s.entry b' u t') ⊎ ((b ≡ b') × (w ≡ u)) → (u ≤ x) ⊎ (v ≤ u)
      go (inl k) = i.invariant.crossing b' v x cells u t' m k
      go (inr (p, q)) = inr (omega (arith, normal, (i.promises b v x cells (rw p m)).0))

  new_seen : (b' w' t' : ℕ) → Touched (new b' w' t') → (w' ≡ 0) ⊎ (started w' ∈ s.facts)
  new_seen b' w' t' h = go (touched_back b' w' t' h)
    where
      go : Touched (s.entry b' w' t') ⊎ ((b ≡ b') × (w ≡ w')) → (w' ≡ 0) ⊎ (started w' ∈ s.facts)
      go (inl k) = i.invariant.seen b' w' t' k
      go (inr (p, q)) = rw (← q) (i.based b)

  new_reached : (b' w' t' : ℕ) → Touched (new b' w' t') → w' ≤ s.view b'
  new_reached b' w' t' h = go (touched_back b' w' t' h)
    where
      go : Touched (s.entry b' w' t') ⊎ ((b ≡ b') × (w ≡ w')) → w' ≤ s.view b'
      go (inl k) = i.reached b' w' t' k
      go (inr (p, q)) = rw (← p) (omega arith)

  new_declared : (t' w' : ℕ) (r : Result) → Crowds X s.entry t' w' r → Crowds X new t' w' r
  new_declared t' w' r (inl q) = inl (at_least_map (λ b' h. (h.0, (new_grows b' w' t').answers_stay (said r h.0) h.1)) q)
  new_declared t' w' r (inr q) = inr (at_least_map (λ b' h. (new_grows b' w' t').answers_stay (said r true) h) q)

  new_rests : (t' w' : ℕ) → Rests X s.entry t' w' → Rests X new t' w'
  new_rests t' w' (inl e) = inl e
  new_rests t' w' (inr q) = inr (at_least_map (λ b' h. (new_grows b' w' t').checked_stays h) q)

  pub act_keeps : Sound X (acting s b t a)
  act_keeps =
      record {
        invariant =
            record {
              good = new_good;
              clear_of_begun = new_clear;
              checked_apart = new_apart;
              result_ok = λ t' w' m. new_rests t' w' (i.invariant.result_ok t' w' m);
              result_one = i.invariant.result_one;
              declared = λ t' w' r m. ((i.invariant.declared t' w' r m).0, new_declared t' w' r (i.invariant.declared t' w' r m).1);
              commit_after = i.invariant.commit_after;
              one_verdict = i.invariant.one_verdict;
              finished = λ t' w' o m. at_least_map (λ b' h. (new_grows b' w' t').acceptances_stay o h) (i.invariant.finished t' w' o m);
              promise = new_promise;
              crossing = new_crossing;
              seen = new_seen;
              began = i.invariant.began;
            };
        order = i.order;
        based = i.based;
        promises = i.promises;
        reached = new_reached;
      }

-- How an entry grows by an act, what more facts leave alone, and a table of entries with one of them replaced.
use mathlib.Core.Path.{◌≡◌, refl, sym, ap, ap₂, ◌∙◌}
use mathlib.Core.Bool.{true, false, cond}
use mathlib.Core.Logic.{◌⊎◌, inl, inr}
use mathlib.Core.List.Memᴰ
use mathlib.Core.List.{List, ◌∷◌}
use Prim.Native.Nat.{ℕ}
use lib.Dec.{eqb}
use Rattle.rules.specs.Tests.{both}
use Rattle.rules.specs.Tables.{Result, Result.OK, Prepare.no_prepare, Prepare.tentative, Prepare.final, Verdict, Verdict.commit, Verdict.abort, Outcome.no_outcome, Outcome.noted, Outcome.done}
use Rattle.rules.proofs.Logic.{impossible, same?, eqb_self}
use Rattle.rules.proofs.Lists.{◌∈◌}
use Rattle.history.proofs.Group.Cells.{is_accepted, only_OK, none_final, none_held, ok_or_aborted, prepare_cases, outcome_cases, noted_done, finalisable_same}
use Rattle.history.proofs.Group.Entries.{Cell, Fact, Said, Entry, Proposed, Good, Settled, Act, Act.add_row, Act.fill_row, Act.make_final, Act.note_outcome, Act.finish_outcome, Act.answer_result, Act.accept_outcome, apply, Can, none_checked}
use Rattle.history.proofs.Group.Invariant.{Entries, accepted_cell, DeadEntry}

-- ---- more facts
module _ (φ : Fact) {G : List Fact} where
  pub still : {A : Type 0} {ψ : Fact} → A ⊎ (ψ ∈ G) → A ⊎ (ψ ∈ (φ ∷ G))
  still (inl a) = inl a
  still (inr m) = inr (Memᴰ.tail m)

  pub proposed_more : {t w : ℕ} {o : Verdict} → Proposed G t w o → Proposed (φ ∷ G) t w o
  proposed_more (p, why) = (Memᴰ.tail p, λ e. let (u, l, d) = why e in (u, l, Memᴰ.tail d))

  pub good_more : {w t : ℕ} {c : Cell} {e : Entry} → Good G w t c e → Good (φ ∷ G) w t c e
  good_more {w} {t} {c} {e} g =
      record {
        final_stays = g.final_stays;
        done_stays = g.done_stays;
        final_from = λ r h. still (g.final_from r h);
        tentative_new = g.tentative_new;
        tentative_from = g.tentative_from;
        answer_final = g.answer_final;
        answer_tentative = g.answer_tentative;
        answer_ok = g.answer_ok;
        acceptance_held = g.acceptance_held;
        done_from = λ o h. still (g.done_from o h);
        held_from = λ o h. held (g.held_from o h);
        checked_new = g.checked_new;
        checked_placed = g.checked_placed;
      }
    where
      held : {A : Type 0} {o : Verdict} → A ⊎ Proposed G t w o → A ⊎ Proposed (φ ∷ G) t w o
      held (inl a) = inl a
      held (inr p) = inr (proposed_more p)

-- ---- an act at one entry

-- what every act leaves
pub record Grows (e e' : Entry) : Type 0 where
  pub checked_stays : e.checked ≡ true → e'.checked ≡ true
  pub answers_stay : (a : Said) → a ∈ e.answers → a ∈ e'.answers
  pub acceptances_stay : (o : Verdict) → o ∈ e.acceptances → o ∈ e'.acceptances
  pub done_stays : (o : Verdict) → e.outcome ≡ done o → e'.outcome ≡ done o
  pub dead_stays : DeadEntry e → DeadEntry e'

pub grows_refl : (e : Entry) → Grows e e
grows_refl e = record { checked_stays = λ h. h; answers_stay = λ a m. m; acceptances_stay = λ o m. m; done_stays = λ o h. h; dead_stays = λ d. d }

module _ {G : List Fact} {w t : ℕ} {c : Cell} {e : Entry} (s : Settled c) (g : Good G w t c e) where
  -- a row dies by its final result or its abort, and these stay
  grow : (a : Act) → (e.checked ≡ true → (apply a e).checked ≡ true) → ((o : Verdict) → e.outcome ≡ done o → (apply a e).outcome ≡ done o) → ((r : Result) → e.prepare ≡ final r → (apply a e).prepare ≡ final r) → ((x : Said) → x ∈ e.answers → x ∈ (apply a e).answers) → ((o : Verdict) → o ∈ e.acceptances → o ∈ (apply a e).acceptances) → Grows e (apply a e)
  grow a hc hd hp hs ht = record { checked_stays = hc; answers_stay = hs; acceptances_stay = ht; done_stays = hd; dead_stays = dead }
    where
      dead : DeadEntry e → DeadEntry (apply a e)
      dead (inl (r, h, k)) = inl (r, hp r h, k)
      dead (inr h) = inr (hd abort h)

  pub grows : (a : Act) → Can G w t a e → Grows e (apply a e)
  grows (add_row r) (pb, oo) = grow (add_row r) (λ k. none_checked s g pb k) (λ o h. h) (λ r' h. none_final pb h) (λ x m. m) (λ o m. m)
  grows (fill_row o) (pb, held) = grow (fill_row o) (λ k. k) (λ o h. h) (λ r' h. none_final pb h) (λ x m. m) (λ o m. m)
  grows (make_final r) (gave, was) = grow (make_final r) (λ k. k) (λ o h. h) (λ r' h. ap final (finalisable_same was h)) (λ x m. m) (λ o m. m)
  grows (note_outcome o) (oo, p) = grow (note_outcome o) (λ k. k) (λ o' h. none_held oo (inr h)) (λ r' h. h) (λ x m. m) (λ o m. m)
  grows (finish_outcome o) (oo, p) = grow (finish_outcome o) (λ k. k) (λ o' h. noted_done oo h) (λ r' h. h) (λ x m. m) (λ o m. m)
  grows (answer_result r x) can = grow (answer_result r x) (λ k. k) (λ o h. h) (λ r' h. h) (λ x m. Memᴰ.tail m) (λ o m. m)
  grows (accept_outcome o) can = grow (accept_outcome o) (λ k. k) (λ o h. h) (λ r' h. h) (λ x m. m) (λ o m. Memᴰ.tail m)

  -- a row that the view began with, accepted, and that is accepted no more here, was aborted here
  pub aborted_here : accepted_cell c ≡ true → is_accepted e.prepare e.outcome ≡ false → e.outcome ≡ done abort
  aborted_here a n = go (outcome_cases c.outcome) (prepare_cases c.prepare)
    where
      go : (c.outcome ≡ no_outcome) ⊎ (((o : Verdict) × (c.outcome ≡ noted o)) ⊎ ((o : Verdict) × (c.outcome ≡ done o))) → (c.prepare ≡ no_prepare) ⊎ (((r : Result) × (c.prepare ≡ tentative r)) ⊎ ((r : Result) × (c.prepare ≡ final r))) → e.outcome ≡ done abort
      go (inr (inl (o, h))) p = absurd (s.no_noted o h)
      go (inr (inr (abort, h))) p = g.done_stays abort h
      go (inr (inr (commit, h))) p = impossible (ap (is_accepted e.prepare) (g.done_stays commit h)) n
      go (inl h) (inl k) = impossible a (ap₂ is_accepted k h)
      go (inl h) (inr (inl (r, k))) = absurd (s.no_tentative r k)
      go (inl h) (inr (inr (r, k))) = ok_or_aborted e.prepare e.outcome (g.final_stays r k ∙ ap final (only_OK r (sym (ap₂ is_accepted k h) ∙ a))) n

-- what is newly checked was added with OK
pub checked_from : (a : Act) (e : Entry) → (apply a e).checked ≡ true → (e.checked ≡ true) ⊎ (a ≡ add_row OK)
checked_from (add_row r) e h = inr (ap add_row (only_OK r h))
checked_from (fill_row o) e h = inl h
checked_from (make_final r) e h = inl h
checked_from (note_outcome o) e h = inl h
checked_from (finish_outcome o) e h = inl h
checked_from (answer_result r x) e h = inl h
checked_from (accept_outcome o) e h = inl h

-- ---- a table of entries with one entry replaced
module _ (entries : Entries) (b w t : ℕ) (e : Entry) where
  abbrev pub with_entry : Entries
  with_entry b' w' t' = cond (both (eqb b b') (both (eqb w w') (eqb t t'))) e (entries b' w' t')

  -- the replaced place, or any other
  abbrev pub Place : ℕ → ℕ → ℕ → Type 0
  Place b' w' t' = ((b ≡ b') × (w ≡ w') × (t ≡ t') × (with_entry b' w' t' ≡ e)) ⊎ (with_entry b' w' t' ≡ entries b' w' t')

  pub place : (b' w' t' : ℕ) → Place b' w' t'
  unfolding both
  place b' w' t' = go (same? b b') (same? w w') (same? t t')
    where
      go : (b ≡ b') ⊎ (eqb b b' ≡ false) → (w ≡ w') ⊎ (eqb w w' ≡ false) → (t ≡ t') ⊎ (eqb t t' ≡ false) → Place b' w' t'
      go (inl p) (inl q) (inl r) = inl (p, q, r, rw (← p, ← q, ← r, eqb_self b, eqb_self w, eqb_self t) refl)
      go (inr p) q r = inr (rw p refl)
      go (inl p) (inr q) r = inr (rw (← p, eqb_self b, q) refl)
      go (inl p) (inl q) (inr r) = inr (rw (← p, ← q, eqb_self b, eqb_self w, r) refl)

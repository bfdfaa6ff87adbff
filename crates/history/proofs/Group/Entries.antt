-- One stamp in one box in one view: its row and what the box has answered for it there, the acts that change them, and what every act keeps.
use mathlib.Core.Path.{◌≡◌, refl, ap}
use mathlib.Core.Bool.{Bool, true, false}
use mathlib.Core.Logic.{◌⊎◌, inl, inr}
use mathlib.Core.List.Memᴰ
use mathlib.Core.List.{List, ◌∷◌}
use Prim.Native.Nat.{ℕ, ◌≤◌}
use native.Mathlib.Omega.{arith}
use Rattle.rules.specs.Tables.{Result, Result.OK, Prepare, Prepare.no_prepare, Prepare.tentative, Prepare.final, Verdict, Verdict.commit, Verdict.abort, Outcome, Outcome.no_outcome, Outcome.noted, Outcome.done}
use Rattle.rules.specs.Messages.{result_for}
use Rattle.rules.proofs.Logic.{impossible}
use Rattle.rules.proofs.Lists.{◌∈◌}
use Rattle.history.proofs.Group.Cells.{is_ok, is_ok_prepare, Holds, Placed, only_OK, tentative_final, none_final, one_final, one_tentative, one_done, none_held, one_held, prepare_cases, outcome_cases, noted_done, Stands, Finalisable, none_stands, finalisable_same}

pub record Cell : Type 0 where
  pub prepare : Prepare
  pub outcome : Outcome

-- a table, by stamps
abbrev pub Cells : Type 0
Cells = ℕ → Cell

-- what coordinators have sent or declared, and what boxes have promised
pub data Fact : Type 0 where
  gave_result : (t w : ℕ) (r : Result) → Fact  -- result r was sent (message 2) or declared for stamp t in view w
  declared_final : (t w : ℕ) (r : Result) → Fact  -- it was declared final
  proposed : (t : ℕ) (v : Verdict) → Fact  -- the outcome was proposed (message 3)
  finalised : (t w : ℕ) (v : Verdict) → Fact  -- message 4 was sent
  promised : (b v x : ℕ) (cells : Cells) → Fact  -- box b promised view v, with last normal view x and this table
  body_sent : (t : ℕ) → Fact  -- message 1 or 3 was sent for t
  started : (v : ℕ) → Fact  -- a box took the table of view v

-- a result that a box answered, and whether it was final
pub data Said : Type 0 where
  said : Result → Bool → Said

pub record Entry : Type 0 where
  pub prepare : Prepare
  pub outcome : Outcome
  pub checked : Bool  -- the row was added here, with OK by the check
  pub answers : List Said  -- answers numbered 0 to messages 1 and 2
  pub acceptances : List Verdict  -- answers numbered 0 to message 3

-- an outcome was proposed, a commit after OK was declared final in view w or before
abbrev pub Proposed : List Fact → ℕ → ℕ → Verdict → Type 0
Proposed G t w o = (proposed t o ∈ G) × (o ≡ commit → (u : ℕ) × (u ≤ w) × (declared_final t u OK ∈ G))

-- what a box does at one stamp; of messages 1 to 4 one that is taken is at most two of these
pub data Act : Type 0 where
  add_row : Result → Act  -- message 1, a new row with the check's result
  fill_row : Verdict → Act  -- message 1, where only an outcome is held
  make_final : Result → Act  -- message 2
  note_outcome : Verdict → Act  -- message 3
  finish_outcome : Verdict → Act  -- message 4
  answer_result : Result → Bool → Act  -- the answer to message 1 or 2
  accept_outcome : Verdict → Act  -- the answer to message 3

abbrev pub as_prepare : Result → Bool → Prepare
as_prepare r true = final r
as_prepare r false = tentative r

abbrev pub apply : Act → Entry → Entry
apply (add_row r) e = record { prepare = tentative r; outcome = e.outcome; checked = is_ok r; answers = e.answers; acceptances = e.acceptances }
apply (fill_row o) e = record { prepare = tentative (result_for o); outcome = e.outcome; checked = e.checked; answers = e.answers; acceptances = e.acceptances }
apply (make_final r) e = record { prepare = final r; outcome = e.outcome; checked = e.checked; answers = e.answers; acceptances = e.acceptances }
apply (note_outcome o) e = record { prepare = e.prepare; outcome = noted o; checked = e.checked; answers = e.answers; acceptances = e.acceptances }
apply (finish_outcome o) e = record { prepare = e.prepare; outcome = done o; checked = e.checked; answers = e.answers; acceptances = e.acceptances }
apply (answer_result r x) e = record { prepare = e.prepare; outcome = e.outcome; checked = e.checked; answers = said r x ∷ e.answers; acceptances = e.acceptances }
apply (accept_outcome o) e = record { prepare = e.prepare; outcome = e.outcome; checked = e.checked; answers = e.answers; acceptances = o ∷ e.acceptances }

-- when a box in view w may do this at stamp t; what an OK of the check means stands with the group, since it looks at other stamps
abbrev pub Can : List Fact → ℕ → ℕ → Act → Entry → Type 0
Can G w t (add_row r) e = (e.prepare ≡ no_prepare) × (e.outcome ≡ no_outcome)
Can G w t (fill_row o) e = (e.prepare ≡ no_prepare) × Holds o e.outcome
Can G w t (make_final r) e = (gave_result t w r ∈ G) × Finalisable r e.prepare
Can G w t (note_outcome o) e = (e.outcome ≡ no_outcome) × Proposed G t w o
Can G w t (finish_outcome o) e = (e.outcome ≡ noted o) × (finalised t w o ∈ G)
Can G w t (answer_result r x) e = e.prepare ≡ as_prepare r x
Can G w t (accept_outcome o) e = Holds o e.outcome

-- why a box says OK without it being final: its check gave it, or it holds the commit
abbrev pub OKReason : Bool → Outcome → Type 0
OKReason checked x = (checked ≡ true) ⊎ Holds commit x

-- what holds of each entry, where c is the row of t in the table that view w began with: each field is about this stamp alone, and more facts keep it
pub record Good (G : List Fact) (w t : ℕ) (c : Cell) (e : Entry) : Type 0 where
  -- what the view began with stays; what is new since has its fact
  pub final_stays : (r : Result) → c.prepare ≡ final r → e.prepare ≡ final r
  pub done_stays : (o : Verdict) → c.outcome ≡ done o → e.outcome ≡ done o
  pub final_from : (r : Result) → e.prepare ≡ final r → (c.prepare ≡ final r) ⊎ (gave_result t w r ∈ G)
  -- a tentative result is new in this view
  pub tentative_new : (r : Result) → e.prepare ≡ tentative r → c.prepare ≡ no_prepare
  pub tentative_from : e.prepare ≡ tentative OK → OKReason e.checked e.outcome
  -- what was answered final or accepted still stands; what was answered tentative stands or is final since
  pub answer_final : (r : Result) → said r true ∈ e.answers → e.prepare ≡ final r
  pub answer_tentative : (r : Result) → said r false ∈ e.answers → (c.prepare ≡ no_prepare) × Stands r e.prepare
  pub answer_ok : said OK false ∈ e.answers → OKReason e.checked e.outcome
  pub acceptance_held : (o : Verdict) → o ∈ e.acceptances → Holds o e.outcome
  -- outcomes come from what was sent
  pub done_from : (o : Verdict) → e.outcome ≡ done o → (c.outcome ≡ done o) ⊎ (finalised t w o ∈ G)
  pub held_from : (o : Verdict) → Holds o e.outcome → (c.outcome ≡ done o) ⊎ Proposed G t w o
  -- a checked row was not there when the view began, and stays
  pub checked_new : e.checked ≡ true → (c.prepare ≡ no_prepare) × (c.outcome ≡ no_outcome)
  pub checked_placed : e.checked ≡ true → Placed e.prepare

-- the table that a view begins with is settled: nothing tentative, nothing noted
pub record Settled (c : Cell) : Type 0 where
  pub no_tentative : (r : Result) → c.prepare ≡ tentative r → ⊥
  pub no_noted : (o : Verdict) → c.outcome ≡ noted o → ⊥

module _ {G : List Fact} {w t : ℕ} {c : Cell} {e : Entry} (s : Settled c) (g : Good G w t c e) where
  none_before : e.prepare ≡ no_prepare → c.prepare ≡ no_prepare
  none_before pb = go (prepare_cases c.prepare)
    where
      go : (c.prepare ≡ no_prepare) ⊎ (((r : Result) × (c.prepare ≡ tentative r)) ⊎ ((r : Result) × (c.prepare ≡ final r))) → c.prepare ≡ no_prepare
      go (inl h) = h
      go (inr (inl (r, h))) = absurd (s.no_tentative r h)
      go (inr (inr (r, h))) = none_final pb (g.final_stays r h)

  open_before : e.outcome ≡ no_outcome → c.outcome ≡ no_outcome
  open_before oo = go (outcome_cases c.outcome)
    where
      go : (c.outcome ≡ no_outcome) ⊎ (((o : Verdict) × (c.outcome ≡ noted o)) ⊎ ((o : Verdict) × (c.outcome ≡ done o))) → c.outcome ≡ no_outcome
      go (inl h) = h
      go (inr (inl (o, h))) = absurd (s.no_noted o h)
      go (inr (inr (o, h))) = none_held oo (inr (g.done_stays o h))

  none_answered : {A : Type 0} {r : Result} → e.prepare ≡ no_prepare → said r false ∈ e.answers → A
  none_answered {A} {r} pb m = none_stands pb (g.answer_tentative r m).1

  pub none_checked : {A : Type 0} → e.prepare ≡ no_prepare → e.checked ≡ true → A
  none_checked pb k = none_stands pb (g.checked_placed k)

  keep_add : (r : Result) → Can G w t (add_row r) e → Good G w t c (apply (add_row r) e)
  keep_add r (pb, oo) =
      record {
        final_stays = λ r' h. none_final pb (g.final_stays r' h);
        done_stays = g.done_stays;
        final_from = λ r' h. tentative_final refl h;
        tentative_new = λ r' h. none_before pb;
        tentative_from = λ h. inl (ap is_ok (one_tentative refl h));
        answer_final = λ r' m. none_final pb (g.answer_final r' m);
        answer_tentative = λ r' m. none_answered pb m;
        answer_ok = λ m. none_answered pb m;
        acceptance_held = g.acceptance_held;
        done_from = g.done_from;
        held_from = g.held_from;
        checked_new = λ h. (none_before pb, open_before oo);
        checked_placed = λ h. inl (ap tentative (only_OK r h));
      }

  keep_fill : (o : Verdict) → Can G w t (fill_row o) e → Good G w t c (apply (fill_row o) e)
  keep_fill o (pb, held) =
      record {
        final_stays = λ r' h. none_final pb (g.final_stays r' h);
        done_stays = g.done_stays;
        final_from = λ r' h. tentative_final refl h;
        tentative_new = λ r' h. none_before pb;
        tentative_from = λ h. inr (why o held h);
        answer_final = λ r' m. none_final pb (g.answer_final r' m);
        answer_tentative = λ r' m. none_answered pb m;
        answer_ok = λ m. none_answered pb m;
        acceptance_held = g.acceptance_held;
        done_from = g.done_from;
        held_from = g.held_from;
        checked_new = g.checked_new;
        checked_placed = λ h. none_checked pb h;
      }
    where
      why : (o : Verdict) → Holds o e.outcome → tentative (result_for o) ≡ tentative OK → Holds commit e.outcome
      why commit k h = k
      why abort k h = impossible (ap is_ok_prepare h) refl

  keep_final : (r : Result) → Can G w t (make_final r) e → Good G w t c (apply (make_final r) e)
  keep_final r (mr, was) =
      record {
        final_stays = λ r' h. ap final (finalisable_same was (g.final_stays r' h));
        done_stays = g.done_stays;
        final_from = λ r' h. inr (rw (← one_final refl h) mr);
        tentative_new = λ r' h. tentative_final h refl;
        tentative_from = λ h. tentative_final h refl;
        answer_final = λ r' m. ap final (finalisable_same was (g.answer_final r' m));
        answer_tentative = λ r' m. ((g.answer_tentative r' m).0, inr (r, refl));
        answer_ok = g.answer_ok;
        acceptance_held = g.acceptance_held;
        done_from = g.done_from;
        held_from = g.held_from;
        checked_new = g.checked_new;
        checked_placed = λ h. inr (r, refl);
      }

  keep_note : (o : Verdict) → Can G w t (note_outcome o) e → Good G w t c (apply (note_outcome o) e)
  keep_note o (oo, prp) =
      record {
        final_stays = g.final_stays;
        done_stays = λ o' h. none_held oo (inr (g.done_stays o' h));
        final_from = g.final_from;
        tentative_new = g.tentative_new;
        tentative_from = λ h. lost (g.tentative_from h);
        answer_final = g.answer_final;
        answer_tentative = g.answer_tentative;
        answer_ok = λ m. lost (g.answer_ok m);
        acceptance_held = λ o' m. none_held oo (g.acceptance_held o' m);
        done_from = λ o' h. noted_done refl h;
        held_from = λ o' h. inr (rw (← one_held (inl refl) h) prp);
        checked_new = g.checked_new;
        checked_placed = g.checked_placed;
      }
    where
      lost : OKReason e.checked e.outcome → OKReason e.checked (noted o)
      lost (inl k) = inl k
      lost (inr k) = none_held oo k

  keep_finish : (o : Verdict) → Can G w t (finish_outcome o) e → Good G w t c (apply (finish_outcome o) e)
  keep_finish o (oo, mf) =
      record {
        final_stays = g.final_stays;
        done_stays = λ o' h. noted_done oo (g.done_stays o' h);
        final_from = g.final_from;
        tentative_new = g.tentative_new;
        tentative_from = λ h. still (g.tentative_from h);
        answer_final = g.answer_final;
        answer_tentative = g.answer_tentative;
        answer_ok = λ m. still (g.answer_ok m);
        acceptance_held = λ o' m. up (g.acceptance_held o' m);
        done_from = λ o' h. inr (rw (← one_done refl h) mf);
        held_from = λ o' h. g.held_from o' (rw (one_held h (inr refl)) (inl oo));
        checked_new = g.checked_new;
        checked_placed = g.checked_placed;
      }
    where
      up : {o' : Verdict} → Holds o' e.outcome → Holds o' (done o)
      up h = inr (ap done (one_held (inl oo) h))

      still : OKReason e.checked e.outcome → OKReason e.checked (done o)
      still (inl k) = inl k
      still (inr k) = inr (up k)

  keep_answer : (r : Result) (x : Bool) → Can G w t (answer_result r x) e → Good G w t c (apply (answer_result r x) e)
  keep_answer r x is =
      record {
        final_stays = g.final_stays;
        done_stays = g.done_stays;
        final_from = g.final_from;
        tentative_new = g.tentative_new;
        tentative_from = g.tentative_from;
        answer_final = λ r' m. final_said r' x is (Memᴰ.cases_cons m);
        answer_tentative = λ r' m. tentative_said r' x is (Memᴰ.cases_cons m);
        answer_ok = λ m. ok_said x is (Memᴰ.cases_cons m);
        acceptance_held = g.acceptance_held;
        done_from = g.done_from;
        held_from = g.held_from;
        checked_new = g.checked_new;
        checked_placed = g.checked_placed;
      }
    where
      final_said : (r' : Result) (x : Bool) → e.prepare ≡ as_prepare r x → (said r' true ≡ said r x) ⊎ (said r' true ∈ e.answers) → e.prepare ≡ final r'
      final_said r' true i (inl h) = cc
      final_said r' false i (inl h) = cc
      final_said r' x i (inr m) = g.answer_final r' m

      tentative_said : (r' : Result) (x : Bool) → e.prepare ≡ as_prepare r x → (said r' false ≡ said r x) ⊎ (said r' false ∈ e.answers) → (c.prepare ≡ no_prepare) × Stands r' e.prepare
      tentative_said r' true i (inl h) = let z : ◌≡◌ {A = ℕ} 0 1 = cc in absurd (omega arith)
      tentative_said r' false i (inl h) = (g.tentative_new r i, inl (cc))
      tentative_said r' x i (inr m) = g.answer_tentative r' m

      ok_said : (x : Bool) → e.prepare ≡ as_prepare r x → (said OK false ≡ said r x) ⊎ (said OK false ∈ e.answers) → OKReason e.checked e.outcome
      ok_said true i (inl h) = let z : ◌≡◌ {A = ℕ} 0 1 = cc in absurd (omega arith)
      ok_said false i (inl h) = g.tentative_from (cc)
      ok_said x i (inr m) = g.answer_ok m

  keep_accept : (o : Verdict) → Can G w t (accept_outcome o) e → Good G w t c (apply (accept_outcome o) e)
  keep_accept o held =
      record {
        final_stays = g.final_stays;
        done_stays = g.done_stays;
        final_from = g.final_from;
        tentative_new = g.tentative_new;
        tentative_from = g.tentative_from;
        answer_final = g.answer_final;
        answer_tentative = g.answer_tentative;
        answer_ok = g.answer_ok;
        acceptance_held = λ o' m. still_held o' (Memᴰ.cases_cons m);
        done_from = g.done_from;
        held_from = g.held_from;
        checked_new = g.checked_new;
        checked_placed = g.checked_placed;
      }
    where
      still_held : (o' : Verdict) → (o' ≡ o) ⊎ (o' ∈ e.acceptances) → Holds o' e.outcome
      still_held o' (inl h) = rw h held
      still_held o' (inr m) = g.acceptance_held o' m

pub keep : {G : List Fact} {w t : ℕ} {c : Cell} {e : Entry} → Settled c → (a : Act) → Can G w t a e → Good G w t c e → Good G w t c (apply a e)
keep s (add_row r) can g = keep_add s g r can
keep s (fill_row o) can g = keep_fill s g o can
keep s (make_final r) can g = keep_final s g r can
keep s (note_outcome o) can g = keep_note s g o can
keep s (finish_outcome o) can g = keep_finish s g o can
keep s (answer_result r x) can g = keep_answer s g r x can
keep s (accept_outcome o) can g = keep_accept s g o can

-- What coordinators send and declare by the seven rules is followed by the abstract group.
use mathlib.Core.Path.{◌≡◌, refl, sym, ap, subst, ◌∙◌}
use mathlib.Core.Bool.{Bool, true, false, cond}
use mathlib.Core.Logic.{◌⊎◌, inl, inr}
use mathlib.Core.List.Memᴰ
use mathlib.Core.List.{List, ◌∷◌}
use Prim.Native.Nat.{ℕ, ◌≤◌, ◌<◌}
use native.Mathlib.Omega.{arith}
use lib.ListN.{length}
use Rattle.rules.specs.Tests.{twice}
use Rattle.rules.specs.Groups.{f_of, quorum, fast_count}
use Rattle.rules.specs.Stamps.{Body}
use Rattle.rules.specs.Tables.{Result, Result.OK, Prepare, Verdict, Verdict.commit, prepare_code, prepare_retry, same_result, Table}
use Rattle.rules.specs.Messages.{Message, Message.propose_prepare, Message.finalise_prepare, Message.propose_outcome, Message.finalise_outcome, Message.change_view, Message.start_view, Message.read_register}
use Rattle.rules.specs.Answers.{Reply}
use Rattle.rules.specs.Count.{Heard, bad_replies, agreeing}
use Rattle.rules.proofs.Lists.{◌∈◌}
use Rattle.rules.proofs.Same.{same_result_lem}
use Rattle.rules.proofs.Votes.{count_all}
use Rattle.rules.proofs.Count.{good_replies, fast_behind, ok_behind}
use Rattle.history.specs.Survival.{Sent, Declared, Group, sending, declaring, WasSent, WasDeclared, Gave, QuorumOf, AsksPrepare, prepare_heard, Replied, Replies, Confirmed, Accepted, OneResult, OnAnAnswer, OnFastOrConfirmed, CommitAfterOK, NeverBoth, BeforeOutcome, MaySend}
use Rattle.history.proofs.Group.Below.{AtLeast, list_at_least}
use Rattle.history.proofs.Group.Entries.{Fact, Fact.gave_result, Fact.declared_final, Fact.proposed, Fact.finalised, Fact.body_sent, Said.said, as_prepare}
use Rattle.history.proofs.Group.Invariant.{Crowds, Quorum}
use Rattle.history.proofs.Group.Acts.{State, Sound}
use Rattle.history.proofs.Group.Steps.{May, CountedOK, with_fact, send_keeps, body_keeps, propose_keeps, finish_keeps, declare_keeps}
use Rattle.history.proofs.Follow.World.{World, setup}
use Rattle.history.proofs.Follow.Follows.{Named, Grounded, Backed, Back, AnswerIs, Follows, known_sent, known_declared}
use Rattle.history.proofs.Follow.Arrivals.{Followed}

-- a fact of a list with one more is the new one or an old one
new_fact : {φ ψ : Fact} {facts : List Fact} {A : Type 0} → ((φ ≡ ψ) → A) → ψ ∈ (φ ∷ facts) → (ψ ∈ facts) ⊎ A
new_fact {φ} {ψ} {facts} {A} f m = go (Memᴰ.cases_cons m)
  where
    go : (ψ ≡ φ) ⊎ (ψ ∈ facts) → (ψ ∈ facts) ⊎ A
    go (inl e) = inr (f (sym e))
    go (inr k) = inl k

module _ (W : World) (G : Group) (s : State) (k : Sound (setup W) s) (F : Follows W G s) where
  -- ---- what was heard

  heard_as : (h : Heard) → prepare_heard h ≡ as_prepare h.result h.is_final
  heard_as h = go h.is_final
    where
      go : (f : Bool) → cond f (Prepare.final h.result) (Prepare.tentative h.result) ≡ as_prepare h.result f
      go true = refl
      go false = refl

  -- an answer numbered 0
  given : (b : ℕ) (m : Message) (p : Reply) → Gave G b m p → AnswerIs s (record { box = b; message = m; reply = p })
  given b m p (i, e) = (F.answers (record { box = b; message = m; reply = p }) i).1 e

  heard_said : (t v : ℕ) (h : Heard) → Replied G t v h → said h.result h.is_final ∈ (s.entry h.box v t).answers
  heard_said t v h p = subst (λ (w : ℕ). said h.result h.is_final ∈ (s.entry h.box w t).answers) p.in_view.0 (go p.message p.asked (given h.box p.message p.reply p.gave))
    where
      state : p.reply.state ≡ prepare_code (as_prepare h.result h.is_final)
      state = p.state ∙ ap prepare_code (heard_as h)

      retry : p.reply.value ≡ prepare_retry (as_prepare h.result h.is_final)
      retry = p.retry ∙ ap prepare_retry (heard_as h)

      go : (m : Message) → AsksPrepare t m → AnswerIs s (record { box = h.box; message = m; reply = p.reply }) → said h.result h.is_final ∈ (s.entry h.box p.reply.view t).answers
      go m (inl (x, e)) a = (subst (λ (y : Message). AnswerIs s (record { box = h.box; message = y; reply = p.reply })) e a).echo h.result h.is_final state retry
      go m (inr (u, r, e)) a = (subst (λ (y : Message). AnswerIs s (record { box = h.box; message = y; reply = p.reply })) e a).echo.0 h.result h.is_final state retry

  -- ---- crowds

  -- f+1 different boxes of which each has said something
  quorum_crowd : (P Q : ℕ → Type 0) → ((b : ℕ) → P b → (b < W.n) × Q b) → QuorumOf G P → AtLeast W.n (quorum (f_of W.n)) Q
  quorum_crowd P Q holds (bs, once, many, each) =
      list_at_least (λ b. b) (λ b. true) W.n (quorum (f_of W.n)) bs Q once (λ b m. (holds b (each b m)).0) (omega (arith, count_all (λ (b : ℕ). true) bs (λ b m. refl), subst (λ (n : ℕ). quorum (f_of n) ≤ length bs) F.size many)) (λ b m e. (holds b (each b m)).1)

  -- the boxes whose replies agree
  agreeing_crowd : (t v : ℕ) (r : Result) (j : ℕ) (hs : List Heard) → Replies G t v hs → (twice (λ h. h.box) hs ≡ false) × ((h : Heard) → h ∈ hs → h.box < W.n) → j ≤ agreeing hs r → AtLeast W.n j (λ b. (f : Bool) × (said r f ∈ (s.entry b v t).answers))
  unfolding agreeing
  agreeing_crowd t v r j hs replies (once, inside) many =
      list_at_least (λ h. h.box) (λ h. same_result r h.result) W.n j hs (λ b. (f : Bool) × (said r f ∈ (s.entry b v t).answers)) once inside many (λ h m e. (h.is_final, rw (same_result_lem r h.result e) (heard_said t v h (replies h m))))

  confirmed_said : (t v : ℕ) (r : Result) (b : ℕ) → Confirmed G t v r b → (b < W.n) × (said r true ∈ (s.entry b v t).answers)
  confirmed_said t v r b (u, p, g, e) = ((F.answers _ g.0).0, subst (λ (w : ℕ). said r true ∈ (s.entry b w t).answers) e (given b (finalise_prepare t u r) p g).echo.1)

  accepted_took : (t v : ℕ) (o : Verdict) (b : ℕ) → Accepted G t v o b → (b < W.n) × (o ∈ (s.entry b v t).acceptances)
  accepted_took t v o b (x, p, g, e) = ((F.answers _ g.0).0, subst (λ (w : ℕ). o ∈ (s.entry b w t).acceptances) e (given b (propose_outcome t o x) p g).echo)

  pub accepted_crowd : (t v : ℕ) (o : Verdict) → QuorumOf G (Accepted G t v o) → Quorum (setup W) (λ b. o ∈ (s.entry b v t).acceptances)
  accepted_crowd t v o q = quorum_crowd (Accepted G t v o) (λ b. o ∈ (s.entry b v t).acceptances) (accepted_took t v o) q

  -- rule 4: what a declaration rests on
  declared_crowd : (t v : ℕ) (r : Result) → OnFastOrConfirmed G t v r → Crowds (setup W) s.entry t v r
  declared_crowd t v r (inr q) = inr (quorum_crowd (Confirmed G t v r) (λ b. said r true ∈ (s.entry b v t).answers) (confirmed_said t v r) q)
  declared_crowd t v r (inl (hs, replies, c)) =
      let (good, many) = fast_behind W.n hs r (rw F.size at c) in
      inl (agreeing_crowd t v r (fast_count (f_of W.n)) hs replies (good_replies W.n hs good) many)

  -- rule 3: what an OK that is sent rests on
  counted_ok : (t v : ℕ) (r : Result) → OnAnAnswer G t v r → r ≡ OK → CountedOK (setup W) s t v
  counted_ok t v r (hs, replies, c) e = let (good, many) = ok_behind W.n hs (rw (e, F.size) at c) in go good many
    where
      go : bad_replies W.n hs ≡ false → ((h : Heard) × (h ∈ hs) × (h.is_final ≡ true) × (h.result ≡ OK)) ⊎ (quorum (f_of W.n) ≤ agreeing hs OK) → CountedOK (setup W) s t v
      go good (inl (h, m, f, q)) = inl (h.box, rw (f, q) at (heard_said t v h (replies h m)))
      go good (inr many) = inr (agreeing_crowd t v OK (quorum (f_of W.n)) hs replies (good_replies W.n hs good) many)

  -- rules 2 and 7
  may_give : (t v : ℕ) (r : Result) → OneResult G t v r → BeforeOutcome G t → May (setup W) s t v r
  may_give t v r (as_sent, as_declared) none-proposed = record { only = λ q m. from q (F.facts (gave_result t v q) m); before = λ o m. none-proposed o (W.bodies t) (F.facts (proposed t o) m) }
    where
      from : (q : Result) → WasSent G (finalise_prepare t v q) ⊎ WasDeclared G t v q → q ≡ r
      from q (inl i) = as_sent q i
      from q (inr i) = as_declared q i

  pub declare_followed : (t v : ℕ) (r : Result) → OneResult G t v r → OnFastOrConfirmed G t v r → BeforeOutcome G t → Followed W (declaring G (record { stamp = t; view = v; result = r }))
  declare_followed t v r one crowd free = (
    with_fact (with_fact s (gave_result t v r)) (declared_final t v r),
    declare_keeps (setup W) s k t v r (may_give t v r one free) (declared_crowd t v r crowd),
    known_declared W G s (declared_final t v r ∷ gave_result t v r ∷ s.facts) (λ φ m. Memᴰ.tail (Memᴰ.tail m)) F d (Memᴰ.head refl) new,
  )
    where
      d : Declared
      d = record { stamp = t; view = v; result = r }

      H : Group
      H = declaring G d

      mine : Back W H (gave_result t v r)
      mine = inr (Memᴰ.append_right G.declared (Memᴰ.head refl))

      deeper : (φ : Fact) → (φ ∈ (gave_result t v r ∷ s.facts)) ⊎ Back W H φ → (φ ∈ s.facts) ⊎ Back W H φ
      deeper φ (inl m) = new_fact (λ e. subst (Back W H) e mine) m
      deeper φ (inr h) = inr h

      new : (φ : Fact) → φ ∈ (declared_final t v r ∷ gave_result t v r ∷ s.facts) → (φ ∈ s.facts) ⊎ Back W H φ
      new φ m = deeper φ (new_fact (λ e. subst (Back W H) e tt) m)

  -- ---- what is sent

  module _ (b : ℕ) (m : Message) (named : Named W m) where
    abbrev x : Sent
    x = record { box = b; message = m }

    abbrev H : Group
    H = sending G x

    was_sent : WasSent H m
    was_sent = (b, Memᴰ.append_right G.sent (Memᴰ.head refl))

    -- with one more fact, or with none
    with_one : (φ : Fact) → Sound (setup W) (with_fact s φ) → Backed W (with_fact s φ) b m → Back W H φ → Followed W H
    with_one φ sound back mine = (with_fact s φ, sound, known_sent W G s (φ ∷ s.facts) (λ ψ i. Memᴰ.tail i) F x (back, named) (λ ψ i. new_fact (λ e. subst (Back W H) e mine) i))

    with_none : Backed W s b m → Followed W H
    with_none back = (s, k, known_sent W G s s.facts (λ ψ i. i) F x (back, named) (λ ψ i. inl i))

  -- an outcome: its body and the proposal are two facts
  outcome_followed : (b t : ℕ) (o : Verdict) (y : Body) → Named W (propose_outcome t o y) → CommitAfterOK G b t o → NeverBoth G t o → Followed W (sending G (record { box = b; message = propose_outcome t o y }))
  outcome_followed b t o y named after never = (
    with_fact (with_fact s (body_sent t)) (proposed t o),
    propose_keeps (setup W) (with_fact s (body_sent t)) (body_keeps (setup W) s k t) t o (λ u i. same u (Memᴰ.cases_cons i)) (λ e. let (u, d, z) = after e in (u, Memᴰ.tail (F.declared _ d))),
    known_sent W G s (proposed t o ∷ body_sent t ∷ s.facts) (λ φ i. Memᴰ.tail (Memᴰ.tail i)) F (x b m named) ((Memᴰ.head refl, why, Memᴰ.tail (Memᴰ.head refl)), named) new,
  )
    where
      m : Message
      m = propose_outcome t o y

      same : (u : Verdict) → (proposed t u ≡ body_sent t) ⊎ (proposed t u ∈ s.facts) → u ≡ o
      same u (inl e) = let z : ◌≡◌ {A = ℕ} 0 1 = cc in absurd (omega arith)
      same u (inr i) = never u (W.bodies t) (F.facts (proposed t u) i)

      -- rule 5: the box's view is that of the declaration or a later one
      why : o ≡ commit → (u : ℕ) × (u ≤ s.view b) × (declared_final t u OK ∈ (proposed t o ∷ body_sent t ∷ s.facts))
      why e = let (u, d, (q, p, g, l)) = after e in (u, omega (arith, l, (given b q p g).reached), Memᴰ.tail (Memᴰ.tail (F.declared _ d)))

      deeper : (φ : Fact) → (φ ∈ (body_sent t ∷ s.facts)) ⊎ Back W (H b m named) φ → (φ ∈ s.facts) ⊎ Back W (H b m named) φ
      deeper φ (inl i) = new_fact (λ e. subst (Back W (H b m named)) e (m, was_sent b m named, inr (o, ap (propose_outcome t o) named))) i
      deeper φ (inr h) = inr h

      new : (φ : Fact) → φ ∈ (proposed t o ∷ body_sent t ∷ s.facts) → (φ ∈ s.facts) ⊎ Back W (H b m named) φ
      new φ i = deeper φ (new_fact (λ e. subst (Back W (H b m named)) e (subst (λ (z : Body). WasSent (H b m named) (propose_outcome t o z)) named (was_sent b m named))) i)

  pub send_followed : (b : ℕ) (m : Message) → MaySend G b m → Named W m → Followed W (sending G (record { box = b; message = m }))
  send_followed b (propose_prepare t y) may named =
      with_one b (propose_prepare t y) named (body_sent t) (body_keeps (setup W) s k t) (Memᴰ.head refl) (propose_prepare t y, was_sent b (propose_prepare t y) named, inl (ap (propose_prepare t) named))
  send_followed b (finalise_prepare t v r) (one, answer, free) named =
      with_one b (finalise_prepare t v r) named (gave_result t v r) (send_keeps (setup W) s k t v r (may_give t v r one free) (counted_ok t v r answer)) (Memᴰ.head refl) (inl (was_sent b (finalise_prepare t v r) named))
  send_followed b (propose_outcome t o y) (one, (after, never)) named = outcome_followed b t o y named after never
  send_followed b (finalise_outcome t v o) may named =
      with_one b (finalise_outcome t v o) named (finalised t v o) (finish_keeps (setup W) s k t v o (accepted_crowd t v o may)) (Memᴰ.head refl) tt
  send_followed b (change_view v) may named = with_none b (change_view v) named tt
  send_followed b (start_view v I) ((z, i, ev, et), only) named = with_none b (start_view v I) named (subst (λ (T : Table). Grounded W s v T) et (subst (λ (w : ℕ). Grounded W s w z.table) ev (F.merged z i).grounded))
  send_followed b (read_register t r) may named = with_none b (read_register t r) named tt

-- Tests of the seven rules on what has come to pass in a group: a history that passes them is lawful. Each test has the name of its premise in Survival, with a small letter; it may fail where the premise holds.
use mathlib.Core.Path.{◌≡◌, refl, sym, ap, ap₂, subst, ◌∙◌}
use mathlib.Core.Bool.{Bool, true, false, not, cond}
use mathlib.Core.Logic.{◌⊎◌, inl, inr}
use mathlib.Core.List.Memᴰ
use mathlib.Core.List.{List, [], ◌∷◌}
use Prim.Native.Nat.{ℕ, ◌-◌}
use lib.Dec.{eqb, leb}
use lib.ListN.{length}
use borrow.Author.Tests.{eqb-true, leb-true, not-true}
use Rattle.rules.specs.Tests.{both, either, any, every, those, twice, provided, first_of, all_of}
use Rattle.rules.specs.Groups.{f_of, quorum}
use Rattle.rules.specs.Stamps.{Body, same_body}
use Rattle.rules.specs.Tables.{Result, Result.OK, Result.ABORT, Result.ABSTAIN, Result.RETRY, Verdict, Verdict.commit, Verdict.abort, prepare_code, prepare_retry, verdict_code, same_result, Table, Model}
use Rattle.rules.specs.Messages.{Message, Message.propose_prepare, Message.finalise_prepare, Message.propose_outcome, Message.finalise_outcome, Message.change_view, Message.start_view, Message.read_register, Check}
use Rattle.rules.specs.Circumstances.{Room, keeps_room}
use Rattle.rules.specs.Answers.{Reply, proposal_check}
use Rattle.rules.specs.Count.{Heard, Counted, Counted.fast, Counted.slow, Counted.wait, Counted.refused, counted}
use Rattle.rules.proofs.Logic.{impossible, both_left, both_right, both_true, either_cases, eqb_self, not_false_of}
use Rattle.rules.proofs.Lists.{◌∈◌, every_one, any_some, those_of, all_from, first_from, provided_some}
use Rattle.rules.proofs.Same.{same_result_lem, same_verdict, same_body_lem}
use Rattle.history.specs.Survival.{Answered, Declared, Group, boxes_below, Event, Event.sends, Event.arrives, Event.declares, Event.merges, step, AsksPrepare, prepare_heard, WasSent, Gave, QuorumOf, Replied, Replies, Confirmed, Accepted, OneBody, OneResult, OnAnAnswer, OnFastOrConfirmed, CommitAfterOK, NeverBoth, OnAcceptances, BeforeOutcome, TheMerged, MaySend, May, Lawful}
use Rattle.history.proofs.Group.Cells.{commit_abort}
use Rattle.history_cases.specs.Today as today
use Rattle.history_cases.proofs.SameTables.{same_table, table_equal}

-- ---- messages by their parts

-- where the first holds, the second does
abbrev whenever : Bool → Bool → Bool
whenever true b = b
whenever false b = true

so : {a b : Bool} → a ≡ true → whenever a b ≡ true → b ≡ true
so {a} {b} e h = rw e at h

-- a test for each of messages 1, 2, 3 and 6, and what holds of the others
abbrev by_parts : (ℕ → Body → Bool) → (ℕ → ℕ → Result → Bool) → (ℕ → Verdict → Body → Bool) → (ℕ → Table → Bool) → Bool → Message → Bool
by_parts f g h k others (propose_prepare s x) = f s x
by_parts f g h k others (finalise_prepare s v r) = g s v r
by_parts f g h k others (propose_outcome s o x) = h s o x
by_parts f g h k others (finalise_outcome s v o) = others
by_parts f g h k others (change_view v) = others
by_parts f g h k others (start_view v I) = k v I
by_parts f g h k others (read_register s r) = others

abbrev on_message2 : Bool → (ℕ → ℕ → Result → Bool) → Message → Bool
on_message2 others test = by_parts (λ s x. others) test (λ s o x. others) (λ v I. others) others

abbrev on_message3 : Bool → (ℕ → Verdict → Body → Bool) → Message → Bool
on_message3 others test = by_parts (λ s x. others) (λ s v r. others) test (λ v I. others) others

abbrev on_message6 : Bool → (ℕ → Table → Bool) → Message → Bool
on_message6 others test = by_parts (λ s x. others) (λ s v r. others) (λ s o x. others) test others

-- message 1 or 2 for this stamp
abbrev asks_prepare : ℕ → Message → Bool
asks_prepare s = by_parts (λ t x. eqb t s) (λ t u r. eqb t s) (λ t o x. false) (λ u I. false) false

-- a message that passes the tests by its kind is of one of these kinds, and its parts pass that test
abbrev PassesBy : (ℕ → Body → Bool) → (ℕ → ℕ → Result → Bool) → (ℕ → Verdict → Body → Bool) → (ℕ → Table → Bool) → Message → Type 0
PassesBy f g h k m =
    ((s : ℕ) × (x : Body) × (m ≡ propose_prepare s x) × (f s x ≡ true))
    ⊎ (((s : ℕ) × (v : ℕ) × (r : Result) × (m ≡ finalise_prepare s v r) × (g s v r ≡ true))
    ⊎ (((s : ℕ) × (o : Verdict) × (x : Body) × (m ≡ propose_outcome s o x) × (h s o x ≡ true)) ⊎ ((v : ℕ) × (I : Table) × (m ≡ start_view v I) × (k v I ≡ true))))

passes_by : (f : ℕ → Body → Bool) (g : ℕ → ℕ → Result → Bool) (h : ℕ → Verdict → Body → Bool) (k : ℕ → Table → Bool) (m : Message) → by_parts f g h k false m ≡ true → PassesBy f g h k m
passes_by f g h k (propose_prepare s x) e = inl (s, x, refl, e)
passes_by f g h k (finalise_prepare s v r) e = inr (inl (s, v, r, refl, e))
passes_by f g h k (propose_outcome s o x) e = inr (inr (inl (s, o, x, refl, e)))
passes_by f g h k (finalise_outcome s v o) e = impossible e refl
passes_by f g h k (change_view v) e = impossible e refl
passes_by f g h k (start_view v I) e = inr (inr (inr (v, I, refl, e)))
passes_by f g h k (read_register s r) e = impossible e refl

asks_prepare_lem : (s : ℕ) (m : Message) → asks_prepare s m ≡ true → AsksPrepare s m
asks_prepare_lem s m h = go (passes_by (λ t x. eqb t s) (λ t u r. eqb t s) (λ t o x. false) (λ u I. false) m h)
  where
    go : PassesBy (λ t x. eqb t s) (λ t u r. eqb t s) (λ t o x. false) (λ u I. false) m → AsksPrepare s m
    go (inl (t, x, e, k)) = inl (x, e ∙ ap (λ (u : ℕ). propose_prepare u x) (eqb-true t s k))
    go (inr (inl (t, u, r, e, k))) = inr (u, r, e ∙ ap (λ (w : ℕ). finalise_prepare w u r) (eqb-true t s k))
    go (inr (inr (inl (t, o, x, e, k)))) = impossible k refl
    go (inr (inr (inr (v, I, e, k)))) = impossible k refl

-- message 2 for this stamp with this result
abbrev finalises : ℕ → Result → Message → Bool
finalises s r = on_message2 false (λ t u q. both (eqb t s) (same_result q r))

finalises_it : (s : ℕ) (r : Result) (m : Message) → finalises s r m ≡ true → (u : ℕ) × (m ≡ finalise_prepare s u r)
finalises_it s r m h = go (passes_by (λ t x. false) (λ t u q. both (eqb t s) (same_result q r)) (λ t o x. false) (λ v I. false) m h)
  where
    go : PassesBy (λ t x. false) (λ t u q. both (eqb t s) (same_result q r)) (λ t o x. false) (λ v I. false) m → (u : ℕ) × (m ≡ finalise_prepare s u r)
    go (inl (t, x, e, k)) = impossible k refl
    go (inr (inl (t, u, q, e, k))) = (u, e ∙ ap₂ (λ (a : ℕ) (c : Result). finalise_prepare a u c) (eqb-true t s (both_left _ _ k)) (same_result_lem q r (both_right (eqb t s) _ k)))
    go (inr (inr (inl (t, o, x, e, k)))) = impossible k refl
    go (inr (inr (inr (v, I, e, k)))) = impossible k refl

-- message 3 for this stamp with this outcome
abbrev proposes : ℕ → Verdict → Message → Bool
proposes s o = on_message3 false (λ t u x. both (eqb t s) (eqb (verdict_code u) (verdict_code o)))

proposes_it : (s : ℕ) (o : Verdict) (m : Message) → proposes s o m ≡ true → (x : Body) × (m ≡ propose_outcome s o x)
proposes_it s o m h = go (passes_by (λ t x. false) (λ t u r. false) (λ t u x. both (eqb t s) (eqb (verdict_code u) (verdict_code o))) (λ v I. false) m h)
  where
    go : PassesBy (λ t x. false) (λ t u r. false) (λ t u x. both (eqb t s) (eqb (verdict_code u) (verdict_code o))) (λ v I. false) m → (x : Body) × (m ≡ propose_outcome s o x)
    go (inl (t, x, e, k)) = impossible k refl
    go (inr (inl (t, u, r, e, k))) = impossible k refl
    go (inr (inr (inl (t, u, x, e, k)))) = (x, e ∙ ap₂ (λ (a : ℕ) (c : Verdict). propose_outcome a c x) (eqb-true t s (both_left _ _ k)) (same_verdict u o (both_right (eqb t s) _ k)))
    go (inr (inr (inr (v, I, e, k)))) = impossible k refl

-- ---- answers, and what the count says of them

-- an answer of box b, numbered 0
unfoldable pub gave : ℕ → Answered → Bool
gave b a = both (eqb a.box b) (eqb a.reply.number 0)

abbrev result_from : ℕ → ℕ → Result
result_from code retry = cond (eqb code 1) OK (cond (eqb code 2) ABORT (cond (eqb code 3) ABSTAIN (RETRY retry)))

-- an answer as the count is told of it
abbrev as_heard : Answered → Heard
as_heard a =
    record {
      box = a.box;
      view = a.reply.view;
      result = result_from (cond (leb 5 a.reply.state) (a.reply.state - 4) a.reply.state) a.reply.value;
      is_final = leb 5 a.reply.state;
    }

-- an answer of view v for the prepare of stamp s, and the count is told what it says
unfoldable pub replied : ℕ → ℕ → Answered → Bool
replied s v a =
    both (gave a.box a)
    (both (eqb a.reply.view v)
    (both (asks_prepare s a.message)
    (both (eqb a.reply.state (prepare_code (prepare_heard (as_heard a)))) (eqb a.reply.value (prepare_retry (prepare_heard (as_heard a)))))))

abbrev says_fast : Result → Counted → Bool
says_fast r (fast q) = same_result q r
says_fast r (slow q) = false
says_fast r wait = false
says_fast r (refused k) = false

says_fast_lem : (r : Result) (c : Counted) → says_fast r c ≡ true → c ≡ fast r
says_fast_lem r (fast q) h = ap fast (same_result_lem q r h)
says_fast_lem r (slow q) h = impossible h refl
says_fast_lem r wait h = impossible h refl
says_fast_lem r (refused k) h = impossible h refl

abbrev says : Result → Counted → Bool
says r (fast q) = same_result q r
says r (slow q) = same_result q r
says r wait = false
says r (refused k) = false

says_it : (r : Result) (c : Counted) → says r c ≡ true → (c ≡ fast r) ⊎ (c ≡ slow r)
says_it r (fast q) h = inl (ap fast (same_result_lem q r h))
says_it r (slow q) h = inr (ap slow (same_result_lem q r h))
says_it r wait h = impossible h refl
says_it r (refused k) h = impossible h refl

module _ (G : Group) where
  -- ---- what was sent

  unfoldable pub all_sent : (Message → Bool) → Bool
  all_sent test = every (λ x. test x.message) G.sent

  all_sent_lem : (test : Message → Bool) → all_sent test ≡ true → (m : Message) → WasSent G m → test m ≡ true
  unfolding all_sent
  all_sent_lem test h m (b, i) = every_one (λ x. test x.message) G.sent h (record { box = b; message = m }) i

  -- rule 1
  unfoldable pub one_body : ℕ → Body → Bool
  one_body s x = all_sent (by_parts (λ t y. whenever (eqb t s) (same_body y x)) (λ t u r. true) (λ t o y. whenever (eqb t s) (same_body y x)) (λ u I. true) true)

  pub one_body_lem : (s : ℕ) (x : Body) → one_body s x ≡ true → OneBody G s x
  unfolding one_body
  one_body_lem s x h m y sent (inl e) = same_body_lem y x (so (eqb_self s) (all_sent_lem _ h (propose_prepare s y) (rw e at sent)))
  one_body_lem s x h m y sent (inr (o, e)) = same_body_lem y x (so (eqb_self s) (all_sent_lem _ h (propose_outcome s o y) (rw e at sent)))

  -- rule 2
  unfoldable pub one_result : ℕ → ℕ → Result → Bool
  one_result s v r =
      both (all_sent (on_message2 true (λ t u q. whenever (both (eqb t s) (eqb u v)) (same_result q r))))
      (every (λ d. whenever (both (eqb d.stamp s) (eqb d.view v)) (same_result d.result r)) G.declared)

  pub one_result_lem : (s v : ℕ) (r : Result) → one_result s v r ≡ true → OneResult G s v r
  unfolding one_result
  one_result_lem s v r h = (λ q sent. equal q (all_sent_lem _ (both_left _ _ h) (finalise_prepare s v q) sent), λ q declared. equal q (every_one _ G.declared (both_right _ _ h) _ declared))
    where
      equal : (q : Result) → whenever (both (eqb s s) (eqb v v)) (same_result q r) ≡ true → q ≡ r
      equal q k = same_result_lem q r (so (both_true (eqb_self s) (eqb_self v)) k)

  -- rule 5, "never both outcomes"
  unfoldable pub never_both : ℕ → Verdict → Bool
  never_both s o = all_sent (on_message3 true (λ t u x. whenever (eqb t s) (eqb (verdict_code u) (verdict_code o))))

  pub never_both_lem : (s : ℕ) (o : Verdict) → never_both s o ≡ true → NeverBoth G s o
  unfolding never_both
  never_both_lem s o h u x sent = same_verdict u o (so (eqb_self s) (all_sent_lem _ h (propose_outcome s u x) sent))

  -- rule 7
  unfoldable pub before_outcome : ℕ → Bool
  before_outcome s = all_sent (on_message3 true (λ t u x. not (eqb t s)))

  pub before_outcome_lem : (s : ℕ) → before_outcome s ≡ true → BeforeOutcome G s
  unfolding before_outcome
  before_outcome_lem s h o x sent = impossible (all_sent_lem _ h (propose_outcome s o x) sent) (not_false_of (eqb s s) (eqb_self s))

  -- one merged table for a view
  unfoldable pub one_table : ℕ → Table → Bool
  one_table v I = all_sent (on_message6 true (λ u J. whenever (eqb u v) (same_table J I)))

  pub one_table_lem : (v : ℕ) (I : Table) → one_table v I ≡ true → (J : Table) → WasSent G (start_view v J) → J ≡ I
  unfolding one_table
  one_table_lem v I h J sent = table_equal J I (so (eqb_self v) (all_sent_lem _ h (start_view v J) sent))

  unfoldable pub the_merged : ℕ → Table → Bool
  the_merged v I = both (any (λ m. both (eqb m.view v) (same_table m.table I)) G.merged) (one_table v I)

  pub the_merged_lem : (v : ℕ) (I : Table) → the_merged v I ≡ true → TheMerged G v I
  unfolding the_merged
  the_merged_lem v I h =
      let (m, i, e) = any_some _ G.merged (both_left _ _ h) in
      ((m, i, eqb-true _ _ (both_left _ _ e), table_equal _ _ (both_right (eqb m.view v) _ e)), one_table_lem v I (both_right (any _ G.merged) _ h))

  -- ---- what was answered

  gave_it : (b : ℕ) (a : Answered) → a ∈ G.answers → gave b a ≡ true → Gave G b a.message a.reply
  unfolding gave
  gave_it b a i h =
      let box = eqb-true a.box b (both_left _ _ h) in
      (Memᴰ.cast (λ j. record { box = sym box j; message = a.message; reply = a.reply }) i, eqb-true _ _ (both_right (eqb a.box b) _ h))

  -- box b has given an answer in view v to a message that passes
  unfoldable pub gave_in : ℕ → ℕ → (Message → Bool) → Bool
  gave_in b v test = any (λ a. both (gave b a) (both (eqb a.reply.view v) (test a.message))) G.answers

  gave_in_lem : (b v : ℕ) (test : Message → Bool) → gave_in b v test ≡ true → (m : Message) × (p : Reply) × Gave G b m p × (p.view ≡ v) × (test m ≡ true)
  unfolding gave_in
  gave_in_lem b v test h =
      let (a, i, e) = any_some _ G.answers h in
      let rest = both_right (gave b a) _ e in
      (a.message, a.reply, gave_it b a i (both_left _ _ e), eqb-true _ _ (both_left _ _ rest), both_right (eqb a.reply.view v) _ rest)

  unfoldable pub confirmed : ℕ → ℕ → Result → ℕ → Bool
  confirmed s v r b = gave_in b v (finalises s r)

  confirmed_it : (s v : ℕ) (r : Result) (b : ℕ) → confirmed s v r b ≡ true → Confirmed G s v r b
  unfolding confirmed
  confirmed_it s v r b h =
      let (m, p, given, view, e) = gave_in_lem b v (finalises s r) h in
      let (u, is) = finalises_it s r m e in
      (u, p, rw is at given, view)

  unfoldable pub accepted : ℕ → ℕ → Verdict → ℕ → Bool
  accepted s v o b = gave_in b v (proposes s o)

  pub accepted_it : (s v : ℕ) (o : Verdict) (b : ℕ) → accepted s v o b ≡ true → Accepted G s v o b
  unfolding accepted
  accepted_it s v o b h =
      let (m, p, given, view, e) = gave_in_lem b v (proposes s o) h in
      let (x, is) = proposes_it s o m e in
      (x, p, rw is at given, view)

  -- all boxes that pass are f+1 or more
  unfoldable pub quorum_of : (ℕ → Bool) → Bool
  quorum_of test = let bs = those test (boxes_below G.n) in both (not (twice (λ b. b) bs)) (leb (quorum (f_of G.n)) (length bs))

  quorum_of_lem : (test : ℕ → Bool) (P : ℕ → Type 0) → ((b : ℕ) → test b ≡ true → P b) → quorum_of test ≡ true → QuorumOf G P
  unfolding quorum_of
  quorum_of_lem test P holds h =
      let bs = those test (boxes_below G.n) in
      (bs, not-true (twice (λ b. b) bs) (both_left _ _ h), leb-true _ _ (both_right (not (twice (λ b. b) bs)) _ h), λ b i. holds b (those_of test (boxes_below G.n) b i).1)

  -- rule 6
  unfoldable pub on_acceptances : ℕ → ℕ → Verdict → Bool
  on_acceptances s v o = quorum_of (accepted s v o)

  pub on_acceptances_lem : (s v : ℕ) (o : Verdict) → on_acceptances s v o ≡ true → OnAcceptances G s v o
  unfolding on_acceptances
  on_acceptances_lem s v o h = quorum_of_lem _ (Accepted G s v o) (accepted_it s v o) h

  -- rule 5, before "never both outcomes"
  unfoldable pub commit_after_ok : ℕ → ℕ → Verdict → Bool
  commit_after_ok b s abort = true
  commit_after_ok b s commit =
      any (λ d. both (both (eqb d.stamp s) (same_result d.result OK)) (any (λ a. both (gave b a) (leb d.view a.reply.view)) G.answers)) G.declared

  pub commit_after_ok_lem : (b s : ℕ) (o : Verdict) → commit_after_ok b s o ≡ true → CommitAfterOK G b s o
  unfolding commit_after_ok
  commit_after_ok_lem b s abort h e = commit_abort (sym e)
  commit_after_ok_lem b s commit h e =
      let (d, i, k) = any_some _ G.declared h in
      let that = both_left (both (eqb d.stamp s) (same_result d.result OK)) _ k in
      let (a, j, l) = any_some _ G.answers (both_right (both (eqb d.stamp s) _) _ k) in
      (d.view, Memᴰ.cast (same d that) i, (a.message, a.reply, gave_it b a j (both_left _ _ l), leb-true _ _ (both_right (gave b a) _ l)))
    where
      same : (d : Declared) → both (eqb d.stamp s) (same_result d.result OK) ≡ true → record { stamp = s; view = d.view; result = OK } ≡ d
      same d that =
          let stamp = eqb-true d.stamp s (both_left _ _ that) in
          let result = same_result_lem d.result OK (both_right (eqb d.stamp s) _ that) in
          λ j. record { stamp = sym stamp j; view = d.view; result = sym result j }

  -- ---- what a count is told

  replied_it : (s v : ℕ) (a : Answered) → a ∈ G.answers → replied s v a ≡ true → Replied G s v (as_heard a)
  unfolding replied
  replied_it s v a i h =
      let in_view = both_right (gave a.box a) _ h in
      let asked = both_right (eqb a.reply.view v) _ in_view in
      let said = both_right (asks_prepare s a.message) _ asked in
      let view = eqb-true a.reply.view v (both_left _ _ in_view) in
      record {
        message = a.message;
        reply = a.reply;
        asked = asks_prepare_lem s a.message (both_left _ _ asked);
        gave = gave_it a.box a i (both_left _ _ h);
        in_view = (view, view);
        state = eqb-true _ _ (both_left _ _ said);
        retry = eqb-true _ _ (both_right (eqb a.reply.state _) _ said);
      }

  -- of each box the first such reply that is wanted
  unfoldable pub replies : ℕ → ℕ → (Heard → Bool) → List Heard
  replies s v wanted = all_of (λ b. first_of (λ a. provided (both (both (eqb a.box b) (replied s v a)) (wanted (as_heard a))) (as_heard a)) G.answers) (boxes_below G.n)

  replies_are : (s v : ℕ) (wanted : Heard → Bool) → Replies G s v (replies s v wanted)
  unfolding replies
  replies_are s v wanted h i =
      let (b, j, found) = all_from _ (boxes_below G.n) h i in
      let (a, k, e) = first_from _ G.answers h found in
      let (passes, same) = provided_some _ (as_heard a) h e in
      subst (Replied G s v) same (replied_it s v a k (both_right (eqb a.box b) _ (both_left (both (eqb a.box b) (replied s v a)) _ passes)))

  -- rule 3: by the replies of all boxes that have answered
  unfoldable pub on_an_answer : ℕ → ℕ → Result → Bool
  on_an_answer s v r = says r (counted G.n (replies s v (λ h. true)))

  pub on_an_answer_lem : (s v : ℕ) (r : Result) → on_an_answer s v r ≡ true → OnAnAnswer G s v r
  unfolding on_an_answer
  on_an_answer_lem s v r h = (replies s v (λ h. true), replies_are s v (λ h. true), says_it r _ h)

  -- rule 4: by the replies with that result, or by all that have confirmed it
  unfoldable pub on_fast_or_confirmed : ℕ → ℕ → Result → Bool
  on_fast_or_confirmed s v r = either (says_fast r (counted G.n (replies s v (λ h. same_result r h.result)))) (quorum_of (confirmed s v r))

  pub on_fast_or_confirmed_lem : (s v : ℕ) (r : Result) → on_fast_or_confirmed s v r ≡ true → OnFastOrConfirmed G s v r
  unfolding on_fast_or_confirmed
  on_fast_or_confirmed_lem s v r h = go (either_cases _ _ h)
    where
      agreeing : List Heard
      agreeing = replies s v (λ h. same_result r h.result)

      go : (says_fast r (counted G.n agreeing) ≡ true) ⊎ (quorum_of (confirmed s v r) ≡ true) → OnFastOrConfirmed G s v r
      go (inl k) = inl (agreeing, replies_are s v _, says_fast_lem r _ k)
      go (inr k) = inr (quorum_of_lem _ (Confirmed G s v r) (confirmed_it s v r) k)

  -- ---- every event of a history

  unfoldable pub may_send : ℕ → Message → Bool
  may_send b (propose_prepare s x) = one_body s x
  may_send b (finalise_prepare s v r) = both (one_result s v r) (both (on_an_answer s v r) (before_outcome s))
  may_send b (propose_outcome s o x) = both (one_body s x) (both (commit_after_ok b s o) (never_both s o))
  may_send b (finalise_outcome s v o) = on_acceptances s v o
  may_send b (change_view v) = true
  may_send b (start_view v I) = the_merged v I
  may_send b (read_register s k) = true

  may_send_lem : (b : ℕ) (m : Message) → may_send b m ≡ true → MaySend G b m
  unfolding may_send
  may_send_lem b (propose_prepare s x) h = one_body_lem s x h
  may_send_lem b (finalise_prepare s v r) h =
      let k = both_right (one_result s v r) _ h in
      (one_result_lem s v r (both_left _ _ h), on_an_answer_lem s v r (both_left _ _ k), before_outcome_lem s (both_right (on_an_answer s v r) _ k))
  may_send_lem b (propose_outcome s o x) h =
      let k = both_right (one_body s x) _ h in
      (one_body_lem s x (both_left _ _ h), (commit_after_ok_lem b s o (both_left _ _ k), never_both_lem s o (both_right (commit_after_ok b s o) _ k)))
  may_send_lem b (finalise_outcome s v o) h = on_acceptances_lem s v o h
  may_send_lem b (change_view v) h = tt
  may_send_lem b (start_view v I) h = the_merged_lem v I h
  may_send_lem b (read_register s k) h = tt

  unfoldable pub may : Event → Bool
  may (sends b m) = may_send b m
  may (arrives k) = true
  may (declares s v r) = both (one_result s v r) (both (on_fast_or_confirmed s v r) (before_outcome s))
  may (merges v ks) = true

  may_do : (e : Event) → may e ≡ true → May G e
  unfolding may
  may_do (sends b m) h = may_send_lem b m h
  may_do (arrives k) h = tt
  may_do (declares s v r) h =
      let k = both_right (one_result s v r) _ h in
      (one_result_lem s v r (both_left _ _ h), on_fast_or_confirmed_lem s v r (both_left _ _ k), before_outcome_lem s (both_right (on_fast_or_confirmed s v r) _ k))
  may_do (merges v ks) h = tt

module _ (M : Model) (room : Room) (proposals : Check) where
  unfoldable pub lawful : Group → List Event → Bool
  lawful G [] = true
  lawful G (e ∷ es) = both (may G e) (lawful (step M room proposals G e) es)

  pub lawful_is : (G : Group) (es : List Event) → lawful G es ≡ true → Lawful M room proposals G es
  unfolding lawful
  lawful_is G [] h = tt
  lawful_is G (e ∷ es) h = (may_do G e (both_left _ _ h), lawful_is (step M room proposals G e) es (both_right (may G e) _ h))

-- ---- a history of today's boxes

abbrev pub passes : Model → Group → List Event → Bool
passes M = lawful M keeps_room proposal_check

pub passes_is : (M : Model) (G : Group) (es : List Event) → passes M G es ≡ true → today.Lawful M G es
passes_is M = lawful_is M keeps_room proposal_check

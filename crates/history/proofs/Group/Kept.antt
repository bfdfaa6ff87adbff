-- What the invariant gives at any one time: every view's table keeps what was declared and accepted before, and its accepted rows do not clash.
use mathlib.Core.Path.{◌≡◌, refl, sym, ap, ap₂, subst, ◌∙◌}
use mathlib.Core.Bool.{Bool, true, false}
use mathlib.Core.Logic.{◌⊎◌, inl, inr}
use mathlib.Core.List.{List}
use Prim.Native.Nat.{ℕ, ◌+◌, ◌≤◌, ◌<◌}
use native.Mathlib.Omega.{arith}
use native.Mathlib.Nat.{not-suc-le-zero}
use native.Mathlib.Decide.{dec_le}
use lib.Dec.{eqb}
use borrow.Author.Tests.{eqb-false}
use Rattle.rules.specs.Groups.{quorum, fast_count, agreement_count}
use Rattle.rules.specs.Tables.{Result, Result.OK, Prepare.no_prepare, Prepare.tentative, Prepare.final, Verdict, Verdict.commit, Verdict.abort, Outcome.no_outcome, Outcome.done}
use Rattle.rules.proofs.Logic.{impossible, cases, same?}
use Rattle.rules.proofs.Lists.{◌∈◌}
use Rattle.rules.proofs.Groups.{quorums_meet, agreement_once, fast_meets, fast_quorum}
use Rattle.history.proofs.Group.Below.{lt_or_eq, strong, search_below, at_least_map, at_least_below, shared, some_one, common}
use Rattle.history.proofs.Group.Cells.{is_ok, is_accepted, Holds, one_final, none_final, tentative_final, ok_or_aborted, accepted_not_aborted, none_held, only_OK, prepare_cases, Stands}
use Rattle.history.proofs.Group.Entries.{Cells, Fact, Fact.gave_result, Fact.declared_final, Fact.proposed, Fact.finalised, Fact.promised, Fact.started, Said.said, Proposed, OKReason}
use Rattle.history.proofs.Group.Invariant.{Setup, Crowd, Quorum, accepted_cell, NoFinalAt, AgreedAt, FixedAt, Began, Touched, Entries, DeadEntry, Rests, FastAnswers, Crowds, Invariant}

module _ (X : Setup) (G : List Fact) (entries : Entries) where
  -- what a view's table keeps
  pub record KeptIn (v : ℕ) (M : Cells) : Type 0 where
    pub results : (t u : ℕ) (r : Result) → u < v → declared_final t u r ∈ G → (M t).prepare ≡ final r
    pub outcomes : (t u : ℕ) (o : Verdict) → u < v → Quorum X (λ b. o ∈ (entries b u t).acceptances) → (M t).outcome ≡ done o
    pub apart : (t u : ℕ) → X.clash t u → accepted_cell (M t) ≡ true → accepted_cell (M u) ≡ true → ⊥
    pub proposed : (t : ℕ) (o : Verdict) → (M t).outcome ≡ done o → Proposed G t v o

  abbrev pub Kept : ℕ → Type 0
  Kept v = KeptIn v (X.begun v)

  -- t's OK was in the table of view w, or was sent or declared in w after f+1 boxes checked it there
  abbrev pub Sure : ℕ → ℕ → Type 0
  Sure w t = ((X.begun w t).prepare ≡ final OK) ⊎ ((gave_result t w OK ∈ G) × Quorum X (λ b. (entries b w t).checked ≡ true))

  -- t's abort was in the table of view w, or f+1 boxes accepted it there
  abbrev pub Aborted : ℕ → ℕ → Type 0
  Aborted w t = ((X.begun w t).outcome ≡ done abort) ⊎ Quorum X (λ b. abort ∈ (entries b w t).acceptances)

  module _ (i : Invariant X G entries) where
    two_quorums : X.n < quorum X.f + quorum X.f
    two_quorums = omega (arith, X.size, quorums_meet X.f)

    aborted_from : (b w t : ℕ) → (entries b w t).outcome ≡ done abort → Aborted w t
    aborted_from b w t h = go ((i.good b w t).done_from abort h)
      where
        go : ((X.begun w t).outcome ≡ done abort) ⊎ (finalised t w abort ∈ G) → Aborted w t
        go (inl e) = inl e
        go (inr m) = inr (i.finished t w abort m)

    dead_from : (b w t : ℕ) → gave_result t w OK ∈ G → (entries b w t).checked ≡ true → DeadEntry (entries b w t) → Aborted w t
    dead_from b w t s k (inr h) = aborted_from b w t h
    dead_from b w t s k (inl (r, h, refused)) = go ((i.good b w t).final_from r h)
      where
        go : ((X.begun w t).prepare ≡ final r) ⊎ (gave_result t w r ∈ G) → Aborted w t
        go (inl e) = none_final ((i.good b w t).checked_new k).0 e
        go (inr m) = impossible (ap is_ok (i.result_one t w r OK m s)) refused

    settle : (w t : ℕ) → (X.begun w t).prepare ≡ final OK → (accepted_cell (X.begun w t) ≡ true) ⊎ Aborted w t
    settle w t e = go (cases (accepted_cell (X.begun w t)))
      where
        go : (accepted_cell (X.begun w t) ≡ true) ⊎ (accepted_cell (X.begun w t) ≡ false) → (accepted_cell (X.begun w t) ≡ true) ⊎ Aborted w t
        go (inl a) = inl a
        go (inr a) = inr (inl (ok_or_aborted (X.begun w t).prepare (X.begun w t).outcome e a))

    heart_mixed : (w t u : ℕ) → X.clash t u → (X.begun w t).prepare ≡ final OK → Quorum X (λ b. (entries b w u).checked ≡ true) → Aborted w t
    heart_mixed w t u cl e m = go (settle w t e)
      where
        go : (accepted_cell (X.begun w t) ≡ true) ⊎ Aborted w t → Aborted w t
        go (inr d) = d
        go (inl a) =
            let (b, l, k) = some_one m (omega arith) in
            aborted_from b w t (i.clear_of_begun b w t u cl a k)

    -- of two rows that clash and whose OK is sure in one view, one was aborted there: every hard case below rests on this
    heart : (w t u : ℕ) → Kept w → X.clash t u → Sure w t → Sure w u → Aborted w t ⊎ Aborted w u
    heart w t u kw cl (inl a) (inl b) = go (settle w t a) (settle w u b)
      where
        go : (accepted_cell (X.begun w t) ≡ true) ⊎ Aborted w t → (accepted_cell (X.begun w u) ≡ true) ⊎ Aborted w u → Aborted w t ⊎ Aborted w u
        go (inl x) (inl y) = absurd (kw.apart t u cl x y)
        go (inr d) y = inl d
        go (inl x) (inr d) = inr d
    heart w t u kw cl (inl a) (inr (s, m)) = inl (heart_mixed w t u cl a m)
    heart w t u kw cl (inr (s, m)) (inl b) = inr (heart_mixed w u t (X.clash_sym t u cl) b m)
    heart w t u kw cl (inr (s, m)) (inr (s', m')) =
        let (b, l, (k, k')) = common m m' two_quorums in
        go b k k' (i.checked_apart b w t u cl k k')
      where
        go : (b : ℕ) → (entries b w t).checked ≡ true → (entries b w u).checked ≡ true → DeadEntry (entries b w t) ⊎ DeadEntry (entries b w u) → Aborted w t ⊎ Aborted w u
        go b k k' (inl d) = inl (dead_from b w t s k d)
        go b k k' (inr d) = inr (dead_from b w u s' k' d)

    -- where an OK comes from
    sure_of_result : (w t : ℕ) → gave_result t w OK ∈ G → Sure w t
    sure_of_result w t m = go (i.result_ok t w m)
      where
        go : Rests X entries t w → Sure w t
        go (inl e) = inl e
        go (inr q) = inr (m, q)

    sure_of_declared : (w t u : ℕ) → Kept w → u ≤ w → declared_final t u OK ∈ G → Sure w t
    sure_of_declared w t u kw l d = go (lt_or_eq l)
      where
        go : (u < w) ⊎ (u ≡ w) → Sure w t
        go (inl h) = inl (kw.results t u OK h d)
        go (inr h) = sure_of_result w t (subst (λ (x : ℕ). gave_result t x OK ∈ G) h (i.declared t u OK d).0)

    sure_of_final : (b w t : ℕ) → (entries b w t).prepare ≡ final OK → Sure w t
    sure_of_final b w t h = go ((i.good b w t).final_from OK h)
      where
        go : ((X.begun w t).prepare ≡ final OK) ⊎ (gave_result t w OK ∈ G) → Sure w t
        go (inl e) = inl e
        go (inr m) = sure_of_result w t m

    pub held_proposed : (b w t : ℕ) (o : Verdict) → Kept w → Holds o (entries b w t).outcome → Proposed G t w o
    held_proposed b w t o kw h = go ((i.good b w t).held_from o h)
      where
        go : ((X.begun w t).outcome ≡ done o) ⊎ Proposed G t w o → Proposed G t w o
        go (inl e) = kw.proposed t o e
        go (inr p) = p

    -- two boxes of one view have no unequal finals
    pub same_finals : (b c w t : ℕ) (r q : Result) → (entries b w t).prepare ≡ final r → (entries c w t).prepare ≡ final q → r ≡ q
    same_finals b c w t r q hb hc = go ((i.good b w t).final_from r hb) ((i.good c w t).final_from q hc)
      where
        go : ((X.begun w t).prepare ≡ final r) ⊎ (gave_result t w r ∈ G) → ((X.begun w t).prepare ≡ final q) ⊎ (gave_result t w q ∈ G) → r ≡ q
        go (inl e) y = one_final ((i.good c w t).final_stays r e) hc
        go (inr m) (inl e) = one_final hb ((i.good b w t).final_stays q e)
        go (inr m) (inr k) = i.result_one t w r q m k

    sure_of_commit : (b w t : ℕ) → Kept w → Holds commit (entries b w t).outcome → Sure w t
    sure_of_commit b w t kw h =
        let (u, l, d) = (held_proposed b w t commit kw h).1 refl in
        sure_of_declared w t u kw l d

    -- the crowds that spoke in view u, seen from the merge of a later view
    module _ (v : ℕ) (M : Cells) (m : Began X G v M) where
      abbrev U : ℕ → Type 0
      U b = (b < X.n) × (m.gathered.test b ≡ true) × (m.last b ≡ m.w)

      used : (b : ℕ) → U b → promised b v m.w (m.tables b) ∈ G
      used b (lt, g, e) = subst (λ (x : ℕ). promised b v x (m.tables b) ∈ G) e (m.gathered.holds b g).0

      table_prepare : (b t : ℕ) → U b → (m.tables b t).prepare ≡ (entries b m.w t).prepare
      table_prepare b t h = (i.promise b v m.w (m.tables b) (used b h)).same_prepare t

      table_outcome : (b t : ℕ) → U b → (m.tables b t).outcome ≡ (entries b m.w t).outcome
      table_outcome b t h = (i.promise b v m.w (m.tables b) (used b h)).same_outcome t

      -- a box that was gathered and spoke in u < v: u is at most its last normal view
      low : (b u t : ℕ) → u < v → m.gathered.test b ≡ true → Touched (entries b u t) → u ≤ m.last b
      low b u t l g h = go (i.crossing b v (m.last b) (m.tables b) u t (m.gathered.holds b g).0 h)
        where
          go : (u ≤ m.last b) ⊎ (v ≤ u) → u ≤ m.last b
          go (inl e) = e
          go (inr e) = absurd (omega arith)

      gathered_again : Quorum X (λ b. m.gathered.test b ≡ true)
      gathered_again = record { test = m.gathered.test; holds = λ b e. e; enough = m.gathered.enough }

      -- a quorum that spoke in u: u is at most w, and if it is w one of the quorum's tables is used
      met : (u t k : ℕ) (P : ℕ → Type 0) → u < v → quorum X.f ≤ k → ((b : ℕ) → P b → Touched (entries b u t)) → Crowd X k P → (u ≤ m.w) × (u ≡ m.w → (b : ℕ) × U b × P b)
      met u t k P l big touch crowd =
          let (b, lt, (g, p)) = common gathered_again crowd (omega (arith, two_quorums)) in
          let a = low b u t l g (touch b p) in
          let z = (m.gathered.holds b g).1 in
          (omega arith, λ e. (b, (lt, g, omega arith), p))

      -- all of a fast count's boxes that were gathered: at least the agreement count of used tables
      met_fast : (t : ℕ) (P : ℕ → Type 0) → ((b : ℕ) → P b → Touched (entries b m.w t)) → Crowd X (fast_count X.f) P → Crowd X (agreement_count X.f) (λ b. U b × P b)
      met_fast t P touch crowd =
          at_least_map (λ b h. turn b h.0 h.1.0 h.1.1) (at_least_below (shared (agreement_count X.f) gathered_again crowd (omega (arith, X.size, fast_meets X.f))))
        where
          turn : (b : ℕ) → b < X.n → m.gathered.test b ≡ true → P b → U b × P b
          turn b lt g p =
              let a = low b m.w t m.before g (touch b p) in
              let z = (m.gathered.holds b g).1 in
              ((lt, g, omega arith), p)

      held_kept : (b t : ℕ) (o : Verdict) → U b → Holds o (entries b m.w t).outcome → (M t).outcome ≡ done o
      held_kept b t o h k = m.fair.outcome_kept b t o h (rw (table_outcome b t h) k)

      -- outcomes
      outcomes_kept : Kept m.w → (t u : ℕ) (o : Verdict) → u < v → Quorum X (λ b. o ∈ (entries b u t).acceptances) → (M t).outcome ≡ done o
      outcomes_kept kw t u o l q =
          let (le, at) = met u t (quorum X.f) (λ b. o ∈ (entries b u t).acceptances) l (omega arith) (λ b p. inr (o, p)) q in
          go at (lt_or_eq le)
        where
          go : (u ≡ m.w → (b : ℕ) × U b × (o ∈ (entries b u t).acceptances)) → (u < m.w) ⊎ (u ≡ m.w) → (M t).outcome ≡ done o
          go at (inr e) =
              let (b, h, p) = at e in
              held_kept b t o h ((i.good b m.w t).acceptance_held o (subst (λ (x : ℕ). o ∈ (entries b x t).acceptances) e p))
          go at (inl l') =
              let (b, lt, g, e) = m.top in
              held_kept b t o (lt, g, e) (inr ((i.good b m.w t).done_stays o (kw.outcomes t u o l' q)))

      top_used : U m.top.0
      top_used = (m.top.1, m.top.2, m.top.3)

      final_kept_lem : (b t : ℕ) (r : Result) → U b → (entries b m.w t).prepare ≡ final r → (M t).prepare ≡ final r
      final_kept_lem b t r h k = m.fair.final_kept b t r h (rw (table_prepare b t h) k)

      aborted_kept : Kept m.w → (t : ℕ) → Aborted m.w t → (M t).outcome ≡ done abort
      aborted_kept kw t (inl e) = held_kept m.top.0 t abort top_used (inr ((i.good m.top.0 m.w t).done_stays abort e))
      aborted_kept kw t (inr q) = outcomes_kept kw t m.w abort m.before q

      -- a commit in the merge, or a final OK in a used table
      sure_of_fixed : Kept m.w → (t : ℕ) → FixedAt X U m.tables M t → Sure m.w t
      sure_of_fixed kw t (inl (b, h, e)) = sure_of_final b m.w t (rw (← table_prepare b t h) e)
      sure_of_fixed kw t (inr e) =
          let (b, h, k) = m.fair.outcome_from t commit e in
          sure_of_commit b m.w t kw (rw (← table_outcome b t h) k)

      -- the accepted rows of the merge do not clash
      apart_kept : Kept m.w → (t u : ℕ) → X.clash t u → accepted_cell (M t) ≡ true → accepted_cell (M u) ≡ true → ⊥
      apart_kept kw t u cl a b =
          let (x, y) = m.fair.apart t u cl a b in
          go (heart m.w t u kw cl (sure_of_fixed kw t x) (sure_of_fixed kw u y))
        where
          go : Aborted m.w t ⊎ Aborted m.w u → ⊥
          go (inl d) = accepted_not_aborted (M t).prepare (M t).outcome a (aborted_kept kw t d)
          go (inr d) = accepted_not_aborted (M u).prepare (M u).outcome b (aborted_kept kw u d)

      -- where no used table has a final result, what a used box answered is tentative there
      answered_tentative : (t : ℕ) → NoFinalAt X U m.tables M t → (b : ℕ) (r : Result) (x : Bool) → U b → said r x ∈ (entries b m.w t).answers → (entries b m.w t).prepare ≡ tentative r
      answered_tentative t nf b r x h s = at x s
        where
          none : (q : Result) → (entries b m.w t).prepare ≡ final q → ⊥
          none q e = nf b q h (rw (table_prepare b t h) e)

          go : Stands r (entries b m.w t).prepare → (entries b m.w t).prepare ≡ tentative r
          go (inl e) = e
          go (inr (q, e)) = absurd (none q e)

          at : (x : Bool) → said r x ∈ (entries b m.w t).answers → (entries b m.w t).prepare ≡ tentative r
          at true k = absurd (none r ((i.good b m.w t).answer_final r k))
          at false k = go ((i.good b m.w t).answer_tentative r k).1

      -- the fast count of OK in view w: the merge's check cannot refuse it
      module _ (kw : Kept m.w) (t : ℕ) (d : declared_final t m.w OK ∈ G) (nf : NoFinalAt X U m.tables M t) (op : (M t).outcome ≡ no_outcome) (u : ℕ) (cl : X.clash t u) (au : accepted_cell (M u) ≡ true) where
        not_fixed : FixedAt X U m.tables M u → ⊥
        not_fixed fx = go (heart m.w t u kw cl (sure_of_declared m.w t m.w kw (omega arith) d) (sure_of_fixed kw u fx))
          where
            go : Aborted m.w t ⊎ Aborted m.w u → ⊥
            go (inl x) = none_held op (inr (aborted_kept kw t x))
            go (inr x) = accepted_not_aborted (M u).prepare (M u).outcome au (aborted_kept kw u x)

        -- at a box that answered OK to t and whose table has a tentative OK for u
        at_box : (b : ℕ) → U b → (entries b m.w t).prepare ≡ tentative OK → (entries b m.w u).prepare ≡ tentative OK → ⊥
        at_box b h pt pu = go ((i.good b m.w t).tentative_from pt) ((i.good b m.w u).tentative_from pu)
          where
            dead : DeadEntry (entries b m.w t) ⊎ DeadEntry (entries b m.w u) → ⊥
            dead (inl (inl (r, e, k))) = tentative_final pt e
            dead (inl (inr e)) = none_held op (inr (held_kept b t abort h (inr e)))
            dead (inr (inl (r, e, k))) = tentative_final pu e
            dead (inr (inr e)) = accepted_not_aborted (M u).prepare (M u).outcome au (held_kept b u abort h (inr e))

            go : OKReason (entries b m.w t).checked (entries b m.w t).outcome → OKReason (entries b m.w u).checked (entries b m.w u).outcome → ⊥
            go (inl kt) (inl ku) = dead (i.checked_apart b m.w t u cl kt ku)
            go (inr ct) ku = none_held op (inr (held_kept b t commit h ct))
            go (inl kt) (inr cu) = not_fixed (inr (held_kept b u commit h cu))

        fast_ok : FastAnswers X entries t m.w OK → FixedAt X U m.tables M u ⊎ AgreedAt X U m.tables M u OK → ⊥
        fast_ok crowd (inl fx) = not_fixed fx
        fast_ok crowd (inr ag) =
            let (b, lt, ((x, s), (h, e))) = common crowd ag (omega (arith, X.size, fast_meets X.f, agreement_once X.f)) in
            at_box b h (answered_tentative t nf b OK x h s) (rw (← table_prepare b u h) e)

      -- a final result in a used table, or none
      abbrev HasFinal : ℕ → ℕ → Type 0
      HasFinal t b = (r : Result) × U b × ((m.tables b t).prepare ≡ final r)

      abbrev HasNone : ℕ → ℕ → Type 0
      HasNone t b = (r : Result) → U b → (m.tables b t).prepare ≡ final r → ⊥

      final? : (t b : ℕ) → HasFinal t b ⊎ HasNone t b
      final? t b = go (dec_le (b + 1) X.n) (cases (m.gathered.test b)) (same? (m.last b) m.w) (prepare_cases (m.tables b t).prepare)
        where
          go : Dec (b + 1 ≤ X.n) → (m.gathered.test b ≡ true) ⊎ (m.gathered.test b ≡ false) → (m.last b ≡ m.w) ⊎ (eqb (m.last b) m.w ≡ false) → ((m.tables b t).prepare ≡ no_prepare) ⊎ (((r : Result) × ((m.tables b t).prepare ≡ tentative r)) ⊎ ((r : Result) × ((m.tables b t).prepare ≡ final r))) → HasFinal t b ⊎ HasNone t b
          go d g l (inl e) = inr (λ r h k. none_final e k)
          go d g l (inr (inl (r, e))) = inr (λ r' h k. tentative_final e k)
          go (no z) g l (inr (inr (r, e))) = inr (λ r' h k. z (omega (arith, h.0)))
          go (yes z) (inr g) l (inr (inr (r, e))) = inr (λ r' h k. impossible h.1 g)
          go (yes z) (inl g) (inr l) (inr (inr (r, e))) = inr (λ r' h k. eqb-false (m.last b) m.w l h.2)
          go (yes z) (inl g) (inl l) (inr (inr (r, e))) = inl (r, (omega arith, g, l), e)

      -- the fast count in view w, with a final result in a used table: they are the same
      fast_final : (t b c : ℕ) (r q : Result) (x : Bool) → gave_result t m.w r ∈ G → said r x ∈ (entries c m.w t).answers → (entries b m.w t).prepare ≡ final q → r ≡ q
      fast_final t b c r q x rs s e = go x s ((i.good b m.w t).final_from q e)
        where
          go : (x : Bool) → said r x ∈ (entries c m.w t).answers → ((X.begun m.w t).prepare ≡ final q) ⊎ (gave_result t m.w q ∈ G) → r ≡ q
          go x s (inr ks) = i.result_one t m.w r q rs ks
          go true s (inl k) = one_final ((i.good c m.w t).answer_final r s) ((i.good c m.w t).final_stays q k)
          go false s (inl k) = none_final ((i.good c m.w t).answer_tentative r s).0 k

      agreed_from : (t : ℕ) (r : Result) → NoFinalAt X U m.tables M t → FastAnswers X entries t m.w r → AgreedAt X U m.tables M t r
      agreed_from t r nf crowd =
          at_least_map (λ b h. (h.0, table_prepare b t h.0 ∙ answered_tentative t nf b r h.1.0 h.0 h.1.1)) (met_fast t (λ b. (x : Bool) × (said r x ∈ (entries b m.w t).answers)) (λ b p. inl (said r p.0, p.1)) crowd)

      fast_kept : Kept m.w → (t : ℕ) (r : Result) → declared_final t m.w r ∈ G → gave_result t m.w r ∈ G → FastAnswers X entries t m.w r → (M t).prepare ≡ final r
      fast_kept kw t r d rs crowd =
          go (search_below X.n (HasFinal t) (HasNone t) (final? t))
        where
          ok : r ≡ OK → NoFinalAt X U m.tables M t → ((M t).prepare ≡ final OK) ⊎ (((M t).outcome ≡ no_outcome) × ((u : ℕ) × X.clash t u × (accepted_cell (M u) ≡ true) × (FixedAt X U m.tables M u ⊎ AgreedAt X U m.tables M u OK))) → (M t).prepare ≡ final r
          ok e nf (inl k) = rw e k
          ok e nf (inr (op, (u, cl, au, why))) =
              absurd (fast_ok kw t (rw e at d) nf op u cl au (rw e at crowd) why)

          not_final : NoFinalAt X U m.tables M t → (is_ok r ≡ true) ⊎ (is_ok r ≡ false) → (M t).prepare ≡ final r
          not_final nf (inr k) = m.fair.refusal_kept t r nf (agreed_from t r nf crowd) k
          not_final nf (inl k) = let e = only_OK r k in ok e nf (m.fair.ok_kept t nf (rw e at (agreed_from t r nf crowd)))

          go : ((b : ℕ) × (b < X.n) × HasFinal t b) ⊎ ((b : ℕ) → b < X.n → HasNone t b) → (M t).prepare ≡ final r
          go (inl (b, lt, (q, h, e))) =
              let (c, lc, (x, s)) = some_one crowd (omega arith) in
              m.fair.final_kept b t q h e ∙ ap final (sym (fast_final t b c r q x rs s (sym (table_prepare b t h) ∙ e)))
          go (inr nf) = not_final (λ b q h e. nf b h.0 q h e) (cases (is_ok r))

      old_kept : Kept m.w → (t u : ℕ) (r : Result) → u < m.w → declared_final t u r ∈ G → (M t).prepare ≡ final r
      old_kept kw t u r l d = final_kept_lem m.top.0 t r top_used ((i.good m.top.0 m.w t).final_stays r (kw.results t u r l d))

      results_kept : Kept m.w → (t u : ℕ) (r : Result) → u < v → declared_final t u r ∈ G → (M t).prepare ≡ final r
      results_kept kw t u r l d = go (i.declared t u r d).0 (i.declared t u r d).1
        where
          go : gave_result t u r ∈ G → Crowds X entries t u r → (M t).prepare ≡ final r
          go rs (inr q) =
              let (le, at) = met u t (quorum X.f) (λ b. said r true ∈ (entries b u t).answers) l (omega arith) (λ b p. inl (said r true, p)) q in
              slow at (lt_or_eq le)
            where
              slow : (u ≡ m.w → (b : ℕ) × U b × (said r true ∈ (entries b u t).answers)) → (u < m.w) ⊎ (u ≡ m.w) → (M t).prepare ≡ final r
              slow at (inl l') = old_kept kw t u r l' d
              slow at (inr e) =
                  let (b, h, p) = at e in
                  final_kept_lem b t r h ((i.good b m.w t).answer_final r (rw e at p))
          go rs (inl q) =
              let (le, at) = met u t (fast_count X.f) (λ b. (x : Bool) × (said r x ∈ (entries b u t).answers)) l (fast_quorum X.f) (λ b p. inl (said r p.0, p.1)) q in
              quick (lt_or_eq le)
            where
              quick : (u < m.w) ⊎ (u ≡ m.w) → (M t).prepare ≡ final r
              quick (inl l') = old_kept kw t u r l' d
              quick (inr e) = fast_kept kw t r (rw e at d) (rw e at rs) (rw e at q)

      proposed_kept : Kept m.w → (t : ℕ) (o : Verdict) → (M t).outcome ≡ done o → Proposed G t v o
      proposed_kept kw t o e =
          let (b, h, k) = m.fair.outcome_from t o e in
          let (p, why) = held_proposed b m.w t o kw (rw (← table_outcome b t h) k) in
          (p, λ c. let (u, l, d) = why c in (u, omega (arith, m.before), d))

      pub kept : Kept m.w → KeptIn v M
      kept kw =
          record { results = results_kept kw; outcomes = outcomes_kept kw; apart = apart_kept kw; proposed = proposed_kept kw }

    fresh_kept : Kept 0
    fresh_kept =
        record {
          results = λ t u r l d. absurd (not-suc-le-zero l);
          outcomes = λ t u o l q. absurd (not-suc-le-zero l);
          apart = λ t u cl a b. impossible a (ap₂ is_accepted (X.fresh_prepare t) (X.fresh_outcome t));
          proposed = λ t o e. none_held (X.fresh_outcome t) (inr e);
        }

    -- every view's table keeps all this: by induction on views, at one time, since what a promise handed over changes no more
    pub keeps : (v : ℕ) → (v ≡ 0) ⊎ (started v ∈ G) → Kept v
    keeps = strong (λ v. (v ≡ 0) ⊎ (started v ∈ G) → Kept v) step
      where
        step : (v : ℕ) → ((x : ℕ) → x < v → (x ≡ 0) ⊎ (started x ∈ G) → Kept x) → (v ≡ 0) ⊎ (started v ∈ G) → Kept v
        step v below (inl e) = rw e fresh_kept
        step v below (inr s) = let m = i.began v s in kept v (X.begun v) m (below m.w m.before m.base)

    -- two boxes of one view have no opposite outcomes
    pub same_outcomes : (b c w t : ℕ) (o u : Verdict) → (w ≡ 0) ⊎ (started w ∈ G) → Holds o (entries b w t).outcome → Holds u (entries c w t).outcome → o ≡ u
    same_outcomes b c w t o u known hb hc = one o u (held_proposed b w t o (keeps w known) hb).0 (held_proposed c w t u (keeps w known) hc).0
      where
        one : (o u : Verdict) → proposed t o ∈ G → proposed t u ∈ G → o ≡ u
        one commit commit p q = refl
        one commit abort p q = absurd (i.one_verdict t p q)
        one abort commit p q = absurd (i.one_verdict t q p)
        one abort abort p q = refl

    -- any fair merge of what a view change gathered, sent or not
    pub any_merge : (v : ℕ) (M : Cells) → Began X G v M → KeptIn v M
    any_merge v M m = kept v M m (keeps m.w m.base)

    view_known : (t u : ℕ) (r : Result) → declared_final t u r ∈ G → (u ≡ 0) ⊎ (started u ∈ G)
    view_known t u r d = go (i.declared t u r d).1
      where
        go : Crowds X entries t u r → (u ≡ 0) ⊎ (started u ∈ G)
        go (inl q) = let (b, l, (x, p)) = some_one q (omega arith) in i.seen b u t (inl (said r x, p))
        go (inr q) = let (b, l, p) = some_one q (omega arith) in i.seen b u t (inl (said r true, p))

    abort_proposed : (w t : ℕ) → Kept w → Aborted w t → proposed t abort ∈ G
    abort_proposed w t kw (inl e) = (kw.proposed t abort e).0
    abort_proposed w t kw (inr q) =
        let (b, l, p) = some_one q (omega arith) in
        (held_proposed b w t abort kw ((i.good b w t).acceptance_held abort p)).0

    ordered : (t u x y : ℕ) → x ≤ y → declared_final t x OK ∈ G → declared_final u y OK ∈ G → proposed t commit ∈ G → proposed u commit ∈ G → X.clash t u → ⊥
    ordered t u x y l dt du pt pu cl = go (heart y t u kw cl (sure_of_declared y t x kw l dt) (sure_of_declared y u y kw (omega arith) du))
      where
        kw : Kept y
        kw = keeps y (view_known u y OK du)

        go : Aborted y t ⊎ Aborted y u → ⊥
        go (inl d) = i.one_verdict t pt (abort_proposed y t kw d)
        go (inr d) = i.one_verdict u pu (abort_proposed y u kw d)

    -- committed transactions never clash
    pub committed_apart : (t u : ℕ) → proposed t commit ∈ G → proposed u commit ∈ G → X.clash t u → ⊥
    committed_apart t u pt pu cl = go (dec_le x y)
      where
        x : ℕ
        x = (i.commit_after t pt).0

        y : ℕ
        y = (i.commit_after u pu).0

        go : Dec (x ≤ y) → ⊥
        go (yes l) = ordered t u x y l (i.commit_after t pt).1 (i.commit_after u pu).1 pt pu cl
        go (no l) = ordered u t y x (omega arith) (i.commit_after u pu).1 (i.commit_after t pt).1 pu pt (X.clash_sym t u cl)

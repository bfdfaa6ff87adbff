-- A group of the history beside a state of the abstract group: what was sent, answered, declared and merged stands behind the facts, and the facts behind it.
use mathlib.Core.Path.{◌≡◌, sym, ap, ◌∙◌}
use mathlib.Core.Bool.{true, false}
use mathlib.Core.Logic.{◌⊎◌, inl, inr}
use mathlib.Core.List.Memᴰ
use mathlib.Core.List.{List, [], ◌∷◌, ◌++◌}
use Prim.Native.Nat.{ℕ, ◌+◌, ◌≤◌, ◌<◌}
use native.Mathlib.Omega.{arith}
use lib.Dec.{eqb}
use Rattle.rules.specs.Tests.{every}
use Rattle.rules.specs.Tables.{Result.OK, Verdict, Verdict.commit, Row, Table}
use Rattle.rules.specs.Messages.{Message, Message.propose_prepare, Message.finalise_prepare, Message.propose_outcome, Message.finalise_outcome, Message.change_view, Message.start_view, Message.read_register}
use Rattle.rules.specs.Circumstances.{settled}
use Rattle.rules.specs.Answers.{Reply, Answer}
use Rattle.rules.specs.Merge.{holds_verdict}
use Rattle.rules.proofs.Logic.{same?, eqb_self}
use Rattle.rules.proofs.Lists.{◌∈◌}
use Rattle.history.specs.Survival.{Sent, Answered, Declared, Merged, Group, put, sending, answering, declaring, merging, Carries, WasSent, WasDeclared}
use Rattle.history.proofs.Group.Entries.{Fact, Fact.gave_result, Fact.declared_final, Fact.proposed, Fact.finalised, Fact.promised, Fact.body_sent, Fact.started, Said, Entry}
use Rattle.history.proofs.Group.Invariant.{Began}
use Rattle.history.proofs.Group.Acts.{State, Sound}
use Rattle.history.proofs.Group.Facts.{began_wider}
use Rattle.history.proofs.Follow.World.{World, setup, cells_in}
use Rattle.history.proofs.Follow.Boxes.{Owned, owned_wider, BoxIs, Onward, OfBoxes}
use Rattle.history.proofs.Follow.Answering.{Echo}
use Rattle.history.proofs.Follow.Gathered.{HadIs}

-- ---- what stands behind a message, a fact, a merge

-- what a message names is what the history names by its stamp or its view
abbrev pub Named : World → Message → Type 0
Named W (propose_prepare t x) = x ≡ W.bodies t
Named W (finalise_prepare t v r) = Unit {0}
Named W (propose_outcome t o x) = x ≡ W.bodies t
Named W (finalise_outcome t v o) = Unit {0}
Named W (change_view v) = Unit {0}
Named W (start_view v I) = every settled I.rows ≡ true → 0 < v → W.begun v ≡ I.rows
Named W (read_register t k) = Unit {0}

-- a merged table is a fair merge of what was gathered
abbrev pub Grounded : World → State → ℕ → Table → Type 0
Grounded W s v I = Began (setup W) s.facts v (cells_in I.rows) × Owned W s.facts I.rows

abbrev pub Backed : World → State → ℕ → Message → Type 0
Backed W s b (propose_prepare t x) = body_sent t ∈ s.facts
Backed W s b (finalise_prepare t v r) = gave_result t v r ∈ s.facts
Backed W s b (propose_outcome t o x) = (proposed t o ∈ s.facts) × (o ≡ commit → (u : ℕ) × (u ≤ s.view b) × (declared_final t u OK ∈ s.facts)) × (body_sent t ∈ s.facts)
Backed W s b (finalise_outcome t v o) = finalised t v o ∈ s.facts
Backed W s b (change_view v) = Unit {0}
Backed W s b (start_view v I) = Grounded W s v I
Backed W s b (read_register t k) = Unit {0}

-- a result, an outcome or a body that counts as given comes from what was sent or declared; the other facts need nothing behind them
abbrev pub Back : World → Group → Fact → Type 0
Back W G (gave_result t v r) = WasSent G (finalise_prepare t v r) ⊎ WasDeclared G t v r
Back W G (declared_final t v r) = Unit {0}
Back W G (proposed t o) = WasSent G (propose_outcome t o (W.bodies t))
Back W G (finalised t v o) = Unit {0}
Back W G (promised b v x cells) = Unit {0}
Back W G (body_sent t) = (m : Message) × WasSent G m × Carries t (W.bodies t) m
Back W G (started v) = Unit {0}

-- what a merge holds had been sent by then
pub record MergedIs (W : World) (s : State) (m : Merged) : Type 0 where
  pub grounded : Grounded W s m.view m.table
  pub rows_sent : (r : Row) → r ∈ m.table.rows → (x : Sent) × (x ∈ m.sent_by_then) × Carries r.stamp r.body x.message
  pub outcomes_sent : (r : Row) (o : Verdict) → r ∈ m.table.rows → holds_verdict o r.outcome ≡ true → (x : Sent) × (x ∈ m.sent_by_then) × (x.message ≡ propose_outcome r.stamp o r.body)

-- an answer numbered 0 is in the box's entries
pub record AnswerIs (s : State) (a : Answered) : Type 0 where
  pub reached : a.reply.view ≤ s.view a.box
  pub echo : Echo s a.box a.message a.reply

pub record Follows (W : World) (G : Group) (s : State) : Type 0 where
  pub size : G.n ≡ W.n
  pub boxes : (b : ℕ) → BoxIs W s b (G.table b)
  -- a box holds nothing yet of the views above its own
  pub above : (b v t : ℕ) → s.view b < v → ((s.entry b v t).prepare ≡ ((setup W).begun v t).prepare) × ((s.entry b v t).outcome ≡ ((setup W).begun v t).outcome)
  pub sent : (x : Sent) → x ∈ G.sent → Backed W s x.box x.message × Named W x.message
  pub answers : (a : Answered) → a ∈ G.answers → (a.box < W.n) × (a.reply.number ≡ 0 → AnswerIs s a)
  pub declared : (d : Declared) → d ∈ G.declared → declared_final d.stamp d.view d.result ∈ s.facts
  pub had : (T : Table) → T ∈ G.had → HadIs W s.facts T
  pub merged : (m : Merged) → m ∈ G.merged → MergedIs W s m
  pub facts : (φ : Fact) → φ ∈ s.facts → Back W G φ

-- ---- a later state knows no less

pub record Wider (s next : State) : Type 0 where
  pub facts : (φ : Fact) → φ ∈ s.facts → φ ∈ next.facts
  pub views : (c : ℕ) → s.view c ≤ next.view c
  pub answers : (c w t : ℕ) (a : Said) → a ∈ (s.entry c w t).answers → a ∈ (next.entry c w t).answers
  pub acceptances : (c w t : ℕ) (o : Verdict) → o ∈ (s.entry c w t).acceptances → o ∈ (next.entry c w t).acceptances

module _ (W : World) (s next : State) (w : Wider s next) where
  grounded_wider : (v : ℕ) (I : Table) → Grounded W s v I → Grounded W next v I
  grounded_wider v I (m, own) = (began_wider w.facts m, owned_wider W w.facts I.rows own)

  backed_wider : (b : ℕ) (m : Message) → Backed W s b m → Backed W next b m
  backed_wider b (propose_prepare t x) k = w.facts _ k
  backed_wider b (finalise_prepare t v r) k = w.facts _ k
  backed_wider b (propose_outcome t o x) (p, why, k) = (w.facts _ p, λ e. let (u, l, d) = why e in (u, omega (arith, l, w.views b), w.facts _ d), w.facts _ k)
  backed_wider b (finalise_outcome t v o) k = w.facts _ k
  backed_wider b (change_view v) k = tt
  backed_wider b (start_view v I) k = grounded_wider v I k
  backed_wider b (read_register t k) h = tt

  echo_wider : (b : ℕ) (m : Message) (p : Reply) → Echo s b m p → Echo next b m p
  echo_wider b (propose_prepare t x) p k = λ r f c n. w.answers b p.view t _ (k r f c n)
  echo_wider b (finalise_prepare t v r) p (k, l) = (λ q f c n. w.answers b p.view t _ (k q f c n), w.answers b p.view t _ l)
  echo_wider b (propose_outcome t o x) p k = w.acceptances b p.view t o k
  echo_wider b (finalise_outcome t v o) p k = tt
  echo_wider b (change_view v) p k = tt
  echo_wider b (start_view v I) p k = tt
  echo_wider b (read_register t r) p k = tt

  answer_wider : (a : Answered) → (a.box < W.n) × (a.reply.number ≡ 0 → AnswerIs s a) → (a.box < W.n) × (a.reply.number ≡ 0 → AnswerIs next a)
  answer_wider a (l, k) = (l, λ e. record { reached = omega (arith, (k e).reached, w.views a.box); echo = echo_wider a.box a.message a.reply (k e).echo })

  had_wider : (T : Table) → HadIs W s.facts T → HadIs W next.facts T
  had_wider T h = record { box = h.box; group = h.group; mode = h.mode; owned = owned_wider W w.facts T.rows h.owned; handed = λ e. let (m, base) = h.handed e in (w.facts _ m, wide base) }
    where
      wide : {A : Type 0} {φ : Fact} → A ⊎ (φ ∈ s.facts) → A ⊎ (φ ∈ next.facts)
      wide (inl a) = inl a
      wide (inr k) = inr (w.facts _ k)

  merged_wider : (m : Merged) → MergedIs W s m → MergedIs W next m
  merged_wider m h = record { grounded = grounded_wider m.view m.table h.grounded; rows_sent = h.rows_sent; outcomes_sent = h.outcomes_sent }

-- ---- a longer history knows no less

back_wider : (W : World) (G H : Group) → ((x : Sent) → x ∈ G.sent → x ∈ H.sent) → ((d : Declared) → d ∈ G.declared → d ∈ H.declared) → (φ : Fact) → Back W G φ → Back W H φ
back_wider W G H sent declared (gave_result t v r) (inl (b, m)) = inl (b, sent _ m)
back_wider W G H sent declared (gave_result t v r) (inr m) = inr (declared _ m)
back_wider W G H sent declared (declared_final t v r) k = tt
back_wider W G H sent declared (proposed t o) (b, m) = (b, sent _ m)
back_wider W G H sent declared (finalised t v o) k = tt
back_wider W G H sent declared (promised b v x cells) k = tt
back_wider W G H sent declared (body_sent t) (m, (b, i), c) = (m, (b, sent _ i), c)
back_wider W G H sent declared (started v) k = tt

of_boxes : (W : World) (G : Group) (φ : Fact) → OfBoxes φ → Back W G φ
of_boxes W G (gave_result t v r) k = absurd k
of_boxes W G (declared_final t v r) k = tt
of_boxes W G (proposed t o) k = absurd k
of_boxes W G (finalised t v o) k = tt
of_boxes W G (promised b v x cells) k = tt
of_boxes W G (body_sent t) k = absurd k
of_boxes W G (started v) k = tt

-- an element of a list with one more at its end
pub last_or : {A : Type 0} {x y : A} (xs : List A) → x ∈ (xs ++ (y ∷ [])) → (x ∈ xs) ⊎ (x ≡ y)
last_or {A} {x} {y} xs m = go (Memᴰ.append_cases xs m)
  where
    go : (x ∈ xs) ⊎ (x ∈ (y ∷ [])) → (x ∈ xs) ⊎ (x ≡ y)
    go (inl k) = inl k
    go (inr k) = inr (Memᴰ.eq_of_singleton k)

-- what holds of each and of one more
pub and_last : {A : Type 0} (P : A → Type 0) (xs : List A) (y : A) → ((x : A) → x ∈ xs → P x) → P y → (x : A) → x ∈ (xs ++ (y ∷ [])) → P x
and_last {A} P xs y each one x m = go (last_or xs m)
  where
    go : (x ∈ xs) ⊎ (x ≡ y) → P x
    go (inl k) = each x k
    go (inr e) = rw e one

-- ---- an answer

-- a box that a step left alone
box_alone : (W : World) (b c : ℕ) (s next : State) (T : Table) → Onward b s next → eqb b c ≡ false → BoxIs W s c T → BoxIs W next c T
box_alone W b c s next T o d i =
    record {
      box = i.box;
      group = i.group;
      view = i.view ∙ sym same.0;
      promise = i.promise ∙ sym same.1;
      mode = i.mode;
      prepare = λ t. i.prepare t ∙ ap (λ (e : Entry). e.prepare) (entry_same t);
      outcome = λ t. i.outcome t ∙ ap (λ (e : Entry). e.outcome) (entry_same t);
      owned = owned_wider W o.facts T.rows i.owned;
      handed = λ e. o.facts _ (i.handed e);
    }
  where
    same : (next.view c ≡ s.view c) × (next.promised c ≡ s.promised c) × ((w t : ℕ) → next.entry c w t ≡ s.entry c w t)
    same = o.others c d

    entry_same : (t : ℕ) → s.entry c (s.view c) t ≡ next.entry c (next.view c) t
    entry_same t = sym (same.2 (s.view c) t) ∙ ap (λ (w : ℕ). next.entry c w t) (sym same.0)

wider : {b : ℕ} {s next : State} → Onward b s next → Wider s next
wider o = record { facts = o.facts; views = o.views; answers = o.answers; acceptances = o.acceptances }

module _ (W : World) (G : Group) (s next : State) (x : Sent) (a : Answer) where
  pub answer_follows : Follows W G s → x.box < W.n → Sound (setup W) next → Onward x.box s next → BoxIs W next x.box a.table → (a.reply.number ≡ 0 → AnswerIs next (record { box = x.box; message = x.message; reply = a.reply })) → Follows W (answering G x a) next
  answer_follows F inside k o i echo =
      record {
        size = F.size;
        boxes = λ c. box_at c (same? x.box c);
        above = λ c v t h. let e = o.above c v t h in let (p, q) = F.above c v t (omega (arith, h, o.views c)) in (ap (λ (y : Entry). y.prepare) e ∙ p, ap (λ (y : Entry). y.outcome) e ∙ q);
        sent = λ y m. let (p, q) = F.sent y m in (backed_wider W s next w y.box y.message p, q);
        answers = and_last (λ (y : Answered). (y.box < W.n) × (y.reply.number ≡ 0 → AnswerIs next y)) G.answers (record { box = x.box; message = x.message; reply = a.reply }) (λ y m. answer_wider W s next w y (F.answers y m)) (inside, echo);
        declared = λ d m. o.facts _ (F.declared d m);
        had = and_last (HadIs W next.facts) G.had a.table (λ T m. had_wider W s next w T (F.had T m)) now;
        merged = λ m h. merged_wider W s next w m (F.merged m h);
        facts = λ φ m. from φ (o.facts_from φ m);
      }
    where
      w : Wider s next
      w = wider o

      box_at : (c : ℕ) → (x.box ≡ c) ⊎ (eqb x.box c ≡ false) → BoxIs W next c (put G.table x.box a.table c)
      box_at c (inl e) = rw (← e, eqb_self x.box) i
      box_at c (inr e) = rw e (box_alone W x.box c s next (G.table c) o e (F.boxes c))

      now : HadIs W next.facts a.table
      now =
          record {
            box = rw i.box inside;
            group = i.group;
            mode = i.mode;
            owned = i.owned;
            handed = λ e. (rw i.box (i.handed e), rw i.view (k.based x.box));
          }

      from : (φ : Fact) → (φ ∈ s.facts) ⊎ OfBoxes φ → Back W (answering G x a) φ
      from φ (inl m) = back_wider W G (answering G x a) (λ y h. h) (λ d h. h) φ (F.facts φ m)
      from φ (inr h) = of_boxes W (answering G x a) φ h

-- ---- what coordinators do: more facts, and boxes as they were

abbrev pub knowing : State → List Fact → State
knowing s facts = record { view = s.view; promised = s.promised; entry = s.entry; facts = facts }

module _ (W : World) (G : Group) (s : State) (more : List Fact) (up : (φ : Fact) → φ ∈ s.facts → φ ∈ more) (F : Follows W G s) where
  knowing_wider : Wider s (knowing s more)
  knowing_wider = record { facts = up; views = λ c. omega arith; answers = λ c w t a m. m; acceptances = λ c w t o m. m }

  abbrev pub BackedAndNamed : Sent → Type 0
  BackedAndNamed x = Backed W (knowing s more) x.box x.message × Named W x.message

  abbrev pub InFacts : Declared → Type 0
  InFacts d = declared_final d.stamp d.view d.result ∈ more

  was_sent : (x : Sent) → x ∈ G.sent → BackedAndNamed x
  was_sent x m = let (p, q) = F.sent x m in (backed_wider W s (knowing s more) knowing_wider x.box x.message p, q)

  was_declared_lem : (d : Declared) → d ∈ G.declared → InFacts d
  was_declared_lem d m = up _ (F.declared d m)

  was_merged : (m : Merged) → m ∈ G.merged → MergedIs W (knowing s more) m
  was_merged m i = merged_wider W s (knowing s more) knowing_wider m (F.merged m i)

  box_knowing : (b : ℕ) → BoxIs W (knowing s more) b (G.table b)
  box_knowing b =
      let i = F.boxes b in
      record { box = i.box; group = i.group; view = i.view; promise = i.promise; mode = i.mode; prepare = i.prepare; outcome = i.outcome; owned = owned_wider W up (G.table b).rows i.owned; handed = λ e. up _ (i.handed e) }

  -- what is true of G stays so with these facts and with longer lists of what was sent, declared and merged
  module _ (sent : List Sent) (declared : List Declared) (merged : List Merged) where
    abbrev longer : Group
    longer = record { n = G.n; table = G.table; had = G.had; sent = sent; answers = G.answers; declared = declared; merged = merged }

    known : ((x : Sent) → x ∈ G.sent → x ∈ sent) → ((d : Declared) → d ∈ G.declared → d ∈ declared) → ((x : Sent) → x ∈ sent → BackedAndNamed x) → ((d : Declared) → d ∈ declared → InFacts d) → ((m : Merged) → m ∈ merged → MergedIs W (knowing s more) m) → ((φ : Fact) → φ ∈ more → (φ ∈ s.facts) ⊎ Back W longer φ) → Follows W longer (knowing s more)
    known more_sent more_declared each_sent each_declared each_merged new =
        record {
          size = F.size;
          boxes = box_knowing;
          above = F.above;
          sent = each_sent;
          answers = λ a m. answer_wider W s (knowing s more) knowing_wider a (F.answers a m);
          declared = each_declared;
          had = λ T m. had_wider W s (knowing s more) knowing_wider T (F.had T m);
          merged = each_merged;
          facts = λ φ m. from φ (new φ m);
        }
      where
        from : (φ : Fact) → (φ ∈ s.facts) ⊎ Back W longer φ → Back W longer φ
        from φ (inl m) = back_wider W G longer more_sent more_declared φ (F.facts φ m)
        from φ (inr h) = h

  pub known_sent : (x : Sent) → BackedAndNamed x → ((φ : Fact) → φ ∈ more → (φ ∈ s.facts) ⊎ Back W (sending G x) φ) → Follows W (sending G x) (knowing s more)
  known_sent x back = known (G.sent ++ (x ∷ [])) G.declared G.merged (λ y m. Memᴰ.append_left (x ∷ []) m) (λ d m. m) (and_last BackedAndNamed G.sent x was_sent back) was_declared_lem was_merged

  pub known_declared : (d : Declared) → InFacts d → ((φ : Fact) → φ ∈ more → (φ ∈ s.facts) ⊎ Back W (declaring G d) φ) → Follows W (declaring G d) (knowing s more)
  known_declared d it = known G.sent (G.declared ++ (d ∷ [])) G.merged (λ y m. m) (λ e m. Memᴰ.append_left (d ∷ []) m) was_sent (and_last InFacts G.declared d was_declared_lem it) was_merged

pub known_merged : (W : World) (G : Group) (s : State) → Follows W G s → (m : Merged) → MergedIs W s m → Follows W (merging G m) s
known_merged W G s F m h = known W G s s.facts (λ φ i. i) F G.sent G.declared (G.merged ++ (m ∷ [])) (λ y i. i) (λ e i. i) F.sent F.declared (and_last (MergedIs W s) G.merged m F.merged h) (λ φ i. inl i)

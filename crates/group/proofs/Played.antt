-- Every lawful history whose messages break no rule can be played in buffers: so there is something that is done by the rules.
use mathlib.Core.Path.{◌≡◌, refl, sym, ap, subst, ◌∙◌}
use mathlib.Core.Bool.{Bool, true, false, cond}
use mathlib.Core.List.{List, [], ◌∷◌, map}
use mathlib.Core.Option.{Option, none, some}
use Prim.Native.Nat.{ℕ, ◌+◌, ◌*◌, ◌≤◌}
use native.Mathlib.Omega.{arith}
use lib.Dec.{ltb}
use lib.ListN.{replicate, length-replicate}
use Rattle.rules.specs.Tests.{every, and_also, all_of}
use Rattle.rules.specs.Tables.{Table, Model}
use Rattle.rules.specs.Messages.{Message}
use Rattle.rules.specs.Circumstances.{message_by_rule}
use Rattle.rules.specs.Check.{check}
use Rattle.rules.specs.Merge.{merge}
use Rattle.rules.proofs.Logic.{both_left, both_right}
use Rattle.table.specs.Images.{format_one}
use Rattle.table.specs.Parse.{table_at}
use Rattle.table.proofs.Images.{Sound}
use Rattle.message.specs.Inner.MessageBytes.{message_bytes}
use Rattle.message.proofs.Forms.{message_read}
use Rattle.history.specs.Survival as history
use Rattle.history.specs.Survival.{Group, Event, at, May}
use Rattle.history.proofs.Follow.Arrivals.{chosen_in}
use Rattle.history_cases.specs.Today as today
use Rattle.history_cases.specs.Today.{answer, step, after, Lawful}
use Rattle.group.specs.Said.{message_in, laid_images}
use Rattle.group.specs.Inner.StandIns.{or_no_message}
use Rattle.group.specs.Acts.{GroupInBuffers, Act, Act.sends, Act.arrives, Act.declares, Act.merges, act, after_acts}
use Rattle.group.specs.Rules.{OfBoxes, MaySend, MayAct, ByTheRules}
use Rattle.group.proofs.Reading.{reading}
use Rattle.group.proofs.Listed.{mapped, map_at}
use Rattle.group.proofs.AnswerSaid.{message_is}
use Rattle.group.proofs.Good.{Good, sending_good, declaring_good}
use Rattle.group.proofs.RulesBack.{may_send_back, may_declare_back}
use Rattle.group.proofs.Merging.{merges_good, merges_read}
use Rattle.group.proofs.Following.{sends_read, arrives_read}

-- what is sent breaks no rule of a message's own
abbrev pub event_by_rule : Model → ℕ → Event → Bool
event_by_rule M n (Event.sends b m) = message_by_rule M n m
event_by_rule M n (Event.arrives k) = true
event_by_rule M n (Event.declares s v r) = true
event_by_rule M n (Event.merges v ks) = true

module _ (M : Model) (sound : Sound format_one M) (room : 24 + 96 * M.row_limit ≤ M.least_buffer) where
  written_is : (n : ℕ) (m : Message) → message_by_rule M n m ≡ true → message_in M n (message_bytes format_one m) ≡ some m
  written_is n m r = message_is M n (message_bytes format_one m) m (message_read format_one M n m sound r) r

  -- a step leaves the group's size
  step_n : (G : Group) (e : Event) → (step M G e).n ≡ G.n
  step_n G (Event.sends b m) = refl
  step_n G (Event.arrives k) = go (at G.sent k)
    where
      go : (o : Option history.Sent) → (today.arriving M G o).n ≡ G.n
      go none = refl
      go (some x) = by (ltb x.box G.n)
        where
          by : (b : Bool) → (cond b (history.answering G x (answer M (G.table x.box) x.message)) G).n ≡ G.n
          by true = refl
          by false = refl
  step_n G (Event.declares s v r) = refl
  step_n G (Event.merges v ks) = go (merge M check v (all_of (at G.had) ks))
    where
      go : (o : Option Table) → (today.merging_as M G v o).n ≡ G.n
      go none = refl
      go (some T) = refl

  -- the tables at places of buffers that are read
  chosen_read : (ss : List (List ℕ)) (ks : List ℕ) → all_of (at (map (table_at format_one) ss)) ks ≡ map (table_at format_one) (all_of (at ss) ks)
  unfolding all_of
  chosen_read ss [] = refl
  chosen_read ss (k ∷ ks) = rw (map_at (table_at format_one) ss k, chosen_read ss ks) (go (at ss k))
    where
      go : (o : Option (List ℕ)) → and_also (mapped (table_at format_one) o) (map (table_at format_one) (all_of (at ss) ks)) ≡ map (table_at format_one) (and_also o (all_of (at ss) ks))
      go none = refl
      go (some s) = refl

  -- an act that is the event
  pub record PlayedAs (B : GroupInBuffers) (e : Event) : Type 0 where
    pub played : Act
    pub may : MayAct M B played
    pub same : reading M (act M B played) ≡ step M (reading M B) e
    pub good : Good M (act M B played)

  play : (B : GroupInBuffers) → Good M B → (e : Event) → event_by_rule M B.n e ≡ true → May (reading M B) e → PlayedAs B e
  play B good (Event.sends b m) r may =
      let is = written_is B.n m r in
      record {
        played = sends b (message_bytes format_one m);
        may = subst (MaySend M B b) (sym is) (may_send_back M B good b m may);
        same = sends_read M sound room B b (message_bytes format_one m) ∙ ap (λ o. step M (reading M B) (Event.sends b (or_no_message o))) is;
        good = sending_good M B _ good;
      }
  play B good (Event.arrives k) r may =
      let l = length-replicate {A = ℕ} 24 0 in
      let (is, then) = arrives_read M sound room B good k (replicate 24 0) (omega arith) in
      record { played = arrives k (replicate 24 0); may = tt; same = is; good = then }
  play B good (Event.declares s v r) e may =
      record {
        played = declares s v r;
        may = may_declare_back M B good s v r may;
        same = refl;
        good = declaring_good M B _ good;
      }
  play B good (Event.merges v ks) r may =
      let ss = all_of (at B.had) ks in
      let of : OfBoxes M B (laid_images ss) = (ss, refl, λ s m. chosen_in B.had ks s m) in
      let l = length-replicate {A = ℕ} M.least_buffer 0 in
      record {
        played = merges v (laid_images ss) (replicate M.least_buffer 0);
        may = λ e. of;
        same = merges_read M sound room B good v (laid_images ss) (replicate M.least_buffer 0) of (omega arith) ks (chosen_read B.had ks);
        good = merges_good M sound room B good v (laid_images ss) (replicate M.least_buffer 0);
      }

  pub history_played : (B : GroupInBuffers) → Good M B → (es : List Event) → every (event_by_rule M B.n) es ≡ true → Lawful M (reading M B) es → (acts : List Act) × ByTheRules M B acts × (reading M (after_acts M B acts) ≡ after M (reading M B) es)
  unfolding every
  history_played B good [] r law = ([], tt, refl)
  history_played B good (e ∷ es) r (may, law) =
      let p = play B good e (both_left _ _ r) may in
      let C : GroupInBuffers = act M B p.played in
      let n : C.n ≡ B.n = ap (λ G. G.n) p.same ∙ step_n (reading M B) e in
      let (acts, rest, is) = history_played C p.good es (rw n (both_right _ _ r)) (subst (λ G. Lawful M G es) (sym p.same) law) in
      (p.played ∷ acts, (p.may, rest), is ∙ ap (λ G. after M G es) p.same)

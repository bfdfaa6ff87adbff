-- Demand 3: a group of boxes over time, the premises on what coordinators send, and what survives. All of it is said over the answer, the merge and the count of `rules`.
-- To believe `survival` (proofs/Survival) is to believe this file, from top to bottom, and what it takes from `rules`.
use Rattle.std.specs.Prelude.{◌≡◌, true, false, cond, ◌⊎◌, ℕ, zero, suc, ◌≤◌, ◌<◌, eqb, ltb, length}
use Rattle.std.proofs.Math.Option.{Option, none, some}
use mathlib.Core.List.{List, [], ◌∷◌, ◌++◌, map, Memᴰ}
use Rattle.rules.specs.Tests.{twice, all_of}
use Rattle.rules.specs.Groups.{f_of, quorum}
use Rattle.rules.specs.Stamps.{Access, Body}
use Rattle.rules.specs.Tables.{Result, Result.OK, Prepare, Prepare.tentative, Prepare.final, prepare_code, prepare_retry, Verdict, Verdict.commit, Outcome.done, Row, Table, Model, fresh_table}
use Rattle.rules.specs.Circumstances.{Room}
use Rattle.rules.specs.Messages.{Message, Message.propose_prepare, Message.finalise_prepare, Message.propose_outcome, Message.finalise_outcome, Message.change_view, Message.start_view, Message.read_register, Check, held, prepare_of, outcome_of}
use Rattle.rules.specs.Answers.{Reply, Answer, answer}
use Rattle.rules.specs.Check.{check}
use Rattle.rules.specs.Merge.{holds_verdict, merge}
use Rattle.rules.specs.Count.{Heard, Counted.fast, Counted.slow, counted}

abbrev pub ◌∈◌ : {A : Type 0} → A → List A → Type 0
◌∈◌ a l = Memᴰ a l

infix 20 ◌∈◌
-- ---- a group

pub record Sent : Type 0 where
  pub box : ℕ
  pub message : Message

pub record Answered : Type 0 where
  pub box : ℕ
  pub message : Message
  pub reply : Reply

pub record Declared : Type 0 where
  pub stamp : ℕ
  pub view : ℕ
  pub result : Result

-- a merge that was not refused, and what had been sent by then
pub record Merged : Type 0 where
  pub view : ℕ
  pub table : Table
  pub sent_by_then : List Sent

-- the boxes' tables now, and all that has come to pass, each list in the order of time
pub record Group : Type 0 where
  pub n : ℕ
  pub table : ℕ → Table
  pub had : List Table
  pub sent : List Sent
  pub answers : List Answered
  pub declared : List Declared
  pub merged : List Merged

unfoldable pub boxes_below : ℕ → List ℕ
boxes_below zero = []
boxes_below (suc n) = boxes_below n ++ (n ∷ [])

-- the fresh start: each box has its fresh table, and nothing was sent
unfoldable pub fresh_group : ℕ → Group
fresh_group n = record { n = n; table = fresh_table n; had = map (fresh_table n) (boxes_below n); sent = []; answers = []; declared = []; merged = [] }

-- ---- what can happen

pub data Event : Type 0 where
  -- a message is sent to a box
  sends : (box : ℕ) (message : Message) → Event
  -- the message at this place among those sent arrives, at the box that it was sent to: never if it is lost, again if it is repeated, before an earlier one if they are reordered
  arrives : (place : ℕ) → Event
  -- a result is declared final
  declares : (stamp view : ℕ) (result : Result) → Event
  -- the tables at these places among those that boxes have had are merged for a view
  merges : (view : ℕ) (places : List ℕ) → Event

module _ {A : Type 0} where
  unfoldable pub at : List A → ℕ → Option A
  at [] k = none
  at (x ∷ xs) zero = some x
  at (x ∷ xs) (suc k) = at xs k

-- one value of a function changed
abbrev pub put : {A : Type 0} → (ℕ → A) → ℕ → A → ℕ → A
put values box x b = cond (eqb box b) x (values b)

abbrev pub sending : Group → Sent → Group
sending G x = record { n = G.n; table = G.table; had = G.had; sent = G.sent ++ (x ∷ []); answers = G.answers; declared = G.declared; merged = G.merged }

abbrev pub answering : Group → Sent → Answer → Group
answering G x a =
    record {
      n = G.n;
      table = put G.table x.box a.table;
      had = G.had ++ (a.table ∷ []);
      sent = G.sent;
      answers = G.answers ++ (record { box = x.box; message = x.message; reply = a.reply } ∷ []);
      declared = G.declared;
      merged = G.merged;
    }

abbrev pub declaring : Group → Declared → Group
declaring G d = record { n = G.n; table = G.table; had = G.had; sent = G.sent; answers = G.answers; declared = G.declared ++ (d ∷ []); merged = G.merged }

abbrev pub merging : Group → Merged → Group
merging G m = record { n = G.n; table = G.table; had = G.had; sent = G.sent; answers = G.answers; declared = G.declared; merged = G.merged ++ (m ∷ []) }

-- for boxes of any row limit and by any rule of room. Message 1 is answered by a check that is given, `survival` gives it the rules' own; the merge has that one always
module _ (M : Model) (room : Room) (proposals : Check) where
  -- a box of the group answers by the rules; there is no other box
  abbrev pub arriving : Group → Option Sent → Group
  arriving G none = G
  arriving G (some x) = cond (ltb x.box G.n) (answering G x (answer M room proposals (G.table x.box) x.message)) G

  -- a merge by the rules, if it is not refused
  abbrev pub merging_as : Group → ℕ → Option Table → Group
  merging_as G v none = G
  merging_as G v (some T) = merging G (record { view = v; table = T; sent_by_then = G.sent })

  -- whatever happens, whether or not it keeps a rule
  abbrev pub step : Group → Event → Group
  step G (sends b m) = sending G (record { box = b; message = m })
  step G (arrives k) = arriving G (at G.sent k)
  step G (declares s v r) = declaring G (record { stamp = s; view = v; result = r })
  step G (merges v ks) = merging_as G v (merge M check v (all_of (at G.had) ks))

  abbrev pub after : Group → List Event → Group
  after G [] = G
  after G (e ∷ es) = after (step G e) es

-- ---- what was sent, answered, confirmed, accepted

-- a message has this stamp and body
abbrev pub Carries : ℕ → Body → Message → Type 0
Carries s x m = (m ≡ propose_prepare s x) ⊎ ((o : Verdict) × (m ≡ propose_outcome s o x))

-- a message asks for the prepare of this stamp
abbrev pub AsksPrepare : ℕ → Message → Type 0
AsksPrepare s m = ((x : Body) × (m ≡ propose_prepare s x)) ⊎ ((u : ℕ) × (r : Result) × (m ≡ finalise_prepare s u r))

-- "result with its retry stamp, final or not"
abbrev pub prepare_heard : Heard → Prepare
prepare_heard h = cond h.is_final (final h.result) (tentative h.result)

-- this many different boxes
abbrev pub DifferentBoxes : ℕ → (ℕ → Type 0) → Type 0
DifferentBoxes k P = (bs : List ℕ) × (twice (λ b. b) bs ≡ false) × (k ≤ length bs) × ((b : ℕ) → b ∈ bs → P b)

module _ (G : Group) where
  abbrev pub WasSent : Message → Type 0
  WasSent m = (b : ℕ) × (record { box = b; message = m } ∈ G.sent)

  abbrev pub WasDeclared : ℕ → ℕ → Result → Type 0
  WasDeclared s v r = record { stamp = s; view = v; result = r } ∈ G.declared

  -- box b has given this reply, numbered 0, to this message
  abbrev pub Gave : ℕ → Message → Reply → Type 0
  Gave b m p = (record { box = b; message = m; reply = p } ∈ G.answers) × (p.number ≡ 0)

  -- "f+1 different boxes"
  abbrev pub QuorumOf : (ℕ → Type 0) → Type 0
  QuorumOf P = DifferentBoxes (quorum (f_of G.n)) P

  -- what the count is told of a box is a reply of view v that the box has given for the prepare of stamp s, by its prepare byte and retry stamp
  pub record Replied (s v : ℕ) (h : Heard) : Type 0 where
    pub message : Message
    pub reply : Reply
    pub asked : AsksPrepare s message
    pub gave : Gave h.box message reply
    pub in_view : (reply.view ≡ v) × (h.view ≡ v)
    pub state : reply.state ≡ prepare_code (prepare_heard h)
    pub retry : reply.value ≡ prepare_retry (prepare_heard h)

  -- "replies of that view"
  abbrev pub Replies : ℕ → ℕ → List Heard → Type 0
  Replies s v hs = (h : Heard) → h ∈ hs → Replied s v h

  -- box b has confirmed message 2 in view v
  abbrev pub Confirmed : ℕ → ℕ → Result → ℕ → Type 0
  Confirmed s v r b = (u : ℕ) × (p : Reply) × Gave b (finalise_prepare s u r) p × (p.view ≡ v)

  -- box b has accepted message 3 in view v
  abbrev pub Accepted : ℕ → ℕ → Verdict → ℕ → Type 0
  Accepted s v o b = (x : Body) × (p : Reply) × Gave b (propose_outcome s o x) p × (p.view ≡ v)

  -- a commit proposed to box b
  abbrev pub CommitAfterOK : ℕ → ℕ → Verdict → Type 0
  CommitAfterOK b s o = o ≡ commit → (u : ℕ) × WasDeclared s u OK × ((m : Message) × (p : Reply) × Gave b m p × (u ≤ p.view))

  abbrev pub NeverBoth : ℕ → Verdict → Type 0
  NeverBoth s o = (u : Verdict) (x : Body) → WasSent (propose_outcome s u x) → u ≡ o

  -- ---- the seven rules, each over all that was sent, answered and declared before

  -- rule 1: "one stamp, one body"
  abbrev pub OneBody : ℕ → Body → Type 0
  OneBody s x = (m : Message) (y : Body) → WasSent m → Carries s y m → y ≡ x

  -- rule 2: "one coordinator per stamp, and one result per stamp and view, sent or declared". One coordinator: what was sent and answered for a stamp is taken together, whoever sent it
  abbrev pub OneResult : ℕ → ℕ → Result → Type 0
  OneResult s v r = ((q : Result) → WasSent (finalise_prepare s v q) → q ≡ r) × ((q : Result) → WasDeclared s v q → q ≡ r)

  -- rule 3: "message 2 is sent only on a fast or slow answer from replies of that view, with that answer's result"
  abbrev pub OnAnAnswer : ℕ → ℕ → Result → Type 0
  OnAnAnswer s v r = (hs : List Heard) × Replies s v hs × ((counted G.n hs ≡ fast r) ⊎ (counted G.n hs ≡ slow r))

  -- rule 4: "a result is declared final only on the fast count, or on confirmations (number 0) of message 2 by f+1 different boxes, in one view"
  abbrev pub OnFastOrConfirmed : ℕ → ℕ → Result → Type 0
  OnFastOrConfirmed s v r = ((hs : List Heard) × Replies s v hs × (counted G.n hs ≡ fast r)) ⊎ QuorumOf (Confirmed s v r)

  -- rule 5: "commit only after OK was declared final, and proposed only to a box that has already given an answer numbered 0 in the view of that declaration or a later one; never both outcomes"
  abbrev pub OutcomeByRule : ℕ → ℕ → Verdict → Type 0
  OutcomeByRule b s o = CommitAfterOK b s o × NeverBoth s o

  -- rule 6: "message 4 names a view in which f+1 different boxes have accepted message 3 (number 0) with that outcome"
  abbrev pub OnAcceptances : ℕ → ℕ → Verdict → Type 0
  OnAcceptances s v o = QuorumOf (Accepted s v o)

  -- rule 7: "after proposing an outcome, nothing more is finalised or declared for that stamp's prepare."
  abbrev pub BeforeOutcome : ℕ → Type 0
  BeforeOutcome s = (o : Verdict) (x : Body) → WasSent (propose_outcome s o x) → ⊥

  -- ---- and, which is no rule of the seven: message 6 carries a merge for its view, of tables that boxes have had, and for a view one table is sent

  abbrev pub TheMerged : ℕ → Table → Type 0
  TheMerged v I = ((m : Merged) × (m ∈ G.merged) × (m.view ≡ v) × (m.table ≡ I)) × ((J : Table) → WasSent (start_view v J) → J ≡ I)

  -- ---- what each event is held to

  abbrev pub MaySend : ℕ → Message → Type 0
  MaySend b (propose_prepare s x) = OneBody s x
  MaySend b (finalise_prepare s v r) = OneResult s v r × OnAnAnswer s v r × BeforeOutcome s
  MaySend b (propose_outcome s o x) = OneBody s x × OutcomeByRule b s o
  MaySend b (finalise_outcome s v o) = OnAcceptances s v o
  MaySend b (change_view v) = Unit {0}
  MaySend b (start_view v I) = TheMerged v I
  MaySend b (read_register s k) = Unit {0}

  abbrev pub May : Event → Type 0
  May (sends b m) = MaySend b m
  May (arrives k) = Unit {0}
  May (declares s v r) = OneResult s v r × OnFastOrConfirmed s v r × BeforeOutcome s
  May (merges v ks) = Unit {0}

module _ (M : Model) (room : Room) (proposals : Check) where
  -- each event keeps the premises with respect to what came before it
  abbrev pub Lawful : Group → List Event → Type 0
  Lawful G [] = Unit {0}
  Lawful G (e ∷ es) = May G e × Lawful (step M room proposals G e) es

-- ---- what survives

pub record Survival (G : Group) : Type 0 where
  -- what was declared final stands in every merge for a later view, whichever came first
  pub declared : (m : Merged) (s u : ℕ) (r : Result) → m ∈ G.merged → WasDeclared G s u r → u < m.view → prepare_of (held m.table.rows s) ≡ final r
  -- what was accepted by f+1 boxes in one view stands in every merge for a later view
  pub accepted : (m : Merged) (s u : ℕ) (o : Verdict) → m ∈ G.merged → QuorumOf G (Accepted G s u o) → u < m.view → outcome_of (held m.table.rows s) ≡ done o
  -- no merge holds what nobody sent: no transaction
  pub rows_sent : (m : Merged) (r : Row) → m ∈ G.merged → r ∈ m.table.rows → (x : Sent) × (x ∈ m.sent_by_then) × Carries r.stamp r.body x.message
  -- and no outcome
  pub outcomes_sent : (m : Merged) (r : Row) (o : Verdict) → m ∈ G.merged → r ∈ m.table.rows → holds_verdict o r.outcome ≡ true → (x : Sent) × (x ∈ m.sent_by_then) × (x.message ≡ propose_outcome r.stamp o r.body)
  -- no two committed transactions clash ("In demand 3 a transaction is committed once its commit was proposed."): no write of the one, at its stamp t, lies between a version that the other read of that register and the other's stamp s
  pub no_clash : (s t : ℕ) (x y : Body) → WasSent G (propose_outcome s commit x) → WasSent G (propose_outcome t commit y) → (read write : Access) → read ∈ x.reads → write ∈ y.writes → read.register ≡ write.register → read.number < t → t < s → ⊥

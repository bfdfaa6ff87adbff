-- 01's seven rules, and what message 6 carries, in buffers and calls: what everybody keeps to who sends, declares or merges. Each speaks of all that was sent, answered and declared before.
use Rattle.std.specs.Prelude.{◌≡◌, ◌⊎◌, List, [], ◌∷◌, map, ℕ, ◌≤◌}
use Rattle.std.proofs.Math.Option.{Option, none, some}
use Rattle.rules.specs.Groups.{f_of, quorum}
use Rattle.rules.specs.Stamps.{Body}
use Rattle.rules.specs.Tables.{Result, Result.OK, Verdict, Verdict.commit, Table, Model}
use Rattle.rules.specs.Messages.{Message, Message.propose_prepare, Message.finalise_prepare, Message.propose_outcome, Message.finalise_outcome, Message.change_view, Message.start_view, Message.read_register}
use Rattle.rules.specs.Count.{Counted.fast, Counted.slow}
use Rattle.table.specs.Images.{format_one}
use Rattle.table.specs.Parse.{table_at}
use Rattle.merge.specs.Calls as merge
use Rattle.count.specs.Calls.{count_of}
use Rattle.history.specs.Survival.{◌∈◌, AsksPrepare, DifferentBoxes}
use Rattle.group.specs.Said.{message_in, reply_in, record_of, laid_images}
use Rattle.group.specs.Acts.{Merged, GroupInBuffers, Act, Act.sends, Act.arrives, Act.declares, Act.merges, act}

module _ (M : Model) (B : GroupInBuffers) where
  -- ---- what was sent, answered, confirmed, accepted

  -- boxes of the group take these bytes for this message
  abbrev pub Says : List ℕ → Message → Type 0
  Says bytes m = message_in M B.n bytes ≡ some m

  -- bytes that say this were sent, to whichever box
  abbrev pub WasSent : Message → Type 0
  WasSent m = (b : ℕ) × (bytes : List ℕ) × (record { box = b; message = bytes } ∈ B.sent) × Says bytes m

  -- a transaction is proposed by message 1 or by message 3
  abbrev pub WasProposed : ℕ → Body → Type 0
  WasProposed s x = WasSent (propose_prepare s x) ⊎ ((o : Verdict) × WasSent (propose_outcome s o x))

  abbrev pub WasDeclared : ℕ → ℕ → Result → Type 0
  WasDeclared s v r = record { stamp = s; view = v; result = r } ∈ B.declared

  -- box b called `answer` on these bytes, which left this reply: its number is 0
  abbrev pub Gave : ℕ → List ℕ → List ℕ → Type 0
  Gave b bytes reply = (record { box = b; message = bytes; reply = reply } ∈ B.answers) × ((reply_in reply).number ≡ 0)

  -- a reply of view v to a message that asks for the prepare of stamp s: message 1 or 2
  abbrev pub ReplyFor : ℕ → ℕ → List ℕ → Type 0
  ReplyFor s v reply = (b : ℕ) × (bytes : List ℕ) × (m : Message) × Gave b bytes reply × Says bytes m × AsksPrepare s m × ((reply_in reply).view ≡ v)

  -- box b has confirmed message 2 in view v
  abbrev pub Confirmed : ℕ → ℕ → Result → ℕ → Type 0
  Confirmed s v r b = (bytes : List ℕ) × (reply : List ℕ) × (u : ℕ) × Gave b bytes reply × Says bytes (finalise_prepare s u r) × ((reply_in reply).view ≡ v)

  -- box b has accepted message 3 in view v
  abbrev pub Accepted : ℕ → ℕ → Verdict → ℕ → Type 0
  Accepted s v o b = (bytes : List ℕ) × (reply : List ℕ) × (x : Body) × Gave b bytes reply × Says bytes (propose_outcome s o x) × ((reply_in reply).view ≡ v)

  -- "f+1 different boxes"
  abbrev pub QuorumOf : (ℕ → Type 0) → Type 0
  QuorumOf P = DifferentBoxes (quorum (f_of B.n)) P

  -- ---- the seven rules

  -- rule 1: "one stamp, one body"
  abbrev pub OneBody : ℕ → Body → Type 0
  OneBody s x = (y : Body) → WasProposed s y → y ≡ x

  -- rule 2: "one coordinator per stamp, and one result per stamp and view, sent or declared". One coordinator: what was sent and answered for a stamp is taken together, whoever sent it
  abbrev pub OneResult : ℕ → ℕ → Result → Type 0
  OneResult s v r = ((q : Result) → WasSent (finalise_prepare s v q) → q ≡ r) × ((q : Result) → WasDeclared s v q → q ≡ r)

  -- replies of that view for that stamp's prepare, each in its reply buffer: these are counted, as the records that `record_of` takes from them
  abbrev pub Counting : ℕ → ℕ → List (List ℕ) → Type 0
  Counting s v replies = (reply : List ℕ) → reply ∈ replies → ReplyFor s v reply

  -- rule 3: "message 2 is sent only on a fast or slow answer from replies of that view, with that answer's result"
  abbrev pub OnAnAnswer : ℕ → ℕ → Result → Type 0
  OnAnAnswer s v r = (replies : List (List ℕ)) × Counting s v replies × ((count_of B.n (map record_of replies) ≡ fast r) ⊎ (count_of B.n (map record_of replies) ≡ slow r))

  -- rule 4: "a result is declared final only on the fast count, or on confirmations (number 0) of message 2 by f+1 different boxes, in one view"
  abbrev pub OnFastOrConfirmed : ℕ → ℕ → Result → Type 0
  OnFastOrConfirmed s v r = ((replies : List (List ℕ)) × Counting s v replies × (count_of B.n (map record_of replies) ≡ fast r)) ⊎ QuorumOf (Confirmed s v r)

  -- rule 5: "commit only after OK was declared final, and proposed only to a box that has already given an answer numbered 0 in the view of that declaration or a later one; never both outcomes"
  abbrev pub CommitAfterOK : ℕ → ℕ → Verdict → Type 0
  CommitAfterOK b s o = o ≡ commit → (u : ℕ) × WasDeclared s u OK × ((bytes : List ℕ) × (reply : List ℕ) × Gave b bytes reply × (u ≤ (reply_in reply).view))

  abbrev pub NeverBoth : ℕ → Verdict → Type 0
  NeverBoth s o = (u : Verdict) (x : Body) → WasSent (propose_outcome s u x) → u ≡ o

  -- rule 6: "message 4 names a view in which f+1 different boxes have accepted message 3 (number 0) with that outcome"
  abbrev pub OnAcceptances : ℕ → ℕ → Verdict → Type 0
  OnAcceptances s v o = QuorumOf (Accepted s v o)

  -- rule 7: "after proposing an outcome, nothing more is finalised or declared for that stamp's prepare."
  abbrev pub BeforeOutcome : ℕ → Type 0
  BeforeOutcome s = (o : Verdict) (x : Body) → WasSent (propose_outcome s o x) → ⊥

  -- ---- and, which is no rule of the seven

  -- message 6 carries the image that the output buffer of a merge for its view began with, and for a view one image is sent
  abbrev pub TheMerged : ℕ → Table → Type 0
  TheMerged v I = ((m : Merged) × (m ∈ B.merged) × (m.view ≡ v) × (table_at format_one m.output ≡ I)) × ((J : Table) → WasSent (start_view v J) → J ≡ I)

  -- a run is images laid end to end, each of which a box's table buffer began with at some time
  abbrev pub OfBoxes : List ℕ → Type 0
  OfBoxes run = (tables : List (List ℕ)) × (run ≡ laid_images tables) × ((s : List ℕ) → s ∈ tables → s ∈ B.had)

  -- ---- what each act is held to

  -- bytes that no box takes for a message may come at any time
  abbrev pub MaySend : ℕ → Option Message → Type 0
  MaySend b none = Unit {0}
  MaySend b (some (propose_prepare s x)) = OneBody s x
  MaySend b (some (finalise_prepare s v r)) = OneResult s v r × OnAnAnswer s v r × BeforeOutcome s
  MaySend b (some (propose_outcome s o x)) = OneBody s x × CommitAfterOK b s o × NeverBoth s o
  MaySend b (some (finalise_outcome s v o)) = OnAcceptances s v o
  MaySend b (some (change_view v)) = Unit {0}
  MaySend b (some (start_view v I)) = TheMerged v I
  MaySend b (some (read_register s k)) = Unit {0}

  abbrev pub MayAct : Act → Type 0
  MayAct (sends b bytes) = MaySend b (message_in M B.n bytes)
  MayAct (arrives k reply) = Unit {0}
  MayAct (declares s v r) = OneResult s v r × OnFastOrConfirmed s v r × BeforeOutcome s
  -- a merge that is done was of images that boxes had
  MayAct (merges v run out) = merge.call_number M run v out ≡ 0 → OfBoxes run

-- each act keeps the rules with respect to what came before it
abbrev pub ByTheRules : Model → GroupInBuffers → List Act → Type 0
ByTheRules M B [] = Unit {0}
ByTheRules M B (a ∷ more) = MayAct M B a × ByTheRules M (act M B a) more

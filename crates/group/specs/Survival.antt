-- Demand 3 in buffers and calls. To believe `calls_survive` (proofs/Survival) is to believe this file, Rules, Acts and Said, the calls' own definitions that they name, and a few words that they take from `history`.
use Rattle.std.specs.Prelude.{◌≡◌, true, ◌⊎◌, List, ℕ, ◌<◌}
use Rattle.rules.specs.Stamps.{Access, Body}
use Rattle.rules.specs.Tables.{Result, Prepare.final, Verdict, Verdict.commit, Outcome.done, Row, Model}
use Rattle.rules.specs.Messages.{Message.propose_prepare, Message.propose_outcome, held, prepare_of, outcome_of}
use Rattle.rules.specs.Merge.{holds_verdict}
use Rattle.table.specs.Headers.{header_at}
use Rattle.table.specs.Images.{format_one}
use Rattle.table.specs.Parse.{table_at, BeginsWithImage}
use Rattle.history.specs.Survival.{◌∈◌}
use Rattle.group.specs.Acts.{Sent, Merged, GroupInBuffers}
use Rattle.group.specs.Rules.{Says, WasSent, WasDeclared, Accepted, QuorumOf}

-- the rows of the image that a buffer begins with
abbrev pub rows_in : List ℕ → List Row
rows_in s = (table_at format_one s).rows

pub record CallsSurvive (M : Model) (B : GroupInBuffers) : Type 0 where
  -- every table buffer of the group begins with an image, of its own box and group, and so does the output buffer of every merge that was done
  pub tables : (b : ℕ) → b < B.n → BeginsWithImage M (B.buffer b) × ((header_at (B.buffer b)).boxnumber ≡ b) × ((header_at (B.buffer b)).n ≡ B.n)
  pub outputs : (m : Merged) → m ∈ B.merged → BeginsWithImage M m.output
  -- what was declared final stands in every merge for a later view, whichever came first: in the image that the output buffer begins with, its row is final with that result
  pub declared : (m : Merged) (s u : ℕ) (r : Result) → m ∈ B.merged → WasDeclared M B s u r → u < m.view → prepare_of (held (rows_in m.output) s) ≡ final r
  -- what was accepted by f+1 boxes in one view stands in every merge for a later view: its row is done with that outcome
  pub accepted : (m : Merged) (s u : ℕ) (o : Verdict) → m ∈ B.merged → QuorumOf M B (Accepted M B s u o) → u < m.view → outcome_of (held (rows_in m.output) s) ≡ done o
  -- no merge holds what nobody sent: no transaction, which message 1 or message 3 carries
  pub rows_sent : (m : Merged) (r : Row) → m ∈ B.merged → r ∈ rows_in m.output → (x : Sent) × (x ∈ m.sent_by_then) × (Says M B x.message (propose_prepare r.stamp r.body) ⊎ ((o : Verdict) × Says M B x.message (propose_outcome r.stamp o r.body)))
  -- and no outcome
  pub outcomes_sent : (m : Merged) (r : Row) (o : Verdict) → m ∈ B.merged → r ∈ rows_in m.output → holds_verdict o r.outcome ≡ true → (x : Sent) × (x ∈ m.sent_by_then) × Says M B x.message (propose_outcome r.stamp o r.body)
  -- no two committed transactions clash ("In demand 3 a transaction is committed once its commit was proposed."): no write of the one, at its stamp t, lies between a version that the other read of that register and the other's stamp s
  pub no_clash : (s t : ℕ) (x y : Body) → WasSent M B (propose_outcome s commit x) → WasSent M B (propose_outcome t commit y) →
      (read write : Access) → read ∈ x.reads → write ∈ y.writes → read.register ≡ write.register → read.number < t → t < s → ⊥

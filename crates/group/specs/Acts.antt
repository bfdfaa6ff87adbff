-- A group of boxes in buffers and calls: each box has its table buffer, coordinators send bytes, and what is done with them is a call of the library.
-- Every definition here is for a model M of boxes, a row limit and a least buffer; 01's 512 rows and 49,176 bytes are `valley`.
use Rattle.std.specs.Prelude.{cond, not, List, [], ◌∷◌, ◌++◌, map, ℕ, eqb, ltb}
use Rattle.std.proofs.Math.Option.{Option, none, some}
use Rattle.rules.specs.Tests.{both}
use Rattle.rules.specs.Tables.{Result, Model}
use Rattle.table.specs.Fresh.{fresh_buffer}
use Rattle.answer.specs.Calls.{call_number, call_table, call_reply}
use Rattle.merge.specs.Calls as merge
use Rattle.history.specs.Survival as history

-- ---- what there is, and what has come to pass

pub record Sent : Type 0 where
  pub box : ℕ
  pub message : List ℕ

-- an answer: the reply buffer after the call
pub record Answered : Type 0 where
  pub box : ℕ
  pub message : List ℕ
  pub reply : List ℕ

-- a merge that was done: the output buffer after the call, and what had been sent by then
pub record Merged : Type 0 where
  pub view : ℕ
  pub output : List ℕ
  pub sent_by_then : List Sent

-- the boxes' table buffers now, and all that has come to pass, each list in the order of time; `had` is what table buffers held after each call, their contents at any time up to now
pub record GroupInBuffers : Type 0 where
  pub n : ℕ
  pub buffer : ℕ → List ℕ
  pub had : List (List ℕ)
  pub sent : List Sent
  pub answers : List Answered
  pub declared : List history.Declared
  pub merged : List Merged

-- each box of the group has called `fresh` on its buffer, with the group's n and its own number
unfoldable pub fresh_boxes : Model → ℕ → (ℕ → List ℕ) → GroupInBuffers
fresh_boxes M n buffers =
    let fresh : ℕ → List ℕ = λ b. fresh_buffer M (buffers b) n b in
    record { n = n; buffer = fresh; had = map fresh (history.boxes_below n); sent = []; answers = []; declared = []; merged = [] }

-- ---- what can happen

pub data Act : Type 0 where
  -- bytes are sent to a box, one act for each box that they are meant for
  sends : (box : ℕ) (message : List ℕ) → Act
  -- the bytes at this place among those sent arrive, at the box that they were sent to, and it calls `answer` on its table buffer, these bytes and a reply buffer: never if they are lost, again if they are repeated, before earlier ones if they are reordered
  arrives : (place : ℕ) (reply : List ℕ) → Act
  -- a result is declared final
  declares : (stamp view : ℕ) (result : Result) → Act
  -- somebody calls `merge` for a view on a run and an output buffer
  merges : (view : ℕ) (run out : List ℕ) → Act

abbrev pub sending : GroupInBuffers → Sent → GroupInBuffers
sending B x =
    record { n = B.n; buffer = B.buffer; had = B.had; sent = B.sent ++ (x ∷ []); answers = B.answers; declared = B.declared; merged = B.merged }

-- after a call of `answer` on what was sent: the table buffer and the reply buffer
abbrev pub answering : GroupInBuffers → Sent → List ℕ → List ℕ → GroupInBuffers
answering B x table reply =
    record {
      n = B.n;
      buffer = history.put B.buffer x.box table;
      had = B.had ++ (table ∷ []);
      sent = B.sent;
      answers = B.answers ++ (record { box = x.box; message = x.message; reply = reply } ∷ []);
      declared = B.declared;
      merged = B.merged;
    }

abbrev pub declaring : GroupInBuffers → history.Declared → GroupInBuffers
declaring B d =
    record { n = B.n; buffer = B.buffer; had = B.had; sent = B.sent; answers = B.answers; declared = B.declared ++ (d ∷ []); merged = B.merged }

abbrev pub merging : GroupInBuffers → Merged → GroupInBuffers
merging B m =
    record { n = B.n; buffer = B.buffer; had = B.had; sent = B.sent; answers = B.answers; declared = B.declared; merged = B.merged ++ (m ∷ []) }

module _ (M : Model) where
  -- there is no other box than those of the group; and a call that ends with number 1 "writes nothing", so nobody has a reply
  abbrev pub arriving : GroupInBuffers → List ℕ → Option Sent → GroupInBuffers
  arriving B reply none = B
  arriving B reply (some x) =
      let table = B.buffer x.box in
      cond (both (ltb x.box B.n) (not (eqb (call_number M table x.message reply) 1)))
      (answering B x (call_table M table x.message reply) (call_reply M table x.message reply)) B

  -- a call of `merge` that is done
  abbrev pub merging_by : GroupInBuffers → ℕ → List ℕ → List ℕ → GroupInBuffers
  merging_by B v run out = cond (eqb (merge.call_number M run v out) 0) (merging B (record { view = v; output = merge.call_output M run v out; sent_by_then = B.sent })) B

  -- whatever happens, whether or not it keeps a rule
  abbrev pub act : GroupInBuffers → Act → GroupInBuffers
  act B (sends b bytes) = sending B (record { box = b; message = bytes })
  act B (arrives k reply) = arriving B reply (history.at B.sent k)
  act B (declares s v r) = declaring B (record { stamp = s; view = v; result = r })
  act B (merges v run out) = merging_by B v run out

  abbrev pub after_acts : GroupInBuffers → List Act → GroupInBuffers
  after_acts B [] = B
  after_acts B (a ∷ more) = after_acts (act B a) more

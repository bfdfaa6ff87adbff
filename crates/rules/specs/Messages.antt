-- 01, 'Messages to a box': the seven messages, and the table after each one that is taken. How many bytes each part takes is said where messages are read.
use Rattle.std.specs.Prelude.{cond, List, [], ◌∷◌, ℕ, eqb, ltb, leb}
use Rattle.std.proofs.Math.Option.{Option, none, some}
use Rattle.rules.specs.Tests.{both, is_some, provided, first_of}
use Rattle.rules.specs.Stamps.{Access, Body}
use Rattle.rules.specs.Tables.{Result, Result.OK, Result.ABORT, Prepare, Prepare.no_prepare, Prepare.tentative, Prepare.final, Verdict, Verdict.commit, Verdict.abort, Outcome, Outcome.no_outcome, Outcome.noted, Outcome.done, Row, Table, changing_mode}
use Rattle.rules.specs.Check.{committed}

pub data Message : Type 0 where
  -- "1 propose prepare: kind, stamp, two counts, body."
  propose_prepare : (stamp : ℕ) (body : Body) → Message
  -- "2 finalise prepare: kind, stamp, view 4, result 1 to 4, retry stamp (by the rows' rule)."
  finalise_prepare : (stamp view : ℕ) (result : Result) → Message
  -- "3 propose outcome: kind, stamp, 1 commit or 2 abort, counts, body."
  propose_outcome : (stamp : ℕ) (verdict : Verdict) (body : Body) → Message
  -- "4 finalise outcome: kind, stamp, view 4, 1 or 2."
  finalise_outcome : (stamp view : ℕ) (verdict : Verdict) → Message
  -- "5 change view: kind, v 4."
  change_view : (v : ℕ) → Message
  -- "6 start view: kind, v 4, image."
  start_view : (v : ℕ) (image : Table) → Message
  -- "7 read: kind, stamp, register."
  read_register : (stamp register : ℕ) → Message

abbrev pub kind : Message → ℕ
kind (propose_prepare s x) = 1
kind (finalise_prepare s v r) = 2
kind (propose_outcome s o x) = 3
kind (finalise_outcome s v o) = 4
kind (change_view v) = 5
kind (start_view v I) = 6
kind (read_register s k) = 7

-- what message 1 is answered by where the stamp is new: a check of the rows for a stamp and a body
abbrev pub Check : Type 0
Check = List Row → ℕ → Body → Result

-- ---- the row of a stamp

unfoldable pub held : List Row → ℕ → Option Row
held rows s = first_of (λ r. provided (eqb r.stamp s) r) rows

abbrev pub prepare_of : Option Row → Prepare
prepare_of none = no_prepare
prepare_of (some r) = r.prepare

abbrev pub outcome_of : Option Row → Outcome
outcome_of none = no_outcome
outcome_of (some r) = r.outcome

-- the rows with the one of this stamp changed
unfoldable pub changed : ℕ → (Row → Row) → List Row → List Row
changed s change [] = []
changed s change (r ∷ rs) = cond (eqb r.stamp s) (change r) r ∷ changed s change rs

-- the rows with one more, in its place by its stamp
unfoldable pub added : Row → List Row → List Row
added r [] = r ∷ []
added r (q ∷ qs) = let later = q ∷ added r qs in cond (ltb r.stamp q.stamp) (r ∷ q ∷ qs) later

abbrev pub with_prepare : Prepare → Row → Row
with_prepare p r = record { stamp = r.stamp; body = r.body; prepare = p; outcome = r.outcome }

abbrev pub with_outcome : Outcome → Row → Row
with_outcome o r = record { stamp = r.stamp; body = r.body; prepare = r.prepare; outcome = o }

-- ---- the rows after a message

-- "tentative OK for commit, ABORT for abort"
abbrev pub result_for : Verdict → Result
result_for commit = OK
result_for abort = ABORT

-- "If a prepare byte is held, answer it. If only an outcome is held, store and answer tentative OK for commit, ABORT for abort."
abbrev pub answered : Prepare → Outcome → Prepare
answered (tentative r) o = tentative r
answered (final r) o = final r
answered no_prepare (noted v) = tentative (result_for v)
answered no_prepare (done v) = tentative (result_for v)
answered no_prepare no_outcome = no_prepare

-- "Otherwise add a row with the check's tentative result." "A body needed for an answer is read from the table if the stamp is known, else from the message."
unfoldable pub prepare_proposed : Check → List Row → ℕ → Body → List Row
prepare_proposed check rows s x =
    cond (is_some (held rows s)) (changed s (λ r. with_prepare (answered r.prepare r.outcome) r) rows)
    (added (record { stamp = s; body = x; prepare = tentative (check rows s x); outcome = no_outcome }) rows)

-- "The row becomes final with that result; an equal final one stays."
unfoldable pub prepare_finalised : List Row → ℕ → Result → List Row
prepare_finalised rows s r = changed s (with_prepare (final r)) rows

-- "a held equal outcome stays"
abbrev pub noted_as : Verdict → Outcome → Outcome
noted_as v no_outcome = noted v
noted_as v (noted u) = noted u
noted_as v (done u) = done u

-- "Noted, adding a row if needed"
unfoldable pub outcome_proposed : List Row → ℕ → Verdict → Body → List Row
outcome_proposed rows s v x =
    cond (is_some (held rows s)) (changed s (λ r. with_outcome (noted_as v r.outcome) r) rows)
    (added (record { stamp = s; body = x; prepare = no_prepare; outcome = noted v }) rows)

-- "An equal noted outcome becomes done; an equal done one stays."
unfoldable pub outcome_finalised : List Row → ℕ → Verdict → List Row
outcome_finalised rows s v = changed s (with_outcome (done v)) rows

-- ---- the table after a message

abbrev pub with_rows : Table → List Row → Table
with_rows T rows = record { box = T.box; n = T.n; mode = T.mode; view = T.view; promised = T.promised; start = T.start; rows = rows }

-- "Promised = v, mode 1."
abbrev pub promising : Table → ℕ → Table
promising T v = record { box = T.box; n = T.n; mode = changing_mode; view = T.view; promised = v; start = T.start; rows = T.rows }

-- "The box takes it whole, keeping its own box number."
abbrev pub keeping_box : Table → ℕ → Table
keeping_box I box = record { box = box; n = I.n; mode = I.mode; view = I.view; promised = I.promised; start = I.start; rows = I.rows }

unfoldable pub table_after : Check → Table → Message → Table
table_after check T (propose_prepare s x) = with_rows T (prepare_proposed check T.rows s x)
table_after check T (finalise_prepare s v r) = with_rows T (prepare_finalised T.rows s r)
table_after check T (propose_outcome s o x) = with_rows T (outcome_proposed T.rows s o x)
table_after check T (finalise_outcome s v o) = with_rows T (outcome_finalised T.rows s o)
table_after check T (change_view v) = promising T v
table_after check T (start_view v I) = keeping_box I T.box
table_after check T (read_register s k) = T

-- ---- message 7

-- "for 7 the version found, and value its value, both 0 if none"
pub record Found : Type 0 where
  pub version : ℕ
  pub value : ℕ

abbrev pub nothing_found : Found
nothing_found = record { version = 0; value = 0 }

-- the write of register k in a transaction at this stamp
unfoldable pub write_of : ℕ → List Access → ℕ → Found
write_of stamp [] k = nothing_found
write_of stamp (a ∷ more) k = cond (eqb a.register k) (record { version = stamp; value = a.number }) (write_of stamp more k)

unfoldable pub later : Found → Found → Found
later a b = cond (ltb b.version a.version) a b

-- "Finds the greatest done-commit write of that register at or below the stamp."
unfoldable pub found : List Row → ℕ → ℕ → Found
found [] s k = nothing_found
found (r ∷ rs) s k = later (cond (both (committed r) (leb r.stamp s)) (write_of r.stamp r.body.writes k) nothing_found) (found rs s k)

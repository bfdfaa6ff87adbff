-- Beside the marked cases: the codes of a row, what a RETRY advises, the day's order, merges, message 1 to the byte, and messages to one box, one after the other.
use Rattle.std.specs.Prelude.{cond, List, [], ◌∷◌, ◌++◌, map, ℕ, replicate}
use Rattle.rules.specs.Tables.{Result.OK, Result.ABORT, Result.ABSTAIN, Result.RETRY, Prepare, Prepare.no_prepare, Prepare.tentative, Prepare.final, Verdict.commit, Verdict.abort, Outcome, Outcome.no_outcome, Outcome.noted, Outcome.done, Row, Table, Model, normal_mode, fresh_table}
use Rattle.rules.specs.Messages.{Message, Message.propose_prepare, Message.finalise_prepare, Message.propose_outcome, Message.finalise_outcome, Message.change_view, Message.start_view, Message.read_register}
use Rattle.rules.specs.Circumstances.{keeps_room}
use Rattle.rules.specs.Answers.{answer, proposal_check}
use Rattle.rules.specs.Stamps.{Body}
use Rattle.cases.specs.Kinds.{Case, Case.checked, Case.proposed, Case.checked_in_merge, Case.merged, Case.imaged, Case.replied}
use Rattle.cases.specs.Marked.{reads, writes, row, committed, prepared, changing}

-- the nine prepare bytes and the five outcome bytes, in the order of their codes
abbrev pub prepares : List Prepare
prepares = no_prepare ∷ tentative OK ∷ tentative ABORT ∷ tentative ABSTAIN ∷ tentative (RETRY 30) ∷ final OK ∷ final ABORT ∷ final ABSTAIN ∷ final (RETRY 30) ∷ []

abbrev pub outcomes : List Outcome
outcomes = no_outcome ∷ noted commit ∷ noted abort ∷ done commit ∷ done abort ∷ []

pub data Counts : Type 0 where
  c p n : Counts  -- committed, prepared, neither

unfoldable pub counts_as : Row → Counts
counts_as r = cond (Rattle.rules.specs.Check.committed r) c (cond (Rattle.rules.specs.Check.prepared r) p n)

-- prepare bytes down, outcome bytes across
unfoldable pub all : List (List Counts)
all = map (λ prepare. map (λ outcome. counts_as (row 10 writes prepare outcome)) outcomes) prepares

-- a table of an older view does not count: neither its result nor its further row
abbrev pub older : List Table
older =
    changing 3 2 0 1 (row 20 (reads 0) (final OK) no_outcome ∷ [])
    ∷ changing 3 2 1 0 (row 20 (reads 0) (final ABORT) no_outcome ∷ row 30 writes (final OK) no_outcome ∷ [])
    ∷ []

-- two tables hold RETRY for stamp 20, with these retry stamps, the third holds nothing
abbrev pub retries : ℕ → ℕ → List Table
retries s t =
    changing 5 1 0 0 (row 20 writes (tentative (RETRY s)) no_outcome ∷ [])
    ∷ changing 5 1 1 0 (row 20 writes (tentative (RETRY t)) no_outcome ∷ [])
    ∷ changing 5 1 2 0 []
    ∷ []

-- another register than k, read; and both of them written
abbrev pub reads_other : ℕ → Body
reads_other version = record { reads = record { register = 6; number = version } ∷ []; writes = [] }

abbrev pub writes_both : Body
writes_both = record { reads = []; writes = record { register = 5; number = 7 } ∷ record { register = 6; number = 7 } ∷ [] }

abbrev pub reads_then_writes : ℕ → Body
reads_then_writes version = record { reads = (reads version).reads; writes = writes.writes }

-- three of five tables: two of the four boxes that said OK to stamp 10, and one that holds a later entry alone
abbrev pub declared_then_later : List Table
declared_then_later =
    changing 5 1 2 0 (prepared 10 writes ∷ [])
    ∷ changing 5 1 3 0 (prepared 10 writes ∷ [])
    ∷ changing 5 1 4 0 (committed 20 writes ∷ [])
    ∷ []

-- the readers of M7's companion, and above them one of a newer version
abbrev pub companion_and_newer : List Row
companion_and_newer = committed 30 (reads 10) ∷ prepared 40 (reads 10) ∷ prepared 50 (reads 35) ∷ []

-- the readers of M7's companion in a merge, the prepared one final, above a write that one table alone holds
abbrev pub open_write : List Table
open_write =
    changing 3 1 0 0 (prepared 20 writes ∷ committed 30 (reads 10) ∷ row 40 (reads 10) (final OK) no_outcome ∷ [])
    ∷ changing 3 1 1 0 []
    ∷ []

-- "After message 1 with stamp 65,537 and one write, register 5, value 7"
abbrev pub after_one : Table
after_one = record { box = 0; n = 3; mode = normal_mode; view = 0; promised = 0; start = 0; rows = row 65537 writes (tentative OK) no_outcome ∷ [] }

-- "rows 1, length 57; one row with offset 48, counts 0 and 1, prepare 1, outcome 0; body 05 00 00 00 00 00 00 00 07"
abbrev pub image_after_one : List ℕ
image_after_one =
    1 ∷ 0 ∷ 3 ∷ 0 ∷ 0 ∷ 0 ∷ 0 ∷ 1 ∷ replicate 12 0
    ++ (0 ∷ 0 ∷ 0 ∷ 57 ∷ 0 ∷ 0 ∷ 0 ∷ 0 ∷ 0 ∷ 1 ∷ 0 ∷ 1 ∷ replicate 8 0)
    ++ (0 ∷ 0 ∷ 0 ∷ 48 ∷ 0 ∷ 1 ∷ 1 ∷ 0 ∷ [])
    ++ (5 ∷ 0 ∷ 0 ∷ 0 ∷ 0 ∷ 0 ∷ 0 ∷ 0 ∷ 7 ∷ [])

-- the same, heard: "1 propose prepare: kind, stamp, two counts, body."
abbrev pub message_one : List ℕ
message_one = 1 ∷ 0 ∷ 0 ∷ 0 ∷ 0 ∷ 0 ∷ 1 ∷ 0 ∷ 1 ∷ 0 ∷ 1 ∷ 5 ∷ 0 ∷ 0 ∷ 0 ∷ 0 ∷ 0 ∷ 0 ∷ 0 ∷ 7 ∷ []

-- and said: "number 0, kind, box, state byte", "last normal view after the call 4, stamp 8, value 8"
abbrev pub reply_one : List ℕ
reply_one = 0 ∷ 1 ∷ 0 ∷ 1 ∷ replicate 4 0 ++ (0 ∷ 0 ∷ 0 ∷ 0 ∷ 0 ∷ 1 ∷ 0 ∷ 1 ∷ replicate 8 0)

unfoldable pub beside : List Case
beside =
    -- 02: B "still fires only on a committed reader"; a prepared one alone is C's
    checked (prepared 40 (reads 10) ∷ []) 20 writes ABSTAIN
    -- "the greatest among committed and prepared readers"
    ∷ checked (prepared 25 (reads 10) ∷ committed 30 (reads 10) ∷ []) 20 writes (RETRY 30)
    -- who "meet the same inequality": one that read at 20 does not, and an aborted one is neither; for messages 1 nothing is asked of what was read
    ∷ checked_in_merge (committed 30 (reads 10) ∷ prepared 40 (reads 20) ∷ []) 20 writes (RETRY 30)
    ∷ proposed (committed 30 (reads 10) ∷ prepared 40 (reads 20) ∷ []) 20 writes (RETRY 40)
    ∷ checked (committed 30 (reads 10) ∷ row 40 (reads 10) (final OK) (done abort) ∷ []) 20 writes (RETRY 30)
    -- of any register that is written, not only of the one on which B fired
    ∷ checked (committed 30 (reads 10) ∷ prepared 40 (reads_other 10) ∷ []) 20 writes_both (RETRY 40)
    -- the limit of the advice in a merge: whoever read at 35 is met above it. In messages 1 there is none
    ∷ checked_in_merge companion_and_newer 20 writes (RETRY 40)
    ∷ checked_in_merge companion_and_newer 41 writes ABSTAIN
    ∷ proposed companion_and_newer 20 writes (RETRY 50)
    ∷ proposed companion_and_newer 51 writes OK
    -- the merge's check has the same stamp
    ∷ merged 1 open_write 20 (final (RETRY 40))
    -- P13. "any committed read or write of k has a stamp above s": a write alone; of another register; "the greatest committed or prepared one"
    ∷ proposed (committed 10 writes ∷ []) 9 writes (RETRY 10)
    ∷ proposed (committed 30 (reads_other 10) ∷ []) 20 writes OK
    ∷ proposed (committed 30 writes ∷ prepared 40 writes ∷ []) 20 writes (RETRY 40)
    -- "C follows with prepared ones.": B's by a read and by a write, A's by a write above s
    ∷ proposed (prepared 30 (reads 10) ∷ []) 20 writes ABSTAIN
    ∷ proposed (prepared 30 writes ∷ []) 20 writes ABSTAIN
    ∷ proposed (prepared 30 writes ∷ []) 20 (reads 10) ABSTAIN
    -- a read may stand under a later read
    ∷ proposed (committed 30 (reads 10) ∷ []) 20 (reads 10) OK
    -- an aborted row counts for nothing; one whose abort is only noted is prepared
    ∷ proposed (row 30 writes (final OK) (done abort) ∷ []) 20 writes OK
    ∷ proposed (row 30 writes (tentative OK) (noted abort) ∷ []) 20 writes ABSTAIN
    -- one row may meet both rules, and A comes before B over all rows
    ∷ proposed (committed 30 writes ∷ []) 20 (reads_then_writes 10) ABORT
    ∷ proposed (committed 10 writes ∷ committed 30 (reads 10) ∷ []) 20 (reads_then_writes 0) ABORT
    -- "a result already declared final must not be lost when a later stamp came after it": a fast OK at 10 in four of five boxes, and a later entry in the fifth
    ∷ proposed (committed 20 writes ∷ []) 10 writes (RETRY 20)
    ∷ merged 1 declared_then_later 10 (final OK)
    ∷ merged 2 older 20 (final OK)
    ∷ merged 2 older 30 no_prepare
    -- equal retry stamps are agreed; unequal ones are not, so the row is checked, and nothing is there that clashes
    ∷ merged 1 (retries 30 30) 20 (final (RETRY 30))
    ∷ merged 1 (retries 30 40) 20 (final OK)
    ∷ imaged after_one image_after_one
    ∷ replied (fresh_table 3 0) message_one reply_one image_after_one
    ∷ []

-- ---- messages to one box

-- the numbers that a box of this model answers, message after message
unfoldable pub numbers : Model → Table → List Message → List ℕ
numbers M T [] = []
numbers M T (m ∷ ms) = let a = answer M keeps_room proposal_check T m in a.number ∷ numbers M a.table ms

-- a box of four rows. In a group of three it takes two new ones in its first view, and one in a view that began with one
abbrev pub four_rows : Model
four_rows = record { row_limit = 4; least_buffer = 0 }

-- an image that starts view v in a group of three, if it names the right box
abbrev pub starting : ℕ → ℕ → Table
starting v box = record { box = box; n = 3; mode = normal_mode; view = v; promised = v; start = 1; rows = row 65537 writes (final OK) (done commit) ∷ [] }

unfoldable pub messages : List Message
messages =
    propose_prepare 65537 writes
    ∷ propose_prepare 65537 (reads 0)
    ∷ propose_prepare 0 writes
    ∷ finalise_prepare 65537 1 OK
    ∷ finalise_prepare 65538 0 OK
    ∷ finalise_prepare 65537 0 OK
    ∷ finalise_prepare 65537 0 ABORT
    ∷ finalise_outcome 65537 0 commit
    ∷ propose_outcome 65537 commit writes
    ∷ propose_outcome 65537 abort writes
    ∷ finalise_outcome 65537 0 commit
    ∷ read_register 65537 5
    ∷ read_register 65537 64
    ∷ propose_prepare 70000 writes
    ∷ propose_outcome 70001 abort writes
    ∷ change_view 0
    ∷ change_view 3
    ∷ propose_prepare 70000 writes
    ∷ start_view 2 (starting 2 2)
    ∷ start_view 3 (starting 3 1)
    ∷ start_view 3 (starting 3 0)
    ∷ read_register 65537 5
    ∷ propose_prepare 70000 writes
    ∷ propose_prepare 70001 writes
    ∷ propose_prepare 70000 writes
    ∷ []

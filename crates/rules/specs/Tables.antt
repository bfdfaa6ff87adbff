-- 01, 'The table image: contents first, bodies after': what a table holds and the rules that it keeps. Where its bytes stand is not said here.
use Rattle.std.specs.Prelude.{Bool, true, List, [], ◌∷◌, ℕ, ◌+◌, ◌^◌, eqb, ltb, leb, length}
use Rattle.rules.specs.Tests.{both, either, every}
use Rattle.rules.specs.Groups.{is_group}
use Rattle.rules.specs.Stamps.{Body, is_stamp, counts_by_rule, contents_by_rule}

-- ---- prepare and outcome

-- what a check gives; RETRY has its retry stamp
pub data Result : Type 0 where
  OK ABORT ABSTAIN : Result
  RETRY : ℕ → Result

pub data Prepare : Type 0 where
  no_prepare : Prepare
  tentative final : Result → Prepare

pub data Verdict : Type 0 where
  commit abort : Verdict

pub data Outcome : Type 0 where
  no_outcome : Outcome
  noted done : Verdict → Outcome

-- "OK, ABORT, ABSTAIN, RETRY", from 1
abbrev pub result_code : Result → ℕ
result_code OK = 1
result_code ABORT = 2
result_code ABSTAIN = 3
result_code (RETRY s) = 4

-- "The retry stamp is a stamp for RETRY and 0 otherwise."
abbrev pub result_retry : Result → ℕ
result_retry OK = 0
result_retry ABORT = 0
result_retry ABSTAIN = 0
result_retry (RETRY s) = s

-- "Prepare: 0 none; 1 to 4 tentative OK, ABORT, ABSTAIN, RETRY; 5 to 8 the same, final."
abbrev pub prepare_code : Prepare → ℕ
prepare_code no_prepare = 0
prepare_code (tentative r) = result_code r
prepare_code (final r) = 4 + result_code r

abbrev pub prepare_retry : Prepare → ℕ
prepare_retry no_prepare = 0
prepare_retry (tentative r) = result_retry r
prepare_retry (final r) = result_retry r

-- "1 commit or 2 abort"
abbrev pub verdict_code : Verdict → ℕ
verdict_code commit = 1
verdict_code abort = 2

-- "Outcome: 0 none, 1 commit noted, 2 abort noted, 3 commit done, 4 abort done."
abbrev pub outcome_code : Outcome → ℕ
outcome_code no_outcome = 0
outcome_code (noted v) = verdict_code v
outcome_code (done v) = 2 + verdict_code v

-- a result is equal to another with its retry stamp
unfoldable pub same_result : Result → Result → Bool
same_result r q = both (eqb (result_code r) (result_code q)) (eqb (result_retry r) (result_retry q))

unfoldable pub result_by_rule : Result → Bool
result_by_rule OK = true
result_by_rule ABORT = true
result_by_rule ABSTAIN = true
result_by_rule (RETRY s) = is_stamp s

unfoldable pub retry_by_rule : Prepare → Bool
retry_by_rule no_prepare = true
retry_by_rule (tentative r) = result_by_rule r
retry_by_rule (final r) = result_by_rule r

-- "Not both zero."
unfoldable pub something_held : Prepare → Outcome → Bool
something_held p o = ltb 0 (prepare_code p + outcome_code o)

-- ---- rows

pub record Row : Type 0 where
  pub stamp : ℕ
  pub body : Body
  pub prepare : Prepare
  pub outcome : Outcome

-- test by test: the stamp, the counts, the two bytes, the retry stamp, the body
unfoldable pub row_by_rule : Row → Bool
row_by_rule r =
    both (is_stamp r.stamp)
    (both (counts_by_rule (length r.body.reads) (length r.body.writes))
    (both (something_held r.prepare r.outcome)
    (both (retry_by_rule r.prepare) (contents_by_rule r.stamp r.body))))

-- "stamps strictly rising", the first above low
unfoldable pub rising : ℕ → List Row → Bool
rising low [] = true
rising low (r ∷ rs) = both (ltb low r.stamp) (rising r.stamp rs)

-- ---- tables

-- "0 normal, 1 changing"
abbrev pub normal_mode : ℕ
normal_mode = 0

abbrev pub changing_mode : ℕ
changing_mode = 1

-- "box; n; mode (0 normal, 1 changing); then .. rows, view (last normal), promised view, rows when this view began": the number of rows is that of the list
pub record Table : Type 0 where
  pub box : ℕ
  pub n : ℕ
  pub mode : ℕ
  pub view : ℕ
  pub promised : ℕ
  pub start : ℕ
  pub rows : List Row

-- how many rows a kind of box holds, and how many bytes its table or output buffer has at least
pub record Model : Type 0 where
  pub row_limit : ℕ
  pub least_buffer : ℕ

-- the box of 01, named so beside other models: "At most 512 rows." "A table buffer has at least 49,176 bytes."
abbrev pub valley : Model
valley = record { row_limit = 512; least_buffer = 49176 }

-- "4 bytes each: .. view (last normal), promised view"; so is "v 4" in a message
unfoldable pub is_view : ℕ → Bool
is_view v = ltb v (2 ^ 32)

-- "Normal: promised = view. Changing: promised > view."
unfoldable pub mode_by_rule : ℕ → ℕ → ℕ → Bool
mode_by_rule mode view promised = either (both (eqb mode normal_mode) (eqb promised view)) (both (eqb mode changing_mode) (ltb view promised))

-- a group and one of its boxes, "numbered 0 to n-1"; the views and the mode; "Start rows never exceed rows."
unfoldable pub header_by_rule : Table → Bool
header_by_rule T =
    both (both (is_group T.n) (ltb T.box T.n))
    (both (both (is_view T.view) (is_view T.promised))
    (both (mode_by_rule T.mode T.view T.promised) (leb T.start (length T.rows))))

-- a table by the rules
unfoldable pub table_by_rule : Model → Table → Bool
table_by_rule M T = both (header_by_rule T) (both (leb (length T.rows) M.row_limit) (both (rising 0 T.rows) (every row_by_rule T.rows)))

-- the fresh table: after box and n, and before the total length, "sixteen 00"
unfoldable pub fresh_table : ℕ → ℕ → Table
fresh_table n box = record { box = box; n = n; mode = normal_mode; view = 0; promised = 0; start = 0; rows = [] }

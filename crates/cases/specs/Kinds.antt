-- The kinds of marked cases, and when a case holds.
use Rattle.std.specs.Prelude.{Bool, false, List, ℕ, eqb, length}
use Rattle.std.proofs.Math.Option.{Option, none, some}
use Rattle.rules.specs.Tests.{both}
use Rattle.rules.specs.Groups.{quorum, fast_count, agreement_count}
use Rattle.rules.specs.Stamps.{Body}
use Rattle.rules.specs.Tables.{Result, Prepare, prepare_code, prepare_retry, same_result, Row, Table, valley}
use Rattle.rules.specs.Messages.{Message, held, prepare_of}
use Rattle.rules.specs.Circumstances.{keeps_room}
use Rattle.rules.specs.Answers.{answer, proposal_check}
use Rattle.rules.specs.Check.{check}
use Rattle.rules.specs.Merge.{merge}
use Rattle.table.specs.Images.{format_one, image}
use Rattle.rows.specs.Read.{begins}
use Rattle.message.specs.Messages.{message_at}
use Rattle.transact.specs.Replies.{reply_as, reply_bytes}

pub data Case : Type 0 where
  -- for this f: quorum, fast count, agreement count
  counts : (f q fast agreement : ℕ) → Case
  -- over these rows a check of this stamp and body gives this result: that of messages 1 and the merge's too; that of messages 1; the merge's
  checked proposed checked_in_merge : (rows : List Row) (stamp : ℕ) (body : Body) (result : Result) → Case
  -- the merge of these tables for this view is done, and has this prepare byte and retry stamp at this stamp
  merged : (v : ℕ) (tables : List Table) (stamp : ℕ) (prepare : Prepare) → Case
  -- the image of this table is these bytes, whole
  imaged : (table : Table) (bytes : List ℕ) → Case
  -- a box with this table answers the bytes of a message with the bytes of a reply, and its image after that is these bytes, whole
  replied : (table : Table) (message reply after : List ℕ) → Case

abbrev pub same_prepare : Prepare → Prepare → Bool
same_prepare p q = both (eqb (prepare_code p) (prepare_code q)) (eqb (prepare_retry p) (prepare_retry q))

abbrev pub holds_prepare : Option Table → ℕ → Prepare → Bool
holds_prepare none s p = false
holds_prepare (some T) s p = same_prepare (prepare_of (held T.rows s)) p

-- these bytes and no more
abbrev pub same_bytes : List ℕ → List ℕ → Bool
same_bytes s t = both (begins s t) (eqb (length s) (length t))

abbrev pub replies_so : Option Message → Table → List ℕ → List ℕ → Bool
replies_so none T reply after = false
replies_so (some m) T reply after = let a = answer valley keeps_room proposal_check T m in both (same_bytes reply (reply_bytes (reply_as a.reply))) (same_bytes after (image format_one a.table))

unfoldable pub holds : Case → Bool
holds (counts f q fast agreement) = both (eqb (quorum f) q) (both (eqb (fast_count f) fast) (eqb (agreement_count f) agreement))
holds (checked rows s x r) = both (same_result (proposal_check rows s x) r) (same_result (check rows s x) r)
holds (proposed rows s x r) = same_result (proposal_check rows s x) r
holds (checked_in_merge rows s x r) = same_result (check rows s x) r
holds (merged v Ts s p) = holds_prepare (merge valley check v Ts) s p
holds (imaged T bytes) = same_bytes bytes (image format_one T)
holds (replied T message reply after) = replies_so (message_at format_one message) T reply after

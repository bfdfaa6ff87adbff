-- 01, 'Messages to a box': bytes to a message, or to none. "Kinds, codes, counts and registers take 1 byte, stamps 8."
-- What else a message must keep, its stamp, its body, its register and what a started view's table is, `rules` says (message_by_rule).
use Rattle.std.specs.Prelude.{Bool, cond, List, ℕ, ◌+◌, eqb, leb, length, drop}
use Rattle.std.proofs.Math.Option.{Option, none, some}
use Rattle.wire.specs.Numbers.{number_at}
use Rattle.rules.specs.Tests.{both, provided}
use Rattle.rules.specs.Stamps.{Body}
use Rattle.rules.specs.Tables.{Model}
use Rattle.rules.specs.Messages.{Message, Message.propose_prepare, Message.finalise_prepare, Message.propose_outcome, Message.finalise_outcome, Message.change_view, Message.start_view, Message.read_register}
use Rattle.rules.specs.Circumstances.{message_by_rule}
use Rattle.rows.specs.Bytes.{body_length}
use Rattle.rows.specs.Fields.{result_numbered, verdict_numbered, retry_by_code}
use Rattle.rows.specs.Read.{body_at, begins}
use Rattle.table.specs.Images.{Form, image, image_length}
use Rattle.table.specs.Parse.{table_at}

-- ---- what kinds share: the exact length, the codes

-- "two counts, body": as long as the counts say, and no longer
unfoldable pub ends_with_body : List ℕ → ℕ → Bool
ends_with_body s at = eqb (length s) (at + 2 + body_length (number_at s at 1) (number_at s (at + 1) 1))

abbrev pub body_from : List ℕ → ℕ → Body
body_from s at = body_at s (at + 2) (number_at s at 1) (number_at s (at + 1) 1)

-- "result 1 to 4, retry stamp (by the rows' rule)"
unfoldable pub result_by_code : ℕ → ℕ → Bool
result_by_code code retry = both (leb 1 code) (both (leb code 4) (retry_by_code code retry))

-- "1 commit or 2 abort"
unfoldable pub verdict_by_code : ℕ → Bool
verdict_by_code code = both (leb 1 code) (leb code 2)

-- ---- each kind's bytes, the kind apart

-- "1 propose prepare: kind, stamp, two counts, body."
unfoldable pub prepare_proposal : List ℕ → Option Message
prepare_proposal s = provided (ends_with_body s 9) (propose_prepare (number_at s 1 8) (body_from s 9))

-- "2 finalise prepare: kind, stamp, view 4, result 1 to 4, retry stamp (by the rows' rule)."
unfoldable pub prepare_final : List ℕ → Option Message
prepare_final s =
    let code = number_at s 13 1 in
    let retry = number_at s 14 8 in
    provided (both (eqb (length s) 22) (result_by_code code retry)) (finalise_prepare (number_at s 1 8) (number_at s 9 4) (result_numbered code retry))

-- "3 propose outcome: kind, stamp, 1 commit or 2 abort, counts, body."
unfoldable pub outcome_proposal : List ℕ → Option Message
outcome_proposal s =
    let code = number_at s 9 1 in
    provided (both (verdict_by_code code) (ends_with_body s 10)) (propose_outcome (number_at s 1 8) (verdict_numbered code) (body_from s 10))

-- "4 finalise outcome: kind, stamp, view 4, 1 or 2."
unfoldable pub outcome_final : List ℕ → Option Message
outcome_final s =
    let code = number_at s 13 1 in
    provided (both (eqb (length s) 14) (verdict_by_code code)) (finalise_outcome (number_at s 1 8) (number_at s 9 4) (verdict_numbered code))

-- "5 change view: kind, v 4."
unfoldable pub view_change : List ℕ → Option Message
view_change s = provided (eqb (length s) 5) (change_view (number_at s 1 4))

-- "6 start view: kind, v 4, image.": the image is all that follows the view
unfoldable pub view_start : Form → List ℕ → Option Message
view_start F s =
    let I = table_at F (drop 5 s) in
    provided (both (eqb (length s) (5 + image_length F I)) (begins (drop 5 s) (image F I))) (start_view (number_at s 1 4) I)

-- "7 read: kind, stamp, register."
unfoldable pub register_read : List ℕ → Option Message
register_read s = provided (eqb (length s) 10) (read_register (number_at s 1 8) (number_at s 9 1))

-- ---- any bytes

-- by the kind, which is the first byte; no bytes have no kind
unfoldable pub message_of_kind : Form → ℕ → List ℕ → Option Message
message_of_kind F kind s =
    cond (eqb kind 1) (prepare_proposal s)
    (cond (eqb kind 2) (prepare_final s)
    (cond (eqb kind 3) (outcome_proposal s)
    (cond (eqb kind 4) (outcome_final s)
    (cond (eqb kind 5) (view_change s)
    (cond (eqb kind 6) (view_start F s)
    (cond (eqb kind 7) (register_read s) none))))))

unfoldable pub message_at : Form → List ℕ → Option Message
message_at F s = message_of_kind F (number_at s 0 1) s

-- a message that keeps the rules of a group of n, or none: what is left is "bad message"
abbrev pub keeping_rules : Model → ℕ → Option Message → Option Message
keeping_rules M n none = none
keeping_rules M n (some m) = provided (message_by_rule M n m) m

unfoldable pub message_to : Form → Model → ℕ → List ℕ → Option Message
message_to F M n s = keeping_rules M n (message_at F s)

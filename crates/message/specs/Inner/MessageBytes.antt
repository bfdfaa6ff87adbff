-- 01, 'Messages to a box': a message to bytes. The laws say that it is read back, and that it has one form.
use Rattle.std.specs.Prelude.{List, ◌++◌, ℕ, length}
use Rattle.wire.specs.Numbers.{bytes}
use Rattle.rules.specs.Stamps.{Body}
use Rattle.rules.specs.Tables.{result_code, result_retry, verdict_code}
use Rattle.rules.specs.Messages.{Message, Message.propose_prepare, Message.finalise_prepare, Message.propose_outcome, Message.finalise_outcome, Message.change_view, Message.start_view, Message.read_register}
use Rattle.rows.specs.Bytes.{body_bytes}
use Rattle.table.specs.Images.{Form, image}

-- "two counts, body"
unfoldable pub counts_and_body : Body → List ℕ
counts_and_body x = bytes 1 (length x.reads) ++ (bytes 1 (length x.writes) ++ body_bytes x)

unfoldable pub message_bytes : Form → Message → List ℕ
-- "1 propose prepare: kind, stamp, two counts, body."
message_bytes F (propose_prepare s x) = bytes 1 1 ++ (bytes 8 s ++ counts_and_body x)
-- "2 finalise prepare: kind, stamp, view 4, result 1 to 4, retry stamp (by the rows' rule)."
message_bytes F (finalise_prepare s v r) = bytes 1 2 ++ (bytes 8 s ++ (bytes 4 v ++ (bytes 1 (result_code r) ++ bytes 8 (result_retry r))))
-- "3 propose outcome: kind, stamp, 1 commit or 2 abort, counts, body."
message_bytes F (propose_outcome s o x) = bytes 1 3 ++ (bytes 8 s ++ (bytes 1 (verdict_code o) ++ counts_and_body x))
-- "4 finalise outcome: kind, stamp, view 4, 1 or 2."
message_bytes F (finalise_outcome s v o) = bytes 1 4 ++ (bytes 8 s ++ (bytes 4 v ++ bytes 1 (verdict_code o)))
-- "5 change view: kind, v 4."
message_bytes F (change_view v) = bytes 1 5 ++ bytes 4 v
-- "6 start view: kind, v 4, image."
message_bytes F (start_view v I) = bytes 1 6 ++ (bytes 4 v ++ image F I)
-- "7 read: kind, stamp, register."
message_bytes F (read_register s k) = bytes 1 7 ++ (bytes 8 s ++ bytes 1 k)

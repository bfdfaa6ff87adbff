-- 01, 'Messages to a box': the reply, as the code has it and as bytes.
use Rattle.std.specs.Prelude.{List, ◌++◌, ℕ}
use Rattle.wire.specs.Numbers.{bytes}
use Rattle.rules.specs.Answers as rules
use Rattle.transact.specs.declared.reply.Reply.{Reply}

-- a reply of `rules` as the code has it
abbrev pub reply_as : rules.Reply → Reply
reply_as r = record { number = r.number; kind = r.kind; boxnumber = r.box; state = r.state; view = r.view; stamp = r.stamp; value = r.value }

-- "Reply, 24 bytes: number 0, kind, box, state byte .., last normal view after the call 4, stamp 8, value 8."
unfoldable pub reply_bytes : Reply → List ℕ
reply_bytes r =
    (bytes 1 r.number ++ (bytes 1 r.kind ++ (bytes 1 r.boxnumber ++ bytes 1 r.state)))
    ++ (bytes 4 r.view ++ (bytes 8 r.stamp ++ bytes 8 r.value))

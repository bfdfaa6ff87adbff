-- Replies to bytes: 15 bytes a reply.
use Rattle.std.specs.Prelude.{List, [], ◌∷◌, ◌++◌, map, ℕ}
use Rattle.wire.specs.Numbers.{bytes}
use Rattle.rules.specs.Tests.{bit}
use Rattle.rules.specs.Tables.{result_code, result_retry}
use Rattle.rules.specs.Count as rules
use Rattle.replies.specs.declared.held.Reply.{Reply}

-- what is heard, in plain numbers
abbrev pub reply_of : rules.Heard → Reply
reply_of h = record {
  boxnumber = h.box;
  view = h.view;
  result = result_code h.result;
  retry = result_retry h.result;
  finality = bit h.is_final;
}

-- box 1, view 4, result 1, retry stamp 8, final 1
unfoldable pub record_bytes : Reply → List ℕ
record_bytes r = bytes 1 r.boxnumber ++ (bytes 4 r.view ++ (bytes 1 r.result ++ (bytes 8 r.retry ++ bytes 1 r.finality)))

-- one after the other
unfoldable pub records_bytes : List Reply → List ℕ
records_bytes [] = []
records_bytes (r ∷ rs) = record_bytes r ++ records_bytes rs

-- all that is heard
abbrev pub all_bytes : List rules.Heard → List ℕ
all_bytes hs = records_bytes (map reply_of hs)

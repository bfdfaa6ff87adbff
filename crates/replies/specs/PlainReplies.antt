-- 01, 'The coordinator's count': replies in plain numbers, and what they say.
use Rattle.std.specs.Prelude.{Bool, List, map, eqb, leb}
use Rattle.rules.specs.Tests.{both}
use Rattle.rules.specs.Count as rules
use Rattle.rows.specs.Fields.{result_numbered}
use Rattle.message.specs.Messages.{result_by_code}
use Rattle.replies.specs.declared.held.Reply.{Reply}

-- "a bad result" is no code of a result, or has a retry stamp against the rows' rule; "final or not" is 1 or 0
unfoldable pub result_read : Reply → Bool
result_read r = both (result_by_code r.result r.retry) (leb r.finality 1)

-- "box, view, result with its retry stamp, final or not"
abbrev pub heard : Reply → rules.Heard
heard r = record {
  box = r.boxnumber;
  view = r.view;
  result = result_numbered r.result r.retry;
  is_final = eqb r.finality 1;
}

abbrev pub all_heard : List Reply → List rules.Heard
all_heard rs = map heard rs

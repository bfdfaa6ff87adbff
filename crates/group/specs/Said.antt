-- What bytes say: a message that boxes of a group take for one, a reply, the image at the start of a buffer.
use Rattle.std.specs.Prelude.{cond, List, [], ◌∷◌, ◌++◌, ℕ, ◌-◌, ltb, take}
use Rattle.std.proofs.Math.Option.{Option}
use Rattle.wire.specs.Numbers.{number_at}
use Rattle.rules.specs.Tests.{bit}
use Rattle.rules.specs.Tables.{Model}
use Rattle.rules.specs.Messages.{Message}
use Rattle.rules.specs.Answers.{Reply}
use Rattle.table.specs.Headers.{header_at}
use Rattle.table.specs.Images.{format_one}
use Rattle.message.specs.Messages.{message_to}
use Rattle.replies.specs.declared.held.Reply as replies

-- ---- messages

-- the message that boxes of a group of n take these bytes for; none if every one of them refuses the bytes with 3, "bad message"
abbrev pub message_in : Model → ℕ → List ℕ → Option Message
message_in M n bytes = message_to format_one M n bytes

-- ---- replies

-- "Reply, 24 bytes: number 0, kind, box, state byte .., last normal view after the call 4, stamp 8, value 8."
unfoldable pub reply_in : List ℕ → Reply
reply_in s = record {
  number = number_at s 0 1;
  kind = number_at s 1 1;
  box = number_at s 2 1;
  state = number_at s 3 1;
  view = number_at s 4 4;
  stamp = number_at s 8 8;
  value = number_at s 16 8;
}

-- "box, view, result with its retry stamp, final or not": the record that a coordinator counts, from the reply. For messages 1 and 2 the state byte is "1 to 4 tentative OK, ABORT, ABSTAIN, RETRY; 5 to 8 the same, final", and the value is the retry stamp
unfoldable pub record_of : List ℕ → replies.Reply
record_of s =
    let p = reply_in s in
    record {
      boxnumber = p.box;
      result = cond (ltb 4 p.state) (p.state - 4) p.state;
      finality = bit (ltb 4 p.state);
      view = p.view;
      retry = p.value;
    }

-- ---- images

-- the image at the start of a buffer: as many bytes as the "total length" in its header says
unfoldable pub image_in : List ℕ → List ℕ
image_in s = take (header_at s).length s

-- "laid end to end in one lent buffer"
unfoldable pub laid_images : List (List ℕ) → List ℕ
laid_images [] = []
laid_images (s ∷ ss) = image_in s ++ laid_images ss

-- What is known of a message that was read: it keeps its rules, and it lies in its bytes where its kind says.
use mathlib.Core.Path.{◌≡◌, sym, ap, ◌∙◌}
use mathlib.Core.Bool.{true}
use mathlib.Core.List.{List, [], ◌++◌, append-nil, append_assoc}
use mathlib.Core.Option.{Option, none, some}
use Prim.Native.Nat.{ℕ, ◌+◌, ◌*◌, ◌≤◌, ◌-◌}
use native.Mathlib.Omega.{arith}
use lib.ListN.{length, take, drop, length-append, length-drop}
use lib.Seq.{drop_at, take_all}
use borrow.Author.Tests.{eqb-true}
use Rattle.wire.specs.Inner.ByteLists.{AllBytes}
use Rattle.wire.specs.Numbers.{bytes}
use Rattle.wire.proofs.Numbers.{length_bytes}
use Rattle.rules.specs.Tests.{both}
use Rattle.rules.specs.Stamps.{Body, is_stamp, counts_by_rule, body_by_rule}
use Rattle.rules.specs.Tables.{Verdict, Model, Table, valley, table_by_rule}
use Rattle.rules.specs.Messages.{Message, Message.propose_prepare, Message.propose_outcome, Message.start_view}
use Rattle.rules.specs.Circumstances.{message_by_rule, starts_view}
use Rattle.rules.proofs.Logic.{both_left, both_right, none_some}
use Rattle.rules.proofs.Lists.{provided_some}
use Rattle.rules.proofs.Tables.{table_facts, table_by}
use Rattle.rows.specs.Bytes.{body_length, length_of}
use Rattle.rows.specs.Read.{body_at, begins}
use Rattle.rows.proofs.Begins.{begins_with}
use Rattle.rows.proofs.Bodies.{length-accesses_at, length_of-body_at}
use Rattle.table.specs.declared.header.Header.{Header}
use Rattle.table.specs.Headers.{header_at}
use Rattle.table.specs.Images.{format_one, image, image_length}
use Rattle.table.specs.Parse.{parse, table_at, BeginsWithImage}
use Rattle.table.proofs.Images.{bodies_at_most, one_sound, parsed}
use Rattle.edit.proofs.Holding.{one_starts}
use Rattle.message.specs.Inner.MessageBytes.{message_bytes}
use Rattle.message.specs.Messages.{message_at, keeping_rules, message_to}
use Rattle.message.proofs.Forms.{message_bytes_lem, length_counts}
use Rattle.seek.specs.Inner.Limits.{limited}

module _ (M : Model) (n : ℕ) (s : List ℕ) (m : Message) (told : some m ≡ message_to format_one M n s) where
  read_so : (message_at format_one s ≡ some m) × (message_by_rule M n m ≡ true)
  unfolding message_to
  read_so = go (message_at format_one s) told
    where
      go : (o : Option Message) → some m ≡ keeping_rules M n o → (o ≡ some m) × (message_by_rule M n m ≡ true)
      go none e = none_some (sym e)
      go (some q) e = let (b, same) = provided_some (message_by_rule M n q) q m (sym e) in (ap some same, rw (← same) b)

  pub asked_rule : message_by_rule M n m ≡ true
  asked_rule = read_so.1

  pub asked_bytes : AllBytes s → message_bytes format_one m ≡ s
  asked_bytes all = message_bytes_lem format_one one_starts s all m read_so.0

-- ---- a body behind its counts

counts_told : (s : List ℕ) (at reads writes stamp : ℕ) → body_by_rule stamp (body_at s at reads writes) ≡ true → counts_by_rule reads writes ≡ true
unfolding body_by_rule body_at
counts_told s at reads writes stamp h = rw (length-accesses_at, length-accesses_at) at (both_left _ _ h)

-- what messages 1 and 3 ask of their bytes, with the body at a place
abbrev pub BodyGiven : List ℕ → ℕ → ℕ → ℕ → ℕ → Type 0
BodyGiven s at stamp reads writes = (is_stamp stamp ≡ true) × (counts_by_rule reads writes ≡ true) × (at + body_length reads writes ≤ length s)

module _ (M : Model) (n : ℕ) (s : List ℕ) (all : AllBytes s) (stamp reads writes : ℕ) where
  pub prepare_given : some (propose_prepare stamp (body_at s 11 reads writes)) ≡ message_to format_one M n s → BodyGiven s 11 stamp reads writes
  unfolding message_by_rule message_bytes
  prepare_given told =
      let x : Body = body_at s 11 reads writes in
      let rule = asked_rule M n s (propose_prepare stamp x) told in
      let l = ap length (asked_bytes M n s (propose_prepare stamp x) told all) in
      let k : 1 + (8 + (2 + length_of x)) ≡ length s = rw (length-append, length-append, length_bytes, length_bytes, length_counts x) at l in
      let e = length_of-body_at s 11 reads writes in
      (both_left _ _ rule, counts_told s 11 reads writes stamp (both_right _ _ rule), omega arith)

  pub outcome_given : (o : Verdict) → some (propose_outcome stamp o (body_at s 12 reads writes)) ≡ message_to format_one M n s → BodyGiven s 12 stamp reads writes
  unfolding message_by_rule message_bytes
  outcome_given o told =
      let x : Body = body_at s 12 reads writes in
      let rule = asked_rule M n s (propose_outcome stamp o x) told in
      let l = ap length (asked_bytes M n s (propose_outcome stamp o x) told all) in
      let k : 1 + (8 + (1 + (2 + length_of x))) ≡ length s = rw (length-append, length-append, length-append, length_bytes, length_bytes, length_bytes, length_counts x) at l in
      let e = length_of-body_at s 12 reads writes in
      (both_left _ _ rule, counts_told s 12 reads writes stamp (both_right _ _ rule), omega arith)

-- ---- the image of a started view

-- a part up to the end is all that is behind
pub up_to_end : (s : List ℕ) (n : ℕ) → take (length s - n) (drop n s) ≡ drop n s
up_to_end s n = take_all (length s - n) (drop n s) (rw (length-drop n s) (omega arith))

-- what message 6 asks of the image that follows its view
abbrev pub ImageGiven : List ℕ → ℕ → ℕ → Type 0
ImageGiven s v limit = (5 ≤ length s) × BeginsWithImage valley (drop 5 s) × ((header_at (drop 5 s)).view ≡ v) × ((header_at (drop 5 s)).length ≤ 24 + 96 * limit)

module _ (limit n : ℕ) (s : List ℕ) (all : AllBytes s) (v : ℕ) (kind : limit ≤ 512) (told : some (start_view v (table_at format_one (drop 5 s))) ≡ message_to format_one (limited limit) n s) where
  abbrev I : Table
  I = table_at format_one (drop 5 s)

  rule : message_by_rule (limited limit) n (start_view v I) ≡ true
  rule = asked_rule (limited limit) n s (start_view v I) told

  image_rule : table_by_rule (limited limit) I ≡ true
  unfolding message_by_rule
  image_rule = both_left _ _ (both_right _ _ rule)

  its_view : I.view ≡ v
  unfolding message_by_rule starts_view
  its_view = eqb-true _ _ (both_left _ _ (both_right _ _ (both_right _ _ (both_right _ _ rule))))

  is_image : (bytes 1 6 ++ bytes 4 v) ++ image format_one I ≡ s
  unfolding message_bytes
  is_image = append_assoc (bytes 1 6) (bytes 4 v) (image format_one I) ∙ asked_bytes (limited limit) n s (start_view v I) told all

  five : length (bytes 1 6 ++ bytes 4 v) ≡ 5
  five = simp (length-append, length_bytes)

  behind : drop 5 s ≡ image format_one I
  behind = sym (ap (drop 5) is_image) ∙ drop_at (bytes 1 6 ++ bytes 4 v) (image format_one I) 5 five

  begun : begins (drop 5 s) (image format_one I) ≡ true
  begun = ap (λ z. begins z (image format_one I)) (behind ∙ sym (append-nil (image format_one I))) ∙ begins_with (image format_one I) []

  parsed_as : (M : Model) → table_by_rule M I ≡ true → BeginsWithImage M (drop 5 s)
  unfolding parse both
  parsed_as M by_rule = rw (by_rule, begun)

  pub start_given : ImageGiven s v limit
  unfolding table_at
  start_given =
      let (regular, few) = table_facts (limited limit) I image_rule in
      let wide : table_by_rule valley I ≡ true = table_by valley regular (omega arith) in
      let keeping_rules = parsed_as (limited limit) image_rule in
      let said : (header_at (drop 5 s)).length ≡ image_length format_one I = ap (λ (h : Header). h.length) (parsed format_one (limited limit) (drop 5 s) I (one_sound (limited limit) (omega arith)) keeping_rules).header in
      let b = bodies_at_most I.rows regular.rows in
      let l : 5 + length (image format_one I) ≡ length s = rw (length-append, five) at (ap length is_image) in
      (omega arith, parsed_as valley wide, its_view, omega arith)

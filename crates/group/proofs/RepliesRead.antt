-- A reply that was written is read back, and every answer's reply is one that can be: each of its numbers fits its bytes.
use mathlib.Core.Path.{◌≡◌, refl}
use mathlib.Core.Bool.{Bool, true, false, cond}
use mathlib.Core.Logic.{◌⊎◌, inl, inr}
use mathlib.Core.List.{List, [], ◌∷◌, ◌++◌, append_assoc}
use mathlib.Core.Option.{Option, none, some}
use Prim.Native.Nat.{ℕ, ◌^◌, ◌<◌}
use native.Mathlib.Omega.{arith}
use lib.Dec.{eqb, ltb, leb}
use borrow.Author.Tests.{ltb-true}
use Rattle.wire.specs.Parts.{replaced}
use Rattle.wire.proofs.Parts.{replaced_start}
use Rattle.wire.proofs.Stands.{Stands, stands_between}
use Rattle.wire.proofs.Fields.{field_read, last_read}
use Rattle.rules.specs.Tests.{both, every}
use Rattle.rules.specs.Stamps.{Access, accesses_by_rule, contents_by_rule}
use Rattle.rules.specs.Tables.{prepare_code, prepare_retry, outcome_code, Row, row_by_rule, Model, Table, is_view, table_by_rule}
use Rattle.rules.specs.Numbers.{Number, number_code, order, Circumstance, applies, first, number}
use Rattle.rules.specs.Messages.{Message, Message.propose_prepare, Message.finalise_prepare, Message.propose_outcome, Message.finalise_outcome, Message.change_view, Message.start_view, Message.read_register, kind, held, prepare_of, outcome_of, table_after, Found, nothing_found, write_of, later, found}
use Rattle.rules.specs.Circumstances.{keeps_room, message_by_rule, circumstances}
use Rattle.rules.specs.Answers as rules
use Rattle.rules.specs.Answers.{Reply, state_byte, reply_stamp, reply_value, reply_from, refusal, taken, refused, answer_number, proposal_check}
use Rattle.rules.specs.Check.{committed}
use Rattle.rules.proofs.Logic.{both_left, both_right, same?}
use Rattle.rules.proofs.Lists.{every_one}
use Rattle.rules.proofs.Groups.{group_bounds}
use Rattle.rules.proofs.Rows.{held_from_lem}
use Rattle.rules.proofs.Tables.{row_facts, Regular, table_facts}
use Rattle.rules.proofs.Answers.{taken_by_rule, answer_by_rule, proposal_by_rule}
use Rattle.rules.proofs.Room.{keeps_room_fits}
use Rattle.history_cases.specs.Today.{answer}
use Rattle.rows.specs.Fields.{fields_of}
use Rattle.rows.proofs.Codes.{prepare_code_limit, outcome_code_limit}
use Rattle.rows.proofs.FieldsRead.{stamp_small, fields_fit}
use Rattle.transact.specs.Replies.{reply_as, reply_bytes}
use Rattle.group.specs.Said.{reply_in}

-- each number of a reply fits its bytes
pub record ReplyFits (p : Reply) : Type 0 where
  pub number : p.number < 256
  pub kind : p.kind < 256
  pub box : p.box < 256
  pub state : p.state < 256
  pub view : p.view < 2 ^ 32
  pub stamp : p.stamp < 2 ^ 64
  pub value : p.value < 2 ^ 64

-- a reply that stands at the start is read
start_read : (p : Reply) → ReplyFits p → (s : List ℕ) → Stands s 0 (reply_bytes (reply_as p)) → reply_in s ≡ p
unfolding reply_in reply_bytes
start_read p k s h =
    let a = field_read 1 p.number s 0 1 _ k.number refl (simp append_assoc at h) in
    let b = field_read 1 p.kind s 1 2 _ k.kind refl a.1 in
    let c = field_read 1 p.box s 2 3 _ k.box refl b.1 in
    let d = field_read 1 p.state s 3 4 _ k.state refl c.1 in
    let e = field_read 4 p.view s 4 8 _ k.view refl d.1 in
    let f = field_read 8 p.stamp s 8 16 _ k.stamp refl e.1 in
    rw (a.0, b.0, c.0, d.0, e.0, f.0, last_read 8 p.value s 16 k.value f.1)

pub reply_read : (p : Reply) → ReplyFits p → (rest : List ℕ) → reply_in (reply_bytes (reply_as p) ++ rest) ≡ p
reply_read p k rest = start_read p k _ (stands_between [] (reply_bytes (reply_as p)) rest 0 refl)

-- ---- the numbers of an answer's reply

-- what holds of both that a test chooses from
chosen : {A : Type 0} (P : A → Type 0) (b : Bool) {x y : A} → P x → P y → P (cond b x y)
chosen P true h k = h
chosen P false h k = k

-- a refusal has one of the numbers of the list
first_small : (ks : List Number) (cs : List Circumstance) → every (λ k. ltb (number_code k) 256) ks ≡ true → first ks cs < 256
unfolding first every
first_small [] cs h = omega arith
first_small (k ∷ ks) cs h = chosen (λ x. x < 256) (applies cs k) (ltb-true (number_code k) 256 (both_left _ _ h)) (first_small ks cs (both_right _ _ h))

-- what message 7 finds: a row's stamp, and a value that was written
abbrev FoundFits : Found → Type 0
FoundFits f = (f.version < 2 ^ 64) × (f.value < 2 ^ 64)

nothing_fits : FoundFits nothing_found
nothing_fits = (omega arith, omega arith)

write_fits : (s : ℕ) → s < 2 ^ 64 → (low : ℕ) (writes : List Access) → accesses_by_rule (2 ^ 64) low writes ≡ true → (k : ℕ) → FoundFits (write_of s writes k)
unfolding write_of accesses_by_rule
write_fits s l low [] h k = nothing_fits
write_fits s l low (a ∷ more) h k =
    chosen FoundFits (eqb a.register k) (l, ltb-true a.number (2 ^ 64) (both_right _ _ (both_right _ _ (both_left _ _ h))))
    (write_fits s l _ more (both_right _ _ h) k)

later_fits : (a b : Found) → FoundFits a → FoundFits b → FoundFits (later a b)
unfolding later
later_fits a b = chosen FoundFits (ltb b.version a.version)

found_fits : (rows : List Row) → every row_by_rule rows ≡ true → (s k : ℕ) → FoundFits (found rows s k)
unfolding found every contents_by_rule
found_fits [] h s k = nothing_fits
found_fits (r ∷ rs) h s k =
    let f = row_facts r (both_left _ _ h) in
    let w = write_fits r.stamp (stamp_small r.stamp f.stamp) 0 r.body.writes (both_right _ _ f.contents) k in
    later_fits _ _ (chosen FoundFits (both (committed r) (leb r.stamp s)) w nothing_fits) (found_fits rs (both_right _ _ h) s k)

-- the retry stamp of a row, or 0 of none
retry_fits : (rows : List Row) → every row_by_rule rows ≡ true → (s : ℕ) → prepare_retry (prepare_of (held rows s)) < 2 ^ 64
unfolding fields_of
retry_fits rows h s = go (held rows s) refl
  where
    go : (o : Option Row) → held rows s ≡ o → prepare_retry (prepare_of o) < 2 ^ 64
    go none e = omega arith
    go (some r) e = (fields_fit 0 r (omega arith) (every_one row_by_rule rows h r (held_from_lem rows s r e).0)).retry

-- a reply from a table by the rules, to a message by the rules
module _ (M : Model) (T : Table) (t : Regular T) where
  -- the state byte and the value for messages 1 and 2
  prepare_fits : (s : ℕ) → (prepare_code (prepare_of (held T.rows s)) < 256) × (prepare_retry (prepare_of (held T.rows s)) < 2 ^ 64)
  prepare_fits s = (omega (arith, prepare_code_limit (prepare_of (held T.rows s))), retry_fits T.rows t.rows s)

  -- and the state byte for 3 and 4
  outcome_fits : (s : ℕ) → outcome_code (outcome_of (held T.rows s)) < 256
  outcome_fits s = omega (arith, outcome_code_limit (outcome_of (held T.rows s)))

  message_fits : (n : ℕ) (m : Message) → message_by_rule M n m ≡ true → (kind m < 256) × (state_byte T m < 256) × (reply_stamp T m < 2 ^ 64) × (reply_value T m < 2 ^ 64)
  unfolding state_byte reply_stamp reply_value message_by_rule is_view
  message_fits n (propose_prepare s x) h = (omega arith, (prepare_fits s).0, stamp_small s (both_left _ _ h), (prepare_fits s).1)
  message_fits n (finalise_prepare s v r) h = (omega arith, (prepare_fits s).0, stamp_small s (both_left _ _ h), (prepare_fits s).1)
  message_fits n (propose_outcome s o x) h = (omega arith, outcome_fits s, stamp_small s (both_left _ _ h), omega arith)
  message_fits n (finalise_outcome s v o) h = (omega arith, outcome_fits s, stamp_small s (both_left _ _ h), omega arith)
  message_fits n (change_view v) h = let l = ltb-true T.promised (2 ^ 32) t.promised in omega arith
  message_fits n (start_view v I) h = omega arith
  message_fits n (read_register s k) h = let f = found_fits T.rows t.rows s k in omega arith

  taken_fits : (n : ℕ) (m : Message) → message_by_rule M n m ≡ true → ReplyFits (reply_from T m)
  unfolding reply_from is_view
  taken_fits n m h =
      let f = message_fits n m h in
      let b = group_bounds T.n t.group in
      let v = ltb-true T.view (2 ^ 32) t.view in
      omega arith

pub answer_fits : (M : Model) (T : Table) (m : Message) → table_by_rule M T ≡ true → ReplyFits (answer M T m).reply
unfolding rules.answer taken refused refusal answer_number number every both
answer_fits M T m t = go (same? (answer_number M keeps_room T m) 0)
  where
    go : (answer_number M keeps_room T m ≡ 0) ⊎ (eqb (answer_number M keeps_room T m) 0 ≡ false) → ReplyFits (answer M T m).reply
    go (inl e) =
        let u : table_by_rule M (table_after proposal_check T m) ≡ true = rw e at (answer_by_rule M keeps_room proposal_check keeps_room_fits proposal_by_rule T m t) in
        rw e (taken_fits M (table_after proposal_check T m) (table_facts M _ u).0 T.n m (taken_by_rule M keeps_room T m e))
    go (inr e) = let l = first_small order (circumstances M keeps_room T m) refl in rw e (omega arith)

-- so whatever a box answers is read from the reply buffer
pub answer_read : (M : Model) (T : Table) (m : Message) → table_by_rule M T ≡ true → (reply : List ℕ) → reply_in (replaced reply 0 (reply_bytes (reply_as (answer M T m).reply))) ≡ (answer M T m).reply
answer_read M T m t reply = rw replaced_start (reply_read (answer M T m).reply (answer_fits M T m t) _)

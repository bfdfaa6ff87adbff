-- Each kind of message: it is taken exactly if the tests that its function makes are passed, and it is then the message of its fields.
use mathlib.Core.Path.{◌≡◌, refl, sym, ap, ◌∙◌}
use mathlib.Core.Bool.{Bool, true, false}
use mathlib.Core.List.{List, [], ◌∷◌}
use mathlib.Core.Logic.{◌≢◌}
use mathlib.Core.Option.{none, some}
use Rattle.std.specs.Prelude as given
use Rattle.std.specs.Bool.{then_some}
use Rattle.std.specs.List.{slice_get}
use Rattle.std.specs.Option.{option_map}
use Rattle.std.proofs.lemmas.Option.{get_or_from_slice_get}
use Prim.Native.Nat.{ℕ, ◌+◌, ◌-◌, ◌≤◌, ◌<◌}
use native.Mathlib.Omega.{arith}
use lib.Dec.{eqb}
use lib.ListN.{length, drop, length-drop}
use lib.Seq.{take_all}
use borrow.Author.Tests.{leb-true, le-leb, lt-ltb, eqb-true, eq-eqb, ne_eqb}
use Rattle.wire.specs.Parts.{part}
use Rattle.wire.specs.Numbers.{number_at}
use Rattle.wire.specs.Inner.ByteLists.{AllBytes}
use Rattle.wire.proofs.Numbers.{number_at-one, number_at-below}
use Rattle.rules.specs.Tests.{both, provided}
use Rattle.rules.specs.Stamps.{is_stamp, is_register, body_by_rule}
use Rattle.rules.specs.Tables.{Model, Prepare.tentative, result_code, result_retry, is_view, result_by_rule, retry_by_rule, table_by_rule}
use Rattle.rules.specs.Messages.{Message, Message.finalise_prepare, Message.propose_outcome, Message.finalise_outcome, Message.change_view, Message.start_view}
use Rattle.rules.specs.Circumstances.{starts_view, message_by_rule}
use Rattle.rules.proofs.Logic.{both_left, both_right, both_true, both_false, both_whole, both_comm, both_assoc, same_test, both_swap}
use Rattle.rows.specs.Bytes.{body_length}
use Rattle.rows.specs.Fields.{result_numbered, verdict_numbered, prepare_numbered}
use Rattle.rows.specs.Inner.FieldTests.{codes_by_rule}
use Rattle.rows.specs.Read.{body_at, begins}
use Rattle.rows.proofs.Codes.{coded}
use Rattle.table.specs.Images.{format_one, image, image_length}
use Rattle.table.specs.Parse.{table_at}
use Rattle.message.specs.Messages.{ends_with_body, result_by_code, verdict_by_code, prepare_proposal, prepare_final, outcome_proposal, outcome_final, view_change, view_start, register_read, message_at, message_of_kind, keeping_rules, message_to}
use Rattle.rows.specs.declared.result.CheckResult.{CheckResult}
use Rattle.rows.specs.declared.result.Verdict as rows
use Rattle.rows.specs.Inner.Results.{result_meant, verdict_meant}
use Rattle.message.specs.declared.kinds.Message as kinds
use Rattle.message.specs.declared.kinds.Message.TheVariants.{ProposePrepare, FinalisePrepare, ProposeOutcome, FinaliseOutcome, StartView, ReadRegister}
use Rattle.message.specs.Inner.Begun.{starts_at}
use Rattle.message.specs.Inner.MeantMessages.{meant, message_meant, Coded}

-- ---- tests in another order

-- the form of the bytes and the rules of the message are tested together
rules_provided : (M : Model) (n : ℕ) (t : Bool) (m : Message) → keeping_rules M n (provided t m) ≡ provided (both t (message_by_rule M n m)) m
unfolding both
rules_provided M n true m = refl
rules_provided M n false m = refl

both_across : (a b c d : Bool) → both (both a b) (both c d) ≡ both (both c b) (both a d)
unfolding both
both_across true b true d = refl
both_across true true false d = refl
both_across true false false d = refl
both_across false true true d = refl
both_across false false true d = refl
both_across false b false d = refl

-- what follows from a test adds nothing to it
both_implied : (a b : Bool) → (a ≡ true → b ≡ true) → both a b ≡ a
unfolding both
both_implied true b f = f refl
both_implied false b f = refl

-- ---- what the codes and the width of a field say

pub record ResultCoded (code retry : ℕ) : Type 0 where
  pub by_rule : result_by_rule (result_numbered code retry) ≡ true
  pub same_code : result_code (result_numbered code retry) ≡ code
  pub same_retry : result_retry (result_numbered code retry) ≡ retry

-- "result 1 to 4, retry stamp (by the rows' rule)": what a code by the rules stands for is by the rules
pub result_coded : (code retry : ℕ) → result_by_code code retry ≡ true → ResultCoded code retry
unfolding result_by_code prepare_numbered codes_by_rule retry_by_rule
result_coded code retry h =
    let l : 1 ≤ code = leb-true 1 code (both_left _ _ h) in
    let m : code ≤ 4 = leb-true code 4 (both_left _ _ (both_right _ _ h)) in
    let p : prepare_numbered code retry ≡ tentative (result_numbered code retry) = rw (ne_eqb code 0 (omega arith), le-leb code 4 m) in
    let k : codes_by_rule code 0 ≡ true = both_true (le-leb code 8 (omega arith)) (both_true refl (lt-ltb 0 (code + 0) (omega arith))) in
    let c = coded code retry 0 k (both_right _ _ (both_right _ _ h)) in
    record { by_rule = rw p at c.by_rule; same_code = rw p at c.prepare; same_retry = rw p at c.retry }

view_fits : (s : List ℕ) (at : ℕ) → AllBytes s → at + 4 ≤ length s → is_view (number_at s at 4) ≡ true
unfolding is_view
view_fits s at a l = lt-ltb _ _ (number_at-below s at 4 a l)

-- ---- what a code stands for, and what an answer stands for

mapped_some : {A B : Type 0} (f : A → B) (o : given.Option A) (a : A) (t : Bool) (x : B) → option_map f o ≡ then_some t x → o ≡ given.Some a → (t ≡ true) × (x ≡ f a)
mapped_some f o a true x h e = let g : given.Some (f a) ≡ given.Some x = rw e at h in (refl, cc)
mapped_some f o a false x h e = let g : given.Some (f a) ≡ given.None = rw e at h in cc

mapped_none : {A B : Type 0} (f : A → B) (o : given.Option A) (t : Bool) (x : B) → option_map f o ≡ then_some t x → o ≡ given.None → t ≡ false
mapped_none f o true x h e = let g : given.None ≡ given.Some x = rw e at h in cc
mapped_none f o false x h e = refl

meant_then : (s : List ℕ) (t : Bool) (m : kinds.Message) → meant format_one s (then_some t m) ≡ provided t (message_meant format_one s m)
meant_then s true m = refl
meant_then s false m = refl

-- a result that a code stands for is by the rules
result_told : (code retry : ℕ) (o : given.Option CheckResult) (r : CheckResult) → option_map result_meant o ≡ then_some (result_by_code code retry) (result_numbered code retry) → o ≡ given.Some r → result_by_rule (result_meant r) ≡ true
result_told code retry o r h e =
    let w : (result_by_code code retry ≡ true) × (result_numbered code retry ≡ result_meant r) = mapped_some result_meant o r _ _ h e in
    rw w.1 at (result_coded code retry w.0).by_rule

pub told_coded : (stamp view code retry : ℕ) (o : given.Option CheckResult) (result : CheckResult) (ok : Bool) (r : given.Option kinds.Message) → option_map result_meant o ≡ then_some (result_by_code code retry) (result_numbered code retry) → o ≡ given.Some result → r ≡ then_some ok (FinalisePrepare stamp view result) → Coded r
told_coded stamp view code retry o result true r h e k = rw k (result_told code retry o result h e)
told_coded stamp view code retry o result false r h e k = rw k tt

-- ---- the kinds

module _ (M : Model) (n : ℕ) (s : List ℕ) where
  -- 2, by its code
  pub final_prepare : (stamp view code retry : ℕ) (ok : Bool) → AllBytes s → length s ≡ 22 → stamp ≡ number_at s 1 8 → view ≡ number_at s 9 4 → code ≡ number_at s 13 1 → retry ≡ number_at s 14 8 → ok ≡ both (is_stamp stamp) (result_by_code code retry) → keeping_rules M n (prepare_final s) ≡ provided ok (finalise_prepare stamp view (result_numbered code retry))
  unfolding prepare_final message_by_rule both
  final_prepare stamp view code retry ok a l e f g k h =
      let c = number_at s 13 1 in
      let q = number_at s 14 8 in
      let implied = both_implied (result_by_code c q) (result_by_rule (result_numbered c q)) (λ t. (result_coded c q t).by_rule) in
      rw (h, e, f, g, k, rules_provided, eq-eqb (length s) 22 l, view_fits s 9 a (omega arith), both_swap, implied)

  -- 4, by its code
  pub final_outcome : (stamp view code : ℕ) (ok : Bool) → AllBytes s → length s ≡ 14 → stamp ≡ number_at s 1 8 → view ≡ number_at s 9 4 → code ≡ number_at s 13 1 → ok ≡ both (is_stamp stamp) (verdict_by_code code) → keeping_rules M n (outcome_final s) ≡ provided ok (finalise_outcome stamp view (verdict_numbered code))
  unfolding outcome_final message_by_rule both
  final_outcome stamp view code ok a l e f g h =
      let v = verdict_by_code (number_at s 13 1) in
      rw (h, e, f, g, rules_provided, eq-eqb (length s) 14 l, view_fits s 9 a (omega arith), both_whole, both_comm v (is_stamp (number_at s 1 8)))

module _ (M : Model) (n : ℕ) (s : List ℕ) (r : given.Option kinds.Message) where
  -- 1, by its stamp and its counts
  pub proposed_prepare : (stamp reads writes : ℕ) (ok : Bool) → stamp ≡ number_at s 1 8 → reads ≡ number_at s 9 1 → writes ≡ number_at s 10 1 → ok ≡ both (is_stamp stamp) (both (eqb (length s) (11 + body_length reads writes)) (body_by_rule stamp (body_at s 11 reads writes))) → r ≡ then_some ok (ProposePrepare stamp reads writes) → meant format_one s r ≡ keeping_rules M n (prepare_proposal s)
  unfolding prepare_proposal ends_with_body message_by_rule
  proposed_prepare stamp reads writes ok e f g h k = rw (k, meant_then, h, e, f, g, rules_provided, both_swap)

  pub short_prepare : length s < 11 → none ≡ keeping_rules M n (prepare_proposal s)
  unfolding prepare_proposal ends_with_body
  short_prepare l = rw (ne_eqb (length s) (11 + body_length (number_at s 9 1) (number_at s 10 1)) (omega arith))

  -- 2, of its exact length
  pub finalised_prepare : (stamp view code retry : ℕ) (told : given.Option CheckResult) (result : CheckResult) (ok : Bool) → AllBytes s → length s ≡ 22 → stamp ≡ number_at s 1 8 → view ≡ number_at s 9 4 → code ≡ number_at s 13 1 → retry ≡ number_at s 14 8 → option_map result_meant told ≡ then_some (result_by_code code retry) (result_numbered code retry) → told ≡ given.Some result → ok ≡ is_stamp stamp → r ≡ then_some ok (FinalisePrepare stamp view result) → meant format_one s r ≡ keeping_rules M n (prepare_final s)
  finalised_prepare stamp view code retry told result ok a l e f g h t u k m =
      let w : (result_by_code code retry ≡ true) × (result_numbered code retry ≡ result_meant result) = mapped_some result_meant told result _ _ t u in
      let b : ok ≡ both (is_stamp stamp) (result_by_code code retry) = rw (w.0, both_whole) k in
      rw (m, meant_then, ← w.1) (sym (final_prepare M n s stamp view code retry ok a l e f g h b))

  pub no_result : (code retry : ℕ) (told : given.Option CheckResult) → code ≡ number_at s 13 1 → retry ≡ number_at s 14 8 → option_map result_meant told ≡ then_some (result_by_code code retry) (result_numbered code retry) → told ≡ given.None → r ≡ given.None → meant format_one s r ≡ keeping_rules M n (prepare_final s)
  unfolding prepare_final
  no_result code retry told e f t u m = rw (m, ← e, ← f, mapped_none result_meant told _ _ t u, both_false)

  pub other_final : length s ≢ 22 → none ≡ keeping_rules M n (prepare_final s)
  unfolding prepare_final both
  other_final l = rw (ne_eqb (length s) 22 l)

  -- 3
  outcome_proposed : (stamp code reads writes : ℕ) (ok : Bool) → stamp ≡ number_at s 1 8 → code ≡ number_at s 9 1 → reads ≡ number_at s 10 1 → writes ≡ number_at s 11 1 → ok ≡ both (verdict_by_code code) (both (is_stamp stamp) (both (eqb (length s) (12 + body_length reads writes)) (body_by_rule stamp (body_at s 12 reads writes)))) → keeping_rules M n (outcome_proposal s) ≡ provided ok (propose_outcome stamp (verdict_numbered code) (body_at s 12 reads writes))
  unfolding outcome_proposal ends_with_body message_by_rule
  outcome_proposed stamp code reads writes ok e f g k h = rw (h, e, f, g, k, rules_provided, both_assoc, both_swap (eqb (length s) (12 + body_length (number_at s 10 1) (number_at s 11 1))))

  pub proposed_outcome : (stamp code reads writes : ℕ) (told : given.Option rows.Verdict) (verdict : rows.Verdict) (ok : Bool) → stamp ≡ number_at s 1 8 → code ≡ number_at s 9 1 → reads ≡ number_at s 10 1 → writes ≡ number_at s 11 1 → option_map verdict_meant told ≡ then_some (verdict_by_code code) (verdict_numbered code) → told ≡ given.Some verdict → ok ≡ both (is_stamp stamp) (both (eqb (length s) (12 + body_length reads writes)) (body_by_rule stamp (body_at s 12 reads writes))) → r ≡ then_some ok (ProposeOutcome stamp verdict reads writes) → meant format_one s r ≡ keeping_rules M n (outcome_proposal s)
  unfolding both
  proposed_outcome stamp code reads writes told verdict ok e f g h t u k m =
      let w : (verdict_by_code code ≡ true) × (verdict_numbered code ≡ verdict_meant verdict) = mapped_some verdict_meant told verdict _ _ t u in
      rw (m, meant_then, ← w.1) (sym (outcome_proposed stamp code reads writes ok e f g h (rw w.0 k)))

  pub no_proposed_verdict : (code : ℕ) (told : given.Option rows.Verdict) → code ≡ number_at s 9 1 → option_map verdict_meant told ≡ then_some (verdict_by_code code) (verdict_numbered code) → told ≡ given.None → r ≡ given.None → meant format_one s r ≡ keeping_rules M n (outcome_proposal s)
  unfolding outcome_proposal both
  no_proposed_verdict code told e t u m = rw (m, ← e, mapped_none verdict_meant told _ _ t u)

  pub short_outcome : length s < 12 → none ≡ keeping_rules M n (outcome_proposal s)
  unfolding outcome_proposal ends_with_body
  short_outcome l = rw (ne_eqb (length s) (12 + body_length (number_at s 10 1) (number_at s 11 1)) (omega arith), both_false)

  -- 4, of its exact length
  pub finalised_outcome : (stamp view code : ℕ) (told : given.Option rows.Verdict) (verdict : rows.Verdict) (ok : Bool) → AllBytes s → length s ≡ 14 → stamp ≡ number_at s 1 8 → view ≡ number_at s 9 4 → code ≡ number_at s 13 1 → option_map verdict_meant told ≡ then_some (verdict_by_code code) (verdict_numbered code) → told ≡ given.Some verdict → ok ≡ is_stamp stamp → r ≡ then_some ok (FinaliseOutcome stamp view verdict) → meant format_one s r ≡ keeping_rules M n (outcome_final s)
  finalised_outcome stamp view code told verdict ok a l e f g t u k m =
      let w : (verdict_by_code code ≡ true) × (verdict_numbered code ≡ verdict_meant verdict) = mapped_some verdict_meant told verdict _ _ t u in
      let b : ok ≡ both (is_stamp stamp) (verdict_by_code code) = rw (w.0, both_whole) k in
      rw (m, meant_then, ← w.1) (sym (final_outcome M n s stamp view code ok a l e f g b))

  pub no_final_verdict : (code : ℕ) (told : given.Option rows.Verdict) → code ≡ number_at s 13 1 → option_map verdict_meant told ≡ then_some (verdict_by_code code) (verdict_numbered code) → told ≡ given.None → r ≡ given.None → meant format_one s r ≡ keeping_rules M n (outcome_final s)
  unfolding outcome_final
  no_final_verdict code told e t u m = rw (m, ← e, mapped_none verdict_meant told _ _ t u, both_false)

  pub other_outcome : length s ≢ 14 → none ≡ keeping_rules M n (outcome_final s)
  unfolding outcome_final both
  other_outcome l = rw (ne_eqb (length s) 14 l)

  -- 5, of its exact length
  pub changed_view : (view : ℕ) → AllBytes s → length s ≡ 5 → view ≡ number_at s 1 4 → some (change_view view) ≡ keeping_rules M n (view_change s)
  unfolding view_change message_by_rule
  changed_view view a l e = rw (e, eq-eqb (length s) 5 l, view_fits s 1 a (omega arith))

  pub other_change : length s ≢ 5 → none ≡ keeping_rules M n (view_change s)
  unfolding view_change
  other_change l = rw (ne_eqb (length s) 5 l)

  -- 6, by its view and the image behind it
  pub started_view : (view : ℕ) (ok : Bool) → AllBytes s → 5 ≤ length s → view ≡ number_at s 1 4 → ok ≡ starts_at format_one M n view (part s 5 (length s - 5)) → r ≡ then_some ok (StartView view) → meant format_one s r ≡ keeping_rules M n (view_start format_one s)
  unfolding view_start message_by_rule starts_at both
  started_view view ok a l e h m =
      let I = table_at format_one (drop 5 s) in
      let d : length (drop 5 s) ≡ length s - 5 = length-drop 5 s in
      let k : eqb (length s) (5 + image_length format_one I) ≡ eqb (image_length format_one I) (length (drop 5 s)) =
      same_test _ _
      (λ t. let q : length s ≡ 5 + image_length format_one I = eqb-true _ _ t in eq-eqb (image_length format_one I) (length (drop 5 s)) (omega arith))
      (λ t. let q : image_length format_one I ≡ length (drop 5 s) = eqb-true _ _ t in eq-eqb (length s) (5 + image_length format_one I) (omega arith)) in
      let r : part s 5 (length s - 5) ≡ drop 5 s = take_all (length s - 5) (drop 5 s) (omega arith) in
      rw (m, meant_then) (sym (rw (h, r, e, rules_provided, view_fits s 1 a (omega arith), k) (ap (λ (t : Bool). provided t (start_view (number_at s 1 4) I)) (both_across (eqb (image_length format_one I) (length (drop 5 s))) (begins (drop 5 s) (image format_one I)) (table_by_rule M I) (starts_view n (number_at s 1 4) I)))))

  pub short_start : length s < 5 → none ≡ keeping_rules M n (view_start format_one s)
  unfolding view_start both
  short_start l = rw (ne_eqb (length s) (5 + image_length format_one (table_at format_one (drop 5 s))) (omega arith))

  -- 7, of its exact length
  pub read_register_lem : (stamp register : ℕ) (ok : Bool) → length s ≡ 10 → stamp ≡ number_at s 1 8 → register ≡ number_at s 9 1 → ok ≡ both (is_stamp stamp) (is_register register) → r ≡ then_some ok (ReadRegister stamp register) → meant format_one s r ≡ keeping_rules M n (register_read s)
  unfolding register_read message_by_rule
  read_register_lem stamp register ok l e f h m = rw (m, meant_then, h, e, f, eq-eqb (length s) 10 l)

  pub other_read : length s ≢ 10 → none ≡ keeping_rules M n (register_read s)
  unfolding register_read
  other_read l = rw (ne_eqb (length s) 10 l)

-- ---- the kind, which is the first byte

module _ (M : Model) (n : ℕ) (s : List ℕ) where
  kind_at : (kind : ℕ) → slice_get s 0 ≡ given.Some kind → message_to format_one M n s ≡ keeping_rules M n (message_of_kind format_one kind s)
  unfolding message_to message_at
  kind_at kind h = let e : number_at s 0 1 ≡ kind = number_at-one s 0 ∙ get_or_from_slice_get s 0 kind 0 h in rw e

  -- no bytes have none
  pub no_kind : slice_get s 0 ≡ given.None → message_to format_one M n s ≡ none
  unfolding message_to message_at message_of_kind
  no_kind h = go s h
    where
      go : (s : List ℕ) → slice_get s 0 ≡ given.None → keeping_rules M n (message_of_kind format_one (number_at s 0 1) s) ≡ none
      go [] h = rw (number_at-one [] 0)
      go (b ∷ s) h = cc

  pub kind_1 : slice_get s 0 ≡ given.Some 1 → message_to format_one M n s ≡ keeping_rules M n (prepare_proposal s)
  unfolding message_of_kind
  kind_1 h = kind_at 1 h

  pub kind_2 : slice_get s 0 ≡ given.Some 2 → message_to format_one M n s ≡ keeping_rules M n (prepare_final s)
  unfolding message_of_kind
  kind_2 h = kind_at 2 h

  pub kind_3 : slice_get s 0 ≡ given.Some 3 → message_to format_one M n s ≡ keeping_rules M n (outcome_proposal s)
  unfolding message_of_kind
  kind_3 h = kind_at 3 h

  pub kind_4 : slice_get s 0 ≡ given.Some 4 → message_to format_one M n s ≡ keeping_rules M n (outcome_final s)
  unfolding message_of_kind
  kind_4 h = kind_at 4 h

  pub kind_5 : slice_get s 0 ≡ given.Some 5 → message_to format_one M n s ≡ keeping_rules M n (view_change s)
  unfolding message_of_kind
  kind_5 h = kind_at 5 h

  pub kind_6 : slice_get s 0 ≡ given.Some 6 → message_to format_one M n s ≡ keeping_rules M n (view_start format_one s)
  unfolding message_of_kind
  kind_6 h = kind_at 6 h

  pub kind_7 : slice_get s 0 ≡ given.Some 7 → message_to format_one M n s ≡ keeping_rules M n (register_read s)
  unfolding message_of_kind
  kind_7 h = kind_at 7 h

  pub other_kind : (kind : ℕ) → slice_get s 0 ≡ given.Some kind → kind ≢ 1 → kind ≢ 2 → kind ≢ 3 → kind ≢ 4 → kind ≢ 5 → kind ≢ 6 → kind ≢ 7 → message_to format_one M n s ≡ none
  unfolding message_of_kind
  other_kind kind h a b c d e f g = kind_at kind h ∙ rw (ne_eqb kind 1 a, ne_eqb kind 2 b, ne_eqb kind 3 c, ne_eqb kind 4 d, ne_eqb kind 5 e, ne_eqb kind 6 f, ne_eqb kind 7 g)

pub ruleset first_byte = (no_kind, kind_1, kind_2, kind_3, kind_4, kind_5, kind_6, kind_7, other_kind)

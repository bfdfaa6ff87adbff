-- A message has one form in bytes: what was written as one is read back, and what is read as one was written so.
use mathlib.Core.Path.{◌≡◌, refl, sym, ap, ◌∙◌}
use mathlib.Core.Bool.{Bool, true, false, cond}
use mathlib.Core.Logic.{◌≢◌, ◌⊎◌, inl, inr}
use mathlib.Core.List.{List, ◌++◌}
use mathlib.Core.Option.{Option, some}
use Prim.Native.Nat.{ℕ, ◌+◌, ◌*◌, ◌^◌, ◌≤◌, ◌<◌}
use native.Mathlib.Omega.{arith}
use lib.Dec.{eqb}
use lib.ListN.{length, drop, length-append}
use lib.Seq.{take_all, take-length}
use borrow.Author.Tests.{ltb-true, leb-true, eqb-true, eqb-false, eq-eqb}
use Rattle.wire.specs.Numbers.{bytes, number_at}
use Rattle.wire.specs.Inner.ByteLists.{AllBytes}
use Rattle.wire.proofs.Numbers.{length_bytes}
use Rattle.wire.proofs.Stands.{Stands, stands_whole}
use Rattle.wire.proofs.Fields.{field_read, field_stands, last_read, last_stands}
use Rattle.rules.specs.Tests.{both, either}
use Rattle.rules.specs.Stamps.{Body, is_stamp, is_register, counts_by_rule, body_by_rule}
use Rattle.rules.specs.Tables.{Result, Result.OK, Result.ABORT, Result.ABSTAIN, Result.RETRY, Verdict, Verdict.commit, Verdict.abort, Table, Model, result_code, result_retry, verdict_code, is_view, result_by_rule, table_by_rule}
use Rattle.rules.specs.Messages.{Message, Message.propose_prepare, Message.finalise_prepare, Message.propose_outcome, Message.finalise_outcome, Message.change_view, Message.start_view, Message.read_register}
use Rattle.rules.specs.Circumstances.{message_by_rule}
use Rattle.rules.proofs.Logic.{none_some, both_left, both_right, same?}
use Rattle.rules.proofs.Lists.{provided_some}
use Rattle.rows.specs.Bytes.{body_length, length_of}
use Rattle.rows.specs.Fields.{result_numbered, verdict_numbered, retry_by_code}
use Rattle.rows.specs.Read.{body_at}
use Rattle.rows.proofs.Bodies.{length-accesses_at, length_body, body_stands, body_read}
use Rattle.rows.proofs.Begins.{begins_stands, stands_begins}
use Rattle.rows.proofs.FieldsRead.{stamp_small}
use Rattle.table.specs.Images.{Form, image, image_length}
use Rattle.table.specs.Parse.{table_at, parse}
use Rattle.table.proofs.Images.{Starts, Sound, length_image, image_parses, parse_reads}
use Rattle.message.specs.Inner.MessageBytes.{counts_and_body, message_bytes}
use Rattle.message.specs.Messages.{ends_with_body, body_from, result_by_code, verdict_by_code, prepare_proposal, prepare_final, outcome_proposal, outcome_final, view_change, view_start, register_read, message_of_kind, message_at}
use Rattle.message.proofs.KeepingRules.{result_coded}

-- ---- counts and body

pub length_counts : (x : Body) → length (counts_and_body x) ≡ 2 + length_of x
unfolding counts_and_body
length_counts x = let e = length_body x in simp (length-append, length_bytes) (omega arith)

few : (n : ℕ) → n ≤ 4 → n < 256 ^ 1
few n l = omega arith

-- the counts and the body that stand there are read
counts_read : (s : List ℕ) (at stamp : ℕ) (x : Body) → is_stamp stamp ≡ true → body_by_rule stamp x ≡ true → length s ≡ at + 2 + length_of x → Stands s at (counts_and_body x) → (ends_with_body s at ≡ true) × (body_from s at ≡ x)
unfolding counts_and_body ends_with_body body_by_rule counts_by_rule
counts_read s at stamp x g h l w =
    let counts = both_left _ _ h in
    let a = field_read 1 (length x.reads) s at (at + 1) _ (few _ (leb-true _ _ (both_left _ _ counts))) refl w in
    let b = field_read 1 (length x.writes) s (at + 1) (at + 2) _ (few _ (leb-true _ _ (both_left _ _ (both_right _ _ counts)))) (omega arith) a.1 in
    let m : stamp < 256 ^ 8 = stamp_small stamp g in
    rw (a.0, b.0) (eq-eqb (length s) (at + 2 + length_of x) l, body_read s (at + 2) stamp x (both_right _ _ h) (omega arith) b.1)

-- the counts and the body that are read stand there
counts_stand : (s : List ℕ) (at : ℕ) → AllBytes s → ends_with_body s at ≡ true → Stands s at (counts_and_body (body_from s at)) × (length s ≡ at + 2 + length_of (body_from s at))
unfolding counts_and_body ends_with_body body_at
counts_stand s at a h =
    let r = number_at s at 1 in
    let w = number_at s (at + 1) 1 in
    let l : length s ≡ at + 2 + body_length r w = eqb-true _ _ h in
    let b = body_stands s (at + 2) r w a (omega arith) in (
      rw (length-accesses_at s (at + 2) r, length-accesses_at s (at + 2 + 9 * r) w)
          (field_stands 1 s at (at + 1) _ a (omega arith) refl (field_stands 1 s (at + 1) (at + 2) _ a (omega arith) (omega arith) b)),
      rw (length-accesses_at s (at + 2) r, length-accesses_at s (at + 2 + 9 * r) w) l,
    )

-- ---- codes

pub verdict_read : (v : Verdict) → (verdict_numbered (verdict_code v) ≡ v) × (verdict_by_code (verdict_code v) ≡ true)
unfolding verdict_numbered verdict_by_code both
verdict_read commit = (refl, refl)
verdict_read abort = (refl, refl)

verdict_small : (v : Verdict) → verdict_code v < 256 ^ 1
verdict_small commit = omega arith
verdict_small abort = omega arith

pub result_small : (r : Result) → result_by_rule r ≡ true → (result_code r < 256 ^ 1) × (result_retry r < 256 ^ 8)
unfolding result_by_rule
result_small OK h = (omega arith, omega arith)
result_small ABORT h = (omega arith, omega arith)
result_small ABSTAIN h = (omega arith, omega arith)
result_small (RETRY s) h = (omega arith, stamp_small s h)

pub result_read_lem : (r : Result) → result_by_rule r ≡ true → (result_numbered (result_code r) (result_retry r) ≡ r) × (result_by_code (result_code r) (result_retry r) ≡ true)
unfolding result_numbered result_by_code retry_by_code result_by_rule both either
result_read_lem OK h = (refl, refl)
result_read_lem ABORT h = (refl, refl)
result_read_lem ABSTAIN h = (refl, refl)
result_read_lem (RETRY s) h = (refl, h)

pub verdict_numbered_lem : (code : ℕ) → verdict_by_code code ≡ true → verdict_code (verdict_numbered code) ≡ code
unfolding verdict_numbered verdict_by_code
verdict_numbered_lem code h = go (same? code 1)
  where
    go : (code ≡ 1) ⊎ (eqb code 1 ≡ false) → verdict_code (verdict_numbered code) ≡ code
    go (inl e) = rw e
    go (inr e) =
        let d : code ≢ 1 = eqb-false code 1 e in
        let l : 1 ≤ code = leb-true 1 code (both_left _ _ h) in
        let m : code ≤ 2 = leb-true code 2 (both_right _ _ h) in
        let z : code ≡ 2 = omega arith in
        rw z

-- ---- a message written is read back

view_small : (v : ℕ) → is_view v ≡ true → v < 256 ^ 4
unfolding is_view
view_small v h = let l : v < 2 ^ 32 = ltb-true _ _ h in omega arith

register_small : (k : ℕ) → is_register k ≡ true → k < 256 ^ 1
unfolding is_register
register_small k h = let l : k < 64 = ltb-true _ _ h in omega arith

-- the first byte is the kind, and the rest stands behind it
kind_read : (k n : ℕ) (ws : List ℕ) → k < 256 ^ 1 → 1 + length ws ≡ n → let s = bytes 1 k ++ ws in (number_at s 0 1 ≡ k) × Stands s 1 ws × (length s ≡ n)
unfolding Stands
kind_read k n ws l e =
    let s : List ℕ = bytes 1 k ++ ws in
    let a = field_read 1 k s 0 1 ws l refl (take-length s) in
    (a.0, a.1, simp (length-append, length_bytes) e)

prepare_proposal_read : (s : List ℕ) (stamp : ℕ) (x : Body) → is_stamp stamp ≡ true → body_by_rule stamp x ≡ true → Stands s 1 (bytes 8 stamp ++ counts_and_body x) → length s ≡ 11 + length_of x → prepare_proposal s ≡ some (propose_prepare stamp x)
unfolding prepare_proposal
prepare_proposal_read s stamp x g h w l =
    let a = field_read 8 stamp s 1 9 _ (stamp_small stamp g) refl w in
    let b = counts_read s 9 stamp x g h l a.1 in
    rw (a.0, b.0, b.1)

outcome_proposal_read : (s : List ℕ) (stamp : ℕ) (v : Verdict) (x : Body) → is_stamp stamp ≡ true → body_by_rule stamp x ≡ true → Stands s 1 (bytes 8 stamp ++ (bytes 1 (verdict_code v) ++ counts_and_body x)) → length s ≡ 12 + length_of x → outcome_proposal s ≡ some (propose_outcome stamp v x)
unfolding outcome_proposal both
outcome_proposal_read s stamp v x g h w l =
    let a = field_read 8 stamp s 1 9 _ (stamp_small stamp g) refl w in
    let c = field_read 1 (verdict_code v) s 9 10 _ (verdict_small v) refl a.1 in
    let b = counts_read s 10 stamp x g h l c.1 in
    rw (a.0, c.0, (verdict_read v).0, (verdict_read v).1, b.0, b.1)

prepare_final_read : (s : List ℕ) (stamp view : ℕ) (r : Result) → is_stamp stamp ≡ true → is_view view ≡ true → result_by_rule r ≡ true → Stands s 1 (bytes 8 stamp ++ (bytes 4 view ++ (bytes 1 (result_code r) ++ bytes 8 (result_retry r)))) → length s ≡ 22 → prepare_final s ≡ some (finalise_prepare stamp view r)
unfolding prepare_final both
prepare_final_read s stamp view r g k h w l =
    let a = field_read 8 stamp s 1 9 _ (stamp_small stamp g) refl w in
    let b = field_read 4 view s 9 13 _ (view_small view k) refl a.1 in
    let c = field_read 1 (result_code r) s 13 14 _ (result_small r h).0 refl b.1 in
    let d = last_read 8 (result_retry r) s 14 (result_small r h).1 c.1 in
    rw (a.0, b.0, c.0, d, (result_read_lem r h).0, (result_read_lem r h).1, eq-eqb (length s) 22 l)

outcome_final_read : (s : List ℕ) (stamp view : ℕ) (v : Verdict) → is_stamp stamp ≡ true → is_view view ≡ true → Stands s 1 (bytes 8 stamp ++ (bytes 4 view ++ bytes 1 (verdict_code v))) → length s ≡ 14 → outcome_final s ≡ some (finalise_outcome stamp view v)
unfolding outcome_final both
outcome_final_read s stamp view v g k w l =
    let a = field_read 8 stamp s 1 9 _ (stamp_small stamp g) refl w in
    let b = field_read 4 view s 9 13 _ (view_small view k) refl a.1 in
    let c = last_read 1 (verdict_code v) s 13 (verdict_small v) b.1 in
    rw (a.0, b.0, c, (verdict_read v).0, (verdict_read v).1, eq-eqb (length s) 14 l)

table_there : (F : Form) (M : Model) (s : List ℕ) (T : Table) → Sound F M → table_by_rule M T ≡ true → Stands s 0 (image F T) → table_at F s ≡ T
table_there F M s T k h w =
    (parse_reads F M s T (ap (parse F M) (stands_whole s (image F T) w) ∙ image_parses F M T k h (drop (length (image F T)) s))).0

view_start_read : (F : Form) (M : Model) (s : List ℕ) (v : ℕ) (I : Table) → Sound F M → is_view v ≡ true → table_by_rule M I ≡ true → Stands s 1 (bytes 4 v ++ image F I) → length s ≡ 5 + image_length F I → view_start F s ≡ some (start_view v I)
unfolding view_start both Stands
view_start_read F M s v I k h g w l =
    let a = field_read 4 v s 1 5 _ (view_small v h) refl w in
    let e : table_at F (drop 5 s) ≡ I = table_there F M (drop 5 s) I k g a.1 in
    rw (a.0, e, eq-eqb (length s) (5 + image_length F I) l, stands_begins s 5 (image F I) a.1)

register_read_read : (s : List ℕ) (stamp k : ℕ) → is_stamp stamp ≡ true → is_register k ≡ true → Stands s 1 (bytes 8 stamp ++ bytes 1 k) → length s ≡ 10 → register_read s ≡ some (read_register stamp k)
unfolding register_read
register_read_read s stamp k g h w l =
    let a = field_read 8 stamp s 1 9 _ (stamp_small stamp g) refl w in
    rw (a.0, last_read 1 k s 9 (register_small k h) a.1, eq-eqb (length s) 10 l)

view_change_read : (s : List ℕ) (v : ℕ) → is_view v ≡ true → Stands s 1 (bytes 4 v) → length s ≡ 5 → view_change s ≡ some (change_view v)
unfolding view_change
view_change_read s v h w l = rw (last_read 4 v s 1 (view_small v h) w, eq-eqb (length s) 5 l)

pub message_read : (F : Form) (M : Model) (n : ℕ) (m : Message) → Sound F M → message_by_rule M n m ≡ true → message_at F (message_bytes F m) ≡ some m
unfolding message_by_rule message_bytes message_at message_of_kind
message_read F M n (propose_prepare stamp x) k h =
    let c = length_counts x in
    let a = kind_read 1 (11 + length_of x) (bytes 8 stamp ++ counts_and_body x) (omega arith) (simp (length-append, length_bytes) (omega arith)) in
    rw a.0 (prepare_proposal_read _ stamp x (both_left _ _ h) (both_right _ _ h) a.1 a.2)
message_read F M n (finalise_prepare stamp v r) k h =
    let a = kind_read 2 22 (bytes 8 stamp ++ (bytes 4 v ++ (bytes 1 (result_code r) ++ bytes 8 (result_retry r)))) (omega arith) (simp (length-append, length_bytes)) in
    rw a.0 (prepare_final_read _ stamp v r (both_left _ _ h) (both_left _ _ (both_right _ _ h)) (both_right _ _ (both_right _ _ h)) a.1 a.2)
message_read F M n (propose_outcome stamp o x) k h =
    let c = length_counts x in
    let a = kind_read 3 (12 + length_of x) (bytes 8 stamp ++ (bytes 1 (verdict_code o) ++ counts_and_body x)) (omega arith) (simp (length-append, length_bytes) (omega arith)) in
    rw a.0 (outcome_proposal_read _ stamp o x (both_left _ _ h) (both_right _ _ h) a.1 a.2)
message_read F M n (finalise_outcome stamp v o) k h =
    let a = kind_read 4 14 (bytes 8 stamp ++ (bytes 4 v ++ bytes 1 (verdict_code o))) (omega arith) (simp (length-append, length_bytes)) in
    rw a.0 (outcome_final_read _ stamp v o (both_left _ _ h) (both_right _ _ h) a.1 a.2)
message_read F M n (change_view v) k h =
    let a = kind_read 5 5 (bytes 4 v) (omega arith) (simp length_bytes) in
    rw a.0 (view_change_read _ v h a.1 a.2)
message_read F M n (start_view v I) k h =
    let c = length_image F I k.starts in
    let a = kind_read 6 (5 + image_length F I) (bytes 4 v ++ image F I) (omega arith) (simp (length-append, length_bytes) (omega arith)) in
    rw a.0 (view_start_read F M _ v I k (both_left _ _ h) (both_left _ _ (both_right _ _ h)) a.1 a.2)
message_read F M n (read_register stamp register) k h =
    let a = kind_read 7 10 (bytes 8 stamp ++ bytes 1 register) (omega arith) (simp (length-append, length_bytes)) in
    rw a.0 (register_read_read _ stamp register (both_left _ _ h) (both_right _ _ h) a.1 a.2)

-- ---- what is read as a message was written so

-- bytes that begin with others of the same length are these
all_there : (s ws : List ℕ) → Stands s 0 ws → length s ≡ length ws → ws ≡ s
unfolding Stands
all_there s ws h l = sym h ∙ take_all (length ws) s (omega arith)

chosen : {A : Type 0} (P : A → Type 0) (t : Bool) (x y : A) → (t ≡ true → P x) → (t ≡ false → P y) → P (cond t x y)
chosen P true x y f g = f refl
chosen P false x y f g = g refl

module _ (F : Form) (starts : Starts F) (s : List ℕ) (a : AllBytes s) where
  -- the kind's byte stands before the rest
  kind_stands : (k : ℕ) (ws : List ℕ) → number_at s 0 1 ≡ k → 1 ≤ length s → Stands s 1 ws → Stands s 0 (bytes 1 k ++ ws)
  kind_stands k ws e l h = rw e at (field_stands 1 s 0 1 ws a l refl h)

  prepare_proposal_bytes : number_at s 0 1 ≡ 1 → (m : Message) → prepare_proposal s ≡ some m → message_bytes F m ≡ s
  unfolding prepare_proposal message_bytes
  prepare_proposal_bytes e m h =
      let g = provided_some _ _ _ h in
      let c = counts_stand s 9 a g.0 in
      let n = length_counts (body_from s 9) in
      let l = c.1 in
      let w = kind_stands 1 _ e (omega arith) (field_stands 8 s 1 9 _ a (omega arith) refl c.0) in
      rw (← g.1) (all_there s _ w (simp (length-append, length_bytes) (omega arith)))

  outcome_proposal_bytes : number_at s 0 1 ≡ 3 → (m : Message) → outcome_proposal s ≡ some m → message_bytes F m ≡ s
  unfolding outcome_proposal message_bytes
  outcome_proposal_bytes e m h =
      let g = provided_some _ _ _ h in
      let v = verdict_numbered_lem (number_at s 9 1) (both_left _ _ g.0) in
      let c = counts_stand s 10 a (both_right _ _ g.0) in
      let n = length_counts (body_from s 10) in
      let l = c.1 in
      let w = kind_stands 3 _ e (omega arith) (field_stands 8 s 1 9 _ a (omega arith) refl (field_stands 1 s 9 10 _ a (omega arith) refl c.0)) in
      rw (← g.1, v) (all_there s _ w (simp (length-append, length_bytes) (omega arith)))

  prepare_final_bytes : number_at s 0 1 ≡ 2 → (m : Message) → prepare_final s ≡ some m → message_bytes F m ≡ s
  unfolding prepare_final message_bytes
  prepare_final_bytes e m h =
      let g = provided_some _ _ _ h in
      let l : length s ≡ 22 = eqb-true _ _ (both_left _ _ g.0) in
      let r = result_coded (number_at s 13 1) (number_at s 14 8) (both_right _ _ g.0) in
      let w =
      kind_stands 2 _ e (omega arith)
      (field_stands 8 s 1 9 _ a (omega arith) refl
      (field_stands 4 s 9 13 _ a (omega arith) refl (field_stands 1 s 13 14 _ a (omega arith) refl (last_stands 8 s 14 a (omega arith))))) in
      rw (← g.1, r.same_code, r.same_retry) (all_there s _ w (simp (length-append, length_bytes) (omega arith)))

  outcome_final_bytes : number_at s 0 1 ≡ 4 → (m : Message) → outcome_final s ≡ some m → message_bytes F m ≡ s
  unfolding outcome_final message_bytes
  outcome_final_bytes e m h =
      let g = provided_some _ _ _ h in
      let l : length s ≡ 14 = eqb-true _ _ (both_left _ _ g.0) in
      let v = verdict_numbered_lem (number_at s 13 1) (both_right _ _ g.0) in
      let w =
      kind_stands 4 _ e (omega arith)
      (field_stands 8 s 1 9 _ a (omega arith) refl (field_stands 4 s 9 13 _ a (omega arith) refl (last_stands 1 s 13 a (omega arith)))) in
      rw (← g.1, v) (all_there s _ w (simp (length-append, length_bytes) (omega arith)))

  view_change_bytes : number_at s 0 1 ≡ 5 → (m : Message) → view_change s ≡ some m → message_bytes F m ≡ s
  unfolding view_change message_bytes
  view_change_bytes e m h =
      let g = provided_some _ _ _ h in
      let l : length s ≡ 5 = eqb-true _ _ g.0 in
      let w = kind_stands 5 _ e (omega arith) (last_stands 4 s 1 a (omega arith)) in
      rw (← g.1) (all_there s _ w (simp (length-append, length_bytes) (omega arith)))

  view_start_bytes : number_at s 0 1 ≡ 6 → (m : Message) → view_start F s ≡ some m → message_bytes F m ≡ s
  unfolding view_start message_bytes
  view_start_bytes e m h =
      let I = table_at F (drop 5 s) in
      let g = provided_some _ _ _ h in
      let l : length s ≡ 5 + image_length F I = eqb-true _ _ (both_left _ _ g.0) in
      let n : length (image F I) ≡ image_length F I = length_image F I starts in
      let i = begins_stands s 5 (image F I) (both_right _ _ g.0) in
      let w = kind_stands 6 _ e (omega arith) (field_stands 4 s 1 5 _ a (omega arith) refl i) in
      rw (← g.1) (all_there s _ w (simp (length-append, length_bytes) (omega arith)))

  register_read_bytes : number_at s 0 1 ≡ 7 → (m : Message) → register_read s ≡ some m → message_bytes F m ≡ s
  unfolding register_read message_bytes
  register_read_bytes e m h =
      let g = provided_some _ _ _ h in
      let l : length s ≡ 10 = eqb-true _ _ g.0 in
      let w = kind_stands 7 _ e (omega arith) (field_stands 8 s 1 9 _ a (omega arith) refl (last_stands 1 s 9 a (omega arith))) in
      rw (← g.1) (all_there s _ w (simp (length-append, length_bytes) (omega arith)))

  abbrev Written : Message → Option Message → Type 0
  Written m o = o ≡ some m → message_bytes F m ≡ s

  pub message_bytes_lem : (m : Message) → message_at F s ≡ some m → message_bytes F m ≡ s
  unfolding message_at message_of_kind
  message_bytes_lem m =
      let k = number_at s 0 1 in
      chosen (Written m) (eqb k 1) _ _ (λ e. prepare_proposal_bytes (eqb-true k 1 e) m)
      (λ _. chosen (Written m) (eqb k 2) _ _ (λ e. prepare_final_bytes (eqb-true k 2 e) m)
      (λ _. chosen (Written m) (eqb k 3) _ _ (λ e. outcome_proposal_bytes (eqb-true k 3 e) m)
      (λ _. chosen (Written m) (eqb k 4) _ _ (λ e. outcome_final_bytes (eqb-true k 4 e) m)
      (λ _. chosen (Written m) (eqb k 5) _ _ (λ e. view_change_bytes (eqb-true k 5 e) m)
      (λ _. chosen (Written m) (eqb k 6) _ _ (λ e. view_start_bytes (eqb-true k 6 e) m)
      (λ _. chosen (Written m) (eqb k 7) _ _ (λ e. register_read_bytes (eqb-true k 7 e) m) (λ _ h. none_some h)))))))

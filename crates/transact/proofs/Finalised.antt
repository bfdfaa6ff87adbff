-- Messages 2 and 4, by the row that was found.
use mathlib.Core.Path.{◌≡◌, refl, sym, ap, ◌∙◌}
use mathlib.Core.Bool.{Bool, true, false, cond}
use mathlib.Core.List.{List}
use mathlib.Core.Logic.{◌⊎◌, inl, inr}
use mathlib.Core.Option.{none}
use Prim.Native.Nat.{ℕ, ◌+◌, ◌*◌}
use native.Mathlib.Omega.{arith}
use lib.Dec.{eqb}
use borrow.Author.Tests.{eq-eqb, ne_eqb}
use Rattle.wire.specs.Inner.ByteLists.{AllBytes}
use Rattle.std.specs.Prelude.{Result, Ok, Err}
use Rattle.numbers.specs.declared.Refusal.{Refusal}
use Rattle.numbers.specs.declared.Refusal.TheVariants.{Changing, Contradiction, Unknown, OtherView}
use Rattle.numbers.specs.Refusals.{refusal_code}
use Rattle.rules.specs.Tables as rules
use Rattle.rules.specs.Tables.{Prepare.final, Verdict, Outcome.done, result_code, result_retry, verdict_code, Model, Table}
use Rattle.rules.specs.Messages.{Message, Message.finalise_prepare, Message.finalise_outcome, held, with_prepare, with_outcome, with_rows, prepare_finalised, outcome_finalised, table_after}
use Rattle.rules.specs.Circumstances.{is_changing, for_other_view, prepare_not_held, outcome_not_held, held_unequal_final, held_opposite_outcome, unequal_final, opposite_outcome}
use Rattle.rules.specs.Answers.{reply_from, state_byte, reply_stamp, reply_value, proposal_check}
use Rattle.rules.proofs.Logic.{cases}
use Rattle.rows.specs.declared.row.RowFields.{RowFields}
use Rattle.rows.specs.declared.lookup.Place.{Place}
use Rattle.rows.specs.declared.lookup.Place.TheVariants.{Held, Absent}
use Rattle.rows.specs.Fields.{fields_at, prepare_numbered, outcome_numbered}
use Rattle.rows.specs.Inner.Places.{place_of}
use Rattle.rows.specs.Read.{row_of}
use Rattle.rows.proofs.Sought.{absent_none}
use Rattle.table.specs.Headers.{header_at}
use Rattle.table.specs.Images.{format_one}
use Rattle.table.specs.Parse.{table_at, BeginsWithImage}
use Rattle.edit.specs.Inner.Changes.{on_row}
use Rattle.edit.specs.Edited.{edited}
use Rattle.seek.specs.Inner.Findings.{to_finalise}
use Rattle.seek.proofs.HeldRows.{image_holds, held_here, prepare_here, outcome_here, changed_here, held_then}
use Rattle.transact.specs.Replies.{reply_as}
use Rattle.transact.specs.Inner.DoneReplies.{done_reply}
use Rattle.transact.specs.Inner.Served.{served_number}
use Rattle.transact.proofs.Serving.{number_2, number_4, Kept, kept_refused, kept_taken}
use Rattle.transact.proofs.CodesMeant.{final_numbered, done_numbered}

-- ---- what was found

-- which way a look for a row to finalise went
pub data Sought (T : Table) (s v : ℕ) : Result ℕ Refusal → Type 0 where
  changing : is_changing T ≡ true → Sought T s v (Err Changing)
  other_view : is_changing T ≡ false → for_other_view T v ≡ true → Sought T s v (Err OtherView)
  unknown : is_changing T ≡ false → for_other_view T v ≡ false → held T.rows s ≡ none → Sought T s v (Err Unknown)
  there : (i : ℕ) → is_changing T ≡ false → for_other_view T v ≡ false → place_of T.rows s ≡ Held i → Sought T s v (Ok i)

pub sought : (T : Table) (s v : ℕ) → Sought T s v (to_finalise T s v)
unfolding to_finalise
sought T s v = go (cases (is_changing T)) (cases (for_other_view T v)) (place_of T.rows s) refl
  where
    go : (is_changing T ≡ true) ⊎ (is_changing T ≡ false) → (for_other_view T v ≡ true) ⊎ (for_other_view T v ≡ false) → (place : Place) → place_of T.rows s ≡ place → Sought T s v (to_finalise T s v)
    go (inl a) b place e = rw a (changing a)
    go (inr a) (inl b) place e = rw (a, b) (other_view a b)
    go (inr a) (inr b) (Held i) e = rw (a, b, e) (there i a b e)
    go (inr a) (inr b) (Absent i) e = rw (a, b, e) (unknown a b (absent_none T.rows s i e))

pub known_place : (T : Table) (s v i : ℕ) → to_finalise T s v ≡ Ok i → (is_changing T ≡ false) × (for_other_view T v ≡ false) × (place_of T.rows s ≡ Held i)
known_place T s v i e = go (sought T s v) e
  where
    go : {found : Result ℕ Refusal} → Sought T s v found → found ≡ Ok i → (is_changing T ≡ false) × (for_other_view T v ≡ false) × (place_of T.rows s ≡ Held i)
    go (changing a) same = cc
    go (other_view a b) same = cc
    go (unknown a b absent) same = cc
    go (there j a b place) same = let i_is : j ≡ i = cc in (a, b, place ∙ ap Held i_is)

-- ---- the number, for both kinds: what they ask of the row is given as two tests

module _ (M : Model) (s : List ℕ) (stamp v : ℕ) (has_image : BeginsWithImage M s) (m : Message) (missing against : Bool)
    (number : served_number M (table_at format_one s) m ≡ cond (is_changing (table_at format_one s)) 4 (cond (for_other_view (table_at format_one s) v) 9 (cond missing 8 (cond against 6 0))))
    (unheld : held (table_at format_one s).rows stamp ≡ none → missing ≡ true) where
  abbrev T : Table
  T = table_at format_one s

  refuses : (r : Refusal) → served_number M T m ≡ refusal_code r → Kept M m s (Err r) s
  refuses r is = kept_refused M m s r (image_holds M s has_image) is

  pub finding_refused : (r : Refusal) → to_finalise (table_at format_one s) stamp v ≡ Err r → Kept M m s (Err r) s
  finding_refused r e = go (sought T stamp v) e
    where
      as_said : {q : Refusal} → Kept M m s (Err q) s → ◌≡◌ {A = Result ℕ Refusal} (Err q) (Err r) → Kept M m s (Err r) s
      as_said {q} kept same = let q_is : q ≡ r = cc in rw q_is at kept

      go : {found : Result ℕ Refusal} → Sought T stamp v found → found ≡ Err r → Kept M m s (Err r) s
      go (changing a) same = as_said (refuses Changing (number ∙ rw a)) same
      go (other_view a b) same = as_said (refuses OtherView (number ∙ rw (a, b))) same
      go (unknown a b absent) same = as_said (refuses Unknown (number ∙ rw (a, b, unheld absent))) same
      go (there i a b place) same = cc

  module _ (i : ℕ) (found : to_finalise (table_at format_one s) stamp v ≡ Ok i) where
    no_earlier : (is_changing T ≡ false) × (for_other_view T v ≡ false) × (place_of T.rows stamp ≡ Held i)
    no_earlier = known_place T stamp v i found

    pub missing_refused : missing ≡ true → Kept M m s (Err Unknown) s
    missing_refused e = let (a, b, place) = no_earlier in refuses Unknown (number ∙ rw (a, b, e))

    pub against_refused : missing ≡ false → against ≡ true → Kept M m s (Err Contradiction) s
    against_refused e f = let (a, b, place) = no_earlier in refuses Contradiction (number ∙ rw (a, b, e, f))

    pub nothing_against : missing ≡ false → against ≡ false → served_number M (table_at format_one s) m ≡ 0
    nothing_against e f = let (a, b, place) = no_earlier in number ∙ rw (a, b, e, f)

-- ---- message 2

module _ (M : Model) (s : List ℕ) (stamp v : ℕ) (has_image : BeginsWithImage M s) (result : rules.Result) where
  abbrev pub finalising : Message
  finalising = finalise_prepare stamp v result

  unheld_prepare : held (table_at format_one s).rows stamp ≡ none → prepare_not_held (table_at format_one s) stamp ≡ true
  unfolding prepare_not_held
  unheld_prepare e = rw e

  pub prepare_finding : (r : Refusal) → to_finalise (table_at format_one s) stamp v ≡ Err r → Kept M (finalise_prepare stamp v result) s (Err r) s
  prepare_finding r e = finding_refused M s stamp v has_image finalising (prepare_not_held (table_at format_one s) stamp) (held_unequal_final (table_at format_one s) stamp result) (number_2 M (table_at format_one s) stamp v result) unheld_prepare r e

  module _ (i : ℕ) (bytes : AllBytes s) (found : to_finalise (table_at format_one s) stamp v ≡ Ok i) where
    place : place_of (table_at format_one s).rows stamp ≡ Held i
    place = (known_place (table_at format_one s) stamp v i found).2

    abbrev pub here : RowFields
    here = fields_at s (24 + 24 * i)

    missing_is : prepare_not_held (table_at format_one s) stamp ≡ eqb here.prepare 0
    unfolding prepare_not_held
    missing_is = rw (held_here M s stamp i bytes has_image place, prepare_here M s stamp i bytes has_image place)

    against_is : held_unequal_final (table_at format_one s) stamp result ≡ unequal_final result (prepare_numbered here.prepare here.retry)
    unfolding held_unequal_final row_of
    against_is = rw (held_here M s stamp i bytes has_image place)

    pub prepare_missing : here.prepare ≡ 0 → Kept M finalising s (Err Unknown) s
    prepare_missing e = missing_refused M s stamp v has_image finalising (prepare_not_held (table_at format_one s) stamp) (held_unequal_final (table_at format_one s) stamp result) (number_2 M (table_at format_one s) stamp v result) unheld_prepare i found (missing_is ∙ eq-eqb _ _ e)

    pub prepare_against : (here.prepare ≡ 0 → ⊥) → unequal_final result (prepare_numbered here.prepare here.retry) ≡ true → Kept M finalising s (Err Contradiction) s
    prepare_against n e = against_refused M s stamp v has_image finalising (prepare_not_held (table_at format_one s) stamp) (held_unequal_final (table_at format_one s) stamp result) (number_2 M (table_at format_one s) stamp v result) unheld_prepare i found (missing_is ∙ ne_eqb _ _ n) (against_is ∙ e)

    after : table_after proposal_check (table_at format_one s) finalising ≡ on_row i (with_prepare (prepare_numbered (result_code result + 4) (result_retry result))) (table_at format_one s)
    unfolding table_after prepare_finalised
    after = ap (with_rows (table_at format_one s)) (sym (changed_here M s stamp i bytes has_image place (with_prepare (final result)) (with_prepare (prepare_numbered (result_code result + 4) (result_retry result))) (rw (final_numbered result))))

    reply : done_reply (header_at s) 2 (result_code result + 4) stamp (result_retry result) ≡ reply_as (reply_from (table_after proposal_check (table_at format_one s) finalising) finalising)
    unfolding reply_from state_byte reply_stamp reply_value table_after prepare_finalised table_at
    reply =
        let e : result_code result + 4 ≡ 4 + result_code result = omega arith in
        rw (held_then M s stamp i bytes has_image place (with_prepare (final result)) (λ r. refl), e)

    pub prepare_taken : (here.prepare ≡ 0 → ⊥) → unequal_final result (prepare_numbered here.prepare here.retry) ≡ false →
        Kept M finalising s (Ok (done_reply (header_at s) 2 (result_code result + 4) stamp (result_retry result))) (edited format_one (on_row i (with_prepare (prepare_numbered (result_code result + 4) (result_retry result)))) s)
    prepare_taken n e =
        let zero = nothing_against M s stamp v has_image finalising (prepare_not_held (table_at format_one s) stamp) (held_unequal_final (table_at format_one s) stamp result) (number_2 M (table_at format_one s) stamp v result) unheld_prepare i found (missing_is ∙ ne_eqb _ _ n) (against_is ∙ e) in
        rw (← reply) at (kept_taken M finalising s (on_row i (with_prepare (prepare_numbered (result_code result + 4) (result_retry result)))) zero (sym after))

-- ---- message 4

module _ (M : Model) (s : List ℕ) (stamp v : ℕ) (has_image : BeginsWithImage M s) (verdict : Verdict) where
  abbrev pub concluding : Message
  concluding = finalise_outcome stamp v verdict

  unheld_outcome : held (table_at format_one s).rows stamp ≡ none → outcome_not_held (table_at format_one s) stamp ≡ true
  unfolding outcome_not_held
  unheld_outcome e = rw e

  pub outcome_finding : (r : Refusal) → to_finalise (table_at format_one s) stamp v ≡ Err r → Kept M concluding s (Err r) s
  outcome_finding r e = finding_refused M s stamp v has_image concluding (outcome_not_held (table_at format_one s) stamp) (held_opposite_outcome (table_at format_one s) stamp verdict) (number_4 M (table_at format_one s) stamp v verdict) unheld_outcome r e

  module _ (i : ℕ) (bytes : AllBytes s) (found : to_finalise (table_at format_one s) stamp v ≡ Ok i) where
    place_of_lem : place_of (table_at format_one s).rows stamp ≡ Held i
    place_of_lem = (known_place (table_at format_one s) stamp v i found).2

    outcome_missing_is : outcome_not_held (table_at format_one s) stamp ≡ eqb (fields_at s (24 + 24 * i)).outcome 0
    unfolding outcome_not_held
    outcome_missing_is = rw (held_here M s stamp i bytes has_image place_of_lem, outcome_here M s stamp i bytes has_image place_of_lem)

    opposite_is : held_opposite_outcome (table_at format_one s) stamp verdict ≡ opposite_outcome verdict (outcome_numbered (fields_at s (24 + 24 * i)).outcome)
    unfolding held_opposite_outcome row_of
    opposite_is = rw (held_here M s stamp i bytes has_image place_of_lem)

    pub outcome_missing : (fields_at s (24 + 24 * i)).outcome ≡ 0 → Kept M concluding s (Err Unknown) s
    outcome_missing e = missing_refused M s stamp v has_image concluding (outcome_not_held (table_at format_one s) stamp) (held_opposite_outcome (table_at format_one s) stamp verdict) (number_4 M (table_at format_one s) stamp v verdict) unheld_outcome i found (outcome_missing_is ∙ eq-eqb _ _ e)

    module _ (some_held : (fields_at s (24 + 24 * i)).outcome ≡ 0 → ⊥) where
      pub outcome_against : opposite_outcome verdict (outcome_numbered (fields_at s (24 + 24 * i)).outcome) ≡ true → Kept M concluding s (Err Contradiction) s
      outcome_against e = against_refused M s stamp v has_image concluding (outcome_not_held (table_at format_one s) stamp) (held_opposite_outcome (table_at format_one s) stamp verdict) (number_4 M (table_at format_one s) stamp v verdict) unheld_outcome i found (outcome_missing_is ∙ ne_eqb _ _ some_held) (opposite_is ∙ e)

      outcome_after : table_after proposal_check (table_at format_one s) concluding ≡ on_row i (with_outcome (outcome_numbered (verdict_code verdict + 2))) (table_at format_one s)
      unfolding table_after outcome_finalised
      outcome_after = ap (with_rows (table_at format_one s)) (sym (changed_here M s stamp i bytes has_image place_of_lem (with_outcome (done verdict)) (with_outcome (outcome_numbered (verdict_code verdict + 2))) (rw (done_numbered verdict))))

      outcome_reply : done_reply (header_at s) 4 (verdict_code verdict + 2) stamp 0 ≡ reply_as (reply_from (table_after proposal_check (table_at format_one s) concluding) concluding)
      unfolding reply_from state_byte reply_stamp reply_value table_after outcome_finalised table_at
      outcome_reply =
          let e : verdict_code verdict + 2 ≡ 2 + verdict_code verdict = omega arith in
          rw (held_then M s stamp i bytes has_image place_of_lem (with_outcome (done verdict)) (λ r. refl), e)

      pub outcome_taken : opposite_outcome verdict (outcome_numbered (fields_at s (24 + 24 * i)).outcome) ≡ false →
          Kept M concluding s (Ok (done_reply (header_at s) 4 (verdict_code verdict + 2) stamp 0)) (edited format_one (on_row i (with_outcome (outcome_numbered (verdict_code verdict + 2)))) s)
      outcome_taken e =
          let zero = nothing_against M s stamp v has_image concluding (outcome_not_held (table_at format_one s) stamp) (held_opposite_outcome (table_at format_one s) stamp verdict) (number_4 M (table_at format_one s) stamp v verdict) unheld_outcome i found (outcome_missing_is ∙ ne_eqb _ _ some_held) (opposite_is ∙ e) in
          rw (← outcome_reply) at (kept_taken M concluding s (on_row i (with_outcome (outcome_numbered (verdict_code verdict + 2)))) zero (sym outcome_after))

-- Messages 1 and 3: what is answered and stored, for a row that is held and for a new one.
use mathlib.Core.Path.{◌≡◌, refl, sym, ap, ap₂, ◌∙◌}
use mathlib.Core.Bool.{true, false}
use mathlib.Core.List.{List}
use mathlib.Core.Option.{none}
use Prim.Native.Nat.{ℕ, ◌+◌, ◌*◌, ◌≤◌}
use Rattle.wire.specs.Inner.ByteLists.{AllBytes}
use Rattle.rules.specs.Tests.{either}
use Rattle.rules.specs.Stamps.{Body}
use Rattle.std.specs.Prelude.{Ok, Err}
use Rattle.numbers.specs.declared.Refusal.{Refusal}
use Rattle.numbers.specs.declared.Refusal.TheVariants.{Contradiction}
use Rattle.rules.specs.Tables as rules
use Rattle.rules.specs.Tables.{Row, Result.OK, Result.ABORT, Result.ABSTAIN, Result.RETRY, Prepare, Prepare.no_prepare, Prepare.tentative, Prepare.final, Verdict, Verdict.commit, Verdict.abort, Outcome, Outcome.no_outcome, Outcome.noted, Outcome.done, Model, valley, result_code, result_retry, prepare_code, prepare_retry, outcome_code, verdict_code, result_by_rule, retry_by_rule, something_held}
use Rattle.rules.specs.Messages.{Message, Message.propose_prepare, Message.propose_outcome, held, with_prepare, with_outcome, with_rows, answered, noted_as, prepare_proposed, outcome_proposed, table_after}
use Rattle.rules.specs.Circumstances.{held_opposite_outcome, opposite_outcome}
use Rattle.rules.specs.Answers.{reply_from, state_byte, reply_stamp, reply_value, proposal_check}
use Rattle.rules.proofs.Answers.{proposal_by_rule}
use Rattle.rules.proofs.Logic.{impossible}
use Rattle.rules.proofs.Tables.{RowByRule, row_facts}
use Rattle.rows.specs.declared.row.RowFields.{RowFields}
use Rattle.rows.specs.declared.lookup.Place.TheVariants.{Held, Absent}
use Rattle.rows.specs.Fields.{fields_at, prepare_numbered, outcome_numbered, retry_by_code}
use Rattle.rows.specs.Inner.Places.{place_of}
use Rattle.rows.specs.Read.{row_of, body_at}
use Rattle.rows.proofs.Codes.{prepare_read, retry_of_code, prepare_code_limit, outcome_numbered_lem}
use Rattle.rows.proofs.Sought.{absent_none}
use Rattle.table.specs.Headers.{header_at}
use Rattle.table.specs.Images.{format_one}
use Rattle.table.specs.Parse.{table_at, BeginsWithImage}
use Rattle.edit.specs.Inner.Changes.{on_row, adding}
use Rattle.edit.specs.Edited.{edited}
use Rattle.seek.specs.Inner.Findings.{to_propose}
use Rattle.seek.proofs.HeldRows.{image_holds, image_regular, held_here, by_rule_here, prepare_here, retry_here, outcome_here, changed_here, held_then}
use Rattle.transact.specs.Replies.{reply_as}
use Rattle.transact.specs.Inner.DoneReplies.{done_reply}
use Rattle.transact.specs.Inner.Served.{answered_byte}
use Rattle.transact.proofs.Serving.{number_1, number_3, Kept, kept_taken}
use Rattle.transact.proofs.CodesMeant.{noted_numbered}
use Rattle.transact.proofs.Proposals.{held_clear, new_clear, proposal_refused, proposal_opposed, proposal_clear}
use Rattle.transact.proofs.NewRows.{held_new}

-- ---- message 3

module _ (M : Model) (s : List ℕ) (stamp : ℕ) (verdict : Verdict) (x : Body) (has_image : BeginsWithImage valley s) where
  abbrev concluding : Message
  concluding = propose_outcome stamp verdict x

  unopposed : held (table_at format_one s).rows stamp ≡ none → held_opposite_outcome (table_at format_one s) stamp verdict ≡ false
  unfolding held_opposite_outcome
  unopposed e = rw e

  pub outcome_proposal_refused : (r : Refusal) → to_propose M (table_at format_one s) stamp x ≡ Err r → Kept M (propose_outcome stamp verdict x) s (Err r) s
  outcome_proposal_refused r e =
      proposal_refused M s stamp x (image_holds valley s has_image) concluding (held_opposite_outcome (table_at format_one s) stamp verdict) (number_3 M (table_at format_one s) stamp verdict x) unopposed r e

  module _ (i : ℕ) (bytes : AllBytes s) (found : to_propose M (table_at format_one s) stamp x ≡ Ok (Held i)) where
    place_of_lem : place_of (table_at format_one s).rows stamp ≡ Held i
    place_of_lem = (held_clear M (table_at format_one s) stamp x i found).1

    opposed_is : held_opposite_outcome (table_at format_one s) stamp verdict ≡ opposite_outcome verdict (outcome_numbered (fields_at s (24 + 24 * i)).outcome)
    unfolding held_opposite_outcome row_of
    opposed_is = rw (held_here valley s stamp i bytes has_image place_of_lem)

    pub note_opposed : opposite_outcome verdict (outcome_numbered (fields_at s (24 + 24 * i)).outcome) ≡ true → Kept M (propose_outcome stamp verdict x) s (Err Contradiction) s
    note_opposed e =
        proposal_opposed M s stamp x (image_holds valley s has_image) concluding (held_opposite_outcome (table_at format_one s) stamp verdict) (number_3 M (table_at format_one s) stamp verdict x) unopposed
        (held_clear M (table_at format_one s) stamp x i found).0
        (opposed_is ∙ e)

    module _ (byte : ℕ) (is : outcome_numbered byte ≡ noted_as verdict (outcome_numbered (fields_at s (24 + 24 * i)).outcome)) (low : byte ≤ 4) where
      noted_after : on_row i (with_outcome (outcome_numbered byte)) (table_at format_one s) ≡ table_after proposal_check (table_at format_one s) concluding
      unfolding table_after outcome_proposed row_of
      noted_after =
          rw (held_here valley s stamp i bytes has_image place_of_lem)
          (ap (with_rows (table_at format_one s)) (changed_here valley s stamp i bytes has_image place_of_lem (λ r. with_outcome (noted_as verdict r.outcome) r) (with_outcome (outcome_numbered byte)) (rw is)))

      noted_reply : done_reply (header_at s) 3 byte stamp 0 ≡ reply_as (reply_from (table_after proposal_check (table_at format_one s) concluding) concluding)
      unfolding reply_from state_byte reply_stamp reply_value table_after outcome_proposed table_at row_of
      noted_reply =
          let t = held_then valley s stamp i bytes has_image place_of_lem (λ r. with_outcome (noted_as verdict r.outcome) r) (λ r. refl) in
          let e : byte ≡ outcome_code (noted_as verdict (outcome_numbered (fields_at s (24 + 24 * i)).outcome)) = sym (outcome_numbered_lem byte low) ∙ ap outcome_code is in
          rw (held_here valley s stamp i bytes has_image place_of_lem, t, e)

      pub note_taken : opposite_outcome verdict (outcome_numbered (fields_at s (24 + 24 * i)).outcome) ≡ false →
          Kept M (propose_outcome stamp verdict x) s (Ok (done_reply (header_at s) 3 byte stamp 0)) (edited format_one (on_row i (with_outcome (outcome_numbered byte))) s)
      note_taken e =
          let zero = proposal_clear M s stamp x (image_holds valley s has_image) concluding (held_opposite_outcome (table_at format_one s) stamp verdict) (number_3 M (table_at format_one s) stamp verdict x) unopposed (held_clear M (table_at format_one s) stamp x i found).0 (opposed_is ∙ e) in
          rw (← noted_reply) at (kept_taken M concluding s (on_row i (with_outcome (outcome_numbered byte))) zero noted_after)

  module _ (i : ℕ) (m : List ℕ) (g : RowFields) (found : to_propose M (table_at format_one s) stamp x ≡ Ok (Absent i))
      (its_stamp : g.stamp ≡ stamp) (its_body : body_at m g.offset g.reads g.writes ≡ x) (its_prepare : g.prepare ≡ 0) (its_outcome : g.outcome ≡ verdict_code verdict) where
    noted_row : row_of m g ≡ record { stamp = stamp; body = x; prepare = no_prepare; outcome = noted verdict }
    unfolding row_of prepare_numbered
    noted_row = rw (its_stamp, its_body, its_prepare, its_outcome, noted_numbered verdict)

    unheld_here : held (table_at format_one s).rows stamp ≡ none
    unheld_here = absent_none (table_at format_one s).rows stamp i (new_clear M (table_at format_one s) stamp x i found).1

    noted_new_after : adding (row_of m g) (table_at format_one s) ≡ table_after proposal_check (table_at format_one s) concluding
    unfolding table_after outcome_proposed
    noted_new_after = rw (unheld_here, noted_row)

    noted_new_reply : done_reply (header_at s) 3 g.outcome stamp 0 ≡ reply_as (reply_from (table_after proposal_check (table_at format_one s) concluding) concluding)
    unfolding reply_from state_byte reply_stamp reply_value table_after outcome_proposed table_at
    noted_new_reply =
        let t = held_new (record { stamp = stamp; body = x; prepare = no_prepare; outcome = noted verdict }) (table_at format_one s).rows unheld_here in
        rw (unheld_here, t, its_outcome)

    pub note_new_taken : Kept M (propose_outcome stamp verdict x) s (Ok (done_reply (header_at s) 3 g.outcome stamp 0)) (edited format_one (adding (row_of m g)) s)
    note_new_taken =
        let zero = proposal_clear M s stamp x (image_holds valley s has_image) concluding (held_opposite_outcome (table_at format_one s) stamp verdict) (number_3 M (table_at format_one s) stamp verdict x) unopposed (new_clear M (table_at format_one s) stamp x i found).0 (unopposed unheld_here) in
        rw (← noted_new_reply) at (kept_taken M concluding s (adding (row_of m g)) zero noted_new_after)

-- ---- message 1

-- what answers for a held row, by its two bytes
module _ where
  answered_code : (p : Prepare) (o : Outcome) → something_held p o ≡ true → answered_byte (prepare_code p) (outcome_code o) ≡ prepare_code (answered p o)
  unfolding answered_byte something_held either
  answered_code no_prepare no_outcome h = impossible h refl
  answered_code no_prepare (noted commit) h = refl
  answered_code no_prepare (noted abort) h = refl
  answered_code no_prepare (done commit) h = refl
  answered_code no_prepare (done abort) h = refl
  answered_code (tentative OK) o h = refl
  answered_code (tentative ABORT) o h = refl
  answered_code (tentative ABSTAIN) o h = refl
  answered_code (tentative (RETRY q)) o h = refl
  answered_code (final OK) o h = refl
  answered_code (final ABORT) o h = refl
  answered_code (final ABSTAIN) o h = refl
  answered_code (final (RETRY q)) o h = refl

  answered_retry : (p : Prepare) (o : Outcome) → prepare_retry (answered p o) ≡ prepare_retry p
  answered_retry no_prepare no_outcome = refl
  answered_retry no_prepare (noted commit) = refl
  answered_retry no_prepare (noted abort) = refl
  answered_retry no_prepare (done commit) = refl
  answered_retry no_prepare (done abort) = refl
  answered_retry (tentative r) o = refl
  answered_retry (final r) o = refl

  answered_rule : (p : Prepare) (o : Outcome) → retry_by_rule p ≡ true → retry_by_rule (answered p o) ≡ true
  unfolding retry_by_rule result_by_rule
  answered_rule no_prepare no_outcome h = refl
  answered_rule no_prepare (noted commit) h = refl
  answered_rule no_prepare (noted abort) h = refl
  answered_rule no_prepare (done commit) h = refl
  answered_rule no_prepare (done abort) h = refl
  answered_rule (tentative r) o h = h
  answered_rule (final r) o h = h

-- what is stored then, where the row's bytes are c, q and d
record Answered (p : Prepare) (o : Outcome) (c q d : ℕ) : Type 0 where
  low : answered_byte c d ≤ 8
  by_code : retry_by_code (answered_byte c d) q ≡ true
  numbered : prepare_numbered (answered_byte c d) q ≡ answered p o
  code : answered_byte c d ≡ prepare_code (answered p o)
  retry : q ≡ prepare_retry (answered p o)

answered_stored : (p : Prepare) (o : Outcome) → something_held p o ≡ true → retry_by_rule p ≡ true → (c q d : ℕ) → prepare_code p ≡ c → prepare_retry p ≡ q → outcome_code o ≡ d → Answered p o c q d
answered_stored p o something by_rule c q d ec eq ed =
    let code : answered_byte c d ≡ prepare_code (answered p o) = rw (← ec, ← ed) (answered_code p o something) in
    let retry : q ≡ prepare_retry (answered p o) = sym (answered_retry p o ∙ eq) in
    record {
      low = rw code (prepare_code_limit (answered p o));
      by_code = rw (code, retry) (retry_of_code (answered p o) ∙ answered_rule p o by_rule);
      numbered = rw (code, retry) (prepare_read (answered p o));
      code = code;
      retry = retry;
    }

module _ (s : List ℕ) (stamp i : ℕ) (bytes : AllBytes s) (has_image : BeginsWithImage valley s) (held_at : place_of (table_at format_one s).rows stamp ≡ Held i) where
  abbrev here : RowFields
  here = fields_at s (24 + 24 * i)

  abbrev row : Row
  row = row_of s (fields_at s (24 + 24 * i))

  abbrev byte : ℕ
  byte = answered_byte (fields_at s (24 + 24 * i)).prepare (fields_at s (24 + 24 * i)).outcome

  facts : RowByRule row
  facts = row_facts row (by_rule_here valley s stamp i bytes has_image held_at)

  stored : Answered row.prepare row.outcome here.prepare here.retry here.outcome
  stored =
      answered_stored row.prepare row.outcome facts.held facts.retry here.prepare here.retry here.outcome
      (prepare_here valley s stamp i bytes has_image held_at)
      (retry_here valley s stamp i bytes has_image held_at)
      (outcome_here valley s stamp i bytes has_image held_at)

  pub answered_storable : (answered_byte (fields_at s (24 + 24 * i)).prepare (fields_at s (24 + 24 * i)).outcome ≤ 8) × (retry_by_code (answered_byte (fields_at s (24 + 24 * i)).prepare (fields_at s (24 + 24 * i)).outcome) (fields_at s (24 + 24 * i)).retry ≡ true)
  answered_storable = (stored.low, stored.by_code)

  module _ (M : Model) (x : Body) (found : to_propose M (table_at format_one s) stamp x ≡ Ok (Held i)) where
    answered_after : on_row i (with_prepare (prepare_numbered byte here.retry)) (table_at format_one s) ≡ table_after proposal_check (table_at format_one s) (propose_prepare stamp x)
    unfolding table_after prepare_proposed
    answered_after =
        rw (held_here valley s stamp i bytes has_image held_at)
        (ap (with_rows (table_at format_one s)) (changed_here valley s stamp i bytes has_image held_at (λ r. with_prepare (answered r.prepare r.outcome) r) (with_prepare (prepare_numbered byte here.retry)) (ap (λ p. with_prepare p row) (sym stored.numbered))))

    answered_reply : done_reply (header_at s) 1 byte stamp here.retry ≡ reply_as (reply_from (table_after proposal_check (table_at format_one s) (propose_prepare stamp x)) (propose_prepare stamp x))
    unfolding reply_from state_byte reply_stamp reply_value table_after prepare_proposed table_at
    answered_reply =
        let t = held_then valley s stamp i bytes has_image held_at (λ r. with_prepare (answered r.prepare r.outcome) r) (λ r. refl) in
        rw (held_here valley s stamp i bytes has_image held_at, t) (ap₂ (λ state value. done_reply (header_at s) 1 state stamp value) stored.code stored.retry)

    pub answered_taken : Kept M (propose_prepare stamp x) s (Ok (done_reply (header_at s) 1 (answered_byte (fields_at s (24 + 24 * i)).prepare (fields_at s (24 + 24 * i)).outcome) stamp (fields_at s (24 + 24 * i)).retry))
        (edited format_one (on_row i (with_prepare (prepare_numbered (answered_byte (fields_at s (24 + 24 * i)).prepare (fields_at s (24 + 24 * i)).outcome) (fields_at s (24 + 24 * i)).retry))) s)
    answered_taken =
        let zero = proposal_clear M s stamp x (image_holds valley s has_image) (propose_prepare stamp x) false (number_1 M (table_at format_one s) stamp x) (λ e. refl) (held_clear M (table_at format_one s) stamp x i found).0 refl in
        rw (← answered_reply) at (kept_taken M (propose_prepare stamp x) s (on_row i (with_prepare (prepare_numbered byte here.retry))) zero answered_after)

module _ (M : Model) (s : List ℕ) (stamp : ℕ) (x : Body) (has_image : BeginsWithImage valley s) where
  pub prepare_proposal_refused : (r : Refusal) → to_propose M (table_at format_one s) stamp x ≡ Err r → Kept M (propose_prepare stamp x) s (Err r) s
  prepare_proposal_refused r e = proposal_refused M s stamp x (image_holds valley s has_image) (propose_prepare stamp x) false (number_1 M (table_at format_one s) stamp x) (λ z. refl) r e

  abbrev result : rules.Result
  result = proposal_check (table_at format_one s).rows stamp x

  pub checked_storable : (result_code (proposal_check (table_at format_one s).rows stamp x) ≤ 8) × (retry_by_code (result_code (proposal_check (table_at format_one s).rows stamp x)) (result_retry (proposal_check (table_at format_one s).rows stamp x)) ≡ true)
  unfolding retry_by_rule
  checked_storable =
      (prepare_code_limit (tentative result), retry_of_code (tentative result) ∙ proposal_by_rule (table_at format_one s).rows stamp x (image_regular valley s has_image).0.rows)

  module _ (i : ℕ) (m : List ℕ) (g : RowFields) (found : to_propose M (table_at format_one s) stamp x ≡ Ok (Absent i))
      (its_stamp : g.stamp ≡ stamp) (its_body : body_at m g.offset g.reads g.writes ≡ x) (its_prepare : g.prepare ≡ result_code (proposal_check (table_at format_one s).rows stamp x)) (its_retry : g.retry ≡ result_retry (proposal_check (table_at format_one s).rows stamp x)) (its_outcome : g.outcome ≡ 0) where
    checked_row : row_of m g ≡ record { stamp = stamp; body = x; prepare = tentative (proposal_check (table_at format_one s).rows stamp x); outcome = no_outcome }
    unfolding row_of outcome_numbered
    checked_row = rw (its_stamp, its_body, its_prepare, its_retry, its_outcome, prepare_read (tentative result))

    unheld_new : held (table_at format_one s).rows stamp ≡ none
    unheld_new = absent_none (table_at format_one s).rows stamp i (new_clear M (table_at format_one s) stamp x i found).1

    checked_after : adding (row_of m g) (table_at format_one s) ≡ table_after proposal_check (table_at format_one s) (propose_prepare stamp x)
    unfolding table_after prepare_proposed
    checked_after = rw (unheld_new, checked_row)

    checked_reply : done_reply (header_at s) 1 g.prepare stamp g.retry ≡ reply_as (reply_from (table_after proposal_check (table_at format_one s) (propose_prepare stamp x)) (propose_prepare stamp x))
    unfolding reply_from state_byte reply_stamp reply_value table_after prepare_proposed table_at
    checked_reply =
        let t = held_new (record { stamp = stamp; body = x; prepare = tentative (proposal_check (table_at format_one s).rows stamp x); outcome = no_outcome }) (table_at format_one s).rows unheld_new in
        rw (unheld_new, t, its_prepare, its_retry)

    pub checked_taken : Kept M (propose_prepare stamp x) s (Ok (done_reply (header_at s) 1 g.prepare stamp g.retry)) (edited format_one (adding (row_of m g)) s)
    checked_taken =
        let zero = proposal_clear M s stamp x (image_holds valley s has_image) (propose_prepare stamp x) false (number_1 M (table_at format_one s) stamp x) (λ e. refl) (new_clear M (table_at format_one s) stamp x i found).0 refl in
        rw (← checked_reply) at (kept_taken M (propose_prepare stamp x) s (adding (row_of m g)) zero checked_after)

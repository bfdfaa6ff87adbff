-- 01, 'Numbers returned', row by row: when a message, or a fresh table, is refused, with row 7 as 02 amends it. What a merge or a count adds to rows 3, 5, 6 and 7 stands with them.
use Rattle.std.specs.Prelude.{Bool, false, not, List, [], ◌∷◌, ℕ, ◌+◌, ◌-◌, ◌/◌, ◌%◌, eqb, ltb, leb, length}
use Rattle.std.proofs.Math.Option.{Option, none, some}
use Rattle.rules.specs.Tests.{both, either, every, is_some}
use Rattle.rules.specs.Groups.{is_group, f_of}
use Rattle.rules.specs.Stamps.{Body, is_stamp, is_register, body_by_rule, same_body}
use Rattle.rules.specs.Tables.{Result, Prepare, Prepare.no_prepare, Prepare.tentative, Prepare.final, Verdict, Outcome, Outcome.no_outcome, Outcome.noted, Outcome.done, prepare_code, outcome_code, verdict_code, same_result, result_by_rule, Row, Model, Table, normal_mode, changing_mode, is_view, table_by_rule}
use Rattle.rules.specs.Numbers.{Number.bad_message, Number.changing, Number.other_body, Number.contradiction, Number.full, Number.unknown, Number.other_view, Number.old_view, Circumstance}
use Rattle.rules.specs.Messages.{Message, Message.propose_prepare, Message.finalise_prepare, Message.propose_outcome, Message.finalise_outcome, Message.change_view, Message.start_view, Message.read_register, held, prepare_of, outcome_of}

-- ---- 1, "small buffer": "table or output buffer (not a merge's run) below 49,176, or reply buffer below 24"

unfoldable pub too_small : Model → ℕ → Bool
too_small M length = ltb length M.least_buffer

unfoldable pub reply_too_small : ℕ → Bool
reply_too_small length = ltb length 24

-- ---- 2, "bad table": "the lent table (never fresh's buffer or an output) doesn't begin with an image by the rules; for a merge, the run isn't one or more whole images"
-- the rules are Tables.table_by_rule; what bytes are an image is said where bytes are read

-- ---- 3, "bad message": "kind, length, stamp, body, register or code breaks a rule; fresh: bad n or box; count: see there"

unfoldable pub bad_group : ℕ → ℕ → Bool
bad_group n box = not (both (is_group n) (ltb box n))

-- "prepare bytes 0 or 5 to 8, outcomes 0, 3 or 4"
unfoldable pub settled : Row → Bool
settled r = both (either (eqb (prepare_code r.prepare) 0) (leb 5 (prepare_code r.prepare))) (either (eqb (outcome_code r.outcome) 0) (leb 3 (outcome_code r.outcome)))

-- "The image must be normal, view v, box v mod n, the same n, start rows equal to rows, prepare bytes 0 or 5 to 8, outcomes 0, 3 or 4; otherwise bad message."
unfoldable pub starts_view : ℕ → ℕ → Table → Bool
starts_view n v I =
    both (eqb I.mode normal_mode)
    (both (eqb I.view v)
    (both (eqb I.box (v % n)) (both (eqb I.n n) (both (eqb I.start (length I.rows)) (every settled I.rows)))))

-- a message to a box of a group of n that breaks no rule
unfoldable pub message_by_rule : Model → ℕ → Message → Bool
message_by_rule M n (propose_prepare s x) = both (is_stamp s) (body_by_rule s x)
message_by_rule M n (finalise_prepare s v r) = both (is_stamp s) (both (is_view v) (result_by_rule r))
message_by_rule M n (propose_outcome s o x) = both (is_stamp s) (body_by_rule s x)
message_by_rule M n (finalise_outcome s v o) = both (is_stamp s) (is_view v)
message_by_rule M n (change_view v) = is_view v
message_by_rule M n (start_view v I) = both (is_view v) (both (table_by_rule M I) (starts_view n v I))
message_by_rule M n (read_register s k) = both (is_stamp s) (is_register k)

-- ---- 4, "changing": "messages 1 to 4 and 7 while mode is 1"

unfoldable pub is_changing : Table → Bool
is_changing T = eqb T.mode changing_mode

-- ---- 5, "other body": "the stamp is held with another body"

abbrev pub unlike : Body → Option Row → Bool
unlike x none = false
unlike x (some r) = not (same_body x r.body)

unfoldable pub held_with_other_body : Table → ℕ → Body → Bool
held_with_other_body T s x = unlike x (held T.rows s)

-- ---- 6, "contradiction": "an unequal final result or an opposite outcome is held"

abbrev pub unequal_final : Result → Prepare → Bool
unequal_final r no_prepare = false
unequal_final r (tentative q) = false
unequal_final r (final q) = not (same_result r q)

abbrev pub opposite_outcome : Verdict → Outcome → Bool
opposite_outcome v no_outcome = false
opposite_outcome v (noted u) = not (eqb (verdict_code v) (verdict_code u))
opposite_outcome v (done u) = not (eqb (verdict_code v) (verdict_code u))

unfoldable pub held_unequal_final : Table → ℕ → Result → Bool
held_unequal_final T s r = unequal_final r (prepare_of (held T.rows s))

unfoldable pub held_opposite_outcome : Table → ℕ → Verdict → Bool
held_opposite_outcome T s v = opposite_outcome v (outcome_of (held T.rows s))

-- ---- 7, "full": "a new stamp with 512 rows held", which 02, P2, amends: "a box refuses a new stamp as full once the rows added since its view began reach 512 less the start rows, divided by f+1 and rounded down"

-- whether one more row has room: by the row limit, f, the start rows and the rows
abbrev pub Room : Type 0
Room = ℕ → ℕ → ℕ → ℕ → Bool

-- a difference of numbers is 0 where the second is the greater one, and a quotient is rounded down
unfoldable pub keeps_room : Room
keeps_room limit f start rows = ltb (rows - start) ((limit - start) / (f + 1))

unfoldable pub new_but_full : Model → Room → Table → ℕ → Bool
new_but_full M room T s = both (not (is_some (held T.rows s))) (not (room M.row_limit (f_of T.n) T.start (length T.rows)))

-- ---- 8, "unknown": "finalising a part that the table doesn't hold"

unfoldable pub prepare_not_held : Table → ℕ → Bool
prepare_not_held T s = eqb (prepare_code (prepare_of (held T.rows s))) 0

unfoldable pub outcome_not_held : Table → ℕ → Bool
outcome_not_held T s = eqb (outcome_code (outcome_of (held T.rows s))) 0

-- ---- 9, "other view": "message 2 or 4 for a view that isn't the box's"

unfoldable pub for_other_view : Table → ℕ → Bool
for_other_view T v = not (eqb v T.view)

-- ---- 10, "old view": "message 5 with v at or below promised; 6 with v below promised or at or below view"

unfoldable pub changes_to_old_view : Table → ℕ → Bool
changes_to_old_view T v = leb v T.promised

unfoldable pub starts_old_view : Table → ℕ → Bool
starts_old_view T v = either (ltb v T.promised) (leb v T.view)

-- ---- 11, "wrong tables", is Merge.are_wrong

-- ---- which of them a message can meet. Numbers.number says which one wins, so their order here means nothing

unfoldable pub further_circumstances : Model → Room → Table → Message → List Circumstance
further_circumstances M room T (propose_prepare s x) = (changing, is_changing T) ∷ (other_body, held_with_other_body T s x) ∷ (full, new_but_full M room T s) ∷ []
further_circumstances M room T (finalise_prepare s v r) =
    (changing, is_changing T) ∷ (other_view, for_other_view T v) ∷ (unknown, prepare_not_held T s) ∷ (contradiction, held_unequal_final T s r) ∷ []
further_circumstances M room T (propose_outcome s o x) =
    (changing, is_changing T) ∷ (other_body, held_with_other_body T s x) ∷ (contradiction, held_opposite_outcome T s o) ∷ (full, new_but_full M room T s) ∷ []
further_circumstances M room T (finalise_outcome s v o) =
    (changing, is_changing T) ∷ (other_view, for_other_view T v) ∷ (unknown, outcome_not_held T s) ∷ (contradiction, held_opposite_outcome T s o) ∷ []
further_circumstances M room T (change_view v) = (old_view, changes_to_old_view T v) ∷ []
further_circumstances M room T (start_view v I) = (old_view, starts_old_view T v) ∷ []
further_circumstances M room T (read_register s k) = (changing, is_changing T) ∷ []

unfoldable pub circumstances : Model → Room → Table → Message → List Circumstance
circumstances M room T m = (bad_message, not (message_by_rule M T.n m)) ∷ further_circumstances M room T m

-- 01, 'The merge for view v'.
use Rattle.std.specs.Prelude.{Bool, true, false, not, cond, List, [], ◌∷◌, map, ℕ, ◌%◌, eqb, ltb, leb, length}
use Rattle.std.proofs.Math.Option.{Option, none, some}
use Rattle.rules.specs.Tests.{both, either, any, count, those, greatest, some_pair, twice, provided, first_of, all_of}
use Rattle.rules.specs.Groups.{f_of, quorum, agreement_count}
use Rattle.rules.specs.Stamps.{Body, same_body}
use Rattle.rules.specs.Tables.{Result, Result.OK, Result.ABORT, Result.ABSTAIN, Result.RETRY, Prepare, Prepare.no_prepare, Prepare.tentative, Prepare.final, Verdict, Verdict.commit, Verdict.abort, Outcome, Outcome.no_outcome, Outcome.noted, Outcome.done, same_result, something_held, verdict_code, Row, Model, Table, normal_mode}
use Rattle.rules.specs.Numbers.{Number.other_body, Number.contradiction, Number.full, Number.wrong_tables, Circumstance, number}
use Rattle.rules.specs.Messages.{Check, held, changed, with_prepare, result_for}
use Rattle.rules.specs.Circumstances.{unequal_final, opposite_outcome}

-- ---- the tables that are used

-- "only those of the greatest last normal view are used"
unfoldable pub used : List Table → List Table
used Ts = those (λ T. eqb T.view (greatest (λ U. U.view) Ts)) Ts

-- one stamp among rising ones, once
unfoldable pub with_stamp : ℕ → List ℕ → List ℕ
with_stamp s [] = s ∷ []
with_stamp s (t ∷ ts) = let later = t ∷ with_stamp s ts in cond (ltb s t) (s ∷ t ∷ ts) (cond (eqb s t) (t ∷ ts) later)

unfoldable pub with_stamps : List Row → List ℕ → List ℕ
with_stamps [] ts = ts
with_stamps (r ∷ rs) ts = with_stamp r.stamp (with_stamps rs ts)

-- "Each stamp in them": all stamps that these tables hold, rising
unfoldable pub stamps : List Table → List ℕ
stamps [] = []
stamps (T ∷ Ts) = with_stamps T.rows (stamps Ts)

-- the rows of one stamp, from each table that holds it
unfoldable pub rows_of : List Table → ℕ → List Row
rows_of Ts s = all_of (λ T. held T.rows s) Ts

-- ---- one stamp, from its rows

abbrev pub holds_verdict : Verdict → Outcome → Bool
holds_verdict v no_outcome = false
holds_verdict v (noted u) = eqb (verdict_code v) (verdict_code u)
holds_verdict v (done u) = eqb (verdict_code v) (verdict_code u)

-- "Outcome: any commit or abort held becomes done."
unfoldable pub merged_outcome : List Row → Outcome
merged_outcome rs =
    cond (any (λ r. holds_verdict commit r.outcome) rs) (done commit)
    (cond (any (λ r. holds_verdict abort r.outcome) rs) (done abort) no_outcome)

abbrev pub final_result : Prepare → Option Result
final_result no_prepare = none
final_result (tentative r) = none
final_result (final r) = some r

-- "a final result"
unfoldable pub final_of : List Row → Option Result
final_of rs = first_of (λ r. final_result r.prepare) rs

-- the table that a row is from holds this result, tentative: "(RETRY stamps count as part of the result)"
abbrev pub holds_tentative : Result → Prepare → Bool
holds_tentative r no_prepare = false
holds_tentative r (tentative q) = same_result r q
holds_tentative r (final q) = false

-- "found in at least the agreement count of tables"
unfoldable pub is_agreed : ℕ → List Row → Result → Bool
is_agreed agreement rs r = leb agreement (count (λ q. holds_tentative r q.prepare) rs)

abbrev pub tentative_result : Prepare → Option Result
tentative_result no_prepare = none
tentative_result (tentative r) = some r
tentative_result (final r) = none

abbrev pub if_agreed : ℕ → List Row → Option Result → Option Result
if_agreed agreement rs none = none
if_agreed agreement rs (some r) = provided (is_agreed agreement rs r) r

-- "is agreed"
unfoldable pub agreed_of : ℕ → List Row → Option Result
agreed_of agreement rs = first_of (λ r. if_agreed agreement rs (tentative_result r.prepare)) rs

abbrev pub holds_prepare : Prepare → Bool
holds_prepare no_prepare = false
holds_prepare (tentative r) = true
holds_prepare (final r) = true

-- "Prepare, if any table holds one: a final result stays; else a tentative result found in at least the agreement count of tables .. is agreed; the rest are open."
pub data Standing : Type 0 where
  has_none : Standing
  has_final has_agreed : Result → Standing
  has_open : Standing

abbrev pub standing_from : Option Result → Option Result → Bool → Standing
standing_from (some r) a any_held = has_final r
standing_from none (some r) any_held = has_agreed r
standing_from none none true = has_open
standing_from none none false = has_none

unfoldable pub standing : ℕ → List Row → Standing
standing agreement rs = standing_from (final_of rs) (agreed_of agreement rs) (any (λ r. holds_prepare r.prepare) rs)

-- ---- before any check

-- an agreed result: "Agreed and not OK stays. Agreed OK with an outcome stays OK. Agreed OK without one is checked."
abbrev pub agreed_prepare : Result → Outcome → Prepare
agreed_prepare OK no_outcome = no_prepare
agreed_prepare OK (noted v) = final OK
agreed_prepare OK (done v) = final OK
agreed_prepare ABORT o = final ABORT
agreed_prepare ABSTAIN o = final ABSTAIN
agreed_prepare (RETRY s) o = final (RETRY s)

-- an open one: "Open with commit is OK, with abort ABORT, otherwise checked."
abbrev pub open_prepare : Outcome → Prepare
open_prepare no_outcome = no_prepare
open_prepare (noted v) = final (result_for v)
open_prepare (done v) = final (result_for v)

-- what stands without a check, "All results become final."; no_prepare where no table holds one, and where a check is still to come
abbrev pub unchecked_prepare : Standing → Outcome → Prepare
unchecked_prepare has_none o = no_prepare
unchecked_prepare (has_final r) o = final r
unchecked_prepare (has_agreed r) o = agreed_prepare r o
unchecked_prepare has_open o = open_prepare o

abbrev pub no_body : Body
no_body = record { reads = []; writes = [] }

-- the body of one stamp's rows: they have one body, or the merge is refused
abbrev pub body_of : List Row → Body
body_of [] = no_body
body_of (r ∷ rs) = r.body

unfoldable pub unchecked_row : ℕ → ℕ → List Row → Row
unchecked_row agreement s rs =
    record { stamp = s; body = body_of rs; prepare = unchecked_prepare (standing agreement rs) (merged_outcome rs); outcome = merged_outcome rs }

-- "Each stamp in them gets one row."
unfoldable pub unchecked_rows : ℕ → List Table → List Row
unchecked_rows agreement Ts = map (λ s. unchecked_row agreement s (rows_of Ts s)) (stamps Ts)

-- ---- the checks

-- a settled row holds something; one that waits for its check holds nothing yet
unfoldable pub is_settled : Row → Bool
is_settled r = something_held r.prepare r.outcome

abbrev pub among_agreed : Standing → Bool
among_agreed has_none = false
among_agreed (has_final r) = false
among_agreed (has_agreed r) = true
among_agreed has_open = false

abbrev pub among_open : Standing → Bool
among_open has_none = false
among_open (has_final r) = false
among_open (has_agreed r) = false
among_open has_open = true

-- the stamps of such a standing that wait for a check, rising
unfoldable pub to_check : (Standing → Bool) → ℕ → List Table → List ℕ
to_check among agreement Ts = those (λ s. both (among (standing agreement (rows_of Ts s))) (not (is_settled (unchecked_row agreement s (rows_of Ts s))))) (stamps Ts)

-- "a check sees only rows settled before it": the row of stamp s gets its result
unfoldable pub checked_at : Check → ℕ → List Row → List Row
checked_at check s rows = changed s (λ r. with_prepare (final (check (those is_settled rows) s r.body)) r) rows

unfoldable pub checked_in_turn : Check → List ℕ → List Row → List Row
checked_in_turn check [] rows = rows
checked_in_turn check (s ∷ ss) rows = checked_in_turn check ss (checked_at check s rows)

-- "Checks run over the merged table with final and outcome rows first, then agreed rows in rising stamp order, then open rows in rising order"
unfoldable pub merged_rows : Check → ℕ → List Table → List Row
merged_rows check agreement Ts =
    checked_in_turn check (to_check among_open agreement Ts)
    (checked_in_turn check (to_check among_agreed agreement Ts) (unchecked_rows agreement Ts))

-- ---- the merge

abbrev pub group_of : List Table → ℕ
group_of [] = 0
group_of (T ∷ Ts) = T.n

-- "The image is normal, view v, box v mod n, start rows equal to rows."
unfoldable pub merged_table : Check → ℕ → List Table → Table
merged_table check v Ts =
    let rows = merged_rows check (agreement_count (f_of (group_of Ts))) (used Ts) in
    record { box = v % group_of Ts; n = group_of Ts; mode = normal_mode; view = v; promised = v; start = length rows; rows = rows }

-- ---- when a merge is refused

-- 11, "wrong tables": "merge: not exactly f+1 images, unequal n, a box twice, mode 0, or promised not v"
unfoldable pub are_wrong : ℕ → List Table → Bool
are_wrong v Ts =
    either (not (eqb (length Ts) (quorum (f_of (group_of Ts)))))
    (either (any (λ T. not (eqb T.n (group_of Ts))) Ts)
    (either (twice (λ T. T.box) Ts) (either (any (λ T. eqb T.mode normal_mode) Ts) (any (λ T. not (eqb T.promised v)) Ts))))

-- two unequal finals
abbrev pub unequal_finals : Prepare → Prepare → Bool
unequal_finals no_prepare p = false
unequal_finals (tentative r) p = false
unequal_finals (final r) p = unequal_final r p

abbrev pub opposite_outcomes : Outcome → Outcome → Bool
opposite_outcomes no_outcome o = false
opposite_outcomes (noted v) o = opposite_outcome v o
opposite_outcomes (done v) o = opposite_outcome v o

-- "5 for one stamp with two bodies"
unfoldable pub two_bodies : List Row → Bool
two_bodies rs = some_pair (λ r q. not (same_body r.body q.body)) rs

-- "6 for two unequal finals or opposite outcomes"
unfoldable pub contradictory : List Row → Bool
contradictory rs = either (some_pair (λ r q. unequal_finals r.prepare q.prepare) rs) (some_pair (λ r q. opposite_outcomes r.outcome q.outcome) rs)

-- "Numbers 5, 6 and 7 look at these tables only"; 7 is for "a merge of more than 512 stamps"
unfoldable pub merge_circumstances : Model → ℕ → List Table → List Circumstance
merge_circumstances M v Ts =
    (wrong_tables, are_wrong v Ts)
    ∷ (other_body, any (λ s. two_bodies (rows_of (used Ts) s)) (stamps (used Ts)))
    ∷ (contradiction, any (λ s. contradictory (rows_of (used Ts) s)) (stamps (used Ts)))
    ∷ (full, ltb M.row_limit (length (stamps (used Ts))))
    ∷ []

unfoldable pub merge_number : Model → ℕ → List Table → ℕ
merge_number M v Ts = number (merge_circumstances M v Ts)

-- the merge for view v "From f+1 changing tables that promised v", if it is not refused
unfoldable pub merge : Model → Check → ℕ → List Table → Option Table
merge M check v Ts = cond (eqb (merge_number M v Ts) 0) (some (merged_table check v Ts)) none

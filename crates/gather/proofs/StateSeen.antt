-- What the rows of one stamp hold together, row by row: the state that a walk over them ends with is theirs.
use mathlib.Core.Path.{◌≡◌, refl, sym, ap, ◌∙◌}
use mathlib.Core.Bool.{Bool, true, false, not, cond}
use mathlib.Core.Logic.{◌⊎◌, inl, inr}
use mathlib.Core.List.Memᴰ
use mathlib.Core.List.{List, [], ◌∷◌}
use mathlib.Core.Option.{Option, none, some}
use Prim.Native.Nat.{◌+◌}
use native.Mathlib.Omega.{arith}
use lib.Dec.{eqb}
use borrow.Author.Tests.{eqb-true, eq-eqb}
use Rattle.std.specs.Prelude as std
use Rattle.rules.specs.Tests.{both, either, any, some_pair, or_else, first_of}
use Rattle.rules.specs.Tables.{Result, Result.OK, Result.ABORT, Result.ABSTAIN, Result.RETRY, Prepare, Prepare.no_prepare, Prepare.tentative, Prepare.final, Verdict, Verdict.commit, Verdict.abort, Outcome, Outcome.no_outcome, Outcome.noted, Outcome.done, Row, result_code, result_retry, prepare_code, prepare_retry, outcome_code, same_result}
use Rattle.rules.specs.Circumstances.{unequal_final}
use Rattle.rules.specs.Merge.{holds_verdict, holds_prepare, final_result, final_of, unequal_finals, opposite_outcomes, merged_outcome, contradictory}
use Rattle.rules.proofs.Logic.{impossible, none_some, cases, same_test, both_left, both_right, both_true, either_assoc, either_none, either_second}
use Rattle.rules.proofs.Lists.{◌∈◌, any_some, some_any, none_pair}
use Rattle.rules.proofs.Same.{same_result_lem, result_same}
use Rattle.gather.specs.declared.results.HeldResult.{HeldResult}
use Rattle.gather.specs.declared.state.State.{State}
use Rattle.gather.specs.Inner.State.{none_seen, final_held, state_of, saw_final, saw_tentative, saw_prepare, saw_commit, saw_abort, saw_outcome, contradicts, outcome_held}

-- ---- one row

abbrev seen_prepare : Prepare → State → State
seen_prepare no_prepare x = x
seen_prepare (tentative q) x = saw_tentative x
seen_prepare (final q) x = saw_final (record { code = 4 + result_code q; retry = result_retry q }) (saw_tentative x)

saw_prepare_lem : (p : Prepare) (x : State) → saw_prepare (prepare_code p) (prepare_retry p) x ≡ seen_prepare p x
unfolding saw_prepare
saw_prepare_lem no_prepare x = refl
saw_prepare_lem (tentative OK) x = refl
saw_prepare_lem (tentative ABORT) x = refl
saw_prepare_lem (tentative ABSTAIN) x = refl
saw_prepare_lem (tentative (RETRY t)) x = refl
saw_prepare_lem (final OK) x = refl
saw_prepare_lem (final ABORT) x = refl
saw_prepare_lem (final ABSTAIN) x = refl
saw_prepare_lem (final (RETRY t)) x = refl

abbrev seen_verdict : Verdict → State → State
seen_verdict commit x = saw_commit x
seen_verdict abort x = saw_abort x

abbrev seen_outcome : Outcome → State → State
seen_outcome no_outcome x = x
seen_outcome (noted v) x = seen_verdict v x
seen_outcome (done v) x = seen_verdict v x

saw_outcome_lem : (o : Outcome) (x : State) → saw_outcome (outcome_code o) x ≡ seen_outcome o x
unfolding saw_outcome either
saw_outcome_lem no_outcome x = refl
saw_outcome_lem (noted commit) x = refl
saw_outcome_lem (noted abort) x = refl
saw_outcome_lem (done commit) x = refl
saw_outcome_lem (done abort) x = refl

-- a row by its bytes
unfoldable pub saw_row : Row → State → State
saw_row r x = saw_outcome (outcome_code r.outcome) (saw_prepare (prepare_code r.prepare) (prepare_retry r.prepare) x)

unfoldable pub saw_rows : State → List Row → State
saw_rows x [] = x
saw_rows x (r ∷ rs) = saw_rows (saw_row r x) rs

saw_row_lem : (r : Row) (x : State) → saw_row r x ≡ seen_outcome r.outcome (seen_prepare r.prepare x)
unfolding saw_row
saw_row_lem r x = saw_outcome_lem r.outcome _ ∙ ap (seen_outcome r.outcome) (saw_prepare_lem r.prepare x)

-- ---- field by field, what is seen already and what these rows hold

-- an outcome leaves what is said of prepare bytes
abbrev Same : State → State → Type 0
Same x y = (x.final_result ≡ y.final_result) × (x.held ≡ y.held) × (x.unequal ≡ y.unequal)

outcome_same : (o : Outcome) (x : State) → Same (seen_outcome o x) x
outcome_same no_outcome x = (refl, refl, refl)
outcome_same (noted commit) x = (refl, refl, refl)
outcome_same (noted abort) x = (refl, refl, refl)
outcome_same (done commit) x = (refl, refl, refl)
outcome_same (done abort) x = (refl, refl, refl)

-- a prepare byte leaves what is said of outcomes
abbrev SameOutcome : State → State → Type 0
SameOutcome x y = (x.commit ≡ y.commit) × (x.abort ≡ y.abort)

prepare_same : (p : Prepare) (x : State) → SameOutcome (seen_prepare p x) x
prepare_same no_prepare x = (refl, refl)
prepare_same (tentative q) x = (refl, refl)
prepare_same (final q) x = (refl, refl)

outcome_seen : (o : Outcome) (x : State) → ((seen_outcome o x).commit ≡ either x.commit (holds_verdict commit o)) × ((seen_outcome o x).abort ≡ either x.abort (holds_verdict abort o))
unfolding either
outcome_seen no_outcome x = (sym (either_none x.commit), sym (either_none x.abort))
outcome_seen (noted commit) x = (sym (either_second x.commit true refl), sym (either_none x.abort))
outcome_seen (noted abort) x = (sym (either_none x.commit), sym (either_second x.abort true refl))
outcome_seen (done commit) x = (sym (either_second x.commit true refl), sym (either_none x.abort))
outcome_seen (done abort) x = (sym (either_none x.commit), sym (either_second x.abort true refl))

abbrev row_commit : Row → Bool
row_commit r = holds_verdict commit r.outcome

abbrev row_abort : Row → Bool
row_abort r = holds_verdict abort r.outcome

abbrev row_held : Row → Bool
row_held r = holds_prepare r.prepare

outcomes_seen : (rs : List Row) (x : State) → ((saw_rows x rs).commit ≡ either x.commit (any row_commit rs)) × ((saw_rows x rs).abort ≡ either x.abort (any row_abort rs))
unfolding saw_rows any
outcomes_seen [] x = (sym (either_none x.commit), sym (either_none x.abort))
outcomes_seen (r ∷ rs) x =
    let (c, a) = outcomes_seen rs (saw_row r x) in
    let e = saw_row_lem r x in
    let (f, g) = outcome_seen r.outcome (seen_prepare r.prepare x) in
    let (h, k) = prepare_same r.prepare x in
    let l : (saw_row r x).commit ≡ either x.commit (row_commit r) = ap (λ (y : State). y.commit) e ∙ f ∙ ap (λ b. either b (row_commit r)) h in
    let m : (saw_row r x).abort ≡ either x.abort (row_abort r) = ap (λ (y : State). y.abort) e ∙ g ∙ ap (λ b. either b (row_abort r)) k in
    (c ∙ rw l (either_assoc x.commit (row_commit r) (any row_commit rs)), a ∙ rw m (either_assoc x.abort (row_abort r) (any row_abort rs)))

prepare_held : (p : Prepare) (x : State) → (seen_prepare p x).held ≡ either x.held (holds_prepare p)
prepare_held no_prepare x = sym (either_none x.held)
prepare_held (tentative q) x = sym (either_second x.held true refl)
prepare_held (final q) x = sym (either_second x.held true refl)

held_seen : (rs : List Row) (x : State) → (saw_rows x rs).held ≡ either x.held (any row_held rs)
unfolding saw_rows any
held_seen [] x = sym (either_none x.held)
held_seen (r ∷ rs) x =
    let l : (saw_row r x).held ≡ either x.held (row_held r) = ap (λ (y : State). y.held) (saw_row_lem r x) ∙ (outcome_same r.outcome (seen_prepare r.prepare x)).1 ∙ prepare_held r.prepare x in
    held_seen rs (saw_row r x) ∙ rw l (either_assoc x.held (row_held r) (any row_held rs))

-- the first final result: what is seen already, or the first of these rows
abbrev HasSeen : Option Result → State → Type 0
HasSeen o x = x.final_result ≡ final_held o

prepare_first : (o : Option Result) (p : Prepare) (x : State) → HasSeen o x → HasSeen (or_else o (final_result p)) (seen_prepare p x)
prepare_first none no_prepare x h = h
prepare_first none (tentative q) x h = h
prepare_first none (final q) x h = rw h refl
prepare_first (some a) no_prepare x h = h
prepare_first (some a) (tentative q) x h = h
prepare_first (some a) (final q) x h = rw h refl

row_first : (o : Option Result) (r : Row) (x : State) → HasSeen o x → HasSeen (or_else o (final_result r.prepare)) (saw_row r x)
row_first o r x h =
    let (d, e, f) = outcome_same r.outcome (seen_prepare r.prepare x) in
    rw (saw_row_lem r x) (d ∙ prepare_first o r.prepare x h)

or_else_assoc : (a b c : Option Result) → or_else (or_else a b) c ≡ or_else a (or_else b c)
or_else_assoc none b c = refl
or_else_assoc (some a) b c = refl

or_else_none : (a : Option Result) → or_else a none ≡ a
or_else_none none = refl
or_else_none (some a) = refl

finals_seen : (rs : List Row) (o : Option Result) (x : State) → HasSeen o x → HasSeen (or_else o (final_of rs)) (saw_rows x rs)
unfolding saw_rows final_of first_of
finals_seen [] o x h = rw (or_else_none o) h
finals_seen (r ∷ rs) o x h = rw (or_else_assoc o (final_result r.prepare) (final_of rs)) at (finals_seen rs (or_else o (final_result r.prepare)) (saw_row r x) (row_first o r x h))

-- ---- two unequal finals: one is not the first

unfoldable pub unequal_to : Option Result → List Row → Bool
unequal_to o [] = false
unequal_to none (r ∷ rs) = unequal_to (final_result r.prepare) rs
unequal_to (some a) (r ∷ rs) = either (unequal_final a r.prepare) (unequal_to (some a) rs)

final_codes : (a q : Result) → both (eqb (4 + result_code a) (4 + result_code q)) (eqb (result_retry a) (result_retry q)) ≡ same_result a q
unfolding same_result
final_codes a q = ap (λ b. both b (eqb (result_retry a) (result_retry q))) (same_test (eqb (4 + result_code a) (4 + result_code q)) (eqb (result_code a) (result_code q)) there back)
  where
    there : eqb (4 + result_code a) (4 + result_code q) ≡ true → eqb (result_code a) (result_code q) ≡ true
    there h = let e : 4 + result_code a ≡ 4 + result_code q = eqb-true _ _ h in eq-eqb (result_code a) (result_code q) (omega arith)

    back : eqb (result_code a) (result_code q) ≡ true → eqb (4 + result_code a) (4 + result_code q) ≡ true
    back h = let e : result_code a ≡ result_code q = eqb-true _ _ h in eq-eqb (4 + result_code a) (4 + result_code q) (omega arith)

abbrev unequal_one : Option Result → Prepare → Bool
unequal_one none p = false
unequal_one (some a) p = unequal_final a p

prepare_unequal : (o : Option Result) (p : Prepare) (x : State) → HasSeen o x → (seen_prepare p x).unequal ≡ either x.unequal (unequal_one o p)
unfolding both
prepare_unequal none no_prepare x h = sym (either_none x.unequal)
prepare_unequal none (tentative q) x h = sym (either_none x.unequal)
prepare_unequal none (final q) x h = rw h refl
prepare_unequal (some a) no_prepare x h = sym (either_none x.unequal)
prepare_unequal (some a) (tentative q) x h = sym (either_none x.unequal)
prepare_unequal (some a) (final q) x h = rw (h, final_codes a q) refl

unequal_seen : (rs : List Row) (o : Option Result) (x : State) → HasSeen o x → (saw_rows x rs).unequal ≡ either x.unequal (unequal_to o rs)
unfolding saw_rows unequal_to either
unequal_seen [] o x h = sym (either_none x.unequal)
unequal_seen (r ∷ rs) o x h =
    let e : (saw_row r x).unequal ≡ either x.unequal (unequal_one o r.prepare) = ap (λ (y : State). y.unequal) (saw_row_lem r x) ∙ (outcome_same r.outcome (seen_prepare r.prepare x)).2 ∙ prepare_unequal o r.prepare x h in
    unequal_seen rs (or_else o (final_result r.prepare)) (saw_row r x) (row_first o r x h) ∙ rw e (either_assoc x.unequal (unequal_one o r.prepare) (unequal_to (or_else o (final_result r.prepare)) rs) ∙ ap (either x.unequal) (go o))
  where
    go : (o : Option Result) → either (unequal_one o r.prepare) (unequal_to (or_else o (final_result r.prepare)) rs) ≡ unequal_to o (r ∷ rs)
    go none = refl
    go (some a) = refl

abbrev unequal_pair : Row → Row → Bool
unequal_pair r q = unequal_finals r.prepare q.prepare

unequal_to_any : (a : Result) (rs : List Row) → unequal_to (some a) rs ≡ any (λ r. unequal_final a r.prepare) rs
unfolding unequal_to any
unequal_to_any a [] = refl
unequal_to_any a (r ∷ rs) = ap (either (unequal_final a r.prepare)) (unequal_to_any a rs)

-- a row that is unequal to a final one is final, with another result
unequal_is : (a : Result) (p : Prepare) → unequal_final a p ≡ true → (b : Result) × (p ≡ final b) × (same_result a b ≡ false)
unequal_is a no_prepare h = impossible h refl
unequal_is a (tentative q) h = impossible h refl
unequal_is a (final q) h = (q, refl, not_true_is h)
  where
    not_true_is : {b : Bool} → not b ≡ true → b ≡ false
    not_true_is {b = true} k = impossible k refl
    not_true_is {b = false} k = refl

unequals_are : (p q : Prepare) → unequal_finals p q ≡ true → (a b : Result) × (p ≡ final a) × (q ≡ final b) × (same_result a b ≡ false)
unequals_are no_prepare q h = impossible h refl
unequals_are (tentative r) q h = impossible h refl
unequals_are (final a) q h = let (b, e, d) = unequal_is a q h in (a, b, refl, e, d)

-- of two unequal results one is not a third
one_unequal : (a b c : Result) → same_result a b ≡ false → (not (same_result c a) ≡ true) ⊎ (not (same_result c b) ≡ true)
one_unequal a b c h = go (cases (same_result c a)) (cases (same_result c b))
  where
    go : (same_result c a ≡ true) ⊎ (same_result c a ≡ false) → (same_result c b ≡ true) ⊎ (same_result c b ≡ false) → (not (same_result c a) ≡ true) ⊎ (not (same_result c b) ≡ true)
    go (inr e) k = inl (rw e refl)
    go (inl e) (inr k) = inr (rw k refl)
    go (inl e) (inl k) = let i : a ≡ b = sym (same_result_lem c a e) ∙ same_result_lem c b k in impossible (rw i (result_same b)) h

final_one : {a b : Result} → final a ≡ final b → a ≡ b
final_one e = cc

-- a first final result, and the rows behind it
pair_behind : (a : Result) (r : Row) (rs : List Row) → r.prepare ≡ final a → some_pair unequal_pair (r ∷ rs) ≡ any (λ q. unequal_final a q.prepare) rs
unfolding some_pair
pair_behind a r rs e = same_test _ _ there back
  where
    other : (x : Row) (b : Result) → x ∈ (r ∷ rs) → x.prepare ≡ final b → not (same_result a b) ≡ true → any (λ q. unequal_final a q.prepare) rs ≡ true
    other x b m f d = go (Memᴰ.cases_cons m)
      where
        go : (x ≡ r) ⊎ (x ∈ rs) → any (λ q. unequal_final a q.prepare) rs ≡ true
        go (inl k) = let i : a ≡ b = final_one (sym e ∙ ap (λ (z : Row). z.prepare) (sym k) ∙ f) in impossible d (rw (i, result_same b) refl)
        go (inr k) = some_any (λ q. unequal_final a q.prepare) rs x k (rw f d)

    there : any (λ x. any (unequal_pair x) (r ∷ rs)) (r ∷ rs) ≡ true → any (λ q. unequal_final a q.prepare) rs ≡ true
    there h =
        let (x, m, k) = any_some (λ x. any (unequal_pair x) (r ∷ rs)) (r ∷ rs) h in
        let (y, n, l) = any_some (unequal_pair x) (r ∷ rs) k in
        let (b, c, f, g, d) = unequals_are x.prepare y.prepare l in
        go x y b c m n f g (one_unequal b c a d)
      where
        go : (x y : Row) (b c : Result) → x ∈ (r ∷ rs) → y ∈ (r ∷ rs) → x.prepare ≡ final b → y.prepare ≡ final c → (not (same_result a b) ≡ true) ⊎ (not (same_result a c) ≡ true) → any (λ q. unequal_final a q.prepare) rs ≡ true
        go x y b c m n f g (inl d) = other x b m f d
        go x y b c m n f g (inr d) = other y c n g d

    back : any (λ q. unequal_final a q.prepare) rs ≡ true → any (λ x. any (unequal_pair x) (r ∷ rs)) (r ∷ rs) ≡ true
    back h =
        let (y, n, l) = any_some (λ q. unequal_final a q.prepare) rs h in
        some_any (λ x. any (unequal_pair x) (r ∷ rs)) (r ∷ rs) r (Memᴰ.head refl) (some_any (unequal_pair r) (r ∷ rs) y (Memᴰ.tail n) (rw e l))

-- a row that is not final is in no such pair
pair_skips : (r : Row) (rs : List Row) → final_result r.prepare ≡ none → some_pair unequal_pair (r ∷ rs) ≡ some_pair unequal_pair rs
unfolding some_pair
pair_skips r rs e = same_test _ _ there back
  where
    not_final : (b : Result) → r.prepare ≡ final b → {A : Type 0} → A
    not_final b k = none_some (sym e ∙ ap final_result k)

    inner : (x : Row) (b : Result) → x ∈ (r ∷ rs) → x.prepare ≡ final b → x ∈ rs
    inner x b m f = go (Memᴰ.cases_cons m)
      where
        go : (x ≡ r) ⊎ (x ∈ rs) → x ∈ rs
        go (inl k) = not_final b (ap (λ (z : Row). z.prepare) (sym k) ∙ f)
        go (inr k) = k

    there : any (λ x. any (unequal_pair x) (r ∷ rs)) (r ∷ rs) ≡ true → any (λ x. any (unequal_pair x) rs) rs ≡ true
    there h =
        let (x, m, k) = any_some (λ x. any (unequal_pair x) (r ∷ rs)) (r ∷ rs) h in
        let (y, n, l) = any_some (unequal_pair x) (r ∷ rs) k in
        let (b, c, f, g, d) = unequals_are x.prepare y.prepare l in
        some_any (λ x. any (unequal_pair x) rs) rs x (inner x b m f) (some_any (unequal_pair x) rs y (inner y c n g) l)

    back : any (λ x. any (unequal_pair x) rs) rs ≡ true → any (λ x. any (unequal_pair x) (r ∷ rs)) (r ∷ rs) ≡ true
    back h =
        let (x, m, k) = any_some (λ x. any (unequal_pair x) rs) rs h in
        let (y, n, l) = any_some (unequal_pair x) rs k in
        some_any (λ x. any (unequal_pair x) (r ∷ rs)) (r ∷ rs) x (Memᴰ.tail m) (some_any (unequal_pair x) (r ∷ rs) y (Memᴰ.tail n) l)

unequal_pair_lem : (rs : List Row) → unequal_to none rs ≡ some_pair unequal_pair rs
unfolding unequal_to
unequal_pair_lem [] = go
  where
    go : false ≡ some_pair unequal_pair []
    go = sym (none_pair unequal_pair [] (λ x y m n. absurd (Memᴰ.not-nil m)))
unequal_pair_lem (r ∷ rs) = go r.prepare refl (unequal_pair_lem rs)
  where
    go : (p : Prepare) → r.prepare ≡ p → unequal_to none rs ≡ some_pair unequal_pair rs → unequal_to (final_result r.prepare) rs ≡ some_pair unequal_pair (r ∷ rs)
    go no_prepare e later = rw (ap final_result e) (later ∙ sym (pair_skips r rs (ap final_result e)))
    go (tentative q) e later = rw (ap final_result e) (later ∙ sym (pair_skips r rs (ap final_result e)))
    go (final a) e later = rw (ap final_result e) (unequal_to_any a rs ∙ sym (pair_behind a r rs e))

-- ---- all of it

same_state : (x y : State) → x.final_result ≡ y.final_result → x.held ≡ y.held → x.unequal ≡ y.unequal → x.commit ≡ y.commit → x.abort ≡ y.abort → x ≡ y
same_state x y f h u c a = go x.final_result x.held x.unequal x.commit x.abort f h u c a
  where
    go : (f₀ : std.Option HeldResult) (h₀ u₀ c₀ a₀ : Bool) → f₀ ≡ y.final_result → h₀ ≡ y.held → u₀ ≡ y.unequal → c₀ ≡ y.commit → a₀ ≡ y.abort → record { final_result = f₀; held = h₀; unequal = u₀; commit = c₀; abort = a₀ } ≡ y
    go f₀ h₀ u₀ c₀ a₀ f h u c a = rw (f, h, u, c, a) refl

pub state_seen : (rs : List Row) → saw_rows none_seen rs ≡ state_of rs
unfolding state_of either
state_seen rs =
    let f = finals_seen rs none none_seen refl in
    let (c, a) = outcomes_seen rs none_seen in
    let h = held_seen rs none_seen in
    let u = unequal_seen rs none none_seen refl ∙ unequal_pair_lem rs in
    same_state (saw_rows none_seen rs) (state_of rs) f h u c a

-- ---- what is told by it

-- of a commit and an abort, whether they are noted or done
abbrev CommitAndAbort : Outcome → Outcome → Type 0
CommitAndAbort p q = (holds_verdict commit p ≡ true) × (holds_verdict abort q ≡ true)

opposite_verdicts : (v u : Verdict) → opposite_outcomes (done v) (done u) ≡ true → CommitAndAbort (done v) (done u) ⊎ CommitAndAbort (done u) (done v)
opposite_verdicts commit commit h = impossible h refl
opposite_verdicts commit abort h = inl (refl, refl)
opposite_verdicts abort commit h = inr (refl, refl)
opposite_verdicts abort abort h = impossible h refl

opposite_are : (p q : Outcome) → opposite_outcomes p q ≡ true → CommitAndAbort p q ⊎ CommitAndAbort q p
opposite_are no_outcome q h = impossible h refl
opposite_are (noted v) no_outcome h = impossible h refl
opposite_are (noted v) (noted u) h = opposite_verdicts v u h
opposite_are (noted v) (done u) h = opposite_verdicts v u h
opposite_are (done v) no_outcome h = impossible h refl
opposite_are (done v) (noted u) h = opposite_verdicts v u h
opposite_are (done v) (done u) h = opposite_verdicts v u h

verdicts_opposite : (v u : Verdict) → CommitAndAbort (done v) (done u) → opposite_outcomes (done v) (done u) ≡ true
verdicts_opposite commit commit (h, k) = impossible k refl
verdicts_opposite commit abort (h, k) = refl
verdicts_opposite abort u (h, k) = impossible h refl

are_opposite : (p q : Outcome) → CommitAndAbort p q → opposite_outcomes p q ≡ true
are_opposite no_outcome q (h, k) = impossible h refl
are_opposite (noted v) no_outcome (h, k) = impossible k refl
are_opposite (noted v) (noted u) h = verdicts_opposite v u h
are_opposite (noted v) (done u) h = verdicts_opposite v u h
are_opposite (done v) no_outcome (h, k) = impossible k refl
are_opposite (done v) (noted u) h = verdicts_opposite v u h
are_opposite (done v) (done u) h = verdicts_opposite v u h

abbrev opposite_pair : Row → Row → Bool
opposite_pair r q = opposite_outcomes r.outcome q.outcome

opposite_pair_lem : (rs : List Row) → both (any row_commit rs) (any row_abort rs) ≡ some_pair opposite_pair rs
unfolding some_pair
opposite_pair_lem rs = same_test _ _ there back
  where
    there : both (any row_commit rs) (any row_abort rs) ≡ true → any (λ x. any (opposite_pair x) rs) rs ≡ true
    there h =
        let (x, m, k) = any_some row_commit rs (both_left _ _ h) in
        let (y, n, l) = any_some row_abort rs (both_right _ _ h) in
        some_any (λ x. any (opposite_pair x) rs) rs x m (some_any (opposite_pair x) rs y n (are_opposite x.outcome y.outcome (k, l)))

    back : any (λ x. any (opposite_pair x) rs) rs ≡ true → both (any row_commit rs) (any row_abort rs) ≡ true
    back h =
        let (x, m, k) = any_some (λ x. any (opposite_pair x) rs) rs h in
        let (y, n, l) = any_some (opposite_pair x) rs k in
        go x y m n (opposite_are x.outcome y.outcome l)
      where
        go : (x y : Row) → x ∈ rs → y ∈ rs → CommitAndAbort x.outcome y.outcome ⊎ CommitAndAbort y.outcome x.outcome → both (any row_commit rs) (any row_abort rs) ≡ true
        go x y m n (inl (c, a)) = both_true (some_any row_commit rs x m c) (some_any row_abort rs y n a)
        go x y m n (inr (c, a)) = both_true (some_any row_commit rs y n c) (some_any row_abort rs x m a)

pub state_contradicts : (rs : List Row) → contradicts (state_of rs) ≡ contradictory rs
unfolding state_of contradictory
state_contradicts rs = ap (either (some_pair unequal_pair rs)) (opposite_pair_lem rs)

pub state_outcome : (rs : List Row) → outcome_held (state_of rs) ≡ outcome_code (merged_outcome rs)
unfolding state_of merged_outcome
state_outcome rs = go (any row_commit rs) (any row_abort rs)
  where
    go : (c a : Bool) → cond c 3 (cond a 4 0) ≡ outcome_code (cond c (done commit) (cond a (done abort) no_outcome))
    go true a = refl
    go false true = refl
    go false false = refl

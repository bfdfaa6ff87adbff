-- What rows that were passed say, as the code keeps it while it goes on.
use Rattle.std.specs.Prelude.{◌≡◌, ◌⊎◌, Bool, true, false, not, cond, List, ℕ, zero, suc, ◌+◌, ◌-◌, ◌≤◌, max, eqb, ltb, leb}
use Rattle.rules.specs.Tests.{both, either, any}
use Rattle.rules.specs.Stamps.{Body}
use Rattle.rules.specs.Tables.{Result, Result.OK, Result.ABORT, Result.ABSTAIN, Result.RETRY, Row}
use Rattle.rules.specs.Check.{committed, prepared, accepted, Rule, retry_stamp}
use Rattle.rules.specs.DayOrder.{common}
use Rattle.rules.specs.Inner.Clashes.{clash}
use Rattle.rules.specs.Messages as rules
use Rattle.checks.specs.declared.pass.Seen.{Seen}

-- ---- the check

-- what A, B and C say of rows, by any two rules A and B; "the greatest among committed and prepared" ones that B names beside them, 0 if there is none
unfoldable pub seen_of : Rule → Rule → ℕ → Body → List Row → Seen
seen_of A B s x rows =
    record {
      advice = retry_stamp B rows s x;
      abort = any (A committed s x) rows;
      retry = any (B committed s x) rows;
      abstain = any (λ r. either (A prepared s x r) (B prepared s x r)) rows;
    }

-- no row was passed
abbrev pub nothing_seen : Seen
nothing_seen = record { advice = 0; abort = false; retry = false; abstain = false }

-- "Committed: outcome 3. Prepared: prepare byte 1 or 5 and outcome 0, 1 or 2.": either, by a row's two bytes
unfoldable pub accepted_bytes : ℕ → ℕ → Bool
accepted_bytes prepare outcome = either (eqb outcome 3) (both (leb outcome 2) (either (eqb prepare 1) (eqb prepare 5)))

-- the greatest one so far, with one more at t if that is named
unfoldable pub raised : ℕ → ℕ → Bool → ℕ
raised advice t named = cond named (max t advice) advice

-- one more accepted row, which is at t, and what A and B say of it: if committed, each marks its own; if prepared, either marks C; whom B names raises the advice both ways
unfoldable pub with_named : Bool → ℕ → Bool → Bool → Seen → Seen
with_named is_committed t by_a by_b seen =
    record {
      advice = raised seen.advice t by_b;
      abort = either (both is_committed by_a) seen.abort;
      retry = either (both is_committed by_b) seen.retry;
      abstain = either (both (not is_committed) (either by_a by_b)) seen.abstain;
    }

-- one more row
unfoldable pub seen_with : Rule → Rule → ℕ → Body → Row → Seen → Seen
seen_with A B s x r seen = cond (accepted r) (with_named (committed r) r.stamp (A (λ q. true) s x r) (B (λ q. true) s x r) seen) seen

-- a transaction at t, of this body, has "a stamp above s" and a "read or write" of a register that x writes
unfoldable pub later : ℕ → Body → ℕ → Body → Bool
later s x t y = both (ltb s t) (either (common y.reads x.writes) (common y.writes x.writes))

abbrev pub row_clashes : ℕ → Body → Row → Bool
row_clashes s x r = both (accepted r) (clash s x r.stamp r.body)

-- so many of n rows were passed, the last one first, each by one step
unfoldable pub PassedTo : (Seen → ℕ → Seen → Type 0) → ℕ → ℕ → Seen → Type 0
PassedTo step n zero seen = seen ≡ nothing_seen
PassedTo step n (suc k) seen = (before : Seen) × PassedTo step n k before × step before (n - suc k) seen

-- they were passed down to the first ones, which are silent, or to where A has spoken
abbrev pub PassedRows : (Seen → ℕ → Seen → Type 0) → ℕ → ℕ → Seen → Type 0
PassedRows step silent n seen = (k : ℕ) × (k ≤ n) × PassedTo step n k seen × ((n ≤ silent + k) ⊎ (seen.abort ≡ true))

-- "in this order": "ABORT", "RETRY" with "the stamp returned", "ABSTAIN", "Otherwise OK."
unfoldable pub answer_of : Seen → Result
answer_of seen = cond seen.abort ABORT (cond seen.retry (RETRY seen.advice) (cond seen.abstain ABSTAIN OK))

-- ---- message 7

-- the "done-commit write of that register at or below the stamp" of one row
unfoldable pub found_in : Row → ℕ → ℕ → rules.Found
found_in r s k = cond (both (committed r) (leb r.stamp s)) (rules.write_of r.stamp r.body.writes k) rules.nothing_found

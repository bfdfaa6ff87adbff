-- Accesses, bodies and rows as they are lent.
use mathlib.Core.Path.{◌≡◌, refl, ap, ◌∙◌}
use mathlib.Core.Bool.{Bool, true, false}
use mathlib.Core.List.{List, [], ◌∷◌, ◌++◌}
use Prim.Native.Nat.{ℕ, zero, suc, ◌+◌, ◌-◌, ◌*◌, ◌≤◌, ◌<◌}
use native.Mathlib.Omega.{arith}
use lib.ListN.{length}
use Rattle.rules.specs.Tests.{either, any}
use Rattle.rules.specs.Stamps.{Access}
use Rattle.rows.specs.declared.row.RowFields.{RowFields}
use Rattle.rows.specs.Read.{access_at, access_of, accesses_at, body_at}
use Rattle.rows.specs.Inner.Rows.{BodyInside, body_part}
use Rattle.rows.proofs.Turns.{length_body_part, body_of_part}

-- accesses that stand one behind the other
pub accesses_joined : (s : List ℕ) (at n m : ℕ) → accesses_at s at (n + m) ≡ accesses_at s at n ++ accesses_at s (at + 9 * n) m
unfolding accesses_at
accesses_joined s at zero m =
    let e : at + 9 * 0 ≡ at = omega arith in
    let k : 0 + m ≡ m = omega arith in
    rw (e, k)
accesses_joined s at (suc n) m =
    let e : at + 9 * suc n ≡ at + 9 + 9 * n = omega arith in
    let k : suc n + m ≡ suc (n + m) = omega arith in
    rw (e, k) (ap (λ (accs : List Access). access_of (access_at s at) ∷ accs) (accesses_joined s (at + 9) n m))

-- a row's body in the part of the image where it lies
pub lent_part : (s part : List ℕ) (f : RowFields) → BodyInside s f → part ≡ body_part s f → body_at part 0 f.reads f.writes ≡ body_at s f.offset f.reads f.writes
lent_part s part f h e = rw e (body_of_part s f h)

pub lent_inside : (s part : List ℕ) (f : RowFields) → BodyInside s f → part ≡ body_part s f → 9 * (f.reads + f.writes) ≤ length part
lent_inside s part f h e = let l = ap length e ∙ length_body_part s f h in omega (arith, l)

pub ruleset body_parts = (lent_part, lent_inside)

-- ---- accesses one by one, i of n passed

pub accesses_turn : (s : List ℕ) (from n i : ℕ) → i < n → accesses_at s (9 * (from + i)) (n - i) ≡ access_of (access_at s (9 * (from + i))) ∷ accesses_at s (9 * (from + (i + 1))) (n - (i + 1))
unfolding accesses_at
accesses_turn s from n i l =
    let e : n - i ≡ suc (n - (i + 1)) = omega arith in
    let p : 9 * (from + (i + 1)) ≡ 9 * (from + i) + 9 = omega arith in
    rw (e, p)

pub accesses_over : (s : List ℕ) (at n i : ℕ) → n ≤ i → accesses_at s at (n - i) ≡ []
unfolding accesses_at
accesses_over s at n i l = let e : n - i ≡ 0 = omega arith in rw e

-- the one at hand passes, or the rest tells
pub any_here : (test : Access → Bool) (s : List ℕ) (from n i : ℕ) → i < n → test (access_of (access_at s (9 * (from + i)))) ≡ true → any test (accesses_at s (9 * (from + i)) (n - i)) ≡ true
unfolding any either
any_here test s from n i l t = rw (accesses_turn s from n i l, t) refl

pub any_behind : (test : Access → Bool) (s : List ℕ) (from n i : ℕ) → i < n → test (access_of (access_at s (9 * (from + i)))) ≡ false → any test (accesses_at s (9 * (from + i)) (n - i)) ≡ any test (accesses_at s (9 * (from + (i + 1))) (n - (i + 1)))
unfolding any either
any_behind test s from n i l t = rw (accesses_turn s from n i l, t) refl

pub any_over : (test : Access → Bool) (s : List ℕ) (at n i : ℕ) → n ≤ i → any test (accesses_at s at (n - i)) ≡ false
unfolding any
any_over test s at n i l = rw (accesses_over s at n i l) refl

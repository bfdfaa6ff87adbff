-- The steps of halving: more turns than rows add none, a turn is one of them, and of 512 rows there are 10 at most.
use mathlib.Core.Path.{◌≡◌, refl, sym, ap, ◌∙◌}
use mathlib.Core.Bool.{Bool, true, false, cond}
use mathlib.Core.List.{List, [], ◌∷◌, ◌++◌}
use Prim.Native.Nat.{ℕ, zero, suc, ◌+◌, ◌-◌, ◌*◌, ◌/◌, ◌^◌, ◌≤◌, ◌<◌, min}
use native.Mathlib.Nat.{pow-suc}
use native.Mathlib.Omega.{arith}
use lib.Dec.{eqb, ltb}
use lib.Seq.{take_at, drop_at}
use lib.ListN.{length, length-append, take, drop, length-take, length-drop}
use borrow.Author.Tests.{lt-ltb, le-ltb, eq-eqb, ne_eqb}
use Rattle.rules.specs.Tables.{Row}
use Rattle.rows.specs.Halving.{compared, halving, steps}

-- ---- more turns than rows add nothing

pub none_compared : (turns s : ℕ) → halving turns [] s ≡ 0
unfolding halving
none_compared zero s = refl
none_compared (suc turns) s = refl

pub turns_enough : (a b s : ℕ) (rows : List Row) → length rows ≤ a → length rows ≤ b → halving a rows s ≡ halving b rows s
unfolding halving
turns_enough zero b s [] l m = sym (none_compared b s)
turns_enough zero b s (r ∷ rows) l m = absurd (omega arith)
turns_enough (suc a) zero s [] l m = none_compared (suc a) s
turns_enough (suc a) zero s (r ∷ rows) l m = absurd (omega arith)
turns_enough (suc a) (suc b) s rows l m = go (drop half rows) refl (λ part p q. turns_enough a b s part p q)
  where
    half : ℕ
    half = length rows / 2

    go : (behind : List Row) → drop half rows ≡ behind → ((part : List Row) → length part ≤ a → length part ≤ b → halving a part s ≡ halving b part s) →
        compared s (λ part. halving a part s) (take half rows) behind ≡ compared s (λ part. halving b part s) (take half rows) behind
    go [] e again = refl
    go (r ∷ behind) e again =
        let d : suc (length behind) ≡ length rows - half = sym (ap length e) ∙ length-drop half rows in
        let t : length (take half rows) ≡ min half (length rows) = length-take half rows in
        rw (again behind (omega arith) (omega arith), again (take half rows) (omega arith) (omega arith))

-- ---- a turn: the row in the middle has the stamp, or is lower, or greater

module _ (s : ℕ) (before : List Row) (r : Row) (behind : List Row) (halved : length (before ++ (r ∷ behind)) / 2 ≡ length before) where
  abbrev rows : List Row
  rows = before ++ (r ∷ behind)

  abbrev turns : ℕ
  turns = length before + length behind

  parted : steps rows s ≡ compared s (λ part. halving turns part s) before (r ∷ behind)
  unfolding steps halving
  parted =
      let n : length rows ≡ suc (length before + length behind) = length-append before (r ∷ behind) ∙ omega arith in
      let t : take (length rows / 2) rows ≡ before = take_at before (r ∷ behind) _ (sym halved) in
      let d : drop (length rows / 2) rows ≡ r ∷ behind = drop_at before (r ∷ behind) _ (sym halved) in
      rw (t, d) at (ap (λ turns. halving turns rows s) n)

  -- the row has not the stamp, and the search goes on at the side that it tells
  turned : {side : Bool} {n : ℕ} → eqb r.stamp s ≡ false → ltb r.stamp s ≡ side → cond side (halving turns behind s) (halving turns before s) ≡ n →
      compared s (λ part. halving turns part s) before (r ∷ behind) ≡ 1 + n
  turned missed told e = rw missed (ap (λ side. 1 + cond side (halving turns behind s) (halving turns before s)) told ∙ ap (λ n. 1 + n) e)

  pub steps_here : r.stamp ≡ s → steps rows s ≡ 1
  steps_here e = parted ∙ rw (eq-eqb r.stamp s e)

  pub steps_behind : r.stamp < s → steps rows s ≡ 1 + steps behind s
  unfolding steps
  steps_behind l =
      let e = turns_enough turns (length behind) s behind (omega arith) (omega arith) in
      parted ∙ turned (ne_eqb r.stamp s (λ e. absurd (omega arith))) (lt-ltb r.stamp s l) e

  pub steps_before : s < r.stamp → steps rows s ≡ 1 + steps before s
  unfolding steps
  steps_before l =
      let e = turns_enough turns (length before) s before (omega arith) (omega arith) in
      parted ∙ turned (ne_eqb r.stamp s (λ e. absurd (omega arith))) (le-ltb r.stamp s (omega arith)) e

-- ---- how many there are at most

one_of : (k a b : ℕ) (p q : Bool) → a ≤ k → b ≤ k → 1 + cond p 0 (cond q a b) ≤ suc k
one_of k a b true q l m = omega arith
one_of k a b false true l m = omega arith
one_of k a b false false l m = omega arith

-- a turn leaves less than half of twice as many
bounded : (turns k s : ℕ) (rows : List Row) → length rows < 2 ^ k → halving turns rows s ≤ k
unfolding halving
bounded zero k s rows l = omega arith
bounded (suc turns) zero s [] l = omega arith
bounded (suc turns) zero s (r ∷ rows) l = absurd (omega arith)
bounded (suc turns) (suc k) s rows l = go (drop half rows) refl (λ part l. bounded turns k s part l)
  where
    half : ℕ
    half = length rows / 2

    go : (behind : List Row) → drop half rows ≡ behind → ((part : List Row) → length part < 2 ^ k → halving turns part s ≤ k) → compared s (λ part. halving turns part s) (take half rows) behind ≤ suc k
    go [] e again = omega arith
    go (q ∷ behind) e again =
        let two : 2 ^ suc k ≡ 2 ^ k * 2 = pow-suc 2 k in
        let d : suc (length behind) ≡ length rows - half = sym (ap length e) ∙ length-drop half rows in
        let t : length (take half rows) ≡ min half (length rows) = length-take half rows in
        one_of k _ _ (eqb q.stamp s) (ltb q.stamp s) (again behind (omega arith)) (again (take half rows) (omega arith))

pub steps_bounded : (k s : ℕ) (rows : List Row) → length rows < 2 ^ k → steps rows s ≤ k
unfolding steps
steps_bounded k s rows l = bounded (length rows) k s rows l

-- "at most 10 for 512 rows"
pub at_most_ten : (rows : List Row) (s : ℕ) → length rows ≤ 512 → steps rows s ≤ 10
at_most_ten rows s l = steps_bounded 10 s rows (omega arith)

pub at_most_seven : (rows : List Row) (s : ℕ) → length rows ≤ 64 → steps rows s ≤ 7
at_most_seven rows s l = steps_bounded 7 s rows (omega arith)

-- "an empty table gives 0"
pub none_of_none : (s : ℕ) → steps [] s ≡ 0
unfolding steps
none_of_none s = none_compared 0 s

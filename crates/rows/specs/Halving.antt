-- 02, P7: "The stamp search shall also return the rows it compared, equal to the steps of a written definition of halving": the definition.
use Rattle.std.specs.Prelude.{cond, List, [], ◌∷◌, ℕ, zero, suc, ◌+◌, ◌/◌, eqb, ltb, length, take, drop}
use Rattle.rules.specs.Tables.{Row}

-- how many rows are compared: of no rows none, else the one in the middle, and, if it has not the stamp, those behind it or those before it
abbrev pub compared : ℕ → (List Row → ℕ) → List Row → List Row → ℕ
compared s go_on before [] = 0
compared s go_on before (r ∷ behind) = 1 + cond (eqb r.stamp s) 0 (cond (ltb r.stamp s) (go_on behind) (go_on before))

-- how many are compared in so many turns at most; the one in the middle has half as many before it, rounded down
unfoldable pub halving : ℕ → List Row → ℕ → ℕ
halving zero rows s = 0
halving (suc turns) rows s = compared s (λ part. halving turns part s) (take (length rows / 2) rows) (drop (length rows / 2) rows)

-- how many rows halving compares; as many turns as there are rows are always enough
unfoldable pub steps : List Row → ℕ → ℕ
steps rows s = halving (length rows) rows s

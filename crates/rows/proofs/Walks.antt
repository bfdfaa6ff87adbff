-- The walk over rows as the code goes it, row by row: the next row's place, the stamp before it, where its body is due.
use mathlib.Core.Bool.{Bool}
use mathlib.Core.List.{List}
use Prim.Native.Nat.{ℕ, zero, suc, ◌+◌}
use lib.Dec.{eqb}
use Rattle.rules.specs.Tests.{both}
use Rattle.rows.specs.Fields.{fields_at}
use Rattle.rows.specs.Inner.Rows.{size_of, row_by_rule_at}

unfoldable pub rows_walk : List ℕ → ℕ → ℕ → ℕ → ℕ → ℕ → Bool
rows_walk s at zero last due end = eqb due end
rows_walk s at (suc n) last due end =
    both (row_by_rule_at s (fields_at s at) last due end)
    (rows_walk s (at + 24) n (fields_at s at).stamp (due + size_of (fields_at s at)) end)

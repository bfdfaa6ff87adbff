-- A mark for each row of a merge, eight in a byte. A mark says that the result of the row's stamp is agreed.
use Rattle.std.specs.Prelude.{Bool, List, ℕ, ◌+◌, ◌/◌, ◌%◌, ◌^◌, eqb, get_or, set}

-- the mark of the row at an index
unfoldable pub is_marked : List ℕ → ℕ → Bool
is_marked marks i = eqb (get_or marks (i / 8) 0 / 2 ^ (i % 8) % 2) 1

-- marks with one more, that of the row at an index
unfoldable pub marked : List ℕ → ℕ → List ℕ
marked marks i = set marks (i / 8) (get_or marks (i / 8) 0 + 2 ^ (i % 8))

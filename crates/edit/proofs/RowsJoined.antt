-- Rows and bodies of two lists of rows, one behind the other.
use mathlib.Core.Path.{◌≡◌, refl, sym}
use mathlib.Core.List.{List, [], ◌∷◌, ◌++◌, append_assoc}
use Prim.Native.Nat.{ℕ, ◌+◌}
use native.Mathlib.Nat.{add-zero, zero-add, add_assoc}
use Rattle.rules.specs.Tables.{Row}
use Rattle.rows.specs.Bytes.{body_bytes, length_of, bodies_bytes, bodies_length, row_bytes, rows_bytes}

pub bodies_joined : (xs ys : List Row) → bodies_bytes (xs ++ ys) ≡ bodies_bytes xs ++ bodies_bytes ys
unfolding bodies_bytes
bodies_joined [] ys = refl
bodies_joined (x ∷ xs) ys = rw (bodies_joined xs ys) (sym (append_assoc (body_bytes x.body) (bodies_bytes xs) (bodies_bytes ys)))

pub bodies_length_joined : (xs ys : List Row) → bodies_length (xs ++ ys) ≡ bodies_length xs + bodies_length ys
unfolding bodies_length
bodies_length_joined [] ys = rw zero-add
bodies_length_joined (x ∷ xs) ys = rw (bodies_length_joined xs ys, add_assoc)

pub rows_joined : (due : ℕ) (xs ys : List Row) → rows_bytes due (xs ++ ys) ≡ rows_bytes due xs ++ rows_bytes (due + bodies_length xs) ys
unfolding rows_bytes bodies_length
rows_joined due [] ys = rw add-zero
rows_joined due (x ∷ xs) ys =
    rw (rows_joined (due + length_of x.body) xs ys, add_assoc due (length_of x.body) (bodies_length xs))
    (sym (append_assoc (row_bytes due x) (rows_bytes (due + length_of x.body) xs) _))

-- A part of a list, and a list with a part of it replaced. Every function of this crate that writes promises what its slice holds afterwards by `replaced`.
use Rattle.std.specs.Prelude.{List, ◌++◌, ℕ, ◌+◌, length, take, drop}

-- the n elements of s from at
abbrev pub part : List ℕ → ℕ → ℕ → List ℕ
part s at n = take n (drop at s)

-- s with ws in the place of as many elements from at
unfoldable pub replaced : List ℕ → ℕ → List ℕ → List ℕ
replaced s at ws = take at s ++ (ws ++ drop (at + length ws) s)

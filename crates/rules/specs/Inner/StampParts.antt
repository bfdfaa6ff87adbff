-- A stamp from its parts. No call asks for it: to a box a stamp is one number.
use Rattle.std.specs.Prelude.{ℕ, ◌+◌, ◌*◌}

-- "time times 65,536 plus client"
unfoldable pub stamp_of : ℕ → ℕ → ℕ
stamp_of time client = time * 65536 + client

-- A write searched for by its register, and registers marked.
use Rattle.std.specs.Prelude.{◌≡◌, Bool, true, false, cond, ℕ, ◌%◌, eqb, ltb, get_or, Option, Some, None}
use mathlib.Core.List.{List, [], ◌∷◌, Memᴰ}
use Rattle.rules.specs.Tests.{both, any}
use Rattle.rules.specs.Stamps.{Access}

-- the value of the write of a register; registers rise, so there is one at most
unfoldable pub write_to : List Access → ℕ → Option ℕ
write_to [] k = None
write_to (a ∷ more) k = cond (eqb a.register k) (Some a.number) (write_to more k)

-- "register (0 to 63)": each has a mark, and these are marked; others may be too
abbrev pub Marked : List Bool → List Access → Type 0
Marked marks accs = (a : Access) → Memᴰ a accs → get_or marks (a.register % 64) false ≡ true

-- one of these has its mark set
unfoldable pub any_marked : List Bool → List Access → Bool
any_marked marks accs = any (λ a. get_or marks (a.register % 64) false) accs

-- an access of a register that is written
abbrev pub rewritten : List Access → Access → Bool
rewritten writes a = any (λ b. eqb a.register b.register) writes

-- a read of a version below w, of a register that is written at w
abbrev pub early : ℕ → List Access → Access → Bool
early w writes read = any (λ write. both (eqb read.register write.register) (ltb read.number w)) writes

-- The words in which laws speak of the check: which rows it looks at, its rule C, and when two transactions clash.
use Rattle.std.specs.Prelude.{Bool, ℕ}
use Rattle.rules.specs.Tests.{either}
use Rattle.rules.specs.Stamps.{Body}
use Rattle.rules.specs.Tables.{Row}
use Rattle.rules.specs.Check.{prepared, overwrites, rule_a, rule_b}
-- a row that counts for A, B or C: laws that speak of clashes speak of it, and find it here
unfoldable pub use Rattle.rules.specs.Check.{accepted}

-- "C. A or B holds with prepared for committed", of one row
unfoldable pub rule_c : ℕ → Body → Row → Bool
rule_c s x r = either (rule_a prepared s x r) (rule_b prepared s x r)

-- two transactions clash if either overwrites what the other read: rules A and B, seen from either side
unfoldable pub clash : ℕ → Body → ℕ → Body → Bool
clash s x t y = either (overwrites t y.writes s x.reads) (overwrites s x.writes t y.reads)

-- 02, P13: the check for messages 1, "no entry may be slipped under one already accepted".
use Rattle.std.specs.Prelude.{Bool, List, ℕ, eqb, ltb}
use Rattle.rules.specs.Tests.{both, either, any}
use Rattle.rules.specs.Stamps.{Access, Body}
use Rattle.rules.specs.Tables.{Result, Row}
use Rattle.rules.specs.Check.{Rule, check_by}

-- a "write of k above version v": one at w, of a register k that was read at v
unfoldable pub stale : ℕ → List Access → List Access → Bool
stale w writes reads = any (λ read. any (λ write. both (eqb read.register write.register) (ltb read.number w)) writes) reads

-- "A fires for any committed write of k above version v, also above s", of one row
unfoldable pub day_a : Rule
day_a counts s x r = both (counts r) (stale r.stamp r.body.writes x.reads)

-- an access among these and one among those are of one register
unfoldable pub common : List Access → List Access → Bool
common these those = any (λ a. any (λ b. eqb a.register b.register) those) these

-- "B fires when any committed read or write of k has a stamp above s", where T writes k, of one row
unfoldable pub day_b : Rule
day_b counts s x r = both (counts r) (both (ltb s r.stamp) (either (common r.body.reads x.writes) (common r.body.writes x.writes)))

-- the order of 01's rules, with these for A and B: B "giving the greatest committed or prepared one", and "C follows with prepared ones."
unfoldable pub day_check : List Row → ℕ → Body → Result
day_check = check_by day_a day_b

-- The result of one stamp that enough tables hold.
use Rattle.std.specs.Prelude.{Bool, cond, List, [], ◌∷◌, ℕ, eqb, ltb, leb}
use Rattle.std.specs.Prelude as std
use Rattle.std.proofs.Math.Option.{Option, none, some}
use Rattle.rules.specs.Tests.{both, count}
use Rattle.rules.specs.Tables.{Result, result_code, result_retry}
use Rattle.rows.specs.declared.row.RowFields.{RowFields}
use Rattle.gather.specs.declared.results.HeldResult.{HeldResult}

-- "1 to 4 tentative"
abbrev pub is_tentative : ℕ → Bool
is_tentative prepare = both (ltb 0 prepare) (ltb prepare 5)

-- a row with this prepare byte and retry stamp: "(RETRY stamps count as part of the result)"
abbrev pub has_codes : ℕ → ℕ → RowFields → Bool
has_codes prepare retry f = both (eqb f.prepare prepare) (eqb f.retry retry)

-- "a tentative result found in at least the agreement count of tables", by its bytes
abbrev pub enough_have : ℕ → List RowFields → ℕ → ℕ → Bool
enough_have agreement all prepare retry = both (is_tentative prepare) (leb agreement (count (has_codes prepare retry) all))

-- the first of these rows whose result enough of all rows have
unfoldable pub agreed_among : ℕ → List RowFields → List RowFields → std.Option HeldResult
agreed_among agreement all [] = std.None
agreed_among agreement all (f ∷ fs) = cond (enough_have agreement all f.prepare f.retry) (std.Some (record { code = f.prepare; retry = f.retry })) (agreed_among agreement all fs)

-- an agreed result as a row has it
abbrev pub agreed_as : Option Result → std.Option HeldResult
agreed_as none = std.None
agreed_as (some r) = std.Some (record { code = result_code r; retry = result_retry r })

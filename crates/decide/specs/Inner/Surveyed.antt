-- What all stamps of the used tables say together: 5, "other body", 6, "contradiction", and 7, "full".
use Rattle.std.specs.Prelude.{cond, List, ℕ, ◌+◌, ltb, length}
use Rattle.rules.specs.Tests.{either, any}
use Rattle.rules.specs.Tables.{Row, Table}
use Rattle.rules.specs.Merge.{rows_of, two_bodies, contradictory}
use Rattle.decide.specs.declared.survey.Survey.{Survey}

-- of these stamps
unfoldable pub surveyed : List Table → List ℕ → Survey
surveyed Ts ss = record {
  bodies = any (λ s. two_bodies (rows_of Ts s)) ss;
  contradiction = any (λ s. contradictory (rows_of Ts s)) ss;
  stamps = length ss;
}

-- with one stamp more, by its rows
abbrev pub with_stamp : List Row → Survey → Survey
with_stamp rs x = record {
  bodies = either x.bodies (two_bodies rs);
  contradiction = either x.contradiction (contradictory rs);
  stamps = x.stamps + 1;
}

-- "5 for one stamp with two bodies, 6 for two unequal finals or opposite outcomes"; 7 is for "a merge of more than 512 stamps"
abbrev pub survey_number : ℕ → Survey → ℕ
survey_number limit x = cond x.bodies 5 (cond x.contradiction 6 (cond (ltb limit x.stamps) 7 0))

-- What the code's results and verdicts stand for.
use Rattle.rules.specs.Tables.{Result, Result.OK, Result.ABORT, Result.ABSTAIN, Result.RETRY}
use Rattle.rules.specs.Tables as rules
use Rattle.rows.specs.declared.result.CheckResult.{CheckResult}
use Rattle.rows.specs.declared.result.CheckResult.TheVariants as given
use Rattle.rows.specs.declared.result.Verdict.{Verdict}
use Rattle.rows.specs.declared.result.Verdict.TheVariants.{Commit, Abort}

-- what a check gives
abbrev pub result_meant : CheckResult → Result
result_meant given.Ok = OK
result_meant given.Abort = ABORT
result_meant given.Abstain = ABSTAIN
result_meant (given.Retry stamp) = RETRY stamp

-- what was decided
abbrev pub verdict_meant : Verdict → rules.Verdict
verdict_meant Commit = rules.Verdict.commit
verdict_meant Abort = rules.Verdict.abort

-- How the outcomes of `check` come about.
use Rattle.std.proofs.Common.{ℕ, List, Result, Ok, Err, IfOk, IfErr, ap}
use Rattle.shift_checker.specs.declared.verdict.Verdict.{Verdict}
use Rattle.cell_walks.specs.Allowed.{IsEndedAt, Passed, Unasked}
use Rattle.cell_walks.specs.DiskTold.{DiskTold, IsUntouched}
use Rattle.cell_walks.specs.Observed.{FilesTold, observed}
use Rattle.cell_walks.specs.declared.early_end.EarlyEnd.{EarlyEnd}
use Rattle.cell_walks.proofs.Steps.{ended_at}
use Rattle.cell_texts.specs.Tests.{KnownCell, record_file}
use Rattle.cell_driver.specs.Driving.{Allowed, IsMade}
use Rattle.cell_commands.specs.JudgedFiles.{IsJudgedFile}
use Rattle.cell_commands.specs.Check.{check_record_file, judged, verdict_outcome}

module _ (files : FilesTold) (disk : DiskTold) (held : KnownCell) (name : List ℕ) (still : IsUntouched disk) where
  -- the record was read and judged, or was not read
  pub check_made : (made : Result Verdict EarlyEnd) → IfOk made (IsJudgedFile files held.cell name)
      → IfErr made (IsEndedAt files (record_file held.cell name)) → IsMade files disk (check_record_file name held) verdict_outcome made
  check_made (Ok verdict) is ended = Allowed (Passed is.blocks is.shown (ap verdict_outcome is.judged, still))
  check_made (Err end) is ended =
      Allowed (ended_at (observed files disk) Unasked (record_file held.cell name) (judged held) end ended still)

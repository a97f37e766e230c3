-- `check CELL RECORD`: whether a record is right, or the first line that isn't, and why.
use Rattle.std.specs.Prelude.{◌≡◌, ℕ, List, [], ◌∷◌}
use Rattle.record_text.specs.declared.blocks.Block.{Block}
use Rattle.shift_checker.specs.Judging.{judge}
use Rattle.shift_checker.specs.declared.verdict.Verdict.{Verdict}
use Rattle.shift_checker.specs.declared.verdict.Verdict.TheVariants.{Yes, No}
use Rattle.cell_walks.specs.Outcomes.{Outcome, printed}
use Rattle.cell_walks.specs.Walks.{Walk, Tests, Answers}
use Rattle.cell_walks.specs.declared.status.Status.{Status}
use Rattle.cell_walks.specs.declared.status.Status.TheVariants.{Done, Denied}
use Rattle.cell_texts.specs.Tests.{KnownCell, cell_file, record_file}
use Rattle.cell_commands.specs.Verdicts.{verdict_text}

-- the status of a verdict
abbrev pub verdict_status : Verdict → Status
verdict_status Yes = Done
verdict_status (No line why) = Denied

-- the same with its line
abbrev pub verdict_outcome : Verdict → Outcome
verdict_outcome verdict = printed (verdict_status verdict) (verdict_text verdict ∷ [])

-- what is answered for the blocks of a record
abbrev pub judged : KnownCell → List Block → Walk
judged held blocks = Answers λ input outcome. outcome ≡ verdict_outcome (judge held.cell blocks)

-- its walk from the cell on
abbrev pub check_record_file : List ℕ → KnownCell → Walk
check_record_file name held = Tests (record_file held.cell name) (judged held)

abbrev pub check : List ℕ → List ℕ → Walk
check cell record_name = Tests (cell_file cell) (check_record_file record_name)

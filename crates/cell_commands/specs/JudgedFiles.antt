-- The verdict on a record file.
use Rattle.std.specs.Prelude.{◌≡◌, ℕ, List, Ok}
use Rattle.cell_base.specs.declared.cells.Cell.{Cell}
use Rattle.record_text.specs.declared.blocks.Block.{Block}
use Rattle.shift_checker.specs.Judging.{judge}
use Rattle.shift_checker.specs.declared.verdict.Verdict.{Verdict}
use Rattle.cell_walks.specs.Observed.{FilesTold, ShowsFile}
use Rattle.cell_texts.specs.RecordReads.{record_reads}

-- the file is the record of blocks on which this is the verdict
pub record IsJudgedFile (files : FilesTold) (cell : Cell) (name : List ℕ) (verdict : Verdict) : Type 0 where
  pub blocks : List Block
  pub shown : ShowsFile files name (λ bytes. record_reads cell bytes (Ok blocks))
  pub judged : verdict ≡ judge cell blocks

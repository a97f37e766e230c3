-- What was read of a record, cut after one byte more than its limit, tells as much as the whole file.
use Rattle.std.proofs.Common.{inl, inr, ℕ, ◌+◌, subst, List, take, Ok, refl, arith, length-take}
use Rattle.outside_io.specs.Files.{IsReadOf}
use Rattle.cell_base.specs.declared.cells.Cell.{Cell}
use Rattle.cell_base.specs.Fits.{CellFits}
use Rattle.record_text.specs.BadLines.{IsRecordOf, RefusedAt}
use Rattle.record_text.specs.declared.blocks.Block.{Block}
use Rattle.record_text.specs.declared.record.TheConstants.{MAX_RECORD_BYTES}
use Rattle.record_text.specs.declared.record.RecordFault.{RecordFault}
use Rattle.record_text.specs.declared.record.RecordFault.TheVariants.{Bad, Memory as RecordMemory}
use Rattle.shift_checker.specs.declared.verdict.Verdict.{Verdict}
use Rattle.shift_checker.specs.Judging.{IsVerdictOn}
use Rattle.cell_walks.specs.Allowed.{ByMemory, IsEndedAt}
use Rattle.cell_walks.specs.Observed.{FilesTold, ShowsFile}
use Rattle.cell_walks.specs.Walks.{end_with}
use Rattle.cell_walks.specs.declared.early_end.Subject.TheVariants.{Input}
use Rattle.cell_walks.proofs.Steps.{ended_by_fault}
use Rattle.cell_texts.specs.RecordReads.{record_line, record_reads}
use Rattle.cell_texts.specs.Tests.{record_file}
use Rattle.cell_texts.proofs.Cuts.{held_of_read, uncut}
use Rattle.cell_commands.specs.JudgedFiles.{IsJudgedFile}

record_uncut : (cell : Cell) (blocks : List Block) (bytes : List ℕ) → IsRecordOf cell (take (MAX_RECORD_BYTES + 1) bytes) blocks
    → IsRecordOf cell bytes blocks
record_uncut cell blocks bytes is =
    subst (λ (read : List ℕ). IsRecordOf cell read blocks) (uncut MAX_RECORD_BYTES bytes is.short) is

bad_uncut : (cell : Cell) (line : ℕ) (bytes : List ℕ) → RefusedAt cell (take (MAX_RECORD_BYTES + 1) bytes) (Bad line)
    → RefusedAt cell bytes (Bad line)
bad_uncut cell line bytes (inl long) = inl (omega (arith, long.0, length-take (MAX_RECORD_BYTES + 1) bytes), long.1)
bad_uncut cell line bytes (inr bad) =
    subst (λ (read : List ℕ). RefusedAt cell read (Bad line)) (uncut MAX_RECORD_BYTES bytes bad.0) (inr bad)

module _ (files : FilesTold) (name read : List ℕ) (cell : Cell) (is : IsReadOf files.names name MAX_RECORD_BYTES read) where
  -- the bytes that were read are the text of these blocks, and so is the file
  blocks_read : (blocks : List Block) → CellFits cell → IsRecordOf cell read blocks
      → ShowsFile files name (λ bytes. record_reads cell bytes (Ok blocks))
  blocks_read blocks fits written =
      held_of_read (λ bytes. record_reads cell bytes (Ok blocks)) MAX_RECORD_BYTES
      (λ bytes so. (so.0, record_uncut cell blocks bytes so.1)) files.names name read is (fits, written)

  -- so the verdict on the bytes is that on the file
  pub blocks_judged : (verdict : Verdict) → CellFits cell → IsVerdictOn cell read verdict → IsJudgedFile files cell name verdict
  blocks_judged verdict fits is =
      record { blocks = is.blocks; shown = blocks_read is.blocks fits is.written; judged = is.judged }

  -- or a line of them is bad
  pub blocks_refused : (fault : RecordFault) → RefusedAt cell read fault
      → IsEndedAt files (record_file cell name) (end_with Input (record_line fault))
  blocks_refused RecordMemory refused = ByMemory refl
  blocks_refused (Bad line) refused =
      ended_by_fault files (record_file cell name) (Bad line)
      (held_of_read (λ bytes. RefusedAt cell bytes (Bad line)) MAX_RECORD_BYTES (bad_uncut cell line) files.names name read is refused)

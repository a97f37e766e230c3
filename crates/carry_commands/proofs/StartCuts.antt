-- What was read of a start file, cut after one byte more than its limit, tells as much as the whole file.
use Rattle.std.proofs.Common.{◌≡◌, inl, inr, ℕ, ◌+◌, ◌≤◌, List, length, take, Ok, Err, refl, subst, arith, length-take}
use Rattle.std.proofs.lemmas.Bool.{cases_lt}
use Rattle.std.proofs.lemmas.List.{take_all}
use Rattle.outside_io.specs.Files.{IsReadOf}
use Rattle.cell_base.specs.declared.cells.Cell.{Cell}
use Rattle.cell_base.specs.declared.requests.Request.{Request}
use Rattle.cell_base.specs.Fits.{CellFits}
use Rattle.record_text.specs.declared.record.RecordFault.{RecordFault}
use Rattle.record_text.specs.declared.record.RecordFault.TheVariants.{Bad, Memory}
use Rattle.record_text.specs.StartFiles.{IsStartOf, StartRefusedAt, start_reads}
use Rattle.record_text.specs.declared.start.TheConstants.{MAX_START_BYTES}
use Rattle.cell_walks.specs.Allowed.{ByMemory, IsEndedAt}
use Rattle.cell_walks.specs.Observed.{FilesTold, ShowsFile}
use Rattle.cell_walks.specs.Walks.{end_with}
use Rattle.cell_walks.specs.declared.early_end.Subject.TheVariants.{Input}
use Rattle.cell_walks.proofs.Steps.{ended_by_fault}
use Rattle.cell_texts.specs.RecordReads.{record_line}
use Rattle.cell_texts.proofs.Cuts.{held_of_read}
use Rattle.carry_commands.specs.Starts.{start_file}

abbrev cut : List ℕ → List ℕ
cut bytes = take (MAX_START_BYTES + 1) bytes

-- a file that is cut off is too long
uncut : (bytes : List ℕ) → length (cut bytes) ≤ MAX_START_BYTES → cut bytes ≡ bytes
uncut bytes short = elim (cases_lt MAX_START_BYTES (length bytes)) [
  | inl long ↦ absurd (omega (arith, long, short, length-take (MAX_START_BYTES + 1) bytes))
  | inr fits ↦ take_all (MAX_START_BYTES + 1) bytes (omega (arith, fits))
]

bad_uncut : (cell : Cell) (line : ℕ) (bytes : List ℕ) → StartRefusedAt cell (cut bytes) (Bad line) → StartRefusedAt cell bytes (Bad line)
bad_uncut cell line bytes (inl long) = inl (omega (arith, long.0, length-take (MAX_START_BYTES + 1) bytes), long.1)
bad_uncut cell line bytes (inr bad) = subst (λ (read : List ℕ). StartRefusedAt cell read (Bad line)) (uncut bytes bad.0) (inr bad)

module _ (files : FilesTold) (name read : List ℕ) (cell : Cell) (fits : CellFits cell)
    (is : IsReadOf files.names name MAX_START_BYTES read) where
  -- the bytes that were read are the lines of these requests, and so is the file
  pub requests_read : (requests : List Request) → IsStartOf cell read requests
      → ShowsFile files name (λ bytes. start_reads cell bytes (Ok requests))
  requests_read requests start =
      held_of_read (λ bytes. start_reads cell bytes (Ok requests)) MAX_START_BYTES
      (λ bytes so. (so.0, subst (λ (read : List ℕ). IsStartOf cell read requests) (uncut bytes so.1.short) so.1)) files.names name read is
      (fits, start)

  -- or a line of them is bad
  pub requests_refused : (fault : RecordFault) → StartRefusedAt cell read fault
      → IsEndedAt files (start_file cell name) (end_with Input (record_line fault))
  requests_refused Memory refused = ByMemory refl
  requests_refused (Bad line) refused =
      ended_by_fault files (start_file cell name) (Bad line)
      (held_of_read (λ bytes. start_reads cell bytes (Err (Bad line))) MAX_START_BYTES
      (λ bytes so. (so.0, bad_uncut cell line bytes so.1)) files.names name read is (fits, refused))

-- The faults of journals by number, each with its count, as their lines show them.
use Rattle.std.specs.Prelude.{ℕ}
use Rattle.journal_format.specs.declared.fault.JournalFault.{JournalFault}
use Rattle.journal_format.specs.declared.fault.JournalFault.TheVariants as journal
use Rattle.cell_texts.specs.FaultNumbers.{with_count, plain}
use Rattle.cell_texts.specs.declared.fault_codes.FaultCode.{FaultCode}

-- | Number | journal     |
-- |      1 | NotAJournal |
-- |      2 | OtherCell   |
-- |      3 | Damaged     |
-- |      4 | Long        |
-- |      5 | other shift |

-- the fault of a journal
abbrev pub journal_fault_code : JournalFault → FaultCode
journal_fault_code journal.NotAJournal = plain 1
journal_fault_code (journal.OtherCell offset) = with_count 2 offset
journal_fault_code (journal.Damaged offset) = with_count 3 offset
journal_fault_code (journal.Long length) = with_count 4 length

-- a grant in it is another shift's, of a session
abbrev pub other_shift_fault_code : ℕ → FaultCode
other_shift_fault_code session = with_count 5 session

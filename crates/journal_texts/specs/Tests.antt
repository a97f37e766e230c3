-- The journal of a command: what it is opened for, its room, and the line of each of its faults.
use Rattle.std.specs.Prelude.{codes, ℕ, List}
use Rattle.durable_cell.specs.declared.replays.TheConstants.{MAX_ROOM}
use Rattle.journal_format.specs.declared.fault.JournalFault.{JournalFault}
use Rattle.cell_walks.specs.Walks.{Journal, ToAdd, ToRead}
use Rattle.cell_texts.specs.Tests.{KnownCell}
use Rattle.cell_texts.specs.Texts.{refusal_text}
use Rattle.journal_texts.specs.FaultNumbers.{journal_fault_code}

-- the line of a fault of a journal
abbrev pub journal_line : JournalFault → List ℕ
journal_line why = refusal_text (codes "journal") (journal_fault_code why)

-- the journal of a cell, which is only read, status 6
abbrev pub to_read : KnownCell → Journal
to_read held =
    record { purpose = ToRead; cell = held.cell; text = held.text; room = MAX_ROOM; line = journal_line }

-- the same with room for so many grants, which may grow
abbrev pub to_add : KnownCell → ℕ → Journal
to_add held room = record { purpose = ToAdd; cell = held.cell; text = held.text; room = room; line = journal_line }

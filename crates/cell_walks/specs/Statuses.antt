-- The statuses of the program: the number of each, and which ends have it.
use Rattle.std.specs.Prelude.{ℕ, List, codes, ◌++◌, [], ◌∷◌, ⊤}
use Rattle.cell_walks.specs.declared.early_end.EarlyEnd.{EarlyEnd}
use Rattle.cell_walks.specs.declared.early_end.EarlyEnd.TheVariants.{NotRead, DeviceFailed, WantOfMemory, Refused}
use Rattle.cell_walks.specs.declared.early_end.Subject.{Subject}
use Rattle.cell_walks.specs.declared.early_end.Subject.TheVariants.{Words, Cell, Input, Journal, Command}
use Rattle.cell_walks.specs.declared.status.Status.{Status}
use Rattle.cell_walks.specs.declared.status.Status.TheVariants.{Done, Denied, NoCommand, ReadFault, CellRefused}
use Rattle.cell_walks.specs.declared.status.Status.TheVariants.{InputRefused, JournalRefused, DeviceFault}
use Rattle.cell_walks.specs.declared.status.Status.TheVariants.{SinkFault, NoMemory, CommandRefused}

-- | Number | Status         | When                                                          |
-- |      0 | Done           | the command did what it is for                                |
-- |      1 | Denied         | a record isn't right                                          |
-- |      2 | NoCommand      | the words are no command                                      |
-- |      3 | ReadFault      | a file could not be read                                      |
-- |      4 | CellRefused    | the bytes of a cell file are refused                          |
-- |      5 | InputRefused   | those of another file, or a word, are                         |
-- |      6 | JournalRefused | the journal is no journal of this cell, or none for the files |
-- |      7 | DeviceFault    | the device failed                                             |
-- |      8 | SinkFault      | the output failed                                             |
-- |      9 | NoMemory       | want of memory                                                |
-- |     10 | CommandRefused | what was read stands for something that can't be done         |
abbrev pub status_number : Status → ℕ
status_number Done = 0
status_number Denied = 1
status_number NoCommand = 2
status_number ReadFault = 3
status_number CellRefused = 4
status_number InputRefused = 5
status_number JournalRefused = 6
status_number DeviceFault = 7
status_number SinkFault = 8
status_number NoMemory = 9
status_number CommandRefused = 10

-- the status of a refusal
abbrev pub subject_status : Subject → Status
subject_status Words = NoCommand
subject_status Cell = CellRefused
subject_status Input = InputRefused
subject_status Journal = JournalRefused
subject_status Command = CommandRefused

-- the status of an early end
abbrev pub early_status : EarlyEnd → Status
early_status NotRead = ReadFault
early_status DeviceFailed = DeviceFault
early_status WantOfMemory = NoMemory
early_status (Refused refusal) = subject_status refusal.subject

-- the line of an early end
abbrev pub early_line : EarlyEnd → List ℕ
early_line NotRead = codes "read fault" ++ 10 ∷ []
early_line DeviceFailed = codes "device fault" ++ 10 ∷ []
early_line WantOfMemory = codes "want of memory" ++ 10 ∷ []
early_line (Refused refusal) = refusal.line

-- the output did not fail
abbrev pub IsTaken : Status → Type 0
IsTaken SinkFault = ⊥
IsTaken status = ⊤

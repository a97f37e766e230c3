-- The lines of the standby's commands.
use Rattle.std.specs.Prelude.{codes, ℕ, List, [], ◌∷◌, ◌++◌, ⊤}
use Rattle.std.specs.Fmt.{decimal}
use Rattle.cell_base.specs.declared.cells.Cell.{Cell}
use Rattle.record_text.specs.Fitting.{RefusalFits}
use Rattle.record_text.specs.Lines.{line_of, why_words}
use Rattle.standby_link.specs.declared.take_fault.TakeFault.{TakeFault}
use Rattle.standby_link.specs.declared.take_fault.TakeFault.TheVariants.{Halted, NotAFrame, Conflict, NoFit, NotGranted, Full, Device}

-- the line of a file that is no list of frames
abbrev pub frames_refused : List ℕ
frames_refused = codes "frames refused" ++ 10 ∷ []

-- the line of an index after the grants of a journal, of which there are so many
abbrev pub feed_refused : ℕ → List ℕ
feed_refused len = line_of (codes "feed" ∷ codes "refused" ∷ decimal len ∷ [])

-- the line of an answer
abbrev pub ack_line : ℕ → List ℕ
ack_line ack = line_of (codes "ack" ∷ decimal ack ∷ [])

-- why a frame is refused, in words; the other faults are no refusals
abbrev pub fault_words : Cell → TakeFault → List (List ℕ)
fault_words cell NotAFrame = codes "frame" ∷ []
fault_words cell (Conflict at kept) = codes "conflict" ∷ []
fault_words cell NoFit = codes "fit" ∷ []
fault_words cell (NotGranted why) = why_words cell why
fault_words cell (Halted at) = []
fault_words cell (Full len) = []
fault_words cell Device = []

-- a reason of it names what the cell has
abbrev pub FaultFits : Cell → TakeFault → Type 0
FaultFits cell (NotGranted why) = RefusalFits cell why
FaultFits cell why = ⊤

-- the line of a frame that is refused, with the index that its bytes carry
abbrev pub follow_refused : Cell → ℕ → TakeFault → List ℕ
follow_refused cell index why = line_of (codes "follow" ∷ codes "refused" ∷ decimal index ∷ fault_words cell why)

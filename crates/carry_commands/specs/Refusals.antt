-- The lines of what can't be done: parts that can't be carried, a start that is not granted, and a journal of other grants.
use Rattle.std.specs.Prelude.{codes, ℕ, List, [], ◌∷◌, ⊤}
use Rattle.std.specs.Fmt.{decimal}
use Rattle.cell_base.specs.declared.cells.Cell.{Cell}
use Rattle.cell_base.specs.declared.requests.Refusal.{Refusal}
use Rattle.cell_base.specs.declared.requests.Refusal.TheVariants.{JobLoaded, Saturated}
use Rattle.record_text.specs.Fitting.{RefusalFits}
use Rattle.record_text.specs.Lines.{line_of, why_words}
use Rattle.cell_texts.specs.FaultNumbers.{with_count}
use Rattle.cell_texts.specs.Texts.{refusal_text}
use Rattle.carry_commands.specs.declared.refusals.CarryFault.{CarryFault}
use Rattle.carry_commands.specs.declared.refusals.StartFault.{StartFault}
use Rattle.carry_commands.specs.declared.refusals.Uncarried.{Uncarried}
use Rattle.carry_commands.specs.declared.refusals.Uncarried.TheVariants.{NoType, NoPlace, NotAdmitted}

-- why a place of a part may be refused
abbrev pub IsOfPlace : Refusal → Type 0
IsOfPlace JobLoaded = ⊤
IsOfPlace (Saturated at count capacity) = ⊤
IsOfPlace why = ⊥

-- a refusal that a part may meet at a place of this cell, if it is one
abbrev pub UncarriedFits : Cell → Uncarried → Type 0
UncarriedFits new NoType = ⊤
UncarriedFits new NoPlace = ⊤
UncarriedFits new (NotAdmitted why) = IsOfPlace why × RefusalFits new why

-- why a part can't be carried, in words
abbrev pub uncarried_words : Cell → Uncarried → List (List ℕ)
uncarried_words new NoType = codes "type" ∷ []
uncarried_words new NoPlace = codes "place" ∷ []
uncarried_words new (NotAdmitted why) = why_words new why

-- the line of a part that can't be carried to this cell
abbrev pub carry_refused : Cell → CarryFault → List ℕ
carry_refused new fault = line_of (codes "carry" ∷ codes "refused" ∷ decimal fault.job.0 ∷ uncarried_words new fault.why)

-- the line of a start of which a request is refused
abbrev pub start_refused : Cell → StartFault → List ℕ
start_refused cell fault = line_of (codes "start" ∷ codes "refused" ∷ decimal fault.line ∷ why_words cell fault.why)

-- the line of a journal whose grant at this index is not that of the start: fault number 6 of a journal
abbrev pub other_start : ℕ → List ℕ
other_start at = refusal_text (codes "journal") (with_count 6 at)

-- The faults of a shift file and their places.
use Rattle.std.specs.Prelude.{ℕ, Some, None, Result}
use Rattle.cell_base.specs.declared.places.Place.{Place}
use Rattle.cell_base.specs.declared.places.Section.TheVariants.{OfSession}
use Rattle.cell_base.specs.declared.places.Field.{Field}
use Rattle.toml_walk.specs.declared.faults.DocumentFault.{DocumentFault}
use Rattle.toml_walk.specs.declared.faults.DocumentFault.TheVariants as document
use Rattle.toml_walk.specs.Outcomes.{with_fault, GivesOr}
use Rattle.step_text.specs.declared.faults.StepFault.{StepFault}
use Rattle.step_text.specs.declared.faults.StepFault.TheVariants as step
use Rattle.shift_file.specs.declared.faults.ShiftFault.{ShiftFault}
use Rattle.shift_file.specs.declared.faults.ShiftFault.TheVariants.{NotToml, WrongKey, WrongKind, BadStep, BadNumber}
use Rattle.shift_file.specs.declared.faults.ShiftFault.TheVariants.{UnknownName, Empty, TooMany, Memory}

-- the fault of a look-up in the document
abbrev pub shift_fault : DocumentFault → ShiftFault
shift_fault document.NotToml = NotToml
shift_fault (document.WrongKey place) = WrongKey place
shift_fault (document.WrongKind place) = WrongKind place
shift_fault (document.BadNumber place) = BadNumber place
shift_fault (document.Empty place) = Empty place
shift_fault (document.TooMany place count) = TooMany place count
shift_fault document.Memory = Memory

-- the fault of the text of a step at a place
abbrev pub step_fault : Place → StepFault → ShiftFault
step_fault place step.BadStep = BadStep place
step_fault place step.UnknownName = UnknownName place

-- a look-up, as a step of the walk
abbrev pub looked : {A : Type 0} → Result A DocumentFault → Result A ShiftFault
looked found = with_fault shift_fault found

-- what a call returned is what the walk gives, unless memory ran out
abbrev pub Gives : {X : Type 0} → Result X ShiftFault → Result X ShiftFault → Type 0
Gives result walk = GivesOr Memory result walk

-- a key of session k
abbrev pub of_session : ℕ → Field → Place
of_session k field = record { section = OfSession; item = k; field = field; at = None }

-- the element j of the array at a key of session k
abbrev pub in_session : ℕ → Field → ℕ → Place
in_session k field j = record { section = OfSession; item = k; field = field; at = Some j }

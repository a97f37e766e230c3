-- The faults of a cell file and their places.
use Rattle.std.specs.Prelude.{ℕ, Some, None, Result}
use Rattle.cell_base.specs.declared.places.Place.{Place}
use Rattle.cell_base.specs.declared.places.Section.TheVariants.{OfResource, OfJobType}
use Rattle.cell_base.specs.declared.places.Field.{Field}
use Rattle.toml_walk.specs.declared.faults.DocumentFault.{DocumentFault}
use Rattle.toml_walk.specs.declared.faults.DocumentFault.TheVariants as document
use Rattle.toml_walk.specs.Outcomes.{with_fault, GivesOr}
use Rattle.cell_file.specs.declared.faults.CellFault.{CellFault}
use Rattle.cell_file.specs.declared.faults.CellFault.TheVariants.{NotToml, WrongKey, WrongKind, BadNumber, TooMany, Empty, Memory}

-- the fault of a look-up in the document
abbrev pub cell_fault : DocumentFault → CellFault
cell_fault document.NotToml = NotToml
cell_fault (document.WrongKey place) = WrongKey place
cell_fault (document.WrongKind place) = WrongKind place
cell_fault (document.BadNumber place) = BadNumber place
cell_fault (document.Empty place) = Empty place
cell_fault (document.TooMany place count) = TooMany place count
cell_fault document.Memory = Memory

-- a look-up, as a step of the walk
abbrev pub looked : {A : Type 0} → Result A DocumentFault → Result A CellFault
looked found = with_fault cell_fault found

-- what a call returned is what the walk gives, unless memory ran out
abbrev pub Gives : {X : Type 0} → Result X CellFault → Result X CellFault → Type 0
Gives result walk = GivesOr Memory result walk

-- a key of resource i, and one of type i
abbrev pub of_resource : ℕ → Field → Place
of_resource i field = record { section = OfResource; item = i; field = field; at = None }

-- a key of a type
abbrev pub of_job_type : ℕ → Field → Place
of_job_type i field = record { section = OfJobType; item = i; field = field; at = None }

-- the element k of the array at a key of type i
abbrev pub in_job_type : ℕ → Field → ℕ → Place
in_job_type i field k = record { section = OfJobType; item = i; field = field; at = Some k }

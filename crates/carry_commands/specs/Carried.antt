-- The parts of one cell, carried to another: the request that places each there, or the first part that can't be placed, and why.
use Rattle.std.specs.Prelude.{ℕ, Bool, not, ◌||◌, ◌&&◌, if◌then◌else◌, position, List, [], ◌∷◌, Option, Some, None, Result, Ok, Err}
use Rattle.std.specs.Str.{bytes_eq}
use Rattle.cell_base.specs.declared.cells.Cell.{Cell}
use Rattle.cell_base.specs.declared.cells.TypeId.{TypeId}
use Rattle.cell_base.specs.declared.requests.JobId.{JobId}
use Rattle.cell_base.specs.declared.requests.Part.{Part}
use Rattle.cell_base.specs.declared.requests.Reply.{Reply}
use Rattle.cell_base.specs.declared.requests.Reply.TheVariants.{Granted, Refused}
use Rattle.cell_base.specs.declared.requests.Request.{Request}
use Rattle.cell_base.specs.declared.requests.Request.TheVariants.{Place}
use Rattle.cell_base.specs.Faults.{◌>>=◌}
use Rattle.cell_base.specs.Named.{resource_name, type_name, type_names}
use Rattle.cell_base.specs.Outcomes.{reply_to, state_after}
use Rattle.cell_base.specs.Stages.{Stage, is_stage, resource_at, stage, stage_of, works_at}
use Rattle.carry_commands.specs.declared.refusals.CarryFault.{CarryFault}
use Rattle.carry_commands.specs.declared.refusals.Uncarried.{Uncarried}
use Rattle.carry_commands.specs.declared.refusals.Uncarried.TheVariants.{NoType, NoPlace, NotAdmitted}

-- the type of the same name in the other cell
abbrev pub type_alike : Cell → Cell → TypeId → Option ℕ
type_alike old new kind = position (bytes_eq (type_name old kind.0)) (type_names new.types)

-- the other cell has that stage, on a resource of the same name
abbrev pub is_alike : Cell → Cell → Stage → Stage → Bool
is_alike old new from to =
    is_stage new to && bytes_eq (resource_name old (resource_at old from)) (resource_name new (resource_at new to))

-- the request that places the part at the same place of a type: done where it was, or where the stage does not work
abbrev pub placed : Cell → Part → ℕ → Request
placed new part kind =
    Place (part.done || not (works_at new (stage kind part.place))) (record { 0 = kind }) part.job part.place

-- the part goes to the type of its name, at the same place, on a resource of the same name
abbrev pub placed_as : Cell → Cell → Part → Option ℕ → Result Request Uncarried
placed_as old new part None = Err NoType
placed_as old new part (Some kind) =
    if is_alike old new (stage_of part) (stage kind part.place) then Ok (placed new part kind) else Err NoPlace

-- by the reply to that request
abbrev pub unless_refused : Reply → Request → Result Request Uncarried
unless_refused Granted request = Ok request
unless_refused (Refused why) request = Err (NotAdmitted why)

-- the request that places a part, where the policy admits it after the parts that are placed
abbrev pub carried_part : Cell → Cell → List Part → Part → Result Request Uncarried
carried_part old new standing part = do
  request ← placed_as old new part (type_alike old new part.kind)
  unless_refused (reply_to new standing request) request

-- the fault of a job
abbrev pub of_job : {A : Type 0} → JobId → Result A Uncarried → Result A CarryFault
of_job job (Ok value) = Ok value
of_job job (Err why) = Err (record { job = job; why = why })

-- the requests that place parts after those that are placed, in their order; or the first part that can't be placed
abbrev pub carried_after : Cell → Cell → List Part → List Part → Result (List Request) CarryFault
carried_after old new standing [] = Ok []
carried_after old new standing (part ∷ parts) = do
  request ← of_job part.job (carried_part old new standing part)
  requests ← carried_after old new (state_after new standing request) parts
  Ok (request ∷ requests)

-- the same of all parts, into the empty cell
abbrev pub carried : Cell → Cell → List Part → Result (List Request) CarryFault
carried old new parts = carried_after old new [] parts

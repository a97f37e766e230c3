-- Which part a request is about, and where it stands.
use Rattle.std.specs.Prelude.{ℕ, Bool, Option, List, position}
use Rattle.cell_base.specs.declared.cells.Cell.{Cell}
use Rattle.cell_base.specs.declared.requests.Part.{Part}
use Rattle.cell_base.specs.declared.requests.Request.{Request}
use Rattle.cell_base.specs.declared.requests.Request.TheVariants.{Load, Process, Move, Unload, Place}
use Rattle.cell_base.specs.Policy.{is_of_job}
use Rattle.cell_base.specs.Outcomes.{is_waiting_on}

-- whether a part waits on the machine of the request, or is of its job
abbrev pub is_asked : Cell → Request → Part → Bool
is_asked cell (Load job kind) = is_of_job job
is_asked cell (Process machine) = is_waiting_on cell machine.0
is_asked cell (Move job branch) = is_of_job job
is_asked cell (Unload job) = is_of_job job
is_asked cell (Place done kind job place) = is_of_job job

-- where the first such part stands, if there is one
abbrev pub place_asked : Cell → List Part → Request → Option ℕ
place_asked cell parts request = position (is_asked cell request) parts

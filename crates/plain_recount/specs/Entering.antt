-- Which neighborhoods a part enters.
use Rattle.std.specs.Prelude.{ℕ, Bool, false, not, ◌&&◌, Option, Some, None}
use Rattle.cell_base.specs.declared.cells.Cell.{Cell}
use Rattle.cell_base.specs.declared.requests.Part.{Part}
use Rattle.cell_base.specs.Stages.{stage_of}
use Rattle.cell_base.specs.Neighborhoods.{leads}

-- a part, where there is one, is counted in the neighborhood of a resource
abbrev pub is_counted : Cell → Option Part → ℕ → Bool
is_counted cell None r = false
is_counted cell (Some part) r = leads cell (stage_of part) r

-- a part is counted there that comes in the place of one, if any, that isn't
abbrev pub enters : Cell → Option Part → Part → ℕ → Bool
enters cell present part r = leads cell (stage_of part) r && not (is_counted cell present r)

-- The capacities of the resources so far.
use Rattle.std.proofs.Common.{◌≡◌, map, take}
use Rattle.cell_base.specs.declared.cells.Resource.{Resource}
use Rattle.admission_core.proofs.admission.no_parts.Given as goal

abbrev pub invariant-loop-resource : goal.invariant-loop-resource
invariant-loop-resource l = l.capacities ≡ map (λ (r : Resource). r.capacity) (take l.resource-index l.cell.resources)

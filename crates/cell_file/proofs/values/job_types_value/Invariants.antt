-- The values so far are those of the types so far.
use Rattle.std.proofs.Common.{◌≡◌, map, take}
use Rattle.toml.specs.View.{view}
use Rattle.cell_base.specs.Named.{resource_names}
use Rattle.cell_file.specs.Printing.{job_type_data}
use Rattle.cell_file.proofs.values.job_types_value.Given as goal

abbrev pub invariant-loop-job_type : goal.invariant-loop-job_type
invariant-loop-job_type l =
    map view l.values.items ≡ map (job_type_data l.version (resource_names l.resources)) (take l.job_type-index l.types)

-- The types that are left decide.
use Rattle.std.proofs.Common.{◌≡◌, drop}
use Rattle.std.specs.List.{list_all}
use Rattle.cell_file.specs.Printing.{is_plain}
use Rattle.cell_file.proofs.versions.version_of.Given as goal

abbrev pub invariant-loop-job_type : goal.invariant-loop-job_type
invariant-loop-job_type l = list_all is_plain (drop l.job_type-index l.cell.types) ≡ list_all is_plain l.cell.types

-- The places that are left decide.
use Rattle.std.proofs.Common.{◌≡◌, drop}
use Rattle.cell_file.specs.Printing.{are_places_after, is_plain}
use Rattle.cell_file.proofs.versions.is_plain.Given as goal

abbrev pub invariant-loop-place : goal.invariant-loop-place
invariant-loop-place l = are_places_after l.places l.place (drop l.place l.job_type.next) ≡ is_plain l.job_type

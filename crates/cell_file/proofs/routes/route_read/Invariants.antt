-- The steps so far are those of the elements so far.
use Rattle.std.proofs.Common.{◌≡◌, ◌<◌, [], length, All}
use Rattle.toml_walk.specs.Documents.{texts}
use Rattle.toml_walk.proofs.Each.{from_index}
use Rattle.cell_file.specs.Routes.{next_step}
use Rattle.cell_file.proofs.routes.route_read.Given as goal

abbrev pub invariant-loop-k : goal.invariant-loop-k
invariant-loop-k l =
    let step = next_step l.i (texts l.names.keys) in
    record {
      so_far : from_index step l.found l.items l.k ≡ from_index step [] l.items 0;
      count : length l.found ≡ l.k;
      fit : All (λ s. s.on.0 < length l.names.keys) l.found;
    }

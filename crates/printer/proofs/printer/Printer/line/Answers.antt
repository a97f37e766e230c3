-- It is printed as its bytes.
use Rattle.std.proofs.Common.{List, ℕ, [], ◌∷◌, ap}
use Rattle.printer.proofs.Sequences.{prints_as}
use Rattle.printer.proofs.printer.Printer.line.Goals as goal

pub returns : goal.returns
returns g c = prints_as (ap (λ (line : List ℕ). line ∷ []) c.bytes.ensures.value) c.piece.ensures

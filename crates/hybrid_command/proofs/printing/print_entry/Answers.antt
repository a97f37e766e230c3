-- Its line is one piece.
use Rattle.std.proofs.Common.{List, ℕ, [], ◌∷◌, ap, ◌∙◌}
use Rattle.printer.proofs.Sequences.{prints_as}
use Rattle.hybrid_command.proofs.printing.print_entry.Goals as goal

pub returns : goal.returns
returns g c =
    prints_as (ap (λ (line : List ℕ). line ∷ []) (c.as_slice.ensures.value ∙ c.entry_line.ensures)) c.piece.ensures

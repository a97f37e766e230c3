-- One resource more.
use Rattle.std.proofs.Common.{List, ℕ, [], ◌∷◌, ap, sym}
use Rattle.lists.proofs.Growing.{map_next}
use Rattle.order_commands.specs.Lines.{order_line}
use Rattle.printer.proofs.Sequences.{prints_as, prints_more}
use Rattle.order_commands.proofs.orders.print_orders.Goals as goal

pub loop-r-preserved : goal.loop-r-preserved
loop-r-preserved g c =
    prints_as (sym (map_next (order_line c.args.cell.now c.args.orders.now) c.loop-r.r))
    (prints_more c.loop-r.invariant (prints_as (ap (λ (line : List ℕ). line ∷ []) c.order_line.ensures) c.line.ensures))

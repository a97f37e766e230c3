-- The line of the resource, and those of its parts.
use Rattle.std.proofs.Common.{List, ◌∙◌, ap, map}
use Rattle.cell_base.specs.declared.cells.Cell.{Cell}
use Rattle.cell_base.specs.declared.requests.Part.{Part}
use Rattle.look_commands.specs.Parts.{part_line, parts_on}
use Rattle.look_commands.proofs.Standing.{line_made}
use Rattle.printer.proofs.Sequences.{prints_as, prints_more}
use Rattle.look_commands.proofs.locating.print_resource.Goals as goal

pub returns : goal.returns
returns g c =
    let core = c.args.core.now in
    let r = c.args.r.0 in
    prints_as
    (line_made core.cell c.cell.result.now c.cell-2.result.now core.parts c.args.parts.now r c.held_on-held.result c.count.result
    c.resource_line.result c.resource_line.ensures c.cell-2.ensures.cell c.held_on-held.ensures c.cell.ensures.cell c.requires.listed
    c.count.ensures)
    (prints_more c.line.ensures
    (prints_as
    (ap (λ (on : Cell). map (part_line on) (parts_on on c.args.parts.now r)) c.cell-3.ensures.cell
    ∙ ap (λ (parts : List Part). map (part_line core.cell) (parts_on core.cell parts r)) c.requires.listed)
    c.print_parts_on.ensures))

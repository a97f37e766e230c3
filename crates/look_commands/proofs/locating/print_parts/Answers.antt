-- One resource more.
use Rattle.std.proofs.Common.{sym}
use Rattle.policy_laws.proofs.Growing.{join_next}
use Rattle.look_commands.specs.Parts.{resource_lines}
use Rattle.printer.proofs.Sequences.{prints_as, prints_more}
use Rattle.look_commands.proofs.locating.print_parts.Goals as goal

pub loop-r-preserved : goal.loop-r-preserved
loop-r-preserved g c =
    let core = c.args.core.now in
    prints_as (sym (join_next (resource_lines core.cell core.parts) c.loop-r.r)) (prints_more c.loop-r.invariant c.print_resource.ensures)

-- The disk is not touched.
use Rattle.std.proofs.Common.{ap, refl}
use Rattle.cell_base.specs.declared.cells.Cell.{Cell}
use Rattle.refusal_reason.specs.Shown.{show_lines}
use Rattle.cell_walks.specs.Outcomes.{done}
use Rattle.cell_driver.specs.Driving.{Allowed, Starved}
use Rattle.cell_driver.proofs.Driven.{untouched_by}
use Rattle.cell_commands.proofs.show.ShowCommand.answer.Goals as goal

pub returns-in-Ok-clause-allowed : goal.returns-in-Ok-clause-allowed
returns-in-Ok-clause-allowed g c =
    Allowed (ap (λ (on : Cell). done (show_lines on)) c.in-Ok.ensures.cell, untouched_by g.D.Disk c.args.disk (g.met.D.Disk.only_now c.args.disk))

pub returns-clause-allowed : goal.returns-clause-allowed
returns-clause-allowed g c =
    rw (c.ended.ensures.made, c.ended.ensures.disk)
    (Starved refl (untouched_by g.D.Disk c.args.disk (g.met.D.Disk.only_now c.args.disk)))

-- Why the next frame is refused is told by its line.
use Rattle.std.proofs.Common.{◌∷◌, [], ◌∙◌, sym, ap, List, ℕ}
use Rattle.cell_base.specs.declared.cells.Cell.{Cell}
use Rattle.cell_walks.specs.Outcomes.{Outcome}
use Rattle.printer.proofs.Sequences.{prints_as}
use Rattle.standby_commands.specs.Following.{ended_by}
use Rattle.standby_commands.specs.Lines.{follow_refused}
use Rattle.standby_commands.proofs.FollowPrinting.{told_so}
use Rattle.standby_commands.proofs.follow.print_end.Goals as goal

pub returns-clause-printed : goal.returns-clause-printed
returns-clause-printed g c =
    let core = c.args.followed.now.core in let stop = c.in-Some.stop in
    prints_as
    (ap (λ (line : List ℕ). line ∷ [])
    (c.follow_refused.ensures ∙ ap (λ (cell : Cell). follow_refused cell stop.index stop.why) c.cell.ensures.cell)
    ∙ ap (λ (o : Outcome). o.pieces)
    (sym (told_so core.cell stop.index stop.why c.in_default-why.not-Device) ∙ ap (ended_by core) (sym c.in-Some.is)))
    c.line-2.ensures

pub returns-clause-status : goal.returns-clause-status
returns-clause-status g c =
    let core = c.args.followed.now.core in let stop = c.in-Some.stop in
    ap (λ (o : Outcome). o.status)
    (sym (told_so core.cell stop.index stop.why c.in_default-why.not-Device) ∙ ap (ended_by core) (sym c.in-Some.is))

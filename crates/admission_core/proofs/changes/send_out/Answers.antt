-- The part stands at a stage, and its resource may be free without it.
use Rattle.std.proofs.Common.{List, subst, sym}
use Rattle.cell_base.specs.declared.requests.Part.{Part}
use Rattle.admission_core.specs.Occupied.{IsMarked}
use Rattle.admission_core.proofs.Marking.{marked_without}
use Rattle.admission_core.proofs.Moving.{part_known}
use Rattle.admission_core.proofs.changes.send_out.Goals as goal

pub row_of-here-requires : goal.row_of-here-requires
row_of-here-requires c =
    (part_known c.args.table.now c.args.tally.now.parts.parts c.args.found.part.job c.args.found.part c.requires.sound.admitted
    c.requires.found).stage

pub unmark_free-requires-clause-marked : goal.unmark_free-requires-clause-marked
unmark_free-requires-clause-marked c =
    subst (λ (parts : List Part). IsMarked c.args.table.now parts c.args.occupied.now) (sym c.take_out.ensures.parts)
    (marked_without c.args.table.now c.args.tally.now.parts.parts c.args.occupied.now c.requires.marked c.args.found.part.job)

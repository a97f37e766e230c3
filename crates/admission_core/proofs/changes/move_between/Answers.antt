-- The part stands at a stage, and where it comes is marked.
use Rattle.std.proofs.Common.{List, subst, sym}
use Rattle.cell_base.specs.declared.requests.Part.{Part}
use Rattle.cell_base.specs.Outcomes.{without}
use Rattle.admission_core.specs.Occupied.{IsMarked}
use Rattle.admission_core.proofs.Moving.{part_known}
use Rattle.admission_core.proofs.Marking.{marked_come, marked_without}
use Rattle.admission_core.proofs.changes.move_between.Goals as goal

pub row_of-here-requires : goal.row_of-here-requires
row_of-here-requires c =
    (part_known c.args.table.now c.args.tally.now.parts.parts c.args.found.part.job c.args.found.part c.requires.sound.admitted
    c.requires.found).stage

pub unmark_free-requires-clause-marked : goal.unmark_free-requires-clause-marked
unmark_free-requires-clause-marked c =
    let cell = c.args.table.now in
    let parts = c.args.tally.now.parts.parts in
    let left = without parts c.args.found.part.job in
    subst (λ (parts : List Part). IsMarked cell parts c.mark.new.self) (sym c.update_tables.ensures.parts)
    (marked_come cell left c.args.occupied.now (marked_without cell parts c.args.occupied.now c.requires.marked c.args.found.part.job)
    c.mark.new.self c.args.next c.row_of-there.result.on c.row_of-there.ensures.on c.mark.ensures.ranks c.mark.ensures.resources
    c.mark.ensures.marks)

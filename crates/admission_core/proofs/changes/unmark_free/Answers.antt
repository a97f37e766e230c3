-- No part is found on the resource.
use Rattle.std.specs.Prelude.{is_some}
use Rattle.std.proofs.Common.{◌≡◌, ◌==◌, None, find, ap, sym, ◌∙◌}
use Rattle.std.specs.Option.{option_map}
use Rattle.cell_base.specs.Plans.{resource_of_part}
use Rattle.part_table.specs.declared.found.Found.{Found}
use Rattle.admission_core.proofs.Moving.{none_flagged}
use Rattle.admission_core.proofs.Marking.{marked_free}
use Rattle.admission_core.proofs.changes.unmark_free.Goals as goal

pub find_on-requires-clause-told : goal.find_on-requires-clause-told
find_on-requires-clause-told c = ap is_some c.requires.tallied.same_cell

pub returns-then-is_none : goal.returns-then-is_none
returns-then-is_none c =
    let parts = c.args.tally.now.parts.parts in
    let nobody : find (λ part. resource_of_part c.args.table.now part == c.args.from.0) parts ≡ None =
    sym (c.find_on.ensures c.args.table.now c.requires.tallied.same_cell)
    ∙ ap (option_map (λ (found : Found). found.part))
    (none_flagged c.find_on.result c.is_none.result c.is_none.ensures c.if-is_none.true) in
    marked_free c.args.table.now parts c.args.occupied.now c.requires.marked c.unmark.new.self c.args.from.0 nobody c.unmark.ensures.ranks
    c.unmark.ensures.resources c.unmark.ensures.marks

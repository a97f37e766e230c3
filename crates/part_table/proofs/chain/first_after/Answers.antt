-- From the place that was first the way leads to the next one.
use Rattle.part_table.proofs.Seeking.{after_lost}
use Rattle.part_table.proofs.chain.first_after.Goals as goal

pub returns-then-first-at : goal.returns-then-first-at
returns-then-first-at c r below here was =
    c.seek.ensures r below
    (rw (c.next.ensures, c.index-links-at.is)
    (after_lost c.args.links.now c.args.waiting r c.args.at _ below c.requires.inside c.requires.linked c.args.first c.if-first-at.true
    here was))

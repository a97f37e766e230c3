-- Each step goes to the next place that was told the resource.
use Rattle.std.proofs.Common.{sym, arith, ◌∙◌, map, length}
use Rattle.part_table.specs.Chains.{link_entries, told_key, key_of}
use Rattle.part_table.proofs.Firsts.{way_ended}
use Rattle.part_table.proofs.Seeking.{passed_on, found_at, goes_on}
use Rattle.part_table.proofs.chain.seek.Goals as goal

pub loop-at-preserved : goal.loop-at-preserved
loop-at-preserved c r below way =
    rw (c.next-at.ensures, c.index-links-at.is)
    (passed_on c.args.links.now c.args.waiting r c.loop-at.at _ below c.loop-at-test.true c.requires.linked
    (c.loop-at.invariant r below way) (rw c.index-links-at.is at (sym c.is_sought.ensures ∙ c.if-is_sought.false)))

pub loop-at-smaller : goal.loop-at-smaller
loop-at-smaller c =
    rw (c.next-at.ensures, c.index-links-at.is)
    (goes_on c.args.links.now c.args.waiting 0 c.loop-at.at _ (omega arith) c.loop-at-test.true c.requires.linked)

pub returns-then-is_sought : goal.returns-then-is_sought
returns-then-is_sought c r below way =
    found_at c.args.links.now c.args.waiting r c.loop-at.at _ below c.loop-at-test.true c.requires.linked
    (c.loop-at.invariant r below way) (rw c.index-links-at.is at (sym c.is_sought.ensures ∙ c.if-is_sought.true))

pub returns : goal.returns
returns c r below way =
    way_ended (map (key_of c.args.waiting) (link_entries c.args.links.now)) (map told_key (link_entries c.args.links.now))
    (length c.args.links.now) r c.loop-at.at (c.loop-at.invariant r below way) c.requires.few c.loop-at-test.false

-- Nothing was added to the journal.
use Rattle.std.specs.Option.{option_to_list}
use Rattle.std.proofs.Common.{List, [], Option, subst}
use Rattle.cell_base.specs.declared.shifts.Grant.{Grant}
use Rattle.cell_walks.specs.Allowed.{StandsForAdded}
use Rattle.cell_walks.specs.DiskTold.{disk_told}
use Rattle.journal_texts.proofs.Added.{stands_for_added}
use Rattle.journal_texts.proofs.recorded.give_back.Goals as goal

pub returns-clause-stands : goal.returns-clause-stands
returns-clause-stands g c =
    rw c.ended.ensures.disk
    (let durable = c.args.durable in
    let disk = disk_told g.D.Disk.reads_as g.D.Disk.may_leave g.D.Disk.moment g.D.Disk.left_since g.D.Disk.faults durable.entry
    c.finish-disk.result.disk in
    subst (λ (unsure : Option Grant). StandsForAdded disk durable.text durable.opening [] (option_to_list unsure)) c.requires.fresh.unsure
    (subst (λ (added : List Grant). StandsForAdded disk durable.text durable.opening added (option_to_list durable.unsure))
    c.requires.fresh.added
    (stands_for_added g.D.Disk.reads_as g.D.Disk.may_leave g.D.Disk.moment g.D.Disk.left_since g.D.Disk.faults durable
    c.finish-disk.ensures.keeps_disk c.finish-disk.result.disk c.finish-disk.ensures.disk)))

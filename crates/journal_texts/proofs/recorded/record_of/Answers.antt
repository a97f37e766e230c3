-- The parts of the durable cell make its record.
use Rattle.std.proofs.Common.{sym, ap, ◌∙◌}
use Rattle.cell_base.specs.Scripts.{holds_halt}
use Rattle.cell_walks.specs.DiskTold.{disk_told}
use Rattle.journal_texts.proofs.Added.{stands_for_added}
use Rattle.journal_texts.proofs.Recording.{halted_record, halted_stands, taken_fit, whole_record, whole_stands}
use Rattle.journal_texts.proofs.recorded.record_of.Goals as goal

pub returns-then-halted-clause-recorded : goal.returns-then-halted-clause-recorded
returns-then-halted-clause-recorded g c =
    let done = c.finish-disk in
    halted_record c.args.number c.args.durable done.ensures.kept c.requires done.result.core done.result.after
    done.result.history done.ensures.core done.ensures.after done.ensures.history
    (sym (c.has_halted-halted.ensures ∙ ap holds_halt (c.as_slice.ensures ∙ done.ensures.history)) ∙ c.if-halted.true)

pub returns-then-halted-clause-stands : goal.returns-then-halted-clause-stands
returns-then-halted-clause-stands g c =
    let done = c.finish-disk in
    halted_stands c.args.number c.args.durable done.ensures.kept c.requires done.result.core done.result.after
    done.result.history done.ensures.core done.ensures.after done.ensures.history
    (sym (c.has_halted-halted.ensures ∙ ap holds_halt (c.as_slice.ensures ∙ done.ensures.history)) ∙ c.if-halted.true)
    (disk_told g.D.Disk.reads_as g.D.Disk.may_leave g.D.Disk.moment g.D.Disk.left_since g.D.Disk.faults c.args.durable.entry
    done.result.disk)
    (stands_for_added g.D.Disk.reads_as g.D.Disk.may_leave g.D.Disk.moment g.D.Disk.left_since g.D.Disk.faults c.args.durable
    done.ensures.keeps_disk done.result.disk done.ensures.disk)

pub returns-then-halted-clause-fits : goal.returns-then-halted-clause-fits
returns-then-halted-clause-fits g c =
    let done = c.finish-disk in
    taken_fit c.args.number c.args.durable done.ensures.kept c.requires done.result.core done.result.after
    done.result.history done.ensures.core done.ensures.after done.ensures.history

pub returns-clause-recorded : goal.returns-clause-recorded
returns-clause-recorded g c =
    let done = c.finish-disk in
    whole_record c.args.number c.args.durable done.ensures.kept c.requires done.result.core done.result.after
    done.result.history done.ensures.core done.ensures.after done.ensures.history
    (sym (c.has_halted-halted.ensures ∙ ap holds_halt (c.as_slice.ensures ∙ done.ensures.history)) ∙ c.if-halted.false)

pub returns-clause-stands : goal.returns-clause-stands
returns-clause-stands g c =
    let done = c.finish-disk in
    whole_stands c.args.number c.args.durable done.ensures.kept c.requires done.result.core done.result.after
    done.result.history done.ensures.core done.ensures.after done.ensures.history
    (sym (c.has_halted-halted.ensures ∙ ap holds_halt (c.as_slice.ensures ∙ done.ensures.history)) ∙ c.if-halted.false)
    (disk_told g.D.Disk.reads_as g.D.Disk.may_leave g.D.Disk.moment g.D.Disk.left_since g.D.Disk.faults c.args.durable.entry
    done.result.disk)
    (stands_for_added g.D.Disk.reads_as g.D.Disk.may_leave g.D.Disk.moment g.D.Disk.left_since g.D.Disk.faults c.args.durable
    done.ensures.keeps_disk done.result.disk done.ensures.disk)

pub returns-clause-fits : goal.returns-clause-fits
returns-clause-fits g c =
    let done = c.finish-disk in
    taken_fit c.args.number c.args.durable done.ensures.kept c.requires done.result.core done.result.after
    done.result.history done.ensures.core done.ensures.after done.ensures.history

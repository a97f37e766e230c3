-- What was added is on each image now.
use Rattle.std.proofs.Common.{length, subst}
use Rattle.durable_cell.specs.Acknowledged.{HasSince}
use Rattle.durable_cell.specs.DurableState.{DurableState, seen}
use Rattle.durable_cell.proofs.Acknowledging.{has_now}
use Rattle.durable_cell.proofs.durable.Durable.core.Goals as goal

pub returns-clause-acknowledged : goal.returns-clause-acknowledged
returns-clause-acknowledged g c =
    let i = c.self.inside in
    let old = seen i.entry i.found i.core i.text i.journal (g.G.Recall.grants i.opening) i.history.items i.added.items i.unsure i.limit in
    subst (λ (d : DurableState _). HasSince g.D.Disk.reads_as g.D.Disk.moment g.D.Disk.left_since d (g.D.Disk.moment d.disk)
    (length d.added)) c.self.view_is
    (has_now g.D.Disk.reads_as g.D.Disk.may_leave g.D.Disk.moment g.D.Disk.left_since g.D.Disk.faults old g.met.D.Disk.only_now
    c.self.invariant.1)

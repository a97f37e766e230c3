-- No step is done, so time stands still.
use Rattle.std.proofs.Common.{refl}
use Rattle.outside_io.proofs.Stepping.{stands}
use Rattle.outside_io.proofs.mem_disk.MemDiskDisk.len.Goals as goal

pub returns-then-fails_now-clause-time : goal.returns-then-fails_now-clause-time
returns-then-fails_now-clause-time c =
    let self = c.self.inside in
    rw (← c.self.view_is) (stands self.first.items self.steps.items self.steps.items self.bytes.items self.same refl)

pub returns-clause-time : goal.returns-clause-time
returns-clause-time c =
    let self = c.self.inside in
    rw (← c.self.view_is) (stands self.first.items self.steps.items self.steps.items self.bytes.items self.same refl)

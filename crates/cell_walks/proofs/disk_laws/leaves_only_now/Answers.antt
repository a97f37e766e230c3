-- A law of disks.
use Rattle.cell_walks.proofs.disk_laws.leaves_only_now.Goals as goal

pub returns : goal.returns
returns g c = g.met.D.Disk.only_now c.args.disk.now

-- A law of disks.
use Rattle.cell_walks.proofs.disk_laws.reads_an_image.Goals as goal

pub returns : goal.returns
returns g c = g.met.D.Disk.reads_now c.args.disk.now

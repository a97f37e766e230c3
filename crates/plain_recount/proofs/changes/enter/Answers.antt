-- There is room for a part that is granted to enter.
use Rattle.std.proofs.Common.{arith, ◌<◌, length}
use Rattle.cell_base.specs.Fits.{units_of}
use Rattle.policy_laws.proofs.Granting.{entry-granted, without-absent}
use Rattle.policy_laws.proofs.Room.{room_for}
use Rattle.plain_recount.proofs.changes.enter.Goals as goal

pub push_reserved-requires : goal.push_reserved-requires
push_reserved-requires c =
    let cell = c.args.table.now in
    let enters = entry-granted cell c.args.parts.now.items c.args.part c.requires.granted in
    let room : length c.args.parts.now.items < units_of cell.resources =
    rw (without-absent c.args.parts.now.items c.args.part.job enters.absent) at
    (room_for cell c.requires.sound.fits c.args.parts.now.items c.args.part c.requires.sound.admitted c.requires.stage enters.within) in
    omega (arith, c.args.parts.now.ok.0, c.requires.sound.enough)

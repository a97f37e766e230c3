-- The journal is read, or the command ends there.
use Rattle.cell_walks.specs.DiskTold.{disk_seen}
use Rattle.cell_walks.specs.Observed.{files_seen}
use Rattle.cell_texts.specs.Tests.{known}
use Rattle.look_commands.proofs.Finding.{grants_made}
use Rattle.look_commands.proofs.grants.GrantsCommand.answer.Goals as goal

pub returns-clause-allowed : goal.returns-clause-allowed
returns-clause-allowed g c =
    grants_made (files_seen g.F.Files c.args._files.now c.args._files.now) (disk_seen g.D.Disk c.args.disk c.find_grants.result.disk)
    (known c.args.held) c.requires.fits c.find_grants.ensures.only_read c.find_grants.result.made c.find_grants.ensures.found
    c.find_grants.ensures.ended

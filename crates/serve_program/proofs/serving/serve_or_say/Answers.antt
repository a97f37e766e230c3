-- The cell is the one that the words name, or the commands are printed.
use Rattle.std.proofs.Common.{List, ℕ, subst, sym, ◌∙◌}
use Rattle.cell_walks.specs.DiskTold.{disk_told}
use Rattle.cell_walks.specs.Observed.{ShowsFile, files_told, observed_with}
use Rattle.cell_walks.specs.Promises.{Ends}
use Rattle.cell_texts.proofs.Disks.{untouched}
use Rattle.peers.specs.Meanings.{peer_gave, peer_took}
use Rattle.serve_command.specs.LivesThrough.{LivesThrough, WhereTold}
use Rattle.serve_command.specs.Serve.{serve}
use Rattle.command_words.proofs.Calls.{ends_at_none}
use Rattle.command_words.proofs.Written.{one_cell}
use Rattle.serve_program.proofs.serving.serve_or_say.Goals as goal

pub returns-in-Some-clause-ends : goal.returns-in-Some-clause-ends
returns-in-Some-clause-ends g c = λ cell journal so.
    let files = files_told g.F.Files.holds g.F.Files.is_sound g.F.Files.faults c.args.files.now c.run_serve.new.files in
    let disk = disk_told g.D.Disk.reads_as g.D.Disk.may_leave g.D.Disk.moment g.D.Disk.left_since g.D.Disk.faults c.args.disk
    c.run_serve.result.disk in
    subst (λ (name : List ℕ). Ends (observed_with files (peer_gave g.T.Peer c.args.peer.now c.run_serve.new.peer) disk)
    (peer_took g.T.Peer c.args.peer.now c.run_serve.new.peer) (serve name) c.run_serve.result.status)
    (one_cell c.in-Some.served.cell.now c.in-Some.served.journal.now cell journal (c.in-Some.ensures.written ∙ sym so))
    c.run_serve.ensures.ends

pub returns-in-Some-clause-moments : goal.returns-in-Some-clause-moments
returns-in-Some-clause-moments g c = λ cell journal so.
    let files = files_told g.F.Files.holds g.F.Files.is_sound g.F.Files.faults c.args.files.now c.run_serve.new.files in
    subst (λ (name : List ℕ). WhereTold g.D.Disk g.T.Peer c.args.disk c.args.peer.now (λ given before file.
    LivesThrough g.D.Disk g.T.Peer (ShowsFile files name) given before file c.args.disk c.args.peer.now c.run_serve.result.disk
    c.run_serve.new.peer))
    (one_cell c.in-Some.served.cell.now c.in-Some.served.journal.now cell journal (c.in-Some.ensures.written ∙ sym so))
    c.run_serve.ensures.moments

pub returns-in-None-clause-none : goal.returns-in-None-clause-none
returns-in-None-clause-none g c = λ none.
    ends_at_none _ _ c.print_usage_beside.result
    (untouched g.D.Disk.reads_as g.D.Disk.may_leave g.D.Disk.moment g.D.Disk.left_since g.D.Disk.faults c.args.disk
    c.leaves_only_now.ensures)
    (rw c.usage.ensures at c.print_usage_beside.ensures)

-- What is put is handed on, or it is not.
use Rattle.std.proofs.Common.{arith, rules, ◌∷◌, []}
use Rattle.cell_walks.specs.Outcomes.{printed}
use Rattle.cell_walks.specs.declared.status.Status.TheVariants.{NoCommand}
use Rattle.serve_command.proofs.Printing.{finished, flush_went, not_finished}
use Rattle.serve_command.proofs.beside.print_usage_beside.Goals as goal

pub returns-in-Ok : goal.returns-in-Ok
returns-in-Ok g c = finished g.D.Disk g.T.Peer c.new.result c.print_usage-status.new.out c.args.disk.now c.args.peer.now _ c.flush.new.self c.new.ensures.disk
    c.new.ensures.peer (λ same. search rules)
    (flush_went g.D.Disk g.T.Peer c.args.disk.now _ c.flush.new.self c.flush.ensures.same c.flush.ensures.unread c.flush.ensures.ended
    c.flush.ensures.no_read c.flush.ensures.clock c.flush.ensures.moments c.flush.ensures.keeps)
    c.flush.ensures.same c.flush.ensures.of_put (printed NoCommand (c.args.usage.now ∷ [])) (omega arith) c.print_usage-status.result c.print_usage-status.ensures c.in-Ok.ensures.cause.kept

pub returns-in-Err : goal.returns-in-Err
returns-in-Err g c = not_finished g.D.Disk g.T.Peer c.new.result c.print_usage-status.new.out c.args.disk.now c.args.peer.now _ c.flush.new.self c.new.ensures.disk
    c.new.ensures.peer (λ same. search rules)
    (flush_went g.D.Disk g.T.Peer c.args.disk.now _ c.flush.new.self c.flush.ensures.same c.flush.ensures.unread c.flush.ensures.ended
    c.flush.ensures.no_read c.flush.ensures.clock c.flush.ensures.moments c.flush.ensures.keeps)
    c.flush.ensures.same c.flush.ensures.of_put (printed NoCommand (c.args.usage.now ∷ [])) (omega arith) c.print_usage-status.result c.print_usage-status.ensures c.in-Err.ensures.cause.failed c.in-Err.ensures.cause.later

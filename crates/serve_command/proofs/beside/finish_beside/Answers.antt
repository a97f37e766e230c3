-- What is put is handed on, or it is not.
use Rattle.std.proofs.Common.{arith, rules}
use Rattle.cell_walks.specs.Outcomes.{early}
use Rattle.serve_command.proofs.Printing.{finished, finished_beside, flush_went, not_finished}
use Rattle.serve_command.proofs.beside.finish_beside.Goals as goal

pub returns-in-Ok-clause-delivered : goal.returns-in-Ok-clause-delivered
returns-in-Ok-clause-delivered g c = finished g.D.Disk g.T.Peer c.new.result c.finish_early-status.new.out c.args.disk.now c.args.peer.now _ c.flush.new.self c.new.ensures.disk
    c.new.ensures.peer (λ same. search rules)
    (flush_went g.D.Disk g.T.Peer c.args.disk.now _ c.flush.new.self c.flush.ensures.same c.flush.ensures.unread c.flush.ensures.ended
    c.flush.ensures.no_read c.flush.ensures.clock c.flush.ensures.moments c.flush.ensures.keeps)
    c.flush.ensures.same c.flush.ensures.of_put (early c.args.end) (omega arith) c.finish_early-status.result c.finish_early-status.ensures c.in-Ok.ensures.cause.kept

pub returns-in-Ok-clause-beside : goal.returns-in-Ok-clause-beside
returns-in-Ok-clause-beside g c = finished_beside g.D.Disk g.T.Peer c.new.result c.finish_early-status.new.out c.args.disk.now c.args.peer.now _ c.flush.new.self c.new.ensures.disk
    c.new.ensures.peer (λ same. search rules)
    (flush_went g.D.Disk g.T.Peer c.args.disk.now _ c.flush.new.self c.flush.ensures.same c.flush.ensures.unread c.flush.ensures.ended
    c.flush.ensures.no_read c.flush.ensures.clock c.flush.ensures.moments c.flush.ensures.keeps)
    c.flush.ensures.same c.flush.ensures.of_put (early c.args.end) (omega arith) c.finish_early-status.result c.finish_early-status.ensures

pub returns-in-Err-clause-delivered : goal.returns-in-Err-clause-delivered
returns-in-Err-clause-delivered g c = not_finished g.D.Disk g.T.Peer c.new.result c.finish_early-status.new.out c.args.disk.now c.args.peer.now _ c.flush.new.self c.new.ensures.disk
    c.new.ensures.peer (λ same. search rules)
    (flush_went g.D.Disk g.T.Peer c.args.disk.now _ c.flush.new.self c.flush.ensures.same c.flush.ensures.unread c.flush.ensures.ended
    c.flush.ensures.no_read c.flush.ensures.clock c.flush.ensures.moments c.flush.ensures.keeps)
    c.flush.ensures.same c.flush.ensures.of_put (early c.args.end) (omega arith) c.finish_early-status.result c.finish_early-status.ensures c.in-Err.ensures.cause.failed c.in-Err.ensures.cause.later

pub returns-in-Err-clause-beside : goal.returns-in-Err-clause-beside
returns-in-Err-clause-beside g c = finished_beside g.D.Disk g.T.Peer c.new.result c.finish_early-status.new.out c.args.disk.now c.args.peer.now _ c.flush.new.self c.new.ensures.disk
    c.new.ensures.peer (λ same. search rules)
    (flush_went g.D.Disk g.T.Peer c.args.disk.now _ c.flush.new.self c.flush.ensures.same c.flush.ensures.unread c.flush.ensures.ended
    c.flush.ensures.no_read c.flush.ensures.clock c.flush.ensures.moments c.flush.ensures.keeps)
    c.flush.ensures.same c.flush.ensures.of_put (early c.args.end) (omega arith) c.finish_early-status.result c.finish_early-status.ensures

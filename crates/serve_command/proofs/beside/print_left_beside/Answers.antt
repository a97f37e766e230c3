-- What is printed is handed on.
use Rattle.std.proofs.Common.{arith, rules, ◌≤◌}
use Rattle.outside_io.specs.Causes.{Rose}
use Rattle.record_printer.specs.Blocks.{left_in_core}
use Rattle.serve_command.proofs.Printing.{failed_beside, failed_faults, failed_took, flush_went, handed_cause, handed_on_beside}
use Rattle.serve_command.proofs.Printing.{handed_part, handed_whole, on_err, on_ok}
use Rattle.serve_command.proofs.beside.print_left_beside.Goals as goal

pub returns-in-Err-clause-part : goal.returns-in-Err-clause-part
returns-in-Err-clause-part g c = failed_took g.D.Disk g.T.Peer c.new.result c.print_left.new.out c.args.disk.now c.args.peer.now _ c.new.ensures.disk c.new.ensures.peer
    (λ same. search rules) (left_in_core c.args.core) c.in-Err.ensures.part

pub returns-in-Err-clause-cause : goal.returns-in-Err-clause-cause
returns-in-Err-clause-cause g c = record {
  later = failed_faults g.D.Disk g.T.Peer c.new.result c.print_left.new.out c.args.disk.now c.args.peer.now _ c.new.ensures.disk c.new.ensures.peer
      (λ same. search rules) (left_in_core c.args.core) c.in-Err.ensures.part (λ x y. x ≤ y) c.in-Err.ensures.cause.later;
  failed = failed_faults g.D.Disk g.T.Peer c.new.result c.print_left.new.out c.args.disk.now c.args.peer.now _ c.new.ensures.disk c.new.ensures.peer
      (λ same. search rules) (left_in_core c.args.core) c.in-Err.ensures.part Rose c.in-Err.ensures.cause.failed;
  kept = tt;
}

pub returns-in-Err-clause-beside : goal.returns-in-Err-clause-beside
returns-in-Err-clause-beside g c = failed_beside g.D.Disk g.T.Peer c.new.result c.print_left.new.out c.args.disk.now c.args.peer.now _ c.new.ensures.disk c.new.ensures.peer
    (λ same. search rules) (left_in_core c.args.core) c.in-Err.ensures.part

pub returns-clause-whole : goal.returns-clause-whole
returns-clause-whole g c = on_ok c.flush.result (handed_whole g.D.Disk g.T.Peer c.new.result c.print_left.new.out c.args.disk.now c.args.peer.now _ c.new.ensures.disk c.new.ensures.peer
    (λ same. search rules) (left_in_core c.args.core) c.flush.new.self
    (flush_went g.D.Disk g.T.Peer c.args.disk.now _ c.flush.new.self c.flush.ensures.same c.flush.ensures.unread c.flush.ensures.ended
    c.flush.ensures.no_read c.flush.ensures.clock c.flush.ensures.moments c.flush.ensures.keeps)
    c.flush.ensures.same c.flush.ensures.of_put (omega arith) c.in_default.ensures.whole)

pub returns-clause-part : goal.returns-clause-part
returns-clause-part g c = on_err c.flush.result (handed_part g.D.Disk g.T.Peer c.new.result c.print_left.new.out c.args.disk.now c.args.peer.now _ c.new.ensures.disk c.new.ensures.peer
    (λ same. search rules) (left_in_core c.args.core) c.flush.new.self
    (flush_went g.D.Disk g.T.Peer c.args.disk.now _ c.flush.new.self c.flush.ensures.same c.flush.ensures.unread c.flush.ensures.ended
    c.flush.ensures.no_read c.flush.ensures.clock c.flush.ensures.moments c.flush.ensures.keeps)
    c.flush.ensures.same c.flush.ensures.of_put (omega arith) c.in_default.ensures.whole)

pub returns-clause-cause : goal.returns-clause-cause
returns-clause-cause g c = handed_cause g.D.Disk g.T.Peer c.new.result c.print_left.new.out c.args.disk.now c.args.peer.now _ c.new.ensures.disk c.new.ensures.peer
    (λ same. search rules) (left_in_core c.args.core) c.flush.new.self
    (flush_went g.D.Disk g.T.Peer c.args.disk.now _ c.flush.new.self c.flush.ensures.same c.flush.ensures.unread c.flush.ensures.ended
    c.flush.ensures.no_read c.flush.ensures.clock c.flush.ensures.moments c.flush.ensures.keeps)
    c.flush.ensures.same c.flush.ensures.of_put c.flush.result c.in_default.ensures.whole c.in_default.ensures.cause.kept
    c.flush.ensures.cause

pub returns-clause-beside : goal.returns-clause-beside
returns-clause-beside g c = handed_on_beside g.D.Disk g.T.Peer c.new.result c.print_left.new.out c.args.disk.now c.args.peer.now _ c.new.ensures.disk c.new.ensures.peer
    (λ same. search rules) (left_in_core c.args.core) c.flush.new.self
    (flush_went g.D.Disk g.T.Peer c.args.disk.now _ c.flush.new.self c.flush.ensures.same c.flush.ensures.unread c.flush.ensures.ended
    c.flush.ensures.no_read c.flush.ensures.clock c.flush.ensures.moments c.flush.ensures.keeps)
    c.flush.ensures.same c.flush.ensures.of_put c.in_default.ensures.whole

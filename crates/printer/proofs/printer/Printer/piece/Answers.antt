-- It is given by one put.
use Rattle.std.proofs.Common.{refl}
use Rattle.outside_io.specs.PutLaws.{took_one, failed_at}
use Rattle.printer.specs.Printing.{Cut, Whole}
use Rattle.printer.proofs.printer.Printer.piece.Goals as goal

pub returns-in-Err : goal.returns-in-Err
returns-in-Err g c =
    let sink = g.K.Sink in
    record {
      same_sink = refl;
      printed = Cut c.if-self.false refl
          (failed_at sink.taken sink.was_put sink.faults c.args.self.now.out.now c.put.new.self c.args.piece.now c.in-Err.ensures.one_put
          c.in-Err.ensures.part)
          c.in-Err.ensures.cause.later c.in-Err.ensures.cause.failed;
    }

pub returns-in-Ok : goal.returns-in-Ok
returns-in-Ok g c =
    let sink = g.K.Sink in
    record {
      same_sink = refl;
      printed = Whole c.if-self.false c.if-self.false
          (took_one sink.taken sink.was_put sink.faults c.args.self.now.out.now c.put.new.self c.args.piece.now c.in-Ok.ensures.one_put
          c.in-Ok.ensures.whole)
          c.in-Ok.ensures.cause.kept;
    }

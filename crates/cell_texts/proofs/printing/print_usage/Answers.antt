-- The sink failed.
use Rattle.std.proofs.Common.{refl}
use Rattle.outside_io.specs.PutLaws.{failed_at}
use Rattle.cell_walks.specs.Outcomes.{Cut}
use Rattle.cell_texts.proofs.printing.print_usage.Goals as goal

pub returns-in-Err : goal.returns-in-Err
returns-in-Err g c =
    Cut refl
    (failed_at g.K.Sink.taken g.K.Sink.was_put g.K.Sink.faults c.args.out.now c.put.new.self c.args.usage.now c.put.ensures.one_put
    c.in-Err.ensures.part)
    c.in-Err.ensures.cause.failed

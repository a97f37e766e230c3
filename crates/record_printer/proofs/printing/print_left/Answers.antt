-- The sink failed, so its count rose.
use Rattle.std.proofs.Common.{◌∙◌, rules, sym}
use Rattle.record_printer.specs.Blocks.{left_in_core}
use Rattle.printer.proofs.Taken.{has_risen}
use Rattle.record_printer.proofs.printing.print_left.Goals as goal

pub returns-then-has_failed-clause-cause : goal.returns-then-has_failed-clause-cause
returns-then-has_failed-clause-cause g c =
    let risen = has_risen g.K.Sink c.new-printer.result c.print_left.new.out (left_in_core c.args.core) c.new-printer.ensures.none
    (sym c.has_failed.ensures ∙ c.if-has_failed.true) c.print_left.ensures.printed (record {}) in
    search rules

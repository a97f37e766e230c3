-- The sink failed, so its count rose.
use Rattle.std.proofs.Common.{◌∙◌, rules, sym}
use Rattle.printer.proofs.Taken.{has_risen}
use Rattle.cell_texts.proofs.printing.print_lines.Goals as goal

pub returns-then-has_failed-clause-cause : goal.returns-then-has_failed-clause-cause
returns-then-has_failed-clause-cause g c =
    let risen = has_risen g.K.Sink c.new-printer.result c.lines.new.self c.args.lines.now c.new-printer.ensures.none
    (sym c.has_failed.ensures ∙ c.if-has_failed.true) c.lines.ensures.printed (record {}) in
    search rules

-- The history and what is left after it are the record of the shift, printed whole or up to a line at which the sink failed.
use Rattle.std.proofs.Common.{ap, rules}
use Rattle.admission_core.specs.CoreState.{CoreState}
use Rattle.record_printer.specs.Blocks.{left_in_core, planned_block}
use Rattle.printer.proofs.Sequences.{prints_as, prints_more}
use Rattle.solo_command.proofs.Soloing.{record_lines, solo_delivered, solo_record}
use Rattle.solo_command.proofs.playing.play.Goals as goal

pub returns : goal.returns
unfolding planned_block
returns g c =
    let cell = c.args.core.cell in
    let shift = c.args.shift.now in
    let fits = c.requires.cell_fits in
    let shift_fits = c.requires.shift_fits in
    let printed = c.print_rounds.ensures in
    let delivered = solo_delivered g.K.Sink cell shift (record_lines cell shift fits shift_fits printed.history printed.rounds)
    c.new-printer.result c.print_left.new.out c.args.out.now c.status.result
    (solo_record cell shift fits shift_fits printed.history printed.rounds)
    (prints_more printed.prints (prints_as (ap (λ (core : CoreState). left_in_core core) printed.left) c.print_left.ensures))
    c.new-printer.ensures.none c.new-printer.ensures.value c.status.ensures in
    search (rules, delivered)

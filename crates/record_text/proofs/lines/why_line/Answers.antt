-- The line is made of its words, one after the other.
use Rattle.std.specs.Prelude.{codes}
use Rattle.cell_base.specs.declared.requests.Told.TheVariants.{Answered}
use Rattle.step_text.specs.Steps.{request_words}
use Rattle.record_text.specs.Lines.{told_words}
use Rattle.record_text.proofs.Appending.{line_of_words}
use Rattle.record_text.proofs.lines.why_line.Goals as goal

pub returns : goal.returns
returns c =
    let cell = c.args.cell.now in
    line_of_words (codes "why") (request_words cell c.args.request.now) (told_words cell (Answered c.args.reply.now))
    c.of_word-line.result c.add_request.new.line c.add_told.new.line c.end.result
    c.of_word-line.ensures c.add_request.ensures.words c.add_told.ensures.words c.end.ensures

-- The line is made of its words, one after the other.
use Rattle.std.specs.Prelude.{codes}
use Rattle.std.specs.Fmt.{decimal}
use Rattle.std.proofs.Common.{[], ◌∷◌}
use Rattle.record_text.proofs.Appending.{line_of_words}
use Rattle.serve_command.specs.Answers.{step_or_none}
use Rattle.serve_command.proofs.Wording.{two_words}
use Rattle.serve_command.proofs.questions.last_line.Goals as goal

pub returns : goal.returns
returns c =
    let count = decimal c.args.count in
    line_of_words (decimal c.args.session) (codes "last" ∷ count ∷ []) (step_or_none c.args.cell.now c.args.last)
    c.begin_number.new.self c.number.new.self c.add_step.new.line c.end.result c.begin_number.ensures.digits
    (two_words (codes "last") count c.begin_number.new.self c.word.new.self c.number.new.self c.word.ensures.bytes c.number.ensures.bytes)
    c.add_step.ensures.words c.end.ensures

-- The line is made word by word.
use Rattle.cell_texts.specs.Texts.{fault_code_words}
use Rattle.cell_texts.proofs.Wording.{line_made}
use Rattle.cell_texts.proofs.lines.refusal_line.Goals as goal

pub returns : goal.returns
returns c =
    line_made c.args.file.now _ (fault_code_words c.args.code.now) _ _ _ _ c.of_word-line.ensures c.word.ensures.bytes
    c.add_fault_code.ensures.words c.end.ensures

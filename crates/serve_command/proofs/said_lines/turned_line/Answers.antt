-- The line is made of its words, one after the other.
use Rattle.std.specs.Prelude.{codes}
use Rattle.std.proofs.Common.{List, ℕ, [], ◌∷◌, ◌++◌, ap, ◌∙◌}
use Rattle.serve_command.proofs.Wording.{two_words}
use Rattle.serve_command.proofs.said_lines.turned_line.Goals as goal

pub returns : goal.returns
returns c =
    let why = c.args.why.now in
    c.end.ensures
    ∙ ap (λ (line : List ℕ). line ++ 10 ∷ [])
    (two_words (codes "refused") why c.args.text.now c.word.new.self c.word-2.new.self
    (c.word.ensures.bytes ∙ ap (λ (line : List ℕ). line ++ 32 ∷ codes "refused") c.of_word-line.ensures) c.word-2.ensures.bytes)

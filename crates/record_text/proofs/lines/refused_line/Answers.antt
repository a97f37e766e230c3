-- The line is made word by word.
use Rattle.std.proofs.Common.{List, ℕ, [], ◌∷◌, ◌++◌, ◌∙◌, ap, sym}
use Rattle.std.specs.Prelude.{codes}
use Rattle.record_text.specs.Lines.{why_words}
use Rattle.record_text.specs.Spaced.{spaced}
use Rattle.record_text.proofs.Appending.{joined-append}
use Rattle.record_text.proofs.lines.refused_line.Goals as goal

pub returns : goal.returns
returns c =
    let words : List (List ℕ) = why_words c.args.cell.now c.args.why.now in
    c.end.ensures ∙ ap (λ (l : List ℕ). l ++ 10 ∷ [])
    (c.add_why.ensures.words ∙ ap (λ (l : List ℕ). l ++ spaced words) c.of_word-line.ensures
    ∙ sym (joined-append (codes "refused") [] words))

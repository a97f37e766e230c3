-- The line is made word by word.
use Rattle.std.specs.Prelude.{codes}
use Rattle.std.proofs.Common.{◌∙◌, ◌++◌, ℕ, ap, refl}
use Rattle.cell_base.specs.Named.{resource_name}
use Rattle.cell_base.specs.Stages.{capacity_of}
use Rattle.record_text.proofs.Appending.{whole_line}
use Rattle.record_text.specs.Spaced.{spaced}
use Rattle.look_commands.specs.Parts.{share_words}
use Rattle.look_commands.proofs.locating.resource_line.Goals as goal

pub returns : goal.returns
returns c =
    let cell = c.args.cell.now in
    let r = c.args.r.0 in
    whole_line (codes "resource") (resource_name cell r) (resource_name cell r)
    (share_words (codes "holds") c.args.held (capacity_of cell r)) (share_words (codes "counted") c.args.counted (capacity_of cell r))
    c.of_word-line.result c.add_resource.new.line c.add_share.new.line c.add_share-2.new.line c.end.result
    c.of_word-line.ensures refl c.add_resource.ensures.word
    (c.add_share.ensures.words
    ∙ ap (λ (n : ℕ). c.add_resource.new.line ++ spaced (share_words (codes "holds") c.args.held n)) c.capacity_of.ensures)
    (c.add_share-2.ensures.words
    ∙ ap (λ (n : ℕ). c.add_share.new.line ++ spaced (share_words (codes "counted") n c.capacity_of-2.result)) c.from.ensures
    ∙ ap (λ (n : ℕ). c.add_share.new.line ++ spaced (share_words (codes "counted") c.args.counted n)) c.capacity_of-2.ensures)
    c.end.ensures

-- Whether the text is new, among the texts.
use Rattle.std.proofs.Common.{not, ap, ◌∙◌}
use Rattle.toml_walk.specs.Documents.{texts}
use Rattle.toml_walk.proofs.Keys.{any_text}
use Rattle.cell_file.proofs.Naming.{none_equal, none_added}
use Rattle.cell_file.proofs.names.add.Goals as goal

pub returns-clause-new : goal.returns-clause-new
returns-clause-new c = c.in_ok-insert.ensures.added ∙ ap not (any_text c.args.text.now c.args.names.now.keys)

pub returns-clause-differs : goal.returns-clause-differs
returns-clause-differs c = λ new.
    let added = c.in_ok-insert.ensures.added ∙ ap not (any_text c.args.text.now c.args.names.now.keys) in
    none_equal c.args.text.now (texts c.args.names.now.keys) (none_added _ _ added new)

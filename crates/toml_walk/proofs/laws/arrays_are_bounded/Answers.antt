-- The document, line by line.
use Rattle.std.proofs.Common.{subst, IfSome, length, ◌≤◌}
use Rattle.toml_walk.specs.Widths.{members_width}
use Rattle.toml_walk.proofs.Lines.{document_width}
use Rattle.toml_walk.proofs.laws.arrays_are_bounded.Goals as goal

pub returns : goal.returns
returns c = λ ms is. subst (λ o. IfSome o (λ d. members_width d ≤ length c.args.text.now)) is (document_width c.args.text.now)

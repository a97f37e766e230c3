-- Each word is plain, and so is each line but for its newline.
use Rattle.refusal_reason.proofs.Plain.{show_lines_are_lines}
use Rattle.refusal_reason.proofs.laws.show_lines_are_lines.Goals as goal

pub returns : goal.returns
returns c = show_lines_are_lines c.args.cell.now c.requires

-- As many bytes as there is room for.
use Rattle.std.proofs.Common.{arith, ◌∙◌}
use Rattle.input_lines.proofs.Steps.{kept_first}
use Rattle.input_lines.proofs.input_lines.keep_first.Goals as goal

pub returns : goal.returns
returns c =
    c.append.ensures
    ∙ kept_first c.args.kept.now.items c.args.bytes.now c.min-count.result
    (omega (arith, c.len-room.ensures.value, c.len-room.ensures.fits))
    (omega (arith, c.min-count.ensures, c.len-room.ensures.value))

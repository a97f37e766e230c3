-- The law over masks is the law over what stages lead to, bit by bit.
use Rattle.std.proofs.Common.{sym, ◌∙◌}
use Rattle.cell_base.specs.Numbers.{stage_numbered}
use Rattle.policy_laws.proofs.Steps.{up_law as law}
use Rattle.policy_laws.proofs.Masks.{bit_at_number}
use Rattle.upstream_sets.proofs.laws.up_law.Goals as goal

pub returns : goal.returns
returns c r e =
    let cell = c.args.table.now in
    let fits = c.table_law.ensures in
    let bit = bit_at_number cell fits c.args.upstream.now c.requires.made in
    bit c.args.from.0 r c.requires.from
    ∙ law cell fits (stage_numbered cell c.args.from.0) (stage_numbered cell c.args.to.0) r c.requires.next c.requires.order
    (sym (bit c.args.to.0 r c.requires.to) ∙ e)

-- One part more is counted.
use Rattle.std.proofs.Common.{ap, arith}
use Rattle.std.specs.Int.{bit_at}
use Rattle.cell_base.specs.Neighborhoods.{count}
use Rattle.cell_base.specs.Stages.{stage_of}
use Rattle.std.proofs.lemmas.Nat.Bits.{bit_at-zero}
use Rattle.policy_laws.proofs.Masks.{bit_at-mask_of}
use Rattle.policy_laws.proofs.States.{count_push}
use Rattle.banker_check.proofs.Tallying.{counts-few}
use Rattle.banker_check.proofs.changes.enter.Goals as goal

pub shift-requires-clause-few : goal.shift-requires-clause-few
shift-requires-clause-few c =
    counts-few c.args.table.now c.table_law.ensures c.args.tally.now.parts.items c.requires.tallied.state.distinct
    c.args.tally.now.counts c.requires.tallied.counts c.requires.few

pub returns-clause-counts : goal.returns-clause-counts
returns-clause-counts c r =
    let cell = c.args.table.now in
    omega (
      arith,
      c.shift.ensures r,
      c.requires.tallied.counts r,
      bit_at-zero r,
      ap (λ m. bit_at m r) c.mask.ensures,
      bit_at-mask_of cell c.table_law.ensures (stage_of c.args.part) r,
      count_push cell c.args.tally.now.parts.items c.args.part r,
      ap (λ parts. count cell parts r) c.push_reserved.ensures.items,
    )

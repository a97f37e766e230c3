-- The part of the job is counted no more.
use Rattle.std.proofs.Common.{ap, arith}
use Rattle.std.specs.Int.{bit_at}
use Rattle.std.proofs.lemmas.Nat.Bits.{bit_at-zero}
use Rattle.cell_base.specs.Neighborhoods.{count}
use Rattle.banker_check.proofs.Tallying.{counts-few, counts-held, count-gone}
use Rattle.banker_check.proofs.changes.leave.Goals as goal

pub shift-requires-clause-few : goal.shift-requires-clause-few
shift-requires-clause-few c =
    counts-few c.args.table.now c.table_law.ensures c.args.tally.now.parts.items c.requires.tallied.state.distinct
    c.args.tally.now.counts c.requires.tallied.counts c.requires.few

pub shift-requires-clause-held : goal.shift-requires-clause-held
shift-requires-clause-held c r =
    omega (
      arith,
      counts-held c.args.table.now c.table_law.ensures c.args.tally.now.parts.items c.requires.tallied.state.distinct
          c.args.tally.now.counts c.requires.tallied.counts c.args.job r,
      ap (λ m. bit_at m r) c.mask_of_job-from.ensures,
    )

pub returns-clause-counts : goal.returns-clause-counts
returns-clause-counts c r =
    let cell = c.args.table.now in
    omega (
      arith,
      c.shift.ensures r,
      c.requires.tallied.counts r,
      bit_at-zero r,
      ap (λ m. bit_at m r) c.mask_of_job-from.ensures,
      count-gone cell c.table_law.ensures c.args.tally.now.parts.items c.requires.tallied.state.distinct c.args.job r,
      ap (λ parts. count cell parts r) c.take_out.ensures.items,
    )

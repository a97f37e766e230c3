-- A part that goes on is counted at its next stage in the place of its present one.
use Rattle.std.proofs.Common.{◌≡◌, ◌++◌, ◌∷◌, [], List, ap, sym, arith, ◌∙◌}
use Rattle.std.specs.Int.{bit_at}
use Rattle.std.specs.Option.{option_map_or}
use Rattle.cell_base.specs.declared.requests.JobId.{JobId}
use Rattle.cell_base.specs.declared.requests.Part.{Part}
use Rattle.cell_base.specs.Neighborhoods.{count, mask_of}
use Rattle.cell_base.specs.Outcomes.{without}
use Rattle.cell_base.specs.Stages.{stage_of}
use Rattle.banker_check.specs.Tallies.{mask_of_job}
use Rattle.banker_check.proofs.Tallying.{counts-few, counts-held, count-next}
use Rattle.banker_check.proofs.changes.move_between.Goals as goal

pub shift-requires-clause-few : goal.shift-requires-clause-few
shift-requires-clause-few c =
    counts-few c.args.table.now c.table_law.ensures c.args.tally.now.parts.items c.requires.tallied.state.distinct
    c.args.tally.now.counts c.requires.tallied.counts c.requires.few

pub shift-requires-clause-held : goal.shift-requires-clause-held
shift-requires-clause-held c r =
    let cell = c.args.table.now in
    let parts = c.args.tally.now.parts.items in
    let from : mask_of_job cell parts c.args.part.job ≡ mask_of cell (stage_of c.args.part) =
    ap (λ o. option_map_or (λ part. mask_of cell (stage_of part)) o 0) c.requires.found in
    omega (
      arith,
      counts-held cell c.table_law.ensures parts c.requires.tallied.state.distinct c.args.tally.now.counts c.requires.tallied.counts
          c.args.part.job r,
      ap (λ m. bit_at m r) from,
      ap (λ m. bit_at m r) c.mask.ensures,
    )

pub returns-clause-counts : goal.returns-clause-counts
returns-clause-counts c r =
    let cell = c.args.table.now in
    let parts = c.args.tally.now.parts.items in
    let from : mask_of_job cell parts c.args.part.job ≡ mask_of cell (stage_of c.args.part) =
    ap (λ o. option_map_or (λ part. mask_of cell (stage_of part)) o 0) c.requires.found in
    let now : c.push_reserved.new.self.items ≡ without parts c.args.next.job ++ c.args.next ∷ [] =
    c.push_reserved.ensures.items
    ∙ ap (λ (others : List Part). others ++ c.args.next ∷ []) (c.take_out.ensures.items ∙ ap (without parts) (sym c.requires.same)) in
    omega (
      arith,
      c.shift.ensures r,
      c.requires.tallied.counts r,
      ap (λ m. bit_at m r) from,
      ap (λ m. bit_at m r) c.mask.ensures,
      ap (λ m. bit_at m r) c.mask-2.ensures,
      ap (λ (job : JobId). bit_at (mask_of_job cell parts job) r) c.requires.same,
      count-next cell c.table_law.ensures parts c.requires.tallied.state.distinct c.args.next r,
      ap (λ parts. count cell parts r) now,
    )

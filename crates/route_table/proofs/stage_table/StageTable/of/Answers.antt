-- The next type has its first number and its entries.
use Rattle.std.proofs.Common.{◌≡◌, ◌≤◌, length, [], ◌∷◌, ◌++◌, map, sym, ◌∙◌, ap, arith}
use Rattle.cell_base.specs.declared.cells.Cell.{Cell}
use Rattle.cell_base.specs.Stages.{stages_of}
use Rattle.cell_base.specs.Numbers.{first_number}
use Rattle.route_table.specs.Entries.{stage_entry, first_numbers}
use Rattle.route_table.proofs.Made.{length-entries_before, entries_before-next, first_numbers-next}
use Rattle.cell_base.proofs.StageCounts.{few_before}
use Rattle.route_table.proofs.stage_table.StageTable.of.Goals as goal

pub overflow_cast-len : goal.overflow_cast-len
overflow_cast-len c =
    let cell : Cell = c.args.cell in
    let within : c.loop-kind.kind ≤ length cell.types = omega arith in
    omega (
      arith,
      c.len.ensures,
      ap length c.loop-kind.invariant.1,
      length-entries_before cell c.loop-kind.kind within,
      few_before cell c.requires c.loop-kind.kind within,
    )

pub loop-kind-preserved : goal.loop-kind-preserved
loop-kind-preserved c =
    let cell : Cell = c.args.cell in
    let kind = c.loop-kind.kind in
    let within : kind ≤ length cell.types = omega arith in
    let first : c.len.result ≡ first_number cell kind =
    c.len.ensures ∙ ap length c.loop-kind.invariant.1 ∙ length-entries_before cell kind within in (
      c.in_ok-try_push.ensures.ok ∙ ap (λ firsts. firsts ++ c.len.result ∷ []) c.loop-kind.invariant.0
          ∙ ap (λ n. first_numbers cell kind ++ n ∷ []) first ∙ sym (first_numbers-next cell kind),
      c.in_ok-push_route.ensures ∙ ap (λ entries. entries ++ map (stage_entry cell) (stages_of cell kind)) c.loop-kind.invariant.1
          ∙ sym (entries_before-next cell kind),
    )

-- The part stands there, and its line is printed; or it stands elsewhere.
use Rattle.std.proofs.Common.{List, ℕ, [], ◌∷◌, ap, map, sym, ◌∙◌}
use Rattle.std.proofs.lemmas.List.{map-append}
use Rattle.cell_base.specs.declared.cells.Cell.{Cell}
use Rattle.cell_base.specs.declared.requests.Part.{Part}
use Rattle.look_commands.specs.Parts.{part_line, parts_on}
use Rattle.printer.proofs.Sequences.{prints_as, prints_more}
use Rattle.look_commands.proofs.Standing.{stands_elsewhere, stands_next}
use Rattle.look_commands.proofs.locating.print_parts_on.Goals as goal
use Rattle.look_commands.proofs.locating.print_parts_on.Goals.{then-stands_on, else-stands_on}

pub loop-part-preserved : goal.loop-part-preserved
loop-part-preserved g c =
    let cell : Cell = c.args.cell.now in let parts : List Part = c.args.parts.now in let r = c.args.r.0 in let i = c.loop-part.part-index in
    elim c.if-stands_on.branch [
      | then-stands_on w ↦
          rw w.out-is
          (prints_as
          (sym (ap (map (part_line cell)) (stands_next cell parts r i _ c.loop-part-test.true (sym c.stands_on.ensures ∙ w.if-stands_on.true))
          ∙ map-append (part_line cell) (parts_on cell (Rattle.std.proofs.Common.take i parts) r) _))
          (prints_more c.loop-part.invariant (prints_as (ap (λ (line : List ℕ). line ∷ []) w.part_line.ensures) w.line.ensures)))
      | else-stands_on w ↦
          rw w.out-is
          (prints_as
          (sym (ap (map (part_line cell)) (stands_elsewhere cell parts r i _ c.loop-part-test.true (sym c.stands_on.ensures ∙ w.if-stands_on.false))))
          c.loop-part.invariant)
    ]

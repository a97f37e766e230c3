-- The digits are those of the number.
use Rattle.std.proofs.Common.{◌+◌, ◌-◌, ◌∷◌, [], sym, ◌∙◌}
use Rattle.cell_base.specs.Names.{IsName}
use Rattle.cell_make.proofs.Spelling.{name_below_ten, name_from_ten, read_value}
use Rattle.cell_make.proofs.names.numbered_name.Goals as goal
use Rattle.cell_make.proofs.names.numbered_name.Goals.{then-number-lt10, else-number-lt10}

pub returns : goal.returns
returns c =
    let letter = c.args.letter in
    let n = c.args.number in
    elim c.if-number-lt10.branch [
      | then-number-lt10 w ↦
          let bytes = letter ∷ (48 + n) ∷ [] in
          read_value w.read-name.result (IsName bytes) bytes c.unwrap.result w.read-name.ensures.fact (sym w.name-is ∙ c.unwrap.ensures)
          ∙ sym (name_below_ten letter n w.if-number-lt10.true)
      | else-number-lt10 w ↦
          let bytes = letter ∷ 49 ∷ (48 + (n - 10)) ∷ [] in
          let read = w.read-name-else-number-lt10 in
          read_value read.result (IsName bytes) bytes c.unwrap.result read.ensures.fact (sym w.name-is ∙ c.unwrap.ensures)
          ∙ sym (name_from_ten letter n w.if-number-lt10.false)
    ]

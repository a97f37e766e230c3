-- A row that is filled from its end knows one place more.
use Rattle.std.proofs.Common.{◌≡◌, ℕ, ◌+◌, ◌<◌, ◌≢◌, true, List, length, set, get_or-set_same, get_or-set_other, ⊎_elim, ◌∙◌, arith}
use Rattle.std.proofs.lemmas.Bool.{cases_eq}
use Rattle.cell_base.specs.declared.cells.Cell.{Cell}
use Rattle.cell_base.specs.Stages.{stage}
use Rattle.cell_base.specs.Plans.{work_from}
use Rattle.route_table.specs.Entries.{KnowsWork}

pub KnowsWork-set : (cell : Cell) (kind from at : ℕ) (row : List ℕ) (n : ℕ) → at + 1 ≡ from → at < length row
    → n ≡ work_from cell (stage kind at) true → KnowsWork cell kind from row → KnowsWork cell kind at (set row at n)
KnowsWork-set cell kind from at row n e within is known p behind inside =
    ⊎_elim
    (λ (here : p ≡ at). rw here (get_or-set_same row at n 0 within ∙ is))
    (λ (other : p ≢ at). get_or-set_other row at p n 0 other ∙ known p (omega arith) inside)
    (cases_eq p at)

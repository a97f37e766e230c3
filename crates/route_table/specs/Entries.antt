-- What the table keeps for each stage and for each type.
use Rattle.std.specs.Prelude.{◌≡◌, ℕ, ◌≤◌, ◌<◌, true, List, length, map, slice_index_or}
use Rattle.std.specs.List.{range_with_len}
use Rattle.cell_base.specs.declared.cells.Cell.{Cell}
use Rattle.cell_base.specs.Stages.{Stage, stage, route_of, stages}
use Rattle.cell_base.specs.Plans.{work_from}
use Rattle.cell_base.specs.Fits.{CellFits}
use Rattle.route_table.specs.declared.entries.Entry.{Entry}
use Rattle.cell_base.specs.Numbers.{first_number}

-- the entry of a stage: its type and place, and the steps that a part needs which is done there
abbrev pub stage_entry : Cell → Stage → Entry
stage_entry cell s = record { kind = record { 0 = s.kind }; place = s.place; left = work_from cell s true }

-- the numbers of the first stages of the types before a type
abbrev pub first_numbers : Cell → ℕ → List ℕ
first_numbers cell kinds = map (first_number cell) (range_with_len 0 kinds)

-- the cell fits; there is the first number of each type, and the entry of each stage
pub record IsTableOf (cell : Cell) (firsts : List ℕ) (entries : List Entry) : Type 0 where
  pub fits : CellFits cell
  pub numbers : firsts ≡ first_numbers cell (length cell.types)
  pub rows : entries ≡ map (stage_entry cell) (stages cell)

-- a row knows of each place, from the place `from` on, the steps that a part needs which is done there
abbrev pub KnowsWork : Cell → ℕ → ℕ → List ℕ → Type 0
KnowsWork cell kind from row =
    (place : ℕ) → from ≤ place → place < length (route_of cell kind)
    → slice_index_or row place 0 ≡ work_from cell (stage kind place) true

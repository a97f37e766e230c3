-- The table of the resources to which each stage leads.
use Rattle.std.specs.Prelude.{◌≡◌, ℕ, ◌<◌, ◌≤◌, List, length, map, slice_index}
use Rattle.std.specs.List.{range_with_len}
use Rattle.cell_base.specs.declared.cells.Cell.{Cell}
use Rattle.cell_base.specs.Stages.{stage, route_of}
use Rattle.cell_base.specs.Neighborhoods.{mask_of}

-- for a type: the masks of the stages at its places
abbrev pub leading_row : Cell → ℕ → List ℕ
leading_row cell kind = map (λ place. mask_of cell (stage kind place)) (range_with_len 0 (length (route_of cell kind)))

-- the rows of all types
abbrev pub leading_table : Cell → List (List ℕ)
leading_table cell = map (leading_row cell) (range_with_len 0 (length cell.types))

-- a row knows of each place, from the place `from` on, the mask of its stage
abbrev pub KnowsAfter : Cell → ℕ → ℕ → List ℕ → Type 0
KnowsAfter cell kind from row =
    (place : ℕ) → from ≤ place → place < length (route_of cell kind) → slice_index row place ≡ mask_of cell (stage kind place)

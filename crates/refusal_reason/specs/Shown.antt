-- The text that shows a cell's neighborhoods.
use Rattle.std.specs.Prelude.{codes, ◌≡◌, ℕ, false, List, [], ◌∷◌, ◌++◌, map}
use Rattle.std.specs.List.{All, flat_map}
use Rattle.std.specs.Fmt.{decimal}
use Rattle.cell_base.specs.declared.cells.Cell.{Cell}
use Rattle.cell_base.specs.Named.{resource_name, type_name}
use Rattle.cell_base.specs.Stages.{Stage, resource_numbers, capacity_of, order_of}
use Rattle.cell_base.specs.Neighborhoods.{neighborhood}
use Rattle.cell_base.specs.Numbers.{stage_numbered}
use Rattle.route_table.specs.declared.stage_table.StageNo.{StageNo}
use Rattle.record_text.specs.Lines.{line_of}
use Rattle.record_text.specs.BadLines.{is_newline}

-- the line of a resource
abbrev pub resource_line : Cell → ℕ → List ℕ
resource_line cell r = line_of
    (codes "resource" ∷ resource_name cell r ∷ codes "capacity" ∷ decimal (capacity_of cell r)
    ∷ codes "order" ∷ decimal (order_of cell r) ∷ [])

-- the line of a stage
abbrev pub stage_line : Cell → Stage → List ℕ
stage_line cell s = line_of (codes "stage" ∷ type_name cell s.kind ∷ decimal s.place ∷ [])

-- the lines of the stages, in their order
abbrev pub stage_lines : Cell → List Stage → List (List ℕ)
stage_lines cell ss = map (stage_line cell) ss

-- the lines of the stages of these numbers
abbrev pub member_lines : Cell → List StageNo → List (List ℕ)
member_lines cell members = map (λ stage. stage_line cell (stage_numbered cell stage.0)) members

-- a resource with its neighborhood
abbrev pub resource_lines : Cell → ℕ → List (List ℕ)
resource_lines cell r = resource_line cell r ∷ stage_lines cell (neighborhood cell r)

-- each resource with its neighborhood, in their order
abbrev pub show_lines : Cell → List (List ℕ)
show_lines cell = flat_map (resource_lines cell) (resource_numbers cell)

-- a line: a newline at its end, and none before
pub record IsLine (bytes : List ℕ) : Type 0 where
  pub words : List ℕ
  pub ended : bytes ≡ words ++ 10 ∷ []
  pub one : All (λ b. is_newline b ≡ false) words

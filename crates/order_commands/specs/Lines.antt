-- The lines of the advice, and that of a cell with too many resources.
use Rattle.std.specs.Prelude.{codes, ℕ, List, [], ◌∷◌, map, slice_index}
use Rattle.std.specs.Fmt.{decimal}
use Rattle.cell_base.specs.declared.cells.Cell.{Cell}
use Rattle.cell_base.specs.Named.{resource_name}
use Rattle.cell_base.specs.Stages.{resource_numbers}
use Rattle.order_advisor.specs.declared.advice.Advice.{Advice}
use Rattle.record_text.specs.Lines.{line_of}
use Rattle.record_printer.specs.Blocks.{Lines}
use Rattle.cell_texts.specs.FaultNumbers.{with_count}
use Rattle.cell_texts.specs.Texts.{refusal_text}

-- what the advised orders weigh, and what the given ones do
abbrev pub weight_line : Advice → List ℕ
weight_line advice = line_of (codes "weight" ∷ decimal advice.weight ∷ codes "given" ∷ decimal advice.given ∷ [])

-- a resource with its order among these
abbrev pub order_line : Cell → List ℕ → ℕ → List ℕ
order_line cell orders r = line_of (codes "resource" ∷ resource_name cell r ∷ codes "order" ∷ decimal (slice_index orders r) ∷ [])

-- the same of each resource in turn
abbrev pub order_lines : Cell → List ℕ → Lines
order_lines cell orders = map (order_line cell orders) (resource_numbers cell)

-- the weights, and the order of each resource
abbrev pub advice_lines : Cell → Advice → Lines
advice_lines cell advice = weight_line advice ∷ order_lines cell advice.orders

-- | Number | cell file                               |
-- |     12 | TooManyResources, with how many it has |
abbrev pub too_many_line : ℕ → List ℕ
too_many_line count = refusal_text (codes "cell") (with_count 12 count)

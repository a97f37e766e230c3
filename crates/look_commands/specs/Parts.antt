-- `parts CELL JOURNAL`: where the parts stand after the grants of the journal, and how many each neighborhood counts.
use Rattle.std.specs.Prelude.{codes, ◌≡◌, ℕ, ◌==◌, List, [], ◌∷◌, ◌++◌, length, map}
use Rattle.std.specs.Fmt.{decimal}
use Rattle.std.specs.List.{filter, flat_map}
use Rattle.cell_base.specs.declared.cells.Cell.{Cell}
use Rattle.cell_base.specs.declared.requests.Part.{Part}
use Rattle.cell_base.specs.declared.shifts.Grant.{Grant}
use Rattle.cell_base.specs.Histories.{replay}
use Rattle.cell_base.specs.Named.{resource_name, type_name}
use Rattle.cell_base.specs.Neighborhoods.{count}
use Rattle.cell_base.specs.Plans.{resource_of_part}
use Rattle.cell_base.specs.Stages.{capacity_of, resource_numbers}
use Rattle.step_text.specs.Steps.{done_word}
use Rattle.record_text.specs.Lines.{line_of}
use Rattle.cell_walks.specs.Outcomes.{done}
use Rattle.cell_walks.specs.Walks.{Walk, Tests, Opens, Answers}
use Rattle.record_printer.specs.Blocks.{Lines}
use Rattle.cell_texts.specs.Tests.{KnownCell, cell_file}
use Rattle.journal_texts.specs.Tests.{to_read}

-- ---- the lines of a state

-- the parts that stand on a resource, in the order of arrival
abbrev pub parts_on : Cell → List Part → ℕ → List Part
parts_on cell parts r = filter (λ part. resource_of_part cell part == r) parts

-- a number of a resource's units
abbrev pub share_words : List ℕ → ℕ → ℕ → List (List ℕ)
share_words word number units = word ∷ decimal number ∷ codes "of" ∷ decimal units ∷ []

-- the words of a resource that holds so many parts, and whose neighborhood counts so many
abbrev pub resource_words : Cell → ℕ → ℕ → ℕ → List (List ℕ)
resource_words cell r held counted = codes "resource" ∷ resource_name cell r
    ∷ share_words (codes "holds") held (capacity_of cell r) ++ share_words (codes "counted") counted (capacity_of cell r)

-- the line of a resource: how many parts stand on it and how many its neighborhood holds, each of its units
abbrev pub resource_line : Cell → List Part → ℕ → List ℕ
resource_line cell parts r = line_of (resource_words cell r (length (parts_on cell parts r)) (count cell parts r))

-- the line of a part: its job, its type, its place of the route, and whether its work there is done
abbrev pub part_line : Cell → Part → List ℕ
part_line cell part =
    line_of (codes "part" ∷ decimal part.job.0 ∷ type_name cell part.kind.0 ∷ decimal part.place ∷ done_word part.done ∷ [])

-- a resource, and the parts that stand on it
abbrev pub resource_lines : Cell → List Part → ℕ → Lines
resource_lines cell parts r = resource_line cell parts r ∷ map (part_line cell) (parts_on cell parts r)

-- each resource with its parts, in the order of the file
abbrev pub parts_lines : Cell → List Part → Lines
parts_lines cell parts = flat_map (resource_lines cell parts) (resource_numbers cell)

-- ---- the command

-- what is answered after the grants of a journal
abbrev pub located : KnownCell → List Grant → Walk
located held grants = Answers λ input outcome. outcome ≡ done (parts_lines held.cell (replay held.cell grants))

-- its walk from the cell on
abbrev pub locate_parts : KnownCell → Walk
locate_parts held = Opens (to_read held) (located held)

abbrev pub parts : List ℕ → Walk
parts cell = Tests (cell_file cell) locate_parts

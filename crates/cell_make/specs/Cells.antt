-- The cell that is drawn from a number.
use Rattle.std.specs.Prelude.{ℕ, zero, suc, ◌+◌, ◌*◌, ◌==◌, not, List, map}
use Rattle.std.specs.List.{range_with_len}
use Rattle.cell_base.specs.declared.cells.Cell.{Cell}
use Rattle.cell_base.specs.declared.cells.JobType.{JobType}
use Rattle.cell_base.specs.declared.cells.Resource.{Resource}
use Rattle.cell_base.specs.declared.cells.Step.{Step}
use Rattle.cell_base.specs.Successors.{default_next}
use Rattle.cell_make.specs.declared.cells.TheConstants.{RESOURCE_LETTER, TYPE_LETTER}
use Rattle.cell_make.specs.Draws.{next_number, number_after, draw}
use Rattle.cell_make.specs.Names.{numbered_name}

-- a resource takes two draws: 1 to 4 units, and an order from 1 to 8
abbrev pub drawn_resource : ℕ → ℕ → Resource
drawn_resource x r = record {
  name = numbered_name RESOURCE_LETTER r;
  capacity = 1 + draw x 4;
  order = 1 + draw (next_number x) 8;
}

-- the first n resources, one after the other
unfoldable pub drawn_resources : ℕ → ℕ → List Resource
drawn_resources x n = map (λ r. drawn_resource (number_after x (2 * r)) r) (range_with_len 0 n)

-- a place takes two draws: one of the sixteen resources, and whether it works there; of four draws one says that it does not
abbrev pub drawn_step : ℕ → Step
drawn_step x = record { on = record { 0 = draw x 16 }; works = not (draw (next_number x) 4 == 0) }

-- how many places a route has: 3 to 8
abbrev pub drawn_length : ℕ → ℕ
drawn_length x = 3 + draw x 6

-- the first n places of a route, whose length is drawn before them
unfoldable pub drawn_steps : ℕ → ℕ → List Step
drawn_steps x n = map (λ place. drawn_step (number_after x (1 + 2 * place))) (range_with_len 0 n)

-- a type with its route, on which each place but the last goes on to the one after it
abbrev pub drawn_type : ℕ → ℕ → JobType
drawn_type x t = record {
  name = numbered_name TYPE_LETTER t;
  route = drawn_steps x (drawn_length x);
  next = default_next (drawn_length x);
}

-- the number after the draws of a type
abbrev pub number_after_type : ℕ → ℕ
number_after_type x = number_after x (1 + 2 * drawn_length x)

-- the number after the draws of the first n types
unfoldable pub number_after_types : ℕ → ℕ → ℕ
number_after_types x zero = x
number_after_types x (suc n) = number_after_type (number_after_types x n)

-- the first n types, one after the other
unfoldable pub drawn_types : ℕ → ℕ → List JobType
drawn_types x n = map (λ t. drawn_type (number_after_types x t) t) (range_with_len 0 n)

-- the cell: sixteen resources, and then eight types
abbrev pub drawn_cell : ℕ → Cell
drawn_cell x = record { resources = drawn_resources x 16; types = drawn_types (number_after x 32) 8 }

-- the number after the draws of the cell
abbrev pub number_after_cell : ℕ → ℕ
number_after_cell x = number_after_types (number_after x 32) 8

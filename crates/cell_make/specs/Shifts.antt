-- The shift that is drawn from a number: 48 jobs, and the machines that work for them.
use Rattle.std.specs.Prelude.{ℕ, ◌+◌, ◌-◌, ◌==◌, Bool, ◌&&◌, List, [], ◌∷◌, ◌++◌, length, map, replicate, slice_index_or, sum_by}
use Rattle.std.specs.Prelude.{count_by}
use Rattle.std.specs.List.{range_with_len}
use Rattle.cell_base.specs.declared.cells.Cell.{Cell}
use Rattle.cell_base.specs.declared.cells.Step.{Step}
use Rattle.cell_base.specs.declared.cells.TypeId.{TypeId}
use Rattle.cell_base.specs.declared.requests.JobId.{JobId}
use Rattle.cell_base.specs.declared.requests.Request.{Request}
use Rattle.cell_base.specs.declared.requests.Request.TheVariants.{Load, Process, Move, Unload}
use Rattle.cell_base.specs.declared.shifts.Shift.{Shift}
use Rattle.cell_base.specs.Stages.{route_of}
use Rattle.cell_make.specs.Draws.{number_after, draw}
use Rattle.cell_make.specs.Cells.{drawn_cell, number_after_cell}

-- the types of the first n jobs: a draw each, of eight types
unfoldable pub drawn_kinds : ℕ → ℕ → List TypeId
drawn_kinds x n = map (λ j. record { 0 = draw (number_after x j) 8 }) (range_with_len 0 n)

-- a job goes in, on by the first branch to the last place, and out
abbrev pub job_script : Cell → JobId → TypeId → List Request
job_script cell job kind = Load job kind ∷ replicate (length (route_of cell kind.0) - 1) (Move job 0) ++ Unload job ∷ []

-- the place works, and on this machine
abbrev pub is_work_on : ℕ → Step → Bool
is_work_on machine step = step.works && (step.on.0 == machine)

-- how many places of the route of a type do
abbrev pub work_of_type : Cell → ℕ → TypeId → ℕ
work_of_type cell machine kind = count_by (is_work_on machine) (route_of cell kind.0)

-- how many places of the routes of jobs of these types do
abbrev pub work_of_jobs : Cell → List TypeId → ℕ → ℕ
work_of_jobs cell kinds machine = sum_by (work_of_type cell machine) kinds

-- a machine works as often as the jobs have work for it
abbrev pub machine_script : Cell → List TypeId → ℕ → List Request
machine_script cell kinds machine = replicate (work_of_jobs cell kinds machine) (Process (record { 0 = machine }))

-- the scripts of the first n jobs, which have the numbers from 1 on
unfoldable pub job_scripts : Cell → List TypeId → ℕ → List (List Request)
job_scripts cell kinds n =
    map (λ j. job_script cell (record { 0 = j + 1 }) (slice_index_or kinds j (record { 0 = 0 }))) (range_with_len 0 n)

-- the scripts of the first n machines
unfoldable pub machine_scripts : Cell → List TypeId → ℕ → List (List Request)
machine_scripts cell kinds n = map (machine_script cell kinds) (range_with_len 0 n)

-- a session for each job, and then one for each of sixteen machines
abbrev pub shift_of : Cell → List TypeId → Shift
shift_of cell kinds = record {
  number = 1;
  patience = 1000;
  scripts = job_scripts cell kinds (length kinds) ++ machine_scripts cell kinds 16;
}

-- the shift of a number, whose jobs are drawn after the cell
abbrev pub drawn_shift : ℕ → Shift
drawn_shift x = shift_of (drawn_cell x) (drawn_kinds (number_after_cell x) 48)

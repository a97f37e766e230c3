-- The drawn shift fits the drawn cell.
use Rattle.std.proofs.Common.{◌≡◌, ℕ, ◌+◌, ◌-◌, ◌<◌, ◌≤◌, List, [], ◌∷◌, length, replicate, get_or, slice_get}
use Rattle.std.proofs.Common.{Option, Some, None, sym, subst, refl, arith}
use Rattle.std.specs.List.{All}
use Rattle.std.specs.Option.{option_map_or}
use Rattle.std.proofs.lemmas.List.{length-append, length-replicate}
use Rattle.std.proofs.lemmas.List.Elements.{All-nil, All-cons, All-append, All-replicate}
use Rattle.std.proofs.lemmas.List.Sums.{sum_by-append, sum_by-le}
use Rattle.policy_laws.proofs.Lists.{All-slice_get}
use Rattle.cell_base.specs.declared.cells.Cell.{Cell}
use Rattle.cell_base.specs.declared.cells.JobType.{JobType}
use Rattle.cell_base.specs.declared.cells.TypeId.{TypeId}
use Rattle.cell_base.specs.declared.requests.JobId.{JobId}
use Rattle.cell_base.specs.declared.requests.Request.{Request}
use Rattle.cell_base.specs.declared.requests.Request.TheVariants.{Load, Process, Move, Unload}
use Rattle.cell_base.specs.Stages.{route_of}
use Rattle.cell_base.specs.Fits.{RequestFits, ShiftFits, steps_of}
use Rattle.cell_make.specs.Draws.{number_after, draw}
use Rattle.cell_make.specs.Cells.{drawn_cell, drawn_types, drawn_length, number_after_cell}
use Rattle.cell_make.specs.Shifts.{drawn_kinds, job_script, job_scripts, machine_script, machine_scripts}
use Rattle.cell_make.specs.Shifts.{work_of_jobs, drawn_shift}
use Rattle.cell_make.proofs.CellFit.{each_type}
use Rattle.cell_make.proofs.Lists.{length-resources, length-steps, length-types, length-kinds, kind-at}
use Rattle.cell_make.proofs.Lists.{length-jobs, job-at, length-machines, machine-at}
use Rattle.cell_make.proofs.Work.{machine_steps}

-- a route has at most eight places
short_routes : (x k : ℕ) → length (route_of (drawn_cell x) k) ≤ 8
short_routes x k = at (slice_get (drawn_types (number_after x 32) 8) k) refl
  where
    short : All (λ (t : JobType). length t.route ≤ 8) (drawn_types (number_after x 32) 8)
    short = each_type (λ t. length t.route ≤ 8) (number_after x 32) 8 (λ y t below. omega (arith, length-steps y (drawn_length y)))

    at : (o : Option JobType) → slice_get (drawn_types (number_after x 32) 8) k ≡ o
        → length (option_map_or (λ (t : JobType). t.route) o []) ≤ 8
    at None is = omega arith
    at (Some t) is = All-slice_get (λ (t : JobType). length t.route ≤ 8) (drawn_types (number_after x 32) 8) k t short is

module _ (cell : Cell) (kinds : List TypeId) where
  length-job_script : (job : JobId) (kind : TypeId) → length (route_of cell kind.0) ≤ 8 → length (job_script cell job kind) ≤ 9
  length-job_script job kind short =
      let n = length (route_of cell kind.0) - 1 in
      let moves = replicate n (Move job 0) in
      omega (arith, length-append (Load job kind ∷ moves) (Unload job ∷ []), length-replicate n (Move job 0))

  job_script_fits : (job : JobId) (kind : TypeId) → kind.0 < length cell.types → All (RequestFits cell) (job_script cell job kind)
  job_script_fits job kind within =
      let fits = RequestFits cell in
      let moves = replicate (length (route_of cell kind.0) - 1) (Move job 0) in
      All-append fits (Load job kind ∷ moves) (Unload job ∷ [])
      (All-cons fits (Load job kind) moves within (All-replicate fits (length (route_of cell kind.0) - 1) (Move job 0) (omega arith)))
      (All-cons fits (Unload job) [] tt (All-nil fits))

  each_job : (P : List Request → Type 0) (n : ℕ)
      → ((k : ℕ) → k < n → P (job_script cell (record { 0 = k + 1 }) (get_or kinds k (record { 0 = 0 }))))
      → All P (job_scripts cell kinds n)
  each_job P n each = λ k d within.
      let below : k < n = omega (arith, length-jobs cell kinds n, within) in
      subst P (sym (job-at cell kinds n k d below)) (each k below)

  each_machine : (P : List Request → Type 0) (n : ℕ) → ((k : ℕ) → k < n → P (machine_script cell kinds k))
      → All P (machine_scripts cell kinds n)
  each_machine P n each = λ k d within.
      let below : k < n = omega (arith, length-machines cell kinds n, within) in
      subst P (sym (machine-at cell kinds n k d below)) (each k below)

kind_within : (y k : ℕ) → k < 48 → (get_or (drawn_kinds y 48) k (record { 0 = 0 })).0 < 8
kind_within y k below =
    subst (λ (kind : TypeId). kind.0 < 8) (sym (kind-at y 48 k (record { 0 = 0 }) below)) (drawn_below (number_after y k))
  where
    drawn_below : (z : ℕ) → draw z 8 < 8
    drawn_below z = omega arith

pub kinds_within : (x y : ℕ) → All (λ (kind : TypeId). kind.0 < length (drawn_types x 8)) (drawn_kinds y 48)
kinds_within x y = λ k d within.
    let below : k < 48 = omega (arith, length-kinds y 48, within) in
    let drawn = kind-at y 48 k d below in
    subst (λ (kind : TypeId). kind.0 < length (drawn_types x 8)) (sym drawn) (omega (arith, length-types x 8))

pub shift_fits : (x : ℕ) → ShiftFits (drawn_cell x) (drawn_shift x)
shift_fits x =
    let cell = drawn_cell x in
    let kinds = drawn_kinds (number_after_cell x) 48 in
    let jobs = job_scripts cell kinds (length kinds) in
    let machines = machine_scripts cell kinds 16 in
    let many = length-kinds (number_after_cell x) 48 in
    let job_steps = sum_by-le (λ (script : List Request). length script) 9 jobs
    (each_job cell kinds (λ script. length script ≤ 9) (length kinds)
    (λ k below. length-job_script cell kinds (record { 0 = k + 1 }) (get_or kinds k (record { 0 = 0 }))
    (short_routes x (get_or kinds k (record { 0 = 0 })).0))) in
    let few : steps_of (drawn_shift x) ≤ 816 =
    omega (
      arith,
      sum_by-append (λ (script : List Request). length script) jobs machines,
      job_steps,
      many,
      length-jobs cell kinds (length kinds),
      machine_steps cell 8 16 (short_routes x) kinds,
    ) in
    record {
      number = omega arith;
      patience = (omega arith, omega arith);
      sessions =
          let both = length-append jobs machines in
          let first = length-jobs cell kinds (length kinds) in
          let second = length-machines cell kinds 16 in
          (omega (arith, both, first, second, many), omega (arith, both, first, second, many));
      steps = omega (arith, few);
      asks = omega (arith, few);
      requests = All-append (All (RequestFits cell)) jobs machines
          (each_job cell kinds (All (RequestFits cell)) (length kinds)
          (λ k below. job_script_fits cell kinds (record { 0 = k + 1 }) (get_or kinds k (record { 0 = 0 }))
          (omega (arith, length-types (number_after x 32) 8, kind_within (number_after_cell x) k (omega (arith, many, below))))))
          (each_machine cell kinds (All (RequestFits cell)) 16
          (λ k below. All-replicate (RequestFits cell) (work_of_jobs cell kinds k) (Process (record { 0 = k }))
          (omega (arith, length-resources x 16, below))));
    }

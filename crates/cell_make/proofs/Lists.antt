-- Resources, types, places, jobs and machines: how many there are, each by its number, and one more.
use Rattle.std.proofs.Common.{◌≡◌, ℕ, suc, ◌+◌, ◌*◌, ◌<◌, List, [], ◌∷◌, ◌++◌, length, get_or, ap, refl, arith}
use Rattle.std.proofs.lemmas.List.FromFn.{map-range_with_len_more, length-map-range_with_len, get_or-map-range_with_len}
use Rattle.cell_base.specs.declared.cells.Cell.{Cell}
use Rattle.cell_base.specs.declared.cells.JobType.{JobType}
use Rattle.cell_base.specs.declared.cells.Resource.{Resource}
use Rattle.cell_base.specs.declared.cells.Step.{Step}
use Rattle.cell_base.specs.declared.requests.Request.{Request}
use Rattle.cell_base.specs.declared.cells.TypeId.{TypeId}
use Rattle.cell_make.specs.Draws.{number_after, draw}
use Rattle.cell_make.specs.Cells.{drawn_resource, drawn_resources, drawn_step, drawn_steps, drawn_type, drawn_types}
use Rattle.cell_make.specs.Cells.{number_after_type, number_after_types}
use Rattle.cell_make.specs.Shifts.{drawn_kinds, job_script, job_scripts, machine_script, machine_scripts}

pub resources-none : (x : ℕ) → drawn_resources x 0 ≡ []
unfolding drawn_resources
resources-none x = refl

pub resources-more : (x n : ℕ) → drawn_resources x (n + 1) ≡ drawn_resources x n ++ drawn_resource (number_after x (2 * n)) n ∷ []
unfolding drawn_resources
resources-more x n = map-range_with_len_more (λ r. drawn_resource (number_after x (2 * r)) r) 0 n n (omega arith)

pub length-resources : (x n : ℕ) → length (drawn_resources x n) ≡ n
unfolding drawn_resources
length-resources x n = length-map-range_with_len (λ r. drawn_resource (number_after x (2 * r)) r) 0 n

pub resource-at : (x n k : ℕ) (d : Resource) → k < n → get_or (drawn_resources x n) k d ≡ drawn_resource (number_after x (2 * k)) k
unfolding drawn_resources
resource-at x n k d within = get_or-map-range_with_len (λ r. drawn_resource (number_after x (2 * r)) r) 0 n k k d within (omega arith)

pub steps-none : (x : ℕ) → drawn_steps x 0 ≡ []
unfolding drawn_steps
steps-none x = refl

pub steps-more : (x n : ℕ) → drawn_steps x (n + 1) ≡ drawn_steps x n ++ drawn_step (number_after x (1 + 2 * n)) ∷ []
unfolding drawn_steps
steps-more x n = map-range_with_len_more (λ place. drawn_step (number_after x (1 + 2 * place))) 0 n n (omega arith)

pub length-steps : (x n : ℕ) → length (drawn_steps x n) ≡ n
unfolding drawn_steps
length-steps x n = length-map-range_with_len (λ place. drawn_step (number_after x (1 + 2 * place))) 0 n

pub step-at : (x n k : ℕ) (d : Step) → k < n → get_or (drawn_steps x n) k d ≡ drawn_step (number_after x (1 + 2 * k))
unfolding drawn_steps
step-at x n k d within = get_or-map-range_with_len (λ place. drawn_step (number_after x (1 + 2 * place))) 0 n k k d within (omega arith)

pub types-none : (x : ℕ) → drawn_types x 0 ≡ []
unfolding drawn_types
types-none x = refl

pub types-more : (x n : ℕ) → drawn_types x (n + 1) ≡ drawn_types x n ++ drawn_type (number_after_types x n) n ∷ []
unfolding drawn_types
types-more x n = map-range_with_len_more (λ t. drawn_type (number_after_types x t) t) 0 n n (omega arith)

pub length-types : (x n : ℕ) → length (drawn_types x n) ≡ n
unfolding drawn_types
length-types x n = length-map-range_with_len (λ t. drawn_type (number_after_types x t) t) 0 n

pub type-at : (x n k : ℕ) (d : JobType) → k < n → get_or (drawn_types x n) k d ≡ drawn_type (number_after_types x k) k
unfolding drawn_types
type-at x n k d within = get_or-map-range_with_len (λ t. drawn_type (number_after_types x t) t) 0 n k k d within (omega arith)

pub after_types-none : (x : ℕ) → number_after_types x 0 ≡ x
unfolding number_after_types
after_types-none x = refl

pub after_types-more : (x n : ℕ) → number_after_types x (n + 1) ≡ number_after_type (number_after_types x n)
unfolding number_after_types
after_types-more x n = let one : n + 1 ≡ suc n = omega arith in ap (number_after_types x) one

pub kinds-none : (x : ℕ) → drawn_kinds x 0 ≡ []
unfolding drawn_kinds
kinds-none x = refl

pub kinds-more : (x n : ℕ) → drawn_kinds x (n + 1) ≡ drawn_kinds x n ++ record { 0 = draw (number_after x n) 8 } ∷ []
unfolding drawn_kinds
kinds-more x n =
    map-range_with_len_more (λ j. let kind : TypeId = record { 0 = draw (number_after x j) 8 } in kind) 0 n n (omega arith)

pub length-kinds : (x n : ℕ) → length (drawn_kinds x n) ≡ n
unfolding drawn_kinds
length-kinds x n = length-map-range_with_len (λ j. let kind : TypeId = record { 0 = draw (number_after x j) 8 } in kind) 0 n

pub kind-at : (x n k : ℕ) (d : TypeId) → k < n → get_or (drawn_kinds x n) k d ≡ record { 0 = draw (number_after x k) 8 }
unfolding drawn_kinds
kind-at x n k d within =
    get_or-map-range_with_len (λ j. let kind : TypeId = record { 0 = draw (number_after x j) 8 } in kind) 0 n k k d within (omega arith)

module _ (cell : Cell) (kinds : List TypeId) where
  pub jobs-none : job_scripts cell kinds 0 ≡ []
  unfolding job_scripts
  jobs-none = refl

  pub jobs-more : (n : ℕ) → job_scripts cell kinds (n + 1)
      ≡ job_scripts cell kinds n ++ job_script cell (record { 0 = n + 1 }) (get_or kinds n (record { 0 = 0 })) ∷ []
  unfolding job_scripts
  jobs-more n =
      map-range_with_len_more (λ j. job_script cell (record { 0 = j + 1 }) (get_or kinds j (record { 0 = 0 }))) 0 n n (omega arith)

  pub machines-none : machine_scripts cell kinds 0 ≡ []
  unfolding machine_scripts
  machines-none = refl

  pub machines-more : (n : ℕ) → machine_scripts cell kinds (n + 1) ≡ machine_scripts cell kinds n ++ machine_script cell kinds n ∷ []
  unfolding machine_scripts
  machines-more n = map-range_with_len_more (machine_script cell kinds) 0 n n (omega arith)

  pub length-jobs : (n : ℕ) → length (job_scripts cell kinds n) ≡ n
  unfolding job_scripts
  length-jobs n =
      length-map-range_with_len (λ j. job_script cell (record { 0 = j + 1 }) (get_or kinds j (record { 0 = 0 }))) 0 n

  pub job-at : (n k : ℕ) (d : List Request) → k < n
      → get_or (job_scripts cell kinds n) k d ≡ job_script cell (record { 0 = k + 1 }) (get_or kinds k (record { 0 = 0 }))
  unfolding job_scripts
  job-at n k d within =
      get_or-map-range_with_len (λ j. job_script cell (record { 0 = j + 1 }) (get_or kinds j (record { 0 = 0 }))) 0 n k k d within
      (omega arith)

  pub length-machines : (n : ℕ) → length (machine_scripts cell kinds n) ≡ n
  unfolding machine_scripts
  length-machines n = length-map-range_with_len (machine_script cell kinds) 0 n

  pub machine-at : (n k : ℕ) (d : List Request) → k < n → get_or (machine_scripts cell kinds n) k d ≡ machine_script cell kinds k
  unfolding machine_scripts
  machine-at n k d within = get_or-map-range_with_len (machine_script cell kinds) 0 n k k d within (omega arith)

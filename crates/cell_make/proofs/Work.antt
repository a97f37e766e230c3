-- Each place that works does so on one machine: so all machines together have no more turns than the routes have places.
use Rattle.std.proofs.Common.{◌≡◌, ℕ, zero, suc, ◌+◌, ◌*◌, ◌<◌, ◌≤◌, cond, List, [], ◌∷◌, length, sum_by}
use Rattle.std.proofs.Common.{ap, ap₂, ◌∙◌, refl, inl, inr, arith}
use Rattle.std.proofs.lemmas.Bool.{cases_lt}
use Rattle.std.proofs.lemmas.Bool.Decides.{nat_tests}
use Rattle.std.proofs.lemmas.List.{length-replicate}
use Rattle.std.proofs.lemmas.List.Sums.{sum_by-cons, sum_by_push}
use Rattle.cell_base.specs.declared.cells.Cell.{Cell}
use Rattle.cell_base.specs.declared.cells.Step.{Step}
use Rattle.cell_base.specs.declared.cells.TypeId.{TypeId}
use Rattle.cell_base.specs.declared.requests.Request.{Request}
use Rattle.cell_base.specs.declared.requests.Request.TheVariants.{Process}
use Rattle.cell_base.specs.Stages.{route_of}
use Rattle.cell_make.specs.Shifts.{is_work_on, work_of_type, work_of_jobs, machine_script, machine_scripts}
use Rattle.cell_make.proofs.Lists.{machines-none, machines-more}

-- the sum over the numbers below n
abbrev pub total : (ℕ → ℕ) → ℕ → ℕ
total f zero = 0
total f (suc n) = total f n + f n

total-none : (f : ℕ → ℕ) (n : ℕ) → ((r : ℕ) → f r ≡ 0) → total f n ≡ 0
total-none f zero none = refl
total-none f (suc n) none = omega (arith, total-none f n none, none n)

total-sum : (f g h : ℕ → ℕ) (n : ℕ) → ((r : ℕ) → h r ≡ f r + g r) → total h n ≡ total f n + total g n
total-sum f g h zero is = refl
total-sum f g h (suc n) is = omega (arith, total-sum f g h n is, is n)

-- where each element has at most so much below n, all have at most as many times that as there are elements
total_of_sums : {X : Type 0} (f : X → ℕ → ℕ) (most n : ℕ) → ((x : X) → total (f x) n ≤ most) → (xs : List X)
    → total (λ r. sum_by (λ x. f x r) xs) n ≤ length xs * most
total_of_sums f most n few [] = omega (arith, total-none (λ r. sum_by (λ x. f x r) []) n (λ r. refl))
total_of_sums f most n few (x ∷ xs) =
    omega (
      arith,
      few x,
      total_of_sums f most n few xs,
      total-sum (f x) (λ r. sum_by (λ x. f x r) xs) (λ r. sum_by (λ x. f x r) (x ∷ xs)) n (λ r. sum_by-cons (λ x. f x r) x xs),
    )

-- 1 for the machine on which the place works
abbrev hit : Step → ℕ → ℕ
hit step r = cond (is_work_on r step) 1 0

hit-few : (step : Step) (r : ℕ) → hit step r ≤ 1
hit-few step r = grind (arith, nat_tests)

hit-below : (step : Step) (r : ℕ) → step.on.0 < r → hit step r ≡ 0
hit-below step r less = grind (arith, nat_tests)

hit-above : (step : Step) (r : ℕ) → r < step.on.0 → hit step r ≡ 0
hit-above step r less = grind (arith, nat_tests)

hits-before : (step : Step) (n : ℕ) → n ≤ step.on.0 → total (hit step) n ≡ 0
hits-before step zero within = refl
hits-before step (suc n) within = omega (arith, hits-before step n (omega arith), hit-above step n (omega arith))

hits : (step : Step) (n : ℕ) → total (hit step) n ≤ 1
hits step zero = omega arith
hits step (suc n) =
    elim (cases_lt step.on.0 n) [
      | inl less ↦ omega (arith, hits step n, hit-below step n less)
      | inr le ↦ omega (arith, hits-before step n le, hit-few step n)
    ]

module _ (cell : Cell) where
  work_of_route : (n : ℕ) (kind : TypeId) → total (λ r. work_of_type cell r kind) n ≤ length (route_of cell kind.0)
  work_of_route n kind = omega (arith, total_of_sums hit 1 n (λ step. hits step n) (route_of cell kind.0))

  work_of_all : (most n : ℕ) → ((k : ℕ) → length (route_of cell k) ≤ most) → (kinds : List TypeId)
      → total (work_of_jobs cell kinds) n ≤ length kinds * most
  work_of_all most n short kinds =
      total_of_sums (λ (kind : TypeId) r. work_of_type cell r kind) most n
      (λ kind. omega (arith, work_of_route n kind, short kind.0)) kinds

  length-machine_script : (kinds : List TypeId) (r : ℕ) → length (machine_script cell kinds r) ≡ work_of_jobs cell kinds r
  length-machine_script kinds r = length-replicate (work_of_jobs cell kinds r) (Process (record { 0 = r }))

  steps_of_machines : (kinds : List TypeId) (n : ℕ)
      → sum_by (λ (script : List Request). length script) (machine_scripts cell kinds n) ≡ total (work_of_jobs cell kinds) n
  steps_of_machines kinds zero = ap (sum_by (λ (script : List Request). length script)) (machines-none cell kinds)
  steps_of_machines kinds (suc n) =
      let steps = sum_by (λ (script : List Request). length script) in
      let one : suc n ≡ n + 1 = omega arith in
      ap (λ (m : ℕ). steps (machine_scripts cell kinds m)) one ∙ ap steps (machines-more cell kinds n)
      ∙ sum_by_push (λ (script : List Request). length script) (machine_scripts cell kinds n) (machine_script cell kinds n)
      ∙ ap₂ ◌+◌ (steps_of_machines kinds n) (length-machine_script kinds n)

  -- the machines have at most as many steps as the routes of all jobs have places
  pub machine_steps : (most n : ℕ) → ((k : ℕ) → length (route_of cell k) ≤ most) → (kinds : List TypeId)
      → sum_by (λ (script : List Request). length script) (machine_scripts cell kinds n) ≤ length kinds * most
  machine_steps most n short kinds = omega (arith, steps_of_machines kinds n, work_of_all most n short kinds)

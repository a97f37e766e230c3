-- How deep the document of a cell is.
use Rattle.std.proofs.Common.{ℕ, ◌+◌, ◌≤◌, ◌==◌, List, [], ◌∷◌, arith, inl, inr}
use Rattle.std.proofs.lemmas.Bool.{cases_Bool}
use Rattle.toml.specs.Data.{Data, depth, members_depth}
use Rattle.cell_base.specs.Named.{resource_names}
use Rattle.cell_base.specs.declared.cells.Cell.{Cell}
use Rattle.cell_base.specs.declared.cells.JobType.{JobType}
use Rattle.cell_file.specs.Printing.{number_data, array_data, resource_members, resource_data, step_data}
use Rattle.cell_file.specs.Printing.{job_type_members, job_type_data, version_of, cell_members}

deep : {A : Type 0} (data_of : A → Data) (n : ℕ) (xs : List A) → ((x : A) → depth (data_of x) ≤ n)
    → depth (array_data data_of xs) ≤ n + 1
deep data_of n [] h = omega arith
deep data_of n (x ∷ xs) h = omega (arith, h x, deep data_of n xs h)

type_depth : (version : ℕ) (names : List (List ℕ)) (t : JobType) → depth (job_type_data version names t) ≤ 4
unfolding job_type_members step_data
type_depth version names t =
    let route : depth (array_data (step_data names) t.route) ≤ 1 = deep (step_data names) 0 t.route (λ s. omega arith) in
    let next : depth (array_data (array_data number_data) t.next) ≤ 2 =
    deep (array_data number_data) 1 t.next (λ ns. deep number_data 0 ns (λ n. omega arith)) in
    elim (cases_Bool (version == 2)) [
      | inl two ↦ rw two (omega (arith, next, route))
      | inr one ↦ rw one (omega (arith, route))
    ]

pub cell_depth : (cell : Cell) → members_depth (cell_members cell) ≤ 80
unfolding cell_members resource_members
cell_depth cell =
    let version = version_of cell in
    let names = resource_names cell.resources in
    let resources = deep resource_data 1 cell.resources (λ r. omega arith) in
    let types = deep (job_type_data version names) 4 cell.types (type_depth version names) in
    omega (arith, resources, types)

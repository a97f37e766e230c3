-- How much is drawn.
use Rattle.std.proofs.Common.{◌≡◌, ℕ, ◌*◌, List, length, arith, length-append}
use Rattle.std.proofs.lemmas.List.FromFn.{length-map-range_with_len}
use Rattle.cell_base.specs.declared.cells.Cell.{Cell}
use Rattle.cell_base.specs.declared.cells.TypeId.{TypeId}
use Rattle.cell_make.specs.Cells.{drawn_cell, drawn_resource, drawn_resources, drawn_type}
use Rattle.cell_make.specs.Cells.{drawn_types, number_after_cell, number_after_types}
use Rattle.cell_make.specs.Draws.{number_after}
use Rattle.cell_make.specs.Shifts.{drawn_kinds, drawn_shift, job_scripts, machine_scripts}

pub length-resources : (number : ℕ) → length (drawn_cell number).resources ≡ 16
unfolding drawn_resources
length-resources number = length-map-range_with_len (λ r. drawn_resource (number_after number (2 * r)) r) 0 16

pub length-types : (number : ℕ) → length (drawn_cell number).types ≡ 8
unfolding drawn_types
length-types number =
    length-map-range_with_len (λ t. drawn_type (number_after_types (number_after number 32) t) t) 0 8

length-kinds : (number n : ℕ) → length (drawn_kinds number n) ≡ n
unfolding drawn_kinds
length-kinds number n = length-map-range_with_len _ 0 n

length-jobs : (cell : Cell) (kinds : List TypeId) (n : ℕ) → length (job_scripts cell kinds n) ≡ n
unfolding job_scripts
length-jobs cell kinds n = length-map-range_with_len _ 0 n

length-machines : (cell : Cell) (kinds : List TypeId) (n : ℕ) → length (machine_scripts cell kinds n) ≡ n
unfolding machine_scripts
length-machines cell kinds n = length-map-range_with_len _ 0 n

pub length-sessions : (number : ℕ) → length (drawn_shift number).scripts ≡ 64
length-sessions number =
    let cell = drawn_cell number in
    let kinds = drawn_kinds (number_after_cell number) 48 in
    omega (
      arith,
      length-append (job_scripts cell kinds (length kinds)) (machine_scripts cell kinds 16),
      length-jobs cell kinds (length kinds),
      length-kinds (number_after_cell number) 48,
      length-machines cell kinds 16,
    )

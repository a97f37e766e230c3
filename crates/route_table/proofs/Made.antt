-- The lists of a table as they grow by the next type.
use Rattle.std.proofs.Common.{◌≡◌, ℕ, ◌+◌, ◌≤◌, List, [], ◌∷◌, ◌++◌, length, map, ap, sym, ◌∙◌}
use Rattle.std.specs.List.{range_with_len, flat_map}
use Rattle.std.proofs.lemmas.List.{append_assoc, length-map, map-append}
use Rattle.cell_base.specs.declared.cells.Cell.{Cell}
use Rattle.cell_base.specs.Stages.{stage, stages_of}
use Rattle.route_table.specs.declared.entries.Entry.{Entry}
use Rattle.cell_base.specs.Numbers.{first_number}
use Rattle.route_table.specs.Entries.{stage_entry, first_numbers}
use Rattle.lists.proofs.Growing.{map_next, join_next}
use Rattle.cell_base.proofs.Numbering.{length-stages_before}

module _ (cell : Cell) where
  -- the entries of the stages of the first types
  abbrev pub entries_before : ℕ → List Entry
  entries_before kinds = map (stage_entry cell) (flat_map (stages_of cell) (range_with_len 0 kinds))

  -- there are as many as the number of the first stage of the next type
  pub length-entries_before : (kinds : ℕ) → kinds ≤ length cell.types → length (entries_before kinds) ≡ first_number cell kinds
  length-entries_before kinds within =
      length-map (flat_map (stages_of cell) (range_with_len 0 kinds)) (stage_entry cell) ∙ length-stages_before cell kinds within

  pub entries_before-next : (kind : ℕ) → entries_before (kind + 1) ≡ entries_before kind ++ map (stage_entry cell) (stages_of cell kind)
  entries_before-next kind =
      ap (map (stage_entry cell)) (join_next (stages_of cell) kind)
      ∙ map-append (stage_entry cell) (flat_map (stages_of cell) (range_with_len 0 kind)) (stages_of cell kind)

  pub first_numbers-next : (kind : ℕ) → first_numbers cell (kind + 1) ≡ first_numbers cell kind ++ first_number cell kind ∷ []
  first_numbers-next kind = map_next (first_number cell) kind

-- The entries of a route as they grow by the next place.
pub entries_more : (cell : Cell) (kind place : ℕ) (old : List Entry)
    → old ++ map (stage_entry cell) (map (stage kind) (range_with_len 0 (place + 1)))
    ≡ (old ++ map (stage_entry cell) (map (stage kind) (range_with_len 0 place))) ++ stage_entry cell (stage kind place) ∷ []
entries_more cell kind place old =
    ap (λ ss. old ++ map (stage_entry cell) ss) (map_next (stage kind) place)
    ∙ ap (λ es. old ++ es) (map-append (stage_entry cell) (map (stage kind) (range_with_len 0 place)) (stage kind place ∷ []))
    ∙ sym (append_assoc old (map (stage_entry cell) (map (stage kind) (range_with_len 0 place))) (stage_entry cell (stage kind place) ∷ []))

-- The lines that show a cell are of plain words.
use Rattle.std.proofs.Common.{codes, ◌≡◌, ℕ, ◌<◌, ◌^◌, List, [], ◌∷◌, length, Option, Some, None, slice_get, All, refl, arith}
use Rattle.std.specs.Fmt.{decimal}
use Rattle.std.specs.List.{flat_map, range_with_len}
use Rattle.std.specs.Option.{option_map_or}
use Rattle.std.proofs.lemmas.List.Elements.{All-nil, All-map, All-weaker, All-cons, All-append, All-head, All-tail, All-filter}
use Rattle.cell_base.specs.declared.cells.Cell.{Cell}
use Rattle.cell_base.specs.declared.cells.Resource.{Resource}
use Rattle.cell_base.specs.Stages.{Stage, IsStage, stages, capacity_of, order_of}
use Rattle.cell_base.specs.Neighborhoods.{leads, neighborhood}
use Rattle.cell_base.specs.Named.{resource_name, type_name}
use Rattle.cell_base.specs.Fits.{CellFits, ResourceFits}
use Rattle.cell_base.proofs.Admission.{all_numbers}
use Rattle.policy_laws.proofs.Lists.{All-slice_get}
use Rattle.policy_laws.proofs.Stages.{kind_within, stages_standing}
use Rattle.policy_laws.proofs.Limits.{length-route_of}
use Rattle.step_text.specs.Words.{joined}
use Rattle.step_text.proofs.Naming.{resource_named, type_named}
use Rattle.record_text.specs.Lines.{line_of}
use Rattle.record_text.proofs.Plain.{ArePlain, key, plain_decimal, plain_name, IsLine-joined}
use Rattle.refusal_reason.specs.Shown.{IsLine, resource_line, stage_line, stage_lines, resource_lines, show_lines}

-- plain words make a line
whole : (words : List (List ℕ)) → ArePlain words → IsLine (line_of words)
whole words plain = record { words = joined words; ended = refl; one = IsLine-joined words plain }

-- what holds of each element of the lists that are joined
All-joined : {X Y : Type 0} (P : Y → Type 0) (f : X → List Y) (xs : List X) → All (λ x. All P (f x)) xs → All P (flat_map f xs)
All-joined P f [] each = All-nil P
All-joined P f (x ∷ xs) each =
    All-append P (f x) (flat_map f xs) (All-head (λ x. All P (f x)) x xs each)
    (All-joined P f xs (All-tail (λ x. All P (f x)) x xs each))

module _ (cell : Cell) (fits : CellFits cell) where
  capacity_small : (r : ℕ) → capacity_of cell r < 2 ^ 64
  capacity_small r = at (slice_get cell.resources r) refl
    where
      at : (o : Option Resource) → slice_get cell.resources r ≡ o → option_map_or (λ (x : Resource). x.capacity) o 0 < 2 ^ 64
      at None e = omega arith
      at (Some x) e = omega (arith, (All-slice_get ResourceFits cell.resources r x fits.resources e).0.1)

  order_small : (r : ℕ) → order_of cell r < 2 ^ 64
  order_small r = at (slice_get cell.resources r) refl
    where
      at : (o : Option Resource) → slice_get cell.resources r ≡ o → option_map_or (λ (x : Resource). x.order) o 0 < 2 ^ 64
      at None e = omega arith
      at (Some x) e = omega (arith, (All-slice_get ResourceFits cell.resources r x fits.resources e).1)

  resource_is_line : (r : ℕ) → r < length cell.resources → IsLine (resource_line cell r)
  resource_is_line r within =
      whole
      (codes "resource" ∷ resource_name cell r ∷ codes "capacity" ∷ decimal (capacity_of cell r) ∷ codes "order" ∷ decimal (order_of cell r)
      ∷ []) (
        key (codes "resource") refl,
        (
          plain_name _ (resource_named cell fits r within),
          (
            key (codes "capacity") refl,
            (
              plain_decimal (capacity_of cell r) (capacity_small r),
              (key (codes "order") refl, (plain_decimal (order_of cell r) (order_small r), tt)),
            ),
          ),
        ),
      )

  stage_is_line : (s : Stage) → IsStage cell s → IsLine (stage_line cell s)
  stage_is_line s standing =
      whole (codes "stage" ∷ type_name cell s.kind ∷ decimal s.place ∷ []) (
        key (codes "stage") refl,
        (
          plain_name _ (type_named cell fits s.kind (kind_within cell s standing)),
          (plain_decimal s.place (omega (arith, standing, length-route_of cell fits s.kind)), tt),
        ),
      )

  resource_are_lines : (r : ℕ) → r < length cell.resources → All IsLine (resource_lines cell r)
  resource_are_lines r within =
      All-cons IsLine (resource_line cell r) (stage_lines cell (neighborhood cell r)) (resource_is_line r within)
      (All-map IsLine (stage_line cell) (neighborhood cell r)
      (All-weaker (IsStage cell) (λ s. IsLine (stage_line cell s)) stage_is_line (neighborhood cell r)
      (All-filter (λ s. leads cell s r) (IsStage cell) (stages cell) (stages_standing cell))))

  pub show_lines_are_lines : All IsLine (show_lines cell)
  show_lines_are_lines = All-joined IsLine (resource_lines cell) (range_with_len 0 (length cell.resources))
      (all_numbers (length cell.resources) (λ r. All IsLine (resource_lines cell r)) resource_are_lines)

-- The parts of an admitted state are few enough: there is room for one that may arrive.
use Rattle.std.proofs.Common.{◌≡◌, ◌<◌, ◌≤◌, None, List, [], ◌∷◌, ◌++◌, length, arith}
use Rattle.std.proofs.lemmas.List.{length_push}
use Rattle.cell_base.specs.declared.limits.TheConstants.{MAX_UNITS}
use Rattle.cell_base.specs.declared.cells.Cell.{Cell}
use Rattle.cell_base.specs.declared.requests.Part.{Part}
use Rattle.cell_base.specs.Stages.{IsStage, stage_of}
use Rattle.cell_base.specs.Policy.{first_over, IsAdmitted}
use Rattle.cell_base.specs.Outcomes.{without}
use Rattle.cell_base.specs.Fits.{CellFits, units_of}
use Rattle.policy_laws.proofs.Parts.{without-others}
use Rattle.policy_laws.proofs.States.{IsState-push, IsState-without, within-first_over}
use Rattle.policy_laws.proofs.Units.{units_law}

-- a part that may come in the place of its job's present one leaves the state admitted
arrives-admitted : (cell : Cell) (parts : List Part) (part : Part) → IsAdmitted cell parts → IsStage cell (stage_of part)
    → first_over cell (without parts part.job ++ part ∷ []) ≡ None → IsAdmitted cell (without parts part.job ++ part ∷ [])
arrives-admitted cell parts part admitted at none = record {
  state =
      IsState-push cell (without parts part.job) part (IsState-without cell parts part.job admitted.state)
      (without-others parts part.job) at;
  within = within-first_over cell (without parts part.job ++ part ∷ []) none;
}

-- so there is room for it
pub room_for : (cell : Cell) → CellFits cell → (parts : List Part) (part : Part) → IsAdmitted cell parts
    → IsStage cell (stage_of part) → first_over cell (without parts part.job ++ part ∷ []) ≡ None
    → length (without parts part.job) < units_of cell.resources
room_for cell fits parts part admitted at none =
    omega (
      arith,
      length_push (without parts part.job) part,
      units_law cell fits (without parts part.job ++ part ∷ []) (arrives-admitted cell parts part admitted at none),
    )

pub few_parts : (cell : Cell) → CellFits cell → (parts : List Part) → IsAdmitted cell parts → length parts ≤ MAX_UNITS
few_parts cell fits parts admitted = omega (arith, units_law cell fits parts admitted, fits.units)

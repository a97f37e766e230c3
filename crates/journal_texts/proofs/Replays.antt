-- Grants that were given in turn: the state after them is admitted.
use Rattle.std.proofs.Common.{List, [], ◌∷◌, All}
use Rattle.std.proofs.lemmas.List.Elements.{All-head, All-tail}
use Rattle.cell_base.specs.declared.cells.Cell.{Cell}
use Rattle.cell_base.specs.declared.requests.Part.{Part}
use Rattle.cell_base.specs.declared.shifts.Grant.{Grant}
use Rattle.cell_base.specs.Fits.{CellFits, RequestFits}
use Rattle.cell_base.specs.Histories.{after_requests, replay, requests_of}
use Rattle.cell_base.specs.Outcomes.{state_after}
use Rattle.cell_base.specs.Policy.{IsAdmitted}
use Rattle.policy_laws.proofs.Admission.{admission_law}
use Rattle.policy_laws.proofs.States.{IsAdmitted-empty}
use Rattle.journal_format.specs.Replayed.{AreDue}

module _ (cell : Cell) (fits : CellFits cell) where
  admitted_replayed : (parts : List Part) (grants : List Grant) → IsAdmitted cell parts
      → All (λ (grant : Grant). RequestFits cell grant.request) grants → IsAdmitted cell (after_requests cell parts (requests_of grants))
  admitted_replayed parts [] admitted fit = admitted
  admitted_replayed parts (grant ∷ grants) admitted fit =
      let Fits : Grant → Type 0 = λ g. RequestFits cell g.request in
      admitted_replayed (state_after cell parts grant.request) grants
      ((admission_law cell fits parts admitted).request grant.request (All-head Fits grant grants fit))
      (All-tail Fits grant grants fit)

  -- the state after the grants of a journal is admitted
  pub replay_admitted : (grants : List Grant) → AreDue cell grants → IsAdmitted cell (replay cell grants)
  replay_admitted grants due = admitted_replayed [] grants (IsAdmitted-empty cell) due.fit

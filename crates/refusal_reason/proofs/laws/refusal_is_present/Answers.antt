-- A saturation names a neighborhood that is full.
use Rattle.std.proofs.Common.{◌≡◌, List}
use Rattle.cell_base.specs.declared.cells.Cell.{Cell}
use Rattle.cell_base.specs.declared.requests.Part.{Part}
use Rattle.cell_base.specs.declared.requests.Request.{Request}
use Rattle.cell_base.specs.declared.requests.Refusal.{Refusal}
use Rattle.cell_base.specs.declared.requests.Refusal.TheVariants.{Saturated}
use Rattle.cell_base.specs.declared.requests.Reply.TheVariants.{Refused}
use Rattle.cell_base.specs.Outcomes.{reply_to}
use Rattle.cell_base.specs.Policy.{IsAdmitted}
use Rattle.cell_base.specs.Fits.{CellFits, RequestFits}
use Rattle.policy_laws.proofs.Admission.{saturation_law}
use Rattle.refusal_reason.specs.Reasons.{IsPresent}
use Rattle.refusal_reason.proofs.laws.refusal_is_present.Goals as goal

present : (cell : Cell) → CellFits cell → (parts : List Part) → IsAdmitted cell parts → (request : Request) → RequestFits cell request
    → (why : Refusal) → reply_to cell parts request ≡ Refused why → IsPresent cell parts why
present cell fits parts admitted request fit (Saturated at held units) e =
    saturation_law cell fits parts admitted request fit at held units e
present cell fits parts admitted request fit why e = tt

pub returns : goal.returns
returns c =
    present c.args.core.now.cell c.core_law.ensures.fits c.args.core.now.parts c.core_law.ensures.admitted c.args.request.now
    c.requires.request
    c.args.refusal.now c.requires.refused

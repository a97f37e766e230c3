-- Requests that fit the cell: the states after them are admitted, and the entries of a legal history fit.
use Rattle.std.proofs.Common.{◌≡◌, List, [], ◌∷◌, All}
use Rattle.std.proofs.lemmas.List.Elements.{All-nil, All-cons, All-head, All-tail}
use Rattle.cell_base.specs.declared.cells.Cell.{Cell}
use Rattle.cell_base.specs.declared.requests.Part.{Part}
use Rattle.cell_base.specs.declared.requests.Request.{Request}
use Rattle.cell_base.specs.declared.requests.Refusal.{Refusal}
use Rattle.cell_base.specs.declared.requests.Refusal.TheVariants.{Saturated}
use Rattle.cell_base.specs.declared.requests.Reply.TheVariants.{Granted, Refused}
use Rattle.cell_base.specs.declared.requests.Told.{Told}
use Rattle.cell_base.specs.declared.requests.Told.TheVariants.{Answered, Halted}
use Rattle.cell_base.specs.declared.shifts.Entry.{Entry}
use Rattle.cell_base.specs.Fits.{CellFits, RequestFits}
use Rattle.cell_base.specs.Histories.{IsLegal, IsToldRightly, after, state_after_entry}
use Rattle.cell_base.specs.Outcomes.{reply_to}
use Rattle.cell_base.specs.Policy.{IsAdmitted}
use Rattle.policy_laws.proofs.Admission.{admission_law, after_entry_admitted, saturation_law}
use Rattle.record_text.specs.Fitting.{EntryFits, ToldFits, RefusalFits}

module _ (cell : Cell) (fits : CellFits cell) where
  -- why a request is refused fits
  pub refusal_fits : (parts : List Part) (request : Request) (why : Refusal) → IsAdmitted cell parts → RequestFits cell request
      → reply_to cell parts request ≡ Refused why → RefusalFits cell why
  refusal_fits parts request (Saturated at held units) admitted fit is =
      (saturation_law cell fits parts admitted request fit at held units is).resource
  refusal_fits parts request why admitted fit is = tt

  told_fits : (parts : List Part) (request : Request) (told : Told) (later : List Entry) → IsAdmitted cell parts
      → RequestFits cell request
      → IsToldRightly cell parts request told later → ToldFits cell told
  told_fits parts request (Answered Granted) later admitted fit is = tt
  told_fits parts request (Answered (Refused why)) later admitted fit is = refusal_fits parts request why admitted fit is
  told_fits parts request Halted later admitted fit is = tt

  -- so the entries fit
  pub entries_fit : (parts : List Part) (entries : List Entry) → IsAdmitted cell parts → IsLegal cell parts entries
      → All (λ (entry : Entry). RequestFits cell entry.request) entries → All (EntryFits cell) entries
  entries_fit parts [] admitted legal fit = All-nil _
  entries_fit parts (entry ∷ entries) admitted legal fit =
      let Fits : Entry → Type 0 = λ e. RequestFits cell e.request in
      let here : RequestFits cell entry.request = All-head Fits entry entries fit in
      All-cons (EntryFits cell) entry entries
      (record { request = here; told = told_fits parts entry.request entry.told entries admitted here legal.0 })
      (entries_fit (state_after_entry cell parts entry.request entry.told) entries
      (after_entry_admitted cell fits parts entry.request entry.told admitted here) legal.1 (All-tail Fits entry entries fit))

  -- and the state after them is admitted
  pub admitted_after : (parts : List Part) (entries : List Entry) → IsAdmitted cell parts
      → All (λ (entry : Entry). RequestFits cell entry.request) entries
      → IsAdmitted cell (after cell parts entries)
  admitted_after parts entries admitted fit = (admission_law cell fits parts admitted).history entries fit

-- The entries of a history in rounds fit the cell, and the state after it is hybrid.
use Rattle.std.proofs.Common.{◌≡◌, List, [], ◌∷◌, All, inl}
use Rattle.std.proofs.lemmas.List.Elements.{All-nil, All-cons, All-head, All-tail}
use Rattle.cell_base.specs.declared.cells.Cell.{Cell}
use Rattle.cell_base.specs.declared.requests.Part.{Part}
use Rattle.cell_base.specs.declared.requests.Request.{Request}
use Rattle.cell_base.specs.declared.requests.Refusal.{Refusal}
use Rattle.cell_base.specs.declared.requests.Refusal.TheVariants.{Saturated}
use Rattle.cell_base.specs.declared.requests.Told.TheVariants.{Answered}
use Rattle.cell_base.specs.Fits.{CellFits, RequestFits}
use Rattle.policy_laws.proofs.States.{IsAdmitted-empty}
use Rattle.record_text.specs.Fitting.{RefusalFits, ToldFits}
use Rattle.banker_check.specs.declared.replies.HybridReply.{HybridReply}
use Rattle.banker_check.specs.declared.replies.HybridReply.TheVariants.{Granted, Refused, Blocked}
use Rattle.banker_check.specs.Hybrid.{IsHybrid, reply_h, state_after_h}
use Rattle.banker_check.proofs.HybridEndings.{blocked_law, hybrid-state, hybrid_law, unsaturated_law}
use Rattle.hybrid_rounds.specs.declared.entries.HybridEntry.{HybridEntry}
use Rattle.hybrid_rounds.specs.Histories.{IsLegalHybrid, after_h, taken, taken_reply}
use Rattle.record_text.specs.Fitting.{EntryFits}
use Rattle.hybrid_command.specs.Lines.{HistoryFits}

pub hybrid-empty : (cell : Cell) → IsHybrid cell []
hybrid-empty cell = inl (IsAdmitted-empty cell)

module _ (cell : Cell) (fits : CellFits cell) where
  -- a refusal is no saturation, and so names no resource
  refusal_fits : (parts : List Part) (request : Request) (why : Refusal) → IsHybrid cell parts → RequestFits cell request
      → reply_h cell parts request ≡ Refused why → RefusalFits cell why
  refusal_fits parts request (Saturated at held units) kept fit is =
      absurd (unsaturated_law cell fits parts request (hybrid-state cell parts kept) fit at held units is)
  refusal_fits parts request why kept fit is = tt

  -- a block names one of the cell
  told_fits : (parts : List Part) (request : Request) (told : HybridReply) → IsHybrid cell parts → RequestFits cell request
      → reply_h cell parts request ≡ told → ToldFits cell (Answered (taken_reply told))
  told_fits parts request Granted kept fit is = tt
  told_fits parts request (Refused why) kept fit is = refusal_fits parts request why kept fit is
  told_fits parts request (Blocked at count capacity stuck) kept fit is =
      (blocked_law cell fits parts request (hybrid-state cell parts kept) fit at count capacity stuck is).resource

  pub history_fits : (parts : List Part) (entries : List HybridEntry) → IsHybrid cell parts → IsLegalHybrid cell parts entries
      → All (λ (entry : HybridEntry). RequestFits cell entry.request) entries → HistoryFits cell entries
  history_fits parts [] kept legal fit = All-nil _
  history_fits parts (entry ∷ entries) kept legal fit =
      let Fits : HybridEntry → Type 0 = λ e. RequestFits cell e.request in
      let here : RequestFits cell entry.request = All-head Fits entry entries fit in
      All-cons (λ (e : HybridEntry). EntryFits cell (taken e)) entry entries
      (record { request = here; told = told_fits parts entry.request entry.told kept here legal.0 })
      (history_fits (state_after_h cell parts entry.request) entries (hybrid_law cell fits parts entry.request kept here) legal.1
      (All-tail Fits entry entries fit))

  pub hybrid_after : (parts : List Part) (entries : List HybridEntry) → IsHybrid cell parts
      → All (λ (entry : HybridEntry). RequestFits cell entry.request) entries → IsHybrid cell (after_h cell parts entries)
  hybrid_after parts [] kept fit = kept
  hybrid_after parts (entry ∷ entries) kept fit =
      let Fits : HybridEntry → Type 0 = λ e. RequestFits cell e.request in
      hybrid_after (state_after_h cell parts entry.request) entries
      (hybrid_law cell fits parts entry.request kept (All-head Fits entry entries fit)) (All-tail Fits entry entries fit)

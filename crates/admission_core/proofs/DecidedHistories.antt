-- A legal history of requests that fit, from an admitted state, is decided entry by entry.
use Rattle.std.proofs.Common.{◌≡◌, ◌∙◌, List, [], ◌∷◌, ◌++◌, All, ap, subst}
use Rattle.std.proofs.lemmas.List.Elements.{All-head, All-tail}
use Rattle.cell_base.specs.declared.cells.Cell.{Cell}
use Rattle.cell_base.specs.declared.requests.Part.{Part}
use Rattle.cell_base.specs.declared.requests.Reply.{Reply}
use Rattle.cell_base.specs.declared.requests.Request.{Request}
use Rattle.cell_base.specs.declared.requests.Told.{Told}
use Rattle.cell_base.specs.declared.requests.Told.TheVariants.{Answered, Halted}
use Rattle.cell_base.specs.declared.shifts.Entry.{Entry}
use Rattle.cell_base.specs.Fits.{CellFits, RequestFits}
use Rattle.cell_base.specs.Histories.{IsLegal, IsToldRightly, after, state_after_entry}
use Rattle.cell_base.specs.Outcomes.{reply_to}
use Rattle.cell_base.specs.Policy.{IsAdmitted}
use Rattle.admission_core.specs.DecidedHistories.{AreDecided, IsDecidedAt, reply_in}
use Rattle.policy_laws.specs.Decisions.{DecidesBy, IsDecided}
use Rattle.policy_laws.proofs.Admission.{after_entry_admitted}
use Rattle.policy_laws.proofs.Decisions.{decision_law}

-- what was told rightly of a request is the reply to it
told_is : (cell : Cell) (parts : List Part) (request : Request) (told : Told) (later : List Entry)
    → IsToldRightly cell parts request told later → reply_to cell parts request ≡ reply_in told
told_is cell parts request (Answered reply) later right = right
told_is cell parts request Halted later right = right.0

module _ (cell : Cell) (fits : CellFits cell) where
  abbrev Asks : Entry → Type 0
  Asks entry = RequestFits cell entry.request

  decided_at : (parts : List Part) (entry : Entry) (later : List Entry) → IsAdmitted cell parts → RequestFits cell entry.request
      → IsToldRightly cell parts entry.request entry.told later → IsDecidedAt cell parts entry
  decided_at parts entry later admitted fit right =
      let is : reply_to cell parts entry.request ≡ reply_in entry.told = told_is cell parts entry.request entry.told later right in
      let law : DecidesBy cell parts entry.request = decision_law cell fits parts admitted entry.request fit in
      record {
        admitted = admitted;
        reply = subst (λ (reply : Reply). IsDecided cell parts entry.request reply) is law.reply;
        next = λ granted. law.state (is ∙ ap reply_in granted);
      }

  after_those_before : (before : List Entry) (parts : List Part) (entry : Entry) (later : List Entry) → IsAdmitted cell parts
      → IsLegal cell parts (before ++ entry ∷ later) → All Asks (before ++ entry ∷ later)
      → IsDecidedAt cell (after cell parts before) entry
  after_those_before [] parts entry later admitted legal fit =
      decided_at parts entry later admitted (All-head Asks entry later fit) legal.0
  after_those_before (first ∷ before) parts entry later admitted legal fit =
      after_those_before before (state_after_entry cell parts first.request first.told) entry later
      (after_entry_admitted cell fits parts first.request first.told admitted (All-head Asks first (before ++ entry ∷ later) fit))
      legal.1 (All-tail Asks first (before ++ entry ∷ later) fit)

  pub are_decided : (parts : List Part) (history : List Entry) → IsAdmitted cell parts → IsLegal cell parts history
      → All (λ (entry : Entry). RequestFits cell entry.request) history → AreDecided cell parts history
  are_decided parts history admitted legal fit = λ before entry later is.
      after_those_before before parts entry later admitted (subst (IsLegal cell parts) is legal) (subst (All Asks) is fit)

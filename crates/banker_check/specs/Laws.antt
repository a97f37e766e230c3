-- The laws of orders, stuck sets and the hybrid.
use Rattle.std.specs.Prelude.{◌≡◌, ◌≢◌, ℕ, ◌+◌, ◌<◌, Bool, true, false, ◌↔◌, Some, None, List, [], ◌∷◌, length}
use Rattle.std.specs.List.{Contains}
use Rattle.cell_base.specs.declared.cells.Cell.{Cell}
use Rattle.cell_base.specs.declared.cells.ResId.{ResId}
use Rattle.cell_base.specs.declared.requests.Part.{Part}
use Rattle.cell_base.specs.declared.requests.Refusal.TheVariants.{Saturated}
use Rattle.cell_base.specs.declared.requests.Request.{Request}
use Rattle.cell_base.specs.declared.requests.Reply.TheVariants.{Granted as Permitted}
use Rattle.banker_check.specs.declared.replies.HybridReply.{HybridReply}
use Rattle.banker_check.specs.declared.replies.HybridReply.TheVariants.{Granted, Refused, Blocked}
use Rattle.cell_base.specs.Stages.{capacity_of}
use Rattle.cell_base.specs.Neighborhoods.{count}
use Rattle.cell_base.specs.Policy.{IsState, HaveDistinctJobs}
use Rattle.cell_base.specs.Outcomes.{without, reply_to, state_after}
use Rattle.cell_base.specs.Plans.{work}
use Rattle.cell_base.specs.Fits.{RequestFits}
use Rattle.policy_laws.specs.Decisions.{IsFirstOverfilled, PassesTests, wanted}
use Rattle.banker_check.specs.StuckSets.{is_stuck, sublists, stuck}
use Rattle.banker_check.specs.Orders.{IsOrder, IsOrdered, is_ordered}
use Rattle.banker_check.specs.Hybrid.{IsHybrid, admit_h, outcome_h, reply_h, state_after_h}
use Rattle.banker_check.specs.HybridPlans.{goes_first, plan_h, plan_h_of, DrainsHybrid}

-- parts that could be first are taken out, one after the other, until none of those that are left could
abbrev pub TakesOut : Cell → List Part → List Part → List Part → Type 0
TakesOut cell parts [] left = (parts ≡ left) × (is_stuck cell left ≡ true)
TakesOut cell parts (part ∷ taken) left =
    Contains parts part × (goes_first cell parts part ≡ true) × TakesOut cell (without parts part.job) taken left

-- which parts are taken out first does not matter: what greed leaves is a largest stuck set
pub record GreedLaw (cell : Cell) : Type 0 where
  pub harmless : (parts : List Part) (part : Part) → IsOrdered cell parts → Contains parts part → goes_first cell parts part ≡ true
      → IsOrdered cell (without parts part.job)
  pub leaves : (parts taken left : List Part) → HaveDistinctJobs parts → TakesOut cell parts taken left → length left ≡ stuck cell parts
  pub holds : (parts taken left set : List Part) → HaveDistinctJobs parts → TakesOut cell parts taken left → Contains (sublists parts) set
      → is_stuck cell set ≡ true → (part : Part) → Contains set part → Contains left part

-- a part is first in some order of an ordered state exactly where the others do not hold it up
abbrev pub FirstLaw : Cell → Type 0
FirstLaw cell =
    (parts : List Part) (part : Part) → IsOrdered cell parts → Contains parts part
    → (goes_first cell parts part ≡ true) ↔ ((behind : List Part) × IsOrder cell parts (part ∷ behind))

-- the test finds whether there is an order
abbrev pub OrderedLaw : Cell → Type 0
OrderedLaw cell = (parts : List Part) → (is_ordered cell parts ≡ true) ↔ IsOrdered cell parts

-- what the policy grants is granted, with the same next state
abbrev pub GrantLaw : Cell → Type 0
GrantLaw cell =
    (parts : List Part) (request : Request) → IsState cell parts → RequestFits cell request → reply_to cell parts request ≡ Permitted
    → outcome_h cell parts request ≡ (Granted, state_after cell parts request)

-- a load or move that passes its other tests is granted exactly where the next state is hybrid
abbrev pub BlockLaw : Cell → Type 0
BlockLaw cell = (parts next : List Part) → IsState cell next → ((admit_h cell parts next).0 ≡ Granted) ↔ IsHybrid cell next

-- no request is refused for a full neighborhood
abbrev pub UnsaturatedLaw : Cell → Type 0
UnsaturatedLaw cell =
    (parts : List Part) (request : Request) → IsState cell parts → RequestFits cell request → (at : ResId) (held units : ℕ)
    → reply_h cell parts request ≢ Refused (Saturated at held units)

-- a resource of the cell, with its capacity and a count above it
pub record IsOverfilled (cell : Cell) (at : ResId) (held units : ℕ) : Type 0 where
  pub resource : at.0 < length cell.resources
  pub capacity : units ≡ capacity_of cell at.0
  pub over : units < held

-- a block names such a resource
abbrev pub BlockedLaw : Cell → Type 0
BlockedLaw cell =
    (parts : List Part) (request : Request) → IsState cell parts → RequestFits cell request → (at : ResId) (held units parts_stuck : ℕ)
    → reply_h cell parts request ≡ Blocked at held units parts_stuck → IsOverfilled cell at held units

-- the reply is a block
abbrev pub is_blocked : HybridReply → Bool
is_blocked (Blocked at held units parts_stuck) = true
is_blocked Granted = false
is_blocked (Refused why) = false

-- a block tells of the next parts: the least resource whose neighborhood they overfill, how many of them count there, how many units
-- it has, and how many of them are stuck
pub record TellsBlock (cell : Cell) (next : List Part) (at : ResId) (held units parts_stuck : ℕ) : Type 0 where
  pub least : IsFirstOverfilled cell next at.0
  pub counted : held ≡ count cell next at.0
  pub limit : units ≡ capacity_of cell at.0
  pub remain : parts_stuck ≡ stuck cell next

-- where no earlier test refuses, a request is granted if the state that it asks for is hybrid, and then has that state; it is blocked if
-- not, and the block tells of that state
pub record DecidesHybrid (cell : Cell) (parts : List Part) (request : Request) : Type 0 where
  pub granted : (reply_h cell parts request ≡ Granted) ↔ (PassesTests cell parts request × IsHybrid cell (wanted cell parts request))
  pub blocked : (is_blocked (reply_h cell parts request) ≡ true)
      ↔ (PassesTests cell parts request × ¬ IsHybrid cell (wanted cell parts request))
  pub told : (at : ResId) (held units parts_stuck : ℕ) → reply_h cell parts request ≡ Blocked at held units parts_stuck
      → TellsBlock cell (wanted cell parts request) at held units parts_stuck
  pub state : reply_h cell parts request ≡ Granted → state_after_h cell parts request ≡ wanted cell parts request

-- a hybrid state decides each request that fits so
abbrev pub HybridDecisionLaw : Cell → Type 0
HybridDecisionLaw cell =
    (parts : List Part) (request : Request) → IsHybrid cell parts → RequestFits cell request → DecidesHybrid cell parts request

-- each request that fits leads from a hybrid state to a hybrid state
abbrev pub HybridLaw : Cell → Type 0
HybridLaw cell =
    (parts : List Part) (request : Request) → IsHybrid cell parts → RequestFits cell request
    → IsHybrid cell (state_after_h cell parts request)

-- the request fits and is granted, keeps the state hybrid, and takes one from the work left
pub record AdvancesHybrid (cell : Cell) (parts : List Part) (request : Request) : Type 0 where
  pub fits : RequestFits cell request
  pub granted : reply_h cell parts request ≡ Granted
  pub hybrid : IsHybrid cell (state_after_h cell parts request)
  pub nearer : work cell (state_after_h cell parts request) + 1 ≡ work cell parts

-- the plan has a step unless the cell is empty; each step advances; and it empties the cell in as many steps as the parts need
pub record HasHybridPlan (cell : Cell) (parts : List Part) : Type 0 where
  pub none : (plan_h cell parts ≡ None) ↔ (parts ≡ [])
  pub step : (request : Request) → plan_h cell parts ≡ Some request → AdvancesHybrid cell parts request
  pub drains : DrainsHybrid cell parts (plan_h_of cell parts)
  pub steps : length (plan_h_of cell parts) ≡ work cell parts

-- every hybrid state can be drained by its plan
abbrev pub HybridPlanLaw : Cell → Type 0
HybridPlanLaw cell = (parts : List Part) → IsHybrid cell parts → HasHybridPlan cell parts

-- The states that the hybrid policy admits, and what a request does to them.
use Rattle.std.specs.Prelude.{ℕ, not, ◌⊎◌, if◌then◌else◌, Option, None, Some, List, [], ◌∷◌, ◌++◌}
use Rattle.std.specs.Option.{option_map_or}
use Rattle.cell_base.specs.declared.cells.Cell.{Cell}
use Rattle.cell_base.specs.declared.requests.Part.{Part}
use Rattle.cell_base.specs.declared.requests.Request.{Request}
use Rattle.cell_base.specs.declared.requests.Request.TheVariants.{Load, Process, Move, Unload, Place}
use Rattle.cell_base.specs.declared.requests.Refusal.{Refusal}
use Rattle.cell_base.specs.declared.requests.Refusal.TheVariants.{JobLoaded, NoSuchJob, NotProcessed, AtLast, NoBranch}
use Rattle.cell_base.specs.declared.requests.Reply.{Reply}
use Rattle.cell_base.specs.declared.requests.Reply.TheVariants.{Granted as Permitted, Refused as Denied}
use Rattle.banker_check.specs.declared.replies.HybridReply.{HybridReply}
use Rattle.banker_check.specs.declared.replies.HybridReply.TheVariants.{Granted, Refused, Blocked}
use Rattle.cell_base.specs.Stages.{Stage, stage_of, capacity_of, is_last, successor}
use Rattle.cell_base.specs.Neighborhoods.{count}
use Rattle.cell_base.specs.Policy.{IsAdmitted, is_loaded, first_over}
use Rattle.cell_base.specs.Outcomes.{part_of, without, arrival, outcome_of_process, outcome_of_unload}
use Rattle.banker_check.specs.StuckSets.{stuck}
use Rattle.banker_check.specs.Orders.{IsOrdered, is_ordered}

-- the policy admits the parts, or they can run to their ends in some order
abbrev pub IsHybrid : Cell → List Part → Type 0
IsHybrid cell parts = IsAdmitted cell parts ⊎ IsOrdered cell parts

-- a reply of the policy as one of the hybrid
abbrev pub as_hybrid : Reply → HybridReply
as_hybrid Permitted = Granted
as_hybrid (Denied why) = Refused why

-- a refusal leaves the parts
abbrev pub refuse_h : Refusal → List Part → HybridReply × List Part
refuse_h why parts = (Refused why, parts)

-- the next parts are no hybrid state: the least resource that they would fill above its units, and how many of them would be stuck
abbrev pub block : Cell → List Part → List Part → ℕ → HybridReply × List Part
block cell parts next r = (Blocked (record { 0 = r }) (count cell next r) (capacity_of cell r) (stuck cell next), parts)

-- the step from the present parts to the next ones, unless the policy does not admit them and they have no order either
abbrev pub admit_h : Cell → List Part → List Part → HybridReply × List Part
admit_h cell parts next =
    option_map_or (λ r. if is_ordered cell next then (Granted, next) else block cell parts next r) (first_over cell next) (Granted, next)

-- a part that is done goes to a successor of its stage, if there is one by that branch
abbrev pub outcome_h_of_step : Cell → List Part → Part → Option Stage → HybridReply × List Part
outcome_h_of_step cell parts part None = refuse_h NoBranch parts
outcome_h_of_step cell parts part (Some to) = admit_h cell parts (without parts part.job ++ arrival cell part.job part.kind to.place ∷ [])

-- a move by a branch, where the job has this part
abbrev pub outcome_h_of_move : Cell → List Part → Option Part → ℕ → HybridReply × List Part
outcome_h_of_move cell parts None branch = refuse_h NoSuchJob parts
outcome_h_of_move cell parts (Some part) branch =
    if not part.done then refuse_h NotProcessed parts
    else (if is_last cell (stage_of part) then refuse_h AtLast parts
    else outcome_h_of_step cell parts part (successor cell (stage_of part) branch))

-- a part that is to be appended, where its job is not there yet
abbrev pub outcome_h_of_entry : Cell → List Part → Part → HybridReply × List Part
outcome_h_of_entry cell parts part =
    if is_loaded parts part.job then refuse_h JobLoaded parts else admit_h cell parts (parts ++ part ∷ [])

-- the reply of the hybrid to a request that fits the cell, and the next state
abbrev pub outcome_h : Cell → List Part → Request → HybridReply × List Part
outcome_h cell parts (Load job kind) = outcome_h_of_entry cell parts (arrival cell job kind 0)
outcome_h cell parts (Process machine) = let o = outcome_of_process cell parts machine.0 in (as_hybrid o.0, o.1)
outcome_h cell parts (Move job branch) = outcome_h_of_move cell parts (part_of parts job) branch
outcome_h cell parts (Unload job) = let o = outcome_of_unload cell parts (part_of parts job) in (as_hybrid o.0, o.1)
outcome_h cell parts (Place done kind job place) =
    outcome_h_of_entry cell parts (record { job = job; kind = kind; place = place; done = done })

-- the reply alone
abbrev pub reply_h : Cell → List Part → Request → HybridReply
reply_h cell parts request = (outcome_h cell parts request).0

-- the next state alone
abbrev pub state_after_h : Cell → List Part → Request → List Part
state_after_h cell parts request = (outcome_h cell parts request).1

-- Records of two small cells, as the definitions write them.
use Rattle.std.proofs.Common.{◌≡◌, ℕ, false, true, List, [], ◌∷◌, ◌++◌, refl}
use Rattle.std.specs.Prelude.{codes}
use Rattle.std.specs.Fmt.{digits}
use Rattle.std.specs.List.{flat_map}
use Rattle.cell_base.specs.declared.cells.Cell.{Cell}
use Rattle.cell_base.specs.declared.cells.Resource.{Resource}
use Rattle.cell_base.specs.declared.cells.Step.{Step}
use Rattle.cell_base.specs.declared.requests.Request.{Request}
use Rattle.cell_base.specs.declared.requests.Request.TheVariants.{Load, Process, Move, Unload, Place}
use Rattle.cell_base.specs.declared.requests.Refusal.TheVariants.{NotProcessed, NoBranch, Saturated}
use Rattle.cell_base.specs.declared.requests.Reply.TheVariants.{Granted, Refused}
use Rattle.cell_base.specs.declared.requests.Told.{Told}
use Rattle.cell_base.specs.declared.requests.Told.TheVariants.{Answered, Halted}
use Rattle.cell_base.specs.declared.shifts.Entry.{Entry}
use Rattle.record_text.specs.Records.{text_of_record}

-- lines with their newlines
abbrev text : List (List ℕ) → List ℕ
text lines = flat_map (λ line. line ++ 10 ∷ []) lines

abbrev working : ℕ → Step
working r = record { on = record { 0 = r }; works = true }

-- three machines of one unit, and a type that goes from the first to one of the two others
abbrev machines : List Resource
machines =
    record { name = codes "M1"; capacity = 1; order = 1 }
    ∷ record { name = codes "M2"; capacity = 1; order = 2 }
    ∷ record { name = codes "M3"; capacity = 1; order = 3 }
    ∷ []

abbrev branching : Cell
branching = record {
  resources = machines;
  types =
      record {
        name = codes "B";
        route = working 0 ∷ working 1 ∷ working 2 ∷ [];
        next = (1 ∷ 2 ∷ []) ∷ [] ∷ [] ∷ [];
      } ∷ [];
}

abbrev entry : ℕ → Request → Told → Entry
entry session request told = record { session = session; request = request; told = told }

abbrev load : Request
load = Load (record { 0 = 7 }) (record { 0 = 0 })

abbrev process : ℕ → Request
process r = Process (record { 0 = r })

abbrev move : ℕ → Request
move branch = Move (record { 0 = 7 }) branch

abbrev unload : Request
unload = Unload (record { 0 = 7 })

abbrev waiting : Request
waiting = Place false (record { 0 = 0 }) (record { 0 = 7 }) 1

abbrev granted : Told
granted = Answered Granted

-- three sessions take a part along the second branch
abbrev by_branch : List Entry
by_branch =
    entry 1 load granted
    ∷ entry 2 (move 2) (Answered (Refused NotProcessed))
    ∷ entry 1 (process 0) granted
    ∷ entry 2 (move 2) (Answered (Refused NoBranch))
    ∷ entry 3 (move 1) granted
    ∷ []

branch_record : text_of_record branching [] 1 0 by_branch (process 2 ∷ unload ∷ [])
    ≡ text
    (codes "shift 1 after 0"
    ∷ codes "1 load 7 B granted"
    ∷ codes "2 move 7 2 refused not-processed"
    ∷ codes "1 process M1 granted"
    ∷ codes "2 move 7 2 refused no-branch"
    ∷ codes "3 move 7 1 granted"
    ∷ codes "left 1"
    ∷ codes "plan 2"
    ∷ codes "process M3"
    ∷ codes "unload 7"
    ∷ [])
unfolding digits
branch_record = refl

-- a part that is placed and waits for its work
placed_record : text_of_record branching [] 0 0 (entry 0 waiting granted ∷ []) (process 1 ∷ unload ∷ [])
    ≡ text
    (codes "shift 0 after 0"
    ∷ codes "0 place 7 B 1 waiting granted"
    ∷ codes "left 1"
    ∷ codes "plan 2"
    ∷ codes "process M2"
    ∷ codes "unload 7"
    ∷ [])
unfolding digits
placed_record = refl

-- after a halt nothing follows
halted_record : text_of_record branching [] 1 3 (entry 1 load Halted ∷ []) []
    ≡ text (codes "shift 1 after 3" ∷ codes "1 load 7 B halted" ∷ [])
unfolding digits
halted_record = refl

-- the numbers of a saturation
saturated_record : text_of_record branching [] 1 0
    (entry 1 load granted ∷ entry 2 load (Answered (Refused (Saturated (record { 0 = 0 }) 1 1))) ∷ entry 2 load Halted ∷ []) []
    ≡ text
    (codes "shift 1 after 0"
    ∷ codes "1 load 7 B granted"
    ∷ codes "2 load 7 B refused saturated M1 1 of 1"
    ∷ codes "2 load 7 B halted"
    ∷ [])
unfolding digits
saturated_record = refl

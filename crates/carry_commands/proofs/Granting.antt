-- The requests of a start, tried in turn.
use Rattle.std.proofs.Common.{◌≡◌, ℕ, ◌+◌, Bool, true, false, cond, List, [], ◌∷◌, ◌++◌, Option, Some, None, Ok, Err, refl, sym, ap, subst}
use Rattle.std.specs.Prelude.{◌&&◌}
use Rattle.std.specs.Option.{option_map_or}
use Rattle.std.proofs.lemmas.Bool.{true≢false}
use Rattle.cell_base.specs.declared.cells.Cell.{Cell}
use Rattle.cell_base.specs.declared.requests.Part.{Part}
use Rattle.cell_base.specs.declared.requests.Refusal.{Refusal}
use Rattle.cell_base.specs.declared.requests.Refusal.TheVariants.{JobLoaded, Saturated}
use Rattle.cell_base.specs.declared.requests.Reply.{Reply}
use Rattle.cell_base.specs.declared.requests.Reply.TheVariants.{Granted, Refused}
use Rattle.cell_base.specs.declared.requests.Request.{Request}
use Rattle.cell_base.specs.declared.requests.Request.TheVariants.{Load, Process, Move, Unload, Place}
use Rattle.cell_base.specs.Fits.{RequestFits}
use Rattle.cell_base.specs.Histories.{after_requests, all_granted, is_granted}
use Rattle.cell_base.specs.Neighborhoods.{count}
use Rattle.cell_base.specs.Outcomes.{admit, refuse, reply_to, state_after}
use Rattle.cell_base.specs.Policy.{first_over, is_loaded}
use Rattle.cell_base.specs.Stages.{capacity_of}
use Rattle.record_text.specs.StartFiles.{IsPlacing}
use Rattle.carry_commands.specs.Refusals.{IsOfPlace}
use Rattle.carry_commands.specs.Starts.{granted_from, unless_refused}

-- such a request fits
pub placing_fits : (cell : Cell) (request : Request) → IsPlacing cell request → RequestFits cell request
placing_fits cell (Place done kind job place) placing = placing.0
placing_fits cell (Load job kind) placing = absurd placing
placing_fits cell (Process machine) placing = absurd placing
placing_fits cell (Move job branch) placing = absurd placing
placing_fits cell (Unload job) placing = absurd placing

module _ (cell : Cell) (parts : List Part) where
  -- by the parts that the cell would have, and the resource that they overfill
  by_over : (next : List Part) (why : Refusal) (over : Option ℕ)
      → (option_map_or (λ (r : ℕ). refuse (Saturated (record { 0 = r }) (count cell parts r) (capacity_of cell r)) parts) over
      (Granted, next)).0 ≡ Refused why → IsOfPlace why
  by_over next why None is = absurd cc
  by_over next why (Some r) is =
      let same : Saturated (record { 0 = r }) (count cell parts r) (capacity_of cell r) ≡ why = cc in subst IsOfPlace same tt

  by_loaded : (part : Part) (why : Refusal) (loaded : Bool)
      → (cond loaded (refuse JobLoaded parts) (admit cell parts (parts ++ part ∷ []))).0 ≡ Refused why → IsOfPlace why
  by_loaded part why true is = let same : JobLoaded ≡ why = cc in subst IsOfPlace same tt
  by_loaded part why false is = by_over (parts ++ part ∷ []) why (first_over cell (parts ++ part ∷ [])) is

  -- a place is refused for its job, or for a neighborhood that is full
  pub of_place : (request : Request) (why : Refusal) → IsPlacing cell request → reply_to cell parts request ≡ Refused why → IsOfPlace why
  of_place (Place done kind job place) why placing is =
      by_loaded (record { job = job; kind = kind; place = place; done = done }) why (is_loaded parts job) is
  of_place (Load job kind) why placing is = absurd placing
  of_place (Process machine) why placing is = absurd placing
  of_place (Move job branch) why placing is = absurd placing
  of_place (Unload job) why placing is = absurd placing

  -- ---- one request more

  pub granted_one : (line : ℕ) (request : Request) (requests : List Request) → reply_to cell parts request ≡ Granted
      → granted_from cell parts line (request ∷ requests) ≡ granted_from cell (state_after cell parts request) (line + 1) requests
  granted_one line request requests is =
      ap (λ (reply : Reply). unless_refused line reply (granted_from cell (state_after cell parts request) (line + 1) requests)) is

  pub refused_one : (line : ℕ) (request : Request) (requests : List Request) (why : Refusal) → reply_to cell parts request ≡ Refused why
      → granted_from cell parts line (request ∷ requests) ≡ Err (record { line = line; why = why })
  refused_one line request requests why is =
      ap (λ (reply : Reply). unless_refused line reply (granted_from cell (state_after cell parts request) (line + 1) requests)) is

-- ---- all of them

pub all_granted_so : (cell : Cell) (parts : List Part) (line : ℕ) (requests : List Request)
    → granted_from cell parts line requests ≡ Ok tt → all_granted cell parts requests ≡ true
all_granted_so cell parts line [] is = refl
all_granted_so cell parts line (request ∷ requests) is =
    by_reply (reply_to cell parts request) is (all_granted_so cell (state_after cell parts request) (line + 1) requests)
  where
    by_reply : (reply : Reply)
        → unless_refused line reply (granted_from cell (state_after cell parts request) (line + 1) requests) ≡ Ok tt
        → (granted_from cell (state_after cell parts request) (line + 1) requests ≡ Ok tt
        → all_granted cell (state_after cell parts request) requests ≡ true)
        → (is_granted reply && all_granted cell (state_after cell parts request) requests) ≡ true
    by_reply Granted is later = later is
    by_reply (Refused why) is later = absurd cc

was_granted : (reply : Reply) (later : Bool) → (is_granted reply && later) ≡ true → (reply ≡ Granted) × (later ≡ true)
was_granted Granted later is = (refl, is)
was_granted (Refused why) later is = absurd (true≢false (sym is))

-- a prefix of them, and the one after it
pub granted_at : (cell : Cell) (parts : List Part) (first rest : List Request) (request : Request)
    → all_granted cell parts (first ++ request ∷ rest) ≡ true → reply_to cell (after_requests cell parts first) request ≡ Granted
granted_at cell parts [] rest request is = (was_granted (reply_to cell parts request) _ is).0
granted_at cell parts (one ∷ first) rest request is =
    granted_at cell (state_after cell parts one) first rest request (was_granted (reply_to cell parts one) _ is).1

-- those after a prefix
pub granted_later : (cell : Cell) (parts : List Part) (first rest : List Request) → all_granted cell parts (first ++ rest) ≡ true
    → all_granted cell (after_requests cell parts first) rest ≡ true
granted_later cell parts [] rest is = is
granted_later cell parts (one ∷ first) rest is =
    granted_later cell (state_after cell parts one) first rest (was_granted (reply_to cell parts one) _ is).1

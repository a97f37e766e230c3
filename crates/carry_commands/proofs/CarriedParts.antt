-- Parts that are carried to another cell, one after the other.
use Rattle.std.proofs.Common.{◌≡◌, ℕ, ◌+◌, List, [], ◌∷◌, ◌++◌, Result, Ok, Err, refl, sym, ap, ◌∙◌, subst, append_assoc}
use Rattle.cell_base.specs.declared.cells.Cell.{Cell}
use Rattle.cell_base.specs.declared.requests.Part.{Part}
use Rattle.cell_base.specs.declared.requests.Reply.{Reply}
use Rattle.cell_base.specs.declared.requests.Reply.TheVariants.{Granted, Refused}
use Rattle.cell_base.specs.declared.requests.Request.{Request}
use Rattle.cell_base.specs.Faults.{◌>>=◌}
use Rattle.cell_base.specs.Outcomes.{reply_to, state_after}
use Rattle.carry_commands.specs.Carried.{carried_after, carried_part, of_job, placed_as, type_alike, unless_refused}
use Rattle.carry_commands.specs.Starts.{granted_from}
use Rattle.carry_commands.specs.declared.refusals.CarryFault.{CarryFault}
use Rattle.carry_commands.specs.declared.refusals.Uncarried.{Uncarried}
use Rattle.carry_commands.proofs.Granting.{granted_one}

-- requests after those that are there
abbrev pub behind : List Request → Result (List Request) CarryFault → Result (List Request) CarryFault
behind requests more = more >>= λ rest. Ok (requests ++ rest)

after_more : (requests : List Request) (request : Request) (later : Result (List Request) CarryFault)
    → behind requests (later >>= λ rest. Ok (request ∷ rest)) ≡ behind (requests ++ request ∷ []) later
after_more requests request (Ok rest) = ap (λ (rs : List Request). Ok rs) (sym (append_assoc requests (request ∷ []) rest))
after_more requests request (Err fault) = refl

module _ (old new : Cell) (standing : List Part) (part : Part) (parts : List Part) (requests : List Request) where
  -- one part more is placed
  pub one_more : (request : Request) → Ok request ≡ carried_part old new standing part
      → behind requests (carried_after old new standing (part ∷ parts))
      ≡ behind (requests ++ request ∷ []) (carried_after old new (state_after new standing request) parts)
  one_more request is =
      ap (λ (r : Result Request Uncarried). behind requests (of_job part.job r >>= λ request.
      carried_after old new (state_after new standing request) parts >>= λ rest. Ok (request ∷ rest))) (sym is)
      ∙ after_more requests request (carried_after old new (state_after new standing request) parts)

  -- it can't be
  pub none_more : (why : Uncarried) → Err why ≡ carried_part old new standing part
      → behind requests (carried_after old new standing (part ∷ parts)) ≡ Err (record { job = part.job; why = why })
  none_more why is =
      ap (λ (r : Result Request Uncarried). behind requests (of_job part.job r >>= λ request.
      carried_after old new (state_after new standing request) parts >>= λ rest. Ok (request ∷ rest))) (sym is)

-- ---- what is carried is granted in turn

granted_part : (old new : Cell) (standing : List Part) (part : Part) (request : Request) → carried_part old new standing part ≡ Ok request
    → reply_to new standing request ≡ Granted
granted_part old new standing part request is = by_placed (placed_as old new part (type_alike old new part.kind)) is
  where
    by_reply : (placing : Request) (reply : Reply) → reply_to new standing placing ≡ reply → unless_refused reply placing ≡ Ok request
        → reply_to new standing request ≡ Granted
    by_reply placing Granted granted is =
        let same : placing ≡ request = cc in subst (λ (r : Request). reply_to new standing r ≡ Granted) same granted
    by_reply placing (Refused why) granted is = absurd cc

    by_placed : (placing : Result Request Uncarried)
        → (placing >>= λ request. unless_refused (reply_to new standing request) request) ≡ Ok request
        → reply_to new standing request ≡ Granted
    by_placed (Ok placing) is = by_reply placing (reply_to new standing placing) refl is
    by_placed (Err why) is = absurd cc

pub granted_carried : (old new : Cell) (standing : List Part) (line : ℕ) (parts : List Part) (requests : List Request)
    → carried_after old new standing parts ≡ Ok requests → granted_from new standing line requests ≡ Ok tt
granted_carried old new standing line [] requests is =
    let same : [] ≡ requests = cc in subst (λ (rs : List Request). granted_from new standing line rs ≡ Ok tt) same refl
granted_carried old new standing line (part ∷ parts) requests is =
    by_part (carried_part old new standing part) refl is
    (λ request rest. granted_carried old new (state_after new standing request) (line + 1) parts rest)
  where
    by_rest : (request : Request) → reply_to new standing request ≡ Granted → (later : Result (List Request) CarryFault)
        → (later >>= λ rest. Ok (request ∷ rest)) ≡ Ok requests
        → ((rest : List Request) → later ≡ Ok rest → granted_from new (state_after new standing request) (line + 1) rest ≡ Ok tt)
        → granted_from new standing line requests ≡ Ok tt
    by_rest request granted (Ok rest) is so =
        let same : request ∷ rest ≡ requests = cc in
        subst (λ (rs : List Request). granted_from new standing line rs ≡ Ok tt) same
        (granted_one new standing line request rest granted ∙ so rest refl)
    by_rest request granted (Err fault) is so = absurd cc

    by_part : (r : Result Request Uncarried) → carried_part old new standing part ≡ r
        → (of_job part.job r >>= λ request. carried_after old new (state_after new standing request) parts >>= λ rest. Ok (request ∷ rest))
        ≡ Ok requests
        → ((request : Request) (rest : List Request) → carried_after old new (state_after new standing request) parts ≡ Ok rest
        → granted_from new (state_after new standing request) (line + 1) rest ≡ Ok tt)
        → granted_from new standing line requests ≡ Ok tt
    by_part (Ok request) placed is so =
        by_rest request (granted_part old new standing part request placed)
        (carried_after old new (state_after new standing request) parts) is (so request)
    by_part (Err why) placed is so = absurd cc

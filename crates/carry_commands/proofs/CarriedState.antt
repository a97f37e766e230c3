-- Why a part of a state can't be carried, and where the parts that are carried stand: one part, and then one after the other.
use Rattle.std.proofs.Common.{◌≡◌, ◌≢◌, ℕ, Bool, true, false, List, [], ◌∷◌, ◌++◌, Option, Some, None, Result, Ok, Err, refl, sym, ap}
use Rattle.std.proofs.Common.{◌∙◌, subst, append_assoc, append-nil, if◌then◌else◌}
use Rattle.std.specs.List.{All}
use Rattle.std.specs.Option.{option_map_or}
use Rattle.std.proofs.lemmas.List.Elements.{All-head, All-push, All-tail}
use Rattle.cell_base.specs.declared.cells.Cell.{Cell}
use Rattle.cell_base.specs.declared.requests.JobId.{JobId}
use Rattle.cell_base.specs.declared.requests.Part.{Part}
use Rattle.cell_base.specs.declared.requests.Refusal.{Refusal}
use Rattle.cell_base.specs.declared.requests.Refusal.TheVariants.{Saturated}
use Rattle.cell_base.specs.declared.requests.Reply.{Reply}
use Rattle.cell_base.specs.declared.requests.Reply.TheVariants.{Granted, Refused}
use Rattle.cell_base.specs.declared.requests.Request.{Request}
use Rattle.cell_base.specs.Faults.{◌>>=◌}
use Rattle.cell_base.specs.Histories.{after_requests}
use Rattle.cell_base.specs.Neighborhoods.{count}
use Rattle.cell_base.specs.Outcomes.{outcome_of_entry, refuse, reply_to, state_after}
use Rattle.cell_base.specs.Policy.{HaveDistinctJobs, first_over, is_loaded}
use Rattle.cell_base.specs.Stages.{capacity_of, stage, stage_of}
use Rattle.cell_base.proofs.Admission.{not_loaded_from_others, others_from_not_loaded}
use Rattle.policy_laws.proofs.Granting.{entry-granted}
use Rattle.policy_laws.proofs.Parts.{distinct_after, others_after}
use Rattle.carry_commands.specs.Carried.{carried, carried_after, carried_part, is_alike, of_job, placed, placed_as, type_alike}
use Rattle.carry_commands.specs.Carried.{unless_refused}
use Rattle.carry_commands.specs.CarriedState.{AreSameParts, IsHindrance, IsSamePart, IsSaturation}
use Rattle.carry_commands.specs.declared.refusals.CarryFault.{CarryFault}
use Rattle.carry_commands.specs.declared.refusals.Uncarried.{Uncarried}
use Rattle.carry_commands.specs.declared.refusals.Uncarried.TheVariants.{NoPlace, NoType, NotAdmitted}

-- a part that enters stands behind those that are there
pub entered : (cell : Cell) (parts : List Part) (part : Part) → (outcome_of_entry cell parts part).0 ≡ Granted
    → (outcome_of_entry cell parts part).1 ≡ parts ++ part ∷ []
entered cell parts part granted = let enters = entry-granted cell parts part granted in rw (enters.absent, enters.next) refl

-- one of a new job is kept out for a full neighborhood alone
kept_out : (cell : Cell) (parts : List Part) (part : Part) (why : Refusal) → is_loaded parts part.job ≡ false
    → (outcome_of_entry cell parts part).0 ≡ Refused why → IsSaturation why
kept_out cell parts part why absent is = by_over (first_over cell (parts ++ part ∷ [])) (rw absent at is)
  where
    by_over : (over : Option ℕ)
        → (option_map_or (λ (r : ℕ). refuse (Saturated (record { 0 = r }) (count cell parts r) (capacity_of cell r)) parts) over
        (Granted, parts ++ part ∷ [])).0 ≡ Refused why → IsSaturation why
    by_over None is = absurd cc
    by_over (Some r) is =
        let same : Saturated (record { 0 = r }) (count cell parts r) (capacity_of cell r) ≡ why = cc in subst IsSaturation same tt

-- no part of these jobs is there yet
abbrev pub AreAbsent : List Part → List Part → Type 0
AreAbsent standing parts = All (λ (part : Part). is_loaded standing part.job ≡ false) parts

-- nor is one after a part of another job
pub still_absent : (standing : List Part) (part : Part) (parts : List Part) (to : Part) → to.job ≡ part.job
    → AreAbsent standing (part ∷ parts) → HaveDistinctJobs (part ∷ parts) → AreAbsent (standing ++ to ∷ []) parts
still_absent standing part parts to same absent distinct =
    λ k d below.
    let Other : JobId → Part → Type 0 = λ job other. job ≢ other.job in
    not_loaded_from_others (standing ++ to ∷ []) _
    (All-push (Other _) standing to
    (others_from_not_loaded standing _ (All-tail (λ (p : Part). is_loaded standing p.job ≡ false) part parts absent k d below))
    (λ is. others_after part parts distinct k d below (sym same ∙ sym is)))

module _ (old new : Cell) (standing : List Part) (part : Part) where
  -- a part was placed at a type: by this request, behind those that are there
  record IsPlaced (request : Request) : Type 0 where
    pub to : Part
    pub same : IsSamePart old new part to
    pub next : state_after new standing request ≡ standing ++ to ∷ []

  part_placed : (request : Request) → carried_part old new standing part ≡ Ok request → IsPlaced request
  part_placed request = by_kind (type_alike old new part.kind) refl
    where
      by_reply : (kind : ℕ) → type_alike old new part.kind ≡ Some kind
          → is_alike old new (stage_of part) (stage kind part.place) ≡ true
          → (reply : Reply) → reply_to new standing (placed new part kind) ≡ reply
          → unless_refused reply (placed new part kind) ≡ Ok request
          → IsPlaced request
      by_reply kind found alike Granted granted is =
          let same : placed new part kind ≡ request = cc in
          subst IsPlaced same
          (record {
            to = _;
            same = record { job = refl; kind = found; place = refl; alike = alike; done = refl };
            next = entered new standing _ granted;
          })
      by_reply kind found alike (Refused why) granted is = absurd cc

      by_alike : (kind : ℕ) → type_alike old new part.kind ≡ Some kind
          → (alike : Bool) → is_alike old new (stage_of part) (stage kind part.place) ≡ alike
          → ((if alike then Ok (placed new part kind) else Err NoPlace) >>= λ request.
          unless_refused (reply_to new standing request) request) ≡ Ok request
          → IsPlaced request
      by_alike kind found true alike is = by_reply kind found alike (reply_to new standing (placed new part kind)) refl is
      by_alike kind found false alike is = absurd cc

      by_kind : (kind : Option ℕ) → type_alike old new part.kind ≡ kind
          → (placed_as old new part kind >>= λ request. unless_refused (reply_to new standing request) request) ≡ Ok request
          → IsPlaced request
      by_kind None found is = absurd cc
      by_kind (Some kind) found is = by_alike kind found (is_alike old new (stage_of part) (stage kind part.place)) refl is

  part_held : (why : Uncarried) → is_loaded standing part.job ≡ false → carried_part old new standing part ≡ Err why → IsHindrance why
  part_held why absent = by_kind (type_alike old new part.kind)
    where
      by_reply : (kind : ℕ) (reply : Reply) → reply_to new standing (placed new part kind) ≡ reply
          → unless_refused reply (placed new part kind) ≡ Err why → IsHindrance why
      by_reply kind Granted refused is = absurd cc
      by_reply kind (Refused reason) refused is =
          let same : NotAdmitted reason ≡ why = cc in
          subst IsHindrance same (kept_out new standing _ reason absent refused)

      by_alike : (kind : ℕ) (alike : Bool)
          → ((if alike then Ok (placed new part kind) else Err NoPlace) >>= λ request.
          unless_refused (reply_to new standing request) request) ≡ Err why
          → IsHindrance why
      by_alike kind true is = by_reply kind (reply_to new standing (placed new part kind)) refl is
      by_alike kind false is = let same : NoPlace ≡ why = cc in subst IsHindrance same tt

      by_kind : (kind : Option ℕ)
          → (placed_as old new part kind >>= λ request. unless_refused (reply_to new standing request) request) ≡ Err why
          → IsHindrance why
      by_kind None is = let same : NoType ≡ why = cc in subst IsHindrance same tt
      by_kind (Some kind) is = by_alike kind (is_alike old new (stage_of part) (stage kind part.place)) is

module _ (old new : Cell) where
  held_after : (standing parts : List Part) → AreAbsent standing parts → HaveDistinctJobs parts
      → (fault : CarryFault) → carried_after old new standing parts ≡ Err fault → IsHindrance fault.why
  held_after standing [] absent distinct fault is = absurd cc
  held_after standing (part ∷ parts) absent distinct fault is =
      by_part (carried_part old new standing part) refl is
      (λ request placed.
      let has = part_placed old new standing part request placed in
      held_after (state_after new standing request) parts
      (subst (λ (ps : List Part). AreAbsent ps parts) (sym has.next)
      (still_absent standing part parts has.to has.same.job absent distinct))
      (distinct_after part parts distinct) fault)
    where
      by_rest : (request : Request) (later : Result (List Request) CarryFault) → (later >>= λ rest. Ok (request ∷ rest)) ≡ Err fault
          → (later ≡ Err fault → IsHindrance fault.why) → IsHindrance fault.why
      by_rest request (Ok rest) is so = absurd cc
      by_rest request (Err other) is so = so is

      by_part : (r : Result Request Uncarried) → carried_part old new standing part ≡ r
          → (of_job part.job r >>= λ request. carried_after old new (state_after new standing request) parts >>= λ rest.
          Ok (request ∷ rest)) ≡ Err fault
          → ((request : Request) → carried_part old new standing part ≡ Ok request
          → carried_after old new (state_after new standing request) parts ≡ Err fault → IsHindrance fault.why)
          → IsHindrance fault.why
      by_part (Ok request) placed is so =
          by_rest request (carried_after old new (state_after new standing request) parts) is (so request placed)
      by_part (Err why) held is so =
          let hindered : IsHindrance why =
          part_held old new standing part why (All-head (λ (p : Part). is_loaded standing p.job ≡ false) part parts absent) held in
          let same : why ≡ fault.why = cc in subst IsHindrance same hindered

  -- where a part of a state is held back, it is for want of its type, of its place, or of room
  pub held_back : (parts : List Part) → HaveDistinctJobs parts → (fault : CarryFault) → carried old new parts ≡ Err fault
      → IsHindrance fault.why
  held_back parts distinct = held_after [] parts (λ k d below. refl) distinct

  same_after : (standing parts : List Part) (requests : List Request) → carried_after old new standing parts ≡ Ok requests
      → (there : List Part) × (after_requests new standing requests ≡ standing ++ there) × AreSameParts old new parts there
  same_after standing [] requests is =
      let same : [] ≡ requests = cc in
      ([], ap (after_requests new standing) (sym same) ∙ sym (append-nil standing), tt)
  same_after standing (part ∷ parts) requests is =
      by_part (carried_part old new standing part) refl is
      (λ request. same_after (state_after new standing request) parts)
    where
      Stands : List Part → List Part → List Request → Type 0
      Stands standing parts requests = (there : List Part) × (after_requests new standing requests ≡ standing ++ there)
          × AreSameParts old new parts there

      by_rest : (request : Request) → carried_part old new standing part ≡ Ok request → (later : Result (List Request) CarryFault)
          → (later >>= λ rest. Ok (request ∷ rest)) ≡ Ok requests
          → ((rest : List Request) → later ≡ Ok rest → Stands (state_after new standing request) parts rest)
          → Stands standing (part ∷ parts) requests
      by_rest request placed (Ok rest) is so =
          let same : request ∷ rest ≡ requests = cc in
          let has = part_placed old new standing part request placed in
          let stands = so rest refl in
          subst (Stands standing (part ∷ parts)) same (
            has.to ∷ stands.0,
            stands.1 ∙ ap (λ (ps : List Part). ps ++ stands.0) has.next ∙ append_assoc standing (has.to ∷ []) stands.0,
            (has.same, stands.2),
          )
      by_rest request placed (Err fault) is so = absurd cc

      by_part : (r : Result Request Uncarried) → carried_part old new standing part ≡ r
          → (of_job part.job r >>= λ request. carried_after old new (state_after new standing request) parts >>= λ rest.
          Ok (request ∷ rest)) ≡ Ok requests
          → ((request : Request) (rest : List Request) → carried_after old new (state_after new standing request) parts ≡ Ok rest
          → Stands (state_after new standing request) parts rest)
          → Stands standing (part ∷ parts) requests
      by_part (Ok request) placed is so =
          by_rest request placed (carried_after old new (state_after new standing request) parts) is (so request)
      by_part (Err why) held is so = absurd cc

  -- the requests lead to a state of the same parts
  pub same_parts : (parts : List Part) (requests : List Request) → carried old new parts ≡ Ok requests
      → AreSameParts old new parts (after_requests new [] requests)
  same_parts parts requests is =
      let stands = same_after [] parts requests is in subst (AreSameParts old new parts) (sym stands.1) stands.2

-- The parts of a state, carried to the same cell.
use Rattle.std.proofs.Common.{◌≡◌, ◌≢◌, zero, suc, ℕ, ◌+◌, ◌<◌, ◌≤◌, Bool, true, false, cond, length, get_or, List, [], ◌∷◌, ◌++◌}
use Rattle.std.proofs.Common.{Some, Ok, refl, sym, ap, ◌∙◌, arith, not}
use Rattle.std.specs.Prelude.{slice_get, ◌||◌}
use Rattle.std.specs.List.{All, AllPairs, position_or_len}
use Rattle.std.specs.Option.{option_map_or}
use Rattle.std.specs.Str.{bytes_eq}
use Rattle.std.proofs.lemmas.Bool.{lt-ltb}
use Rattle.std.proofs.lemmas.List.{length-map}
use Rattle.std.proofs.lemmas.List.Elements.{All-head, All-tail}
use Rattle.std.proofs.lemmas.Slice.Eq.{bytes_eq-Decides}
use Rattle.cell_base.specs.declared.cells.Cell.{Cell}
use Rattle.cell_base.specs.declared.cells.JobType.{JobType}
use Rattle.cell_base.specs.declared.requests.Part.{Part}
use Rattle.cell_base.specs.declared.requests.Reply.TheVariants.{Granted}
use Rattle.cell_base.specs.declared.requests.Request.{Request}
use Rattle.cell_base.specs.Fits.{CellFits}
use Rattle.cell_base.specs.Named.{resource_name, type_names}
use Rattle.cell_base.specs.Neighborhoods.{count, counted, leads}
use Rattle.cell_base.specs.Outcomes.{outcome_of_entry, reply_to, state_after}
use Rattle.cell_base.specs.Policy.{HaveDistinctJobs, IsAdmitted, is_loaded}
use Rattle.cell_base.specs.Stages.{IsStage, capacity_of, resource_at, route_of, stage_of, works_at}
use Rattle.cell_base.proofs.Stages.{kind_within}
use Rattle.cell_base.proofs.Pairs.{pairs_head, pairs_tail}
use Rattle.policy_laws.proofs.Parts.{distinct_after}
use Rattle.policy_laws.proofs.States.{count_push, first_over-none, share}
use Rattle.carry_commands.specs.Carried.{carried, carried_after, carried_part, is_alike, placed, type_alike}
use Rattle.carry_commands.proofs.CarriedState.{AreAbsent, entered, still_absent}

-- ---- the type of the same name is the same type

-- the name of the type of a number
abbrev name_at : List JobType → ℕ → List ℕ
name_at types k = option_map_or (λ (t : JobType). t.name) (slice_get types k) []

name_at_is : (types : List JobType) (k : ℕ) (d : JobType) → k < length types → name_at types k ≡ (get_or types k d).name
name_at_is [] k d below = absurd (omega (arith, below))
name_at_is (t ∷ types) zero d below = refl
name_at_is (t ∷ types) (suc k) d below = name_at_is types k d (omega (arith, below))

differ : (one other : List ℕ) → one ≢ other → bytes_eq one other ≡ false
differ one other ne = at (bytes_eq one other) refl
  where
    at : (b : Bool) → bytes_eq one other ≡ b → b ≡ false
    at true is = absurd (ne ((bytes_eq-Decides one other).0 is))
    at false is = refl

first_named : (types : List JobType) (k : ℕ) → AllPairs (λ (a b : JobType). a.name ≢ b.name) types → k < length types
    → position_or_len (bytes_eq (name_at types k)) (type_names types) ≡ k
first_named [] k distinct below = absurd (omega (arith, below))
first_named (t ∷ types) zero distinct below = rw ((bytes_eq-Decides t.name t.name).1 refl) refl
first_named (t ∷ types) (suc k) distinct below =
    let far : k < length types = omega (arith, below) in
    let other : name_at types k ≢ t.name = λ same.
    pairs_head (λ (a b : JobType). a.name ≢ b.name) t types distinct k t far (sym same ∙ name_at_is types k t far) in
    rw (differ (name_at types k) t.name other)
    (ap (λ (n : ℕ). 1 + n) (first_named types k (pairs_tail (λ (a b : JobType). a.name ≢ b.name) t types distinct) far) ∙ omega arith)

module _ (cell : Cell) (fits : CellFits cell) where
  type_again : (part : Part) → IsStage cell (stage_of part) → type_alike cell cell part.kind ≡ Some part.kind.0
  type_again part stands =
      let within : part.kind.0 < length cell.types = kind_within cell (stage_of part) stands in
      rw (
        first_named cell.types part.kind.0 fits.type_names within,
        length-map,
        lt-ltb part.kind.0 (length cell.types) within,
      ) refl

  stage_again : (part : Part) → IsStage cell (stage_of part) → is_alike cell cell (stage_of part) (stage_of part) ≡ true
  stage_again part stands =
      let name : List ℕ = resource_name cell (resource_at cell (stage_of part)) in
      rw (lt-ltb part.place (length (route_of cell part.kind.0)) stands, (bytes_eq-Decides name name).1 refl) refl

  -- ---- one part more is granted

  abbrev again : Part → Request
  again part = placed cell part part.kind.0

  -- the part as it stands then
  abbrev again_there : Part → Part
  again_there part =
      record { job = part.job; kind = part.kind; place = part.place; done = part.done || not (works_at cell (stage_of part)) }

  -- so many parts more have room behind those that are there
  abbrev HaveRoom : List Part → List Part → Type 0
  HaveRoom standing parts =
      (r : ℕ) → r < length cell.resources → count cell standing r + count cell parts r ≤ capacity_of cell r

  count_first : (part : Part) (parts : List Part) (r : ℕ) → count cell (part ∷ parts) r ≡ share cell r (stage_of part) + count cell parts r
  count_first part parts r = at (leads cell (stage_of part) r)
    where
      at : (counts : Bool)
          → length (cond counts (part ∷ counted cell parts r) (counted cell parts r)) ≡ cond counts 1 0 + count cell parts r
      at true = omega arith
      at false = omega arith

  room_behind : (standing : List Part) (part : Part) (parts : List Part) → HaveRoom standing (part ∷ parts)
      → HaveRoom (standing ++ again_there part ∷ []) parts
  room_behind standing part parts room r within =
      omega (arith, room r within, count_first part parts r, count_push cell standing (again_there part) r)

  granted_again : (standing : List Part) (part : Part) (parts : List Part) → is_loaded standing part.job ≡ false
      → HaveRoom standing (part ∷ parts) → reply_to cell standing (again part) ≡ Granted
  granted_again standing part parts absent room =
      let fits_in = first_over-none cell (standing ++ again_there part ∷ [])
      (λ r within. omega (arith, room_behind standing part parts room r within)) in
      let entry : (outcome_of_entry cell standing (again_there part)).0 ≡ Granted = rw (absent, fits_in) refl in
      entry

  carried_again : (standing : List Part) (part : Part) → IsStage cell (stage_of part) → reply_to cell standing (again part) ≡ Granted
      → carried_part cell cell standing part ≡ Ok (again part)
  carried_again standing part stands granted = rw (type_again part stands, stage_again part stands, granted) refl

  all_again : (standing parts : List Part) → AreAbsent standing parts → HaveDistinctJobs parts
      → All (λ (part : Part). IsStage cell (stage_of part)) parts → HaveRoom standing parts
      → (requests : List Request) × (carried_after cell cell standing parts ≡ Ok requests)
  all_again standing [] absent distinct stand room = ([], refl)
  all_again standing (part ∷ parts) absent distinct stand room =
      let here = All-head (λ (p : Part). is_loaded standing p.job ≡ false) part parts absent in
      let granted = granted_again standing part parts here room in
      let next : state_after cell standing (again part) ≡ standing ++ again_there part ∷ [] =
      entered cell standing (again_there part) granted in
      let rest = all_again (standing ++ again_there part ∷ []) parts
      (still_absent standing part parts (again_there part) refl absent distinct)
      (distinct_after part parts distinct)
      (All-tail (λ (p : Part). IsStage cell (stage_of p)) part parts stand) (room_behind standing part parts room) in (
        again part ∷ rest.0,
        rw (carried_again standing part (All-head (λ (p : Part). IsStage cell (stage_of p)) part parts stand) granted, next, rest.1) refl,
      )

  -- the same cell takes all parts of an admitted state
  pub same_cell : (parts : List Part) → IsAdmitted cell parts → (requests : List Request) × (carried cell cell parts ≡ Ok requests)
  same_cell parts admitted =
      all_again [] parts (λ k d below. refl) admitted.state.distinct admitted.state.standing
      (λ r within. omega (arith, admitted.within r within))

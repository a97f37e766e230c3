-- The test of a request is what it says, and grants of which none strays are due.
use Rattle.std.specs.Prelude.{Bool, true, false, ◌&&◌, ◌||◌, if◌then◌else◌, nat_lt, Option, Some, None, Result, Ok, Err}
use Rattle.std.specs.Option.{option_map_or}
use Rattle.std.proofs.Common.{◌≡◌, ◌⊎◌, inl, inr, ℕ, ◌+◌, ◌<◌, List, [], ◌∷◌, length, All, refl, sym, ◌∙◌, ap, arith}
use Rattle.std.proofs.lemmas.Bool.{and_parts, and_from}
use Rattle.std.proofs.lemmas.Bool.Decides.{nat_tests}
use Rattle.std.proofs.lemmas.List.Elements.{All-nil, All-cons, All-head, All-tail}
use Rattle.cell_base.specs.declared.limits.TheConstants.{MAX_BRANCHES}
use Rattle.cell_base.specs.declared.cells.Cell.{Cell}
use Rattle.cell_base.specs.declared.requests.Part.{Part}
use Rattle.cell_base.specs.declared.requests.Request.{Request}
use Rattle.cell_base.specs.declared.requests.Request.TheVariants.{Load, Process, Move, Unload, Place}
use Rattle.cell_base.specs.declared.shifts.Grant.{Grant}
use Rattle.cell_base.specs.Fits.{RequestFits}
use Rattle.cell_base.specs.Outcomes.{reply_to, state_after}
use Rattle.cell_base.specs.Histories.{is_granted, all_granted, requests_of}
use Rattle.cell_base.specs.Stages.{stage, is_stage, route_of, works_at}
use Rattle.entry_codec.specs.declared.encoder.TheConstants.{ENTRY_SIZE}
use Rattle.journal_format.specs.declared.head.TheConstants.{TEXT_AT}
use Rattle.journal_format.specs.declared.fault.JournalFault.{JournalFault}
use Rattle.journal_format.specs.declared.fault.JournalFault.TheVariants.{Damaged}
use Rattle.journal_format.specs.Readings.{read_as}
use Rattle.journal_format.specs.Replayed.{is_fit, first_stray, replayed, replayed_reading, opened_as, AreDue}

place_test : (stands works done : Bool) → (stands && (works || done)) ≡ true → (stands ≡ true) × (works ≡ false → done ≡ true)
place_test true true done is = (refl, λ idle. absurd (cc))
place_test true false done is = (refl, λ idle. is)
place_test false works done is = absurd (cc)

place_passes : (stands works done : Bool) → stands ≡ true → (works ≡ false → done ≡ true) → (stands && (works || done)) ≡ true
place_passes true true done is idle = refl
place_passes true false done is idle = idle refl
place_passes false works done is idle = absurd (cc)

less_test : (n m : ℕ) → (nat_lt n m ≡ true → n < m) × (n < m → nat_lt n m ≡ true)
less_test n m = (λ is. grind (arith, nat_tests), λ less. grind (arith, nat_tests))

-- a request fits exactly where the test passes
fit_test : (cell : Cell) (request : Request) → (is_fit cell request ≡ true → RequestFits cell request)
    × (RequestFits cell request → is_fit cell request ≡ true)
fit_test cell (Load job kind) = less_test kind.0 (length cell.types)
fit_test cell (Process machine) = less_test machine.0 (length cell.resources)
fit_test cell (Move job branch) = less_test branch MAX_BRANCHES
fit_test cell (Unload job) = (λ is. tt, λ fits. refl)
fit_test cell (Place done kind job place) =
    let s = stage kind.0 place in let less = less_test place (length (route_of cell kind.0)) in (
      λ is. let both = place_test (is_stage cell s) (works_at cell s) done is in (less.0 both.0, both.1),
      λ fits. place_passes (is_stage cell s) (works_at cell s) done (less.1 fits.0) fits.1,
    )

due_test : (fit granted : Bool) (at : ℕ) (after : Option ℕ) → (if fit && granted then after else Some at) ≡ None
    → (fit ≡ true) × (granted ≡ true) × (after ≡ None)
due_test true true at after is = (refl, refl, is)
due_test true false at after is = absurd (cc)
due_test false granted at after is = absurd (cc)

-- grants of which none strays fit, and each is granted in its turn
pub none_strays : (cell : Cell) (parts : List Part) (at : ℕ) (grants : List Grant) → first_stray cell parts at grants ≡ None
    → All (λ (grant : Grant). RequestFits cell grant.request) grants × (all_granted cell parts (requests_of grants) ≡ true)
none_strays cell parts at [] is = (All-nil (λ (grant : Grant). RequestFits cell grant.request), refl)
none_strays cell parts at (grant ∷ grants) is =
    let first = due_test (is_fit cell grant.request) (is_granted (reply_to cell parts grant.request)) at
    (first_stray cell (state_after cell parts grant.request) (at + ENTRY_SIZE) grants) is in
    let rest = none_strays cell (state_after cell parts grant.request) (at + ENTRY_SIZE) grants first.2 in (
      All-cons (λ (g : Grant). RequestFits cell g.request) grant grants ((fit_test cell grant.request).0 first.0) rest.0,
      and_from (is_granted (reply_to cell parts grant.request)) _ first.1 rest.1,
    )

-- and the other way round
pub due_strays_not : (cell : Cell) (parts : List Part) (at : ℕ) (grants : List Grant)
    → All (λ (grant : Grant). RequestFits cell grant.request) grants → all_granted cell parts (requests_of grants) ≡ true
    → first_stray cell parts at grants ≡ None
due_strays_not cell parts at [] fit granted = refl
due_strays_not cell parts at (grant ∷ grants) fit granted =
    let after = first_stray cell (state_after cell parts grant.request) (at + ENTRY_SIZE) grants in
    let Fit : Grant → Type 0 = λ g. RequestFits cell g.request in
    let both = and_parts (is_granted (reply_to cell parts grant.request)) _ granted in
    ap (λ (b : Bool). if b && is_granted (reply_to cell parts grant.request) then after else Some at)
    ((fit_test cell grant.request).1 (All-head Fit grant grants fit))
    ∙ ap (λ (b : Bool). if b then after else Some at) both.0
    ∙ due_strays_not cell (state_after cell parts grant.request) (at + ENTRY_SIZE) grants (All-tail Fit grant grants fit) both.1

-- what is due is replayed as itself
pub due_replayed : (cell : Cell) (text : List ℕ) (grants : List Grant) → AreDue cell grants → replayed cell text grants ≡ Ok grants
due_replayed cell text grants due =
    ap (λ (o : Option ℕ). option_map_or (λ (at : ℕ). fault at) o (good grants))
    (due_strays_not cell [] (TEXT_AT + length text) grants due.fit due.granted)
  where
    good : List Grant → Result (List Grant) JournalFault
    good all = Ok all

    fault : ℕ → Result (List Grant) JournalFault
    fault at = Err (Damaged at)

-- what stands for grants that are due opens as these, where there is room
pub stands_opened : (cell : Cell) (file text : List ℕ) (room : ℕ) (grants : List Grant) → AreDue cell grants
    → ((read_as file text room ≡ Ok None) × (grants ≡ [])) ⊎ (read_as file text room ≡ Ok (Some grants))
    → opened_as cell file text room ≡ Ok grants
stands_opened cell file text room grants due (inl blank) =
    ap (replayed_reading cell text) blank.0 ∙ ap (λ (all : List Grant). good all) (sym blank.1)
  where
    good : List Grant → Result (List Grant) JournalFault
    good all = Ok all
stands_opened cell file text room grants due (inr found) =
    ap (replayed_reading cell text) found ∙ due_replayed cell text grants due

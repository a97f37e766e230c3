-- The small plant keeps the rules, and each small plant that breaks one keeps the others.
use Rattle.std.proofs.Common.{◌≡◌, ◌≢◌, ℕ, zero, suc, ◌+◌, ◌<◌, ◌≤◌, true, false, List, [], ◌∷◌, length, Contains}
use Rattle.std.proofs.Common.{ap, sym, subst, ◌∙◌, refl, arith}
use Rattle.std.proofs.Common.{⊎_elim, eqb, All}
use Rattle.std.specs.Prelude.{slice_index_or, slice_get, IsTrue, ⊤}
use Rattle.std.specs.List.{AllPairs}
use Rattle.std.specs.Option.{option_map_or}
use Rattle.std.proofs.lemmas.Bool.{false≢true, eqb-false}
use Rattle.std.proofs.lemmas.List.Elements.{All-nil, All-cons}
use Rattle.std.proofs.lemmas.List.Kept.{AllPairs-cons}
use Rattle.cell_base.specs.declared.cells.Cell.{Cell}
use Rattle.cell_base.specs.declared.cells.Resource.{Resource}
use Rattle.cell_base.specs.declared.cells.JobType.{JobType}
use Rattle.cell_base.specs.declared.cells.Step.{Step}
use Rattle.cell_base.specs.Stages.{Stage, stage, IsStage, successors, resource_at, is_last, works_at, capacity_of}
use Rattle.cell_base.specs.Names.{IsName, is_name_byte}
use Rattle.cell_base.specs.Fits.{CellFits, TypeFits, NextFits, ResourceFits}
use Rattle.lists.proofs.Elements.{Contains-none, Contains-cases}
use Rattle.cell_base.proofs.Stages.{resource_within}
use Rattle.plant_laws.specs.declared.plants.Plant.{Plant}
use Rattle.plant_laws.specs.declared.plants.PlantCell.{PlantCell}
use Rattle.plant_laws.specs.Plants.{IsCell, cell_at, visit_at, EndsAt, Keeps, KeepsRules, KeepsAllBut, PlantFits}
use Rattle.plant_laws.specs.Plants.{Rule, routes_end_at_the_exit, exit_has_the_units, no_cell_follows_on_itself}
use Rattle.plant_laws.specs.SmallPlant.{hold_on, work_on, name_p, name_q, name_r, one_place, two_places, small_cell, cell_below}
use Rattle.plant_laws.specs.SmallPlant.{plant_with, there_and_back, small_plant, CrossingRow}
use Rattle.plant_laws.specs.Standstills.{ends_on}

-- a name of one letter
letter : (b : ℕ) → is_name_byte b ≡ true → IsName (b ∷ [])
letter b is = record { some = omega arith; short = omega arith; spelled = All-cons (λ x. IsTrue (is_name_byte x)) b [] is (All-nil _) }

-- names of one letter each
letters_differ : (b c : ℕ) → b ∷ [] ≡ c ∷ [] → eqb b c ≡ false → ⊥
letters_differ b c e differs = eqb-false b c differs (cc e)

-- a list of two that differ
two_differ : {X : Type 0} (R : X → X → Type 0) (x y : X) → R x y → AllPairs R (x ∷ y ∷ [])
two_differ R x y differ = AllPairs-cons R x (y ∷ []) (All-cons (R x) y [] differ (All-nil _))
    (AllPairs-cons R y [] (All-nil _) (λ i j d below within. absurd (omega (arith, within))))

-- the places after a last place, and after one that has one place after it
ends-fits : (n p : ℕ) → NextFits n p []
ends-fits n p = record { branches = omega arith; later = All-nil _; rising = λ k within. absurd (omega (arith, within)) }

goes-fits : (n p : ℕ) → p + 1 < n → NextFits n p ((p + 1) ∷ [])
goes-fits n p within = record {
  branches = omega arith;
  later = All-cons (λ place. (p < place) × (place < n)) (p + 1) [] (omega arith, within) (All-nil _);
  rising = λ k within. absurd (omega (arith, within));
}

-- a type of one place
one_place-fits : (name : List ℕ) (only : Step) → only.on.0 < 2 → TypeFits 2 (one_place name only)
one_place-fits name only a = record {
  places = (omega arith, omega arith);
  steps = All-cons (λ (step : Step). step.on.0 < 2) only [] a (All-nil _);
  complete = refl;
  next = next;
}
  where
    next : (p : ℕ) → p < 1 → NextFits 1 p (slice_index_or ([] ∷ []) p [])
    next zero h = ends-fits 1 0
    next (suc p) h = absurd (omega (arith, h))

-- a type of two places on two resources
two_places-fits : (name : List ℕ) (first last : Step) → first.on.0 < 2 → last.on.0 < 2 → TypeFits 2 (two_places name first last)
two_places-fits name first last a b = record {
  places = (omega arith, omega arith);
  steps = All-cons (λ (step : Step). step.on.0 < 2) first (last ∷ []) a (All-cons (λ (step : Step). step.on.0 < 2) last [] b (All-nil _));
  complete = refl;
  next = next;
}
  where
    next : (p : ℕ) → p < 2 → NextFits 2 p (slice_index_or ((1 ∷ []) ∷ [] ∷ []) p [])
    next zero h = goes-fits 2 0 (omega arith)
    next (suc zero) h = ends-fits 2 1
    next (suc (suc p)) h = absurd (omega (arith, h))

-- the third type
there_and_back-fits : TypeFits 2 there_and_back
there_and_back-fits = record {
  places = (omega arith, omega arith);
  steps =
      All-cons (λ (step : Step). step.on.0 < 2) (hold_on 0) (hold_on 1 ∷ hold_on 0 ∷ []) (omega arith)
      (All-cons (λ (step : Step). step.on.0 < 2) (hold_on 1) (hold_on 0 ∷ []) (omega arith)
      (All-cons (λ (step : Step). step.on.0 < 2) (hold_on 0) [] (omega arith) (All-nil _)));
  complete = refl;
  next = next;
}
  where
    next : (p : ℕ) → p < 3 → NextFits 3 p (slice_index_or ((1 ∷ []) ∷ (2 ∷ []) ∷ [] ∷ []) p [])
    next zero h = goes-fits 3 0 (omega arith)
    next (suc zero) h = goes-fits 3 1 (omega arith)
    next (suc (suc zero)) h = ends-fits 3 2
    next (suc (suc (suc p))) h = absurd (omega (arith, h))

-- a small cell of types with names of one letter each
small_cell-fits : (units_a units_b : ℕ) (types : List JobType) → (1 ≤ units_a) × (units_a ≤ 1000) → (1 ≤ units_b) × (units_b ≤ 1000)
    → (1 ≤ length types) × (length types ≤ 64) → All (λ (t : JobType). IsName t.name) types
    → AllPairs (λ (x y : JobType). x.name ≢ y.name) types → All (TypeFits 2) types → CellFits (small_cell units_a units_b types)
small_cell-fits units_a units_b types a b few named apart fit =
    let one : Resource = record { name = 65 ∷ []; capacity = units_a; order = 1 } in
    let two : Resource = record { name = 66 ∷ []; capacity = units_b; order = 2 } in
    record {
      resource_count = (omega arith, omega arith);
      type_count = few;
      resources =
          All-cons ResourceFits one (two ∷ []) (a, omega arith) (All-cons ResourceFits two [] (b, omega arith) (All-nil ResourceFits));
      units = omega (arith, a.1, b.1);
      named = record {
        resources =
            All-cons (λ (r : Resource). IsName r.name) one (two ∷ []) (letter 65 refl)
            (All-cons (λ (r : Resource). IsName r.name) two [] (letter 66 refl) (All-nil _));
        types = named;
      };
      resource_names = two_differ (λ (x y : Resource). x.name ≢ y.name) one two (λ e. letters_differ 65 66 (λ i. e i) refl);
      type_names = apart;
      types = fit;
    }

-- a small cell of two types with the first two names fits
pair_fits : (units : ℕ) (p q : JobType) → (1 ≤ units) × (units ≤ 1000) → p.name ≡ name_p → q.name ≡ name_q → TypeFits 2 p → TypeFits 2 q
    → CellFits (small_cell 1 units (p ∷ q ∷ []))
pair_fits units p q few p_named q_named p_fits q_fits =
    small_cell-fits 1 units (p ∷ q ∷ []) (omega arith, omega arith) few (omega arith, omega arith)
    (All-cons (λ (t : JobType). IsName t.name) p (q ∷ []) (subst IsName (sym p_named) (letter 80 refl))
    (All-cons (λ (t : JobType). IsName t.name) q [] (subst IsName (sym q_named) (letter 81 refl)) (All-nil _)))
    (two_differ (λ (x y : JobType). x.name ≢ y.name) p q (λ e. letters_differ 80 81 (sym p_named ∙ e ∙ q_named) refl))
    (All-cons (TypeFits 2) p (q ∷ []) p_fits (All-cons (TypeFits 2) q [] q_fits (All-nil (TypeFits 2))))

-- the cells below fit
below_fits : (units : ℕ) → (1 ≤ units) × (units ≤ 1000) → CellFits (cell_below units).cell
below_fits units few =
    pair_fits units (two_places name_p (work_on 0) (hold_on 1)) (two_places name_q (work_on 0) (hold_on 1)) few refl refl
    (two_places-fits name_p (work_on 0) (hold_on 1) (omega arith) (omega arith))
    (two_places-fits name_q (work_on 0) (hold_on 1) (omega arith) (omega arith))

ends_on-fits : (r : ℕ) → r < 2 → CellFits (ends_on r).cell
ends_on-fits r within =
    pair_fits 2 (one_place name_p (hold_on r)) (one_place name_q (hold_on r)) (omega arith, omega arith) refl refl
    (one_place-fits name_p (hold_on r) within) (one_place-fits name_q (hold_on r) within)

-- the routes of a cell end at its exit
below_ends : (units kind place : ℕ) → IsStage (cell_below units).cell (stage kind place)
    → is_last (cell_below units).cell (stage kind place) ≡ true → resource_at (cell_below units).cell (stage kind place) ≡ 1
below_ends units zero zero h last = absurd (false≢true last)
below_ends units zero (suc zero) h last = refl
below_ends units zero (suc (suc place)) h last = absurd (omega (arith, h))
below_ends units (suc zero) zero h last = absurd (false≢true last)
below_ends units (suc zero) (suc zero) h last = refl
below_ends units (suc zero) (suc (suc place)) h last = absurd (omega (arith, h))
below_ends units (suc (suc kind)) place h last = absurd (omega (arith, h))

-- where one place follows, it is in another cell
one_apart : (cell : Cell) (s only t : Stage) → eqb (resource_at cell s) (resource_at cell only) ≡ false → Contains (only ∷ []) t
    → resource_at cell s ≢ resource_at cell t
one_apart cell s only t differ c e = ⊎_elim
    (λ (same : only ≡ t). eqb-false _ _ differ (e ∙ sym (ap (resource_at cell) same)))
    (Contains-none t) (Contains-cases only t [] c)

-- the places that follow a place of a type are in other cells
abbrev GoesOn : Cell → ℕ → Type 0
GoesOn cell kind =
    (place : ℕ) (t : Stage) → IsStage cell (stage kind place) → Contains (successors cell (stage kind place)) t
    → resource_at cell (stage kind place) ≢ resource_at cell t

back_goes_on : (j : PlantCell) → GoesOn (plant_with j there_and_back).above 2
back_goes_on j zero t h c e = one_apart (plant_with j there_and_back).above (stage 2 0) (stage 2 1) t refl c e
back_goes_on j (suc zero) t h c e = one_apart (plant_with j there_and_back).above (stage 2 1) (stage 2 2) t refl c e
back_goes_on j (suc (suc zero)) t h c e = Contains-none t c
back_goes_on j (suc (suc (suc place))) t h c e = omega (arith, h)

-- the places of a type do no work
abbrev Holds : JobType → Type 0
Holds t = (place : ℕ) → option_map_or (λ (x : Step). x.works) (slice_get t.route place) false ≡ false

two_hold : (name : List ℕ) (a b : ℕ) → Holds (two_places name (hold_on a) (hold_on b))
two_hold name a b zero = refl
two_hold name a b (suc zero) = refl
two_hold name a b (suc (suc place)) = refl

back_holds : Holds there_and_back
back_holds zero = refl
back_holds (suc zero) = refl
back_holds (suc (suc zero)) = refl
back_holds (suc (suc (suc place))) = refl

-- a plant of cell I, this cell J and this third type
module _ (j : PlantCell) (third : JobType) (j_fits : CellFits j.cell) (two_types : length j.cell.types ≡ 2) (third_fits : TypeFits 2 third)
    (named : third.name ≡ name_r) (third_holds : Holds third) where
  abbrev plant : Plant
  plant = plant_with j third

  above_fits : CellFits plant.above
  above_fits =
      let p : JobType = two_places name_p (hold_on 0) (hold_on 1) in
      let q : JobType = two_places name_q (hold_on 1) (hold_on 0) in
      small_cell-fits 1 2 (p ∷ q ∷ third ∷ []) (omega arith, omega arith) (omega arith, omega arith) (omega arith, omega arith)
      (All-cons (λ (t : JobType). IsName t.name) p (q ∷ third ∷ []) (letter 80 refl)
      (All-cons (λ (t : JobType). IsName t.name) q (third ∷ []) (letter 81 refl)
      (All-cons (λ (t : JobType). IsName t.name) third [] (subst IsName (sym named) (letter 82 refl)) (All-nil _))))
      (AllPairs-cons (λ (x y : JobType). x.name ≢ y.name) p (q ∷ third ∷ [])
      (All-cons (λ (t : JobType). p.name ≢ t.name) q (third ∷ []) (λ e. letters_differ 80 81 (λ i. e i) refl)
      (All-cons (λ (t : JobType). p.name ≢ t.name) third [] (λ e. letters_differ 80 82 (e ∙ named) refl) (All-nil _)))
      (two_differ (λ (x y : JobType). x.name ≢ y.name) q third (λ e. letters_differ 81 82 (e ∙ named) refl)))
      (All-cons (TypeFits 2) p (q ∷ third ∷ []) (two_places-fits name_p (hold_on 0) (hold_on 1) (omega arith) (omega arith))
      (All-cons (TypeFits 2) q (third ∷ []) (two_places-fits name_q (hold_on 1) (hold_on 0) (omega arith) (omega arith))
      (All-cons (TypeFits 2) third [] third_fits (All-nil (TypeFits 2)))))

  cells_fit : (c : ℕ) → IsCell plant c → CellFits (cell_at plant c)
  cells_fit zero h = below_fits 1 (omega arith, omega arith)
  cells_fit (suc zero) h = j_fits
  cells_fit (suc (suc c)) h = absurd (omega (arith, h))

  holds_at : (kind place : ℕ) → IsStage plant.above (stage kind place) → works_at plant.above (stage kind place) ≡ false
  holds_at zero place h = two_hold name_p 0 1 place
  holds_at (suc zero) place h = two_hold name_q 1 0 place
  holds_at (suc (suc zero)) place h = third_holds place
  holds_at (suc (suc (suc kind))) place h = absurd (omega (arith, h))

  -- both cells have two types, and a visit is of one of them
  two_types_at : (c : ℕ) → c < 2 → length (cell_at plant c).types ≡ 2
  two_types_at zero h = refl
  two_types_at (suc zero) h = two_types
  two_types_at (suc (suc c)) h = absurd (omega (arith, h))

  visit_below : (kind place : ℕ) → (visit_at plant (stage kind place)).0 < 2
  visit_below zero zero = omega arith
  visit_below zero (suc zero) = omega arith
  visit_below zero (suc (suc place)) = omega arith
  visit_below (suc zero) zero = omega arith
  visit_below (suc zero) (suc zero) = omega arith
  visit_below (suc zero) (suc (suc place)) = omega arith
  visit_below (suc (suc zero)) zero = omega arith
  visit_below (suc (suc zero)) (suc zero) = omega arith
  visit_below (suc (suc zero)) (suc (suc zero)) = omega arith
  visit_below (suc (suc zero)) (suc (suc (suc place))) = omega arith
  visit_below (suc (suc (suc kind))) place = omega arith

  visits_at : (s : Stage) → IsStage plant.above s
      → (visit_at plant s).0 < length (cell_at plant (resource_at plant.above s)).types
  visits_at s h =
      omega (
        arith,
        visit_below s.kind s.place,
        two_types_at (resource_at plant.above s) (resource_within plant.above above_fits s h),
      )

  ends : EndsAt j.cell j.exit.0 → Keeps plant routes_end_at_the_exit
  ends j_ends zero h s is last = below_ends 1 s.kind s.place is last
  ends j_ends (suc zero) h s is last = j_ends s is last
  ends j_ends (suc (suc c)) h s is last = absurd (omega (arith, h))

  units : 2 ≤ capacity_of j.cell j.exit.0 → Keeps plant exit_has_the_units
  units two zero h = omega arith
  units two (suc zero) h = two
  units two (suc (suc c)) h = absurd (omega (arith, h))

  apart_at : GoesOn plant.above 2 → (kind : ℕ) → GoesOn plant.above kind
  apart_at goes_on zero zero t h c e = one_apart plant.above (stage 0 0) (stage 0 1) t refl c e
  apart_at goes_on zero (suc zero) t h c e = Contains-none t c
  apart_at goes_on zero (suc (suc place)) t h c e = omega (arith, h)
  apart_at goes_on (suc zero) zero t h c e = one_apart plant.above (stage 1 0) (stage 1 1) t refl c e
  apart_at goes_on (suc zero) (suc zero) t h c e = Contains-none t c
  apart_at goes_on (suc zero) (suc (suc place)) t h c e = omega (arith, h)
  apart_at goes_on (suc (suc zero)) place t h c e = goes_on place t h c e
  apart_at goes_on (suc (suc (suc kind))) place t h c e = omega (arith, h)

  -- it keeps the rules of which cell J and the third type keep what is theirs
  keeps : (these : Rule → Type 0) → (these routes_end_at_the_exit → EndsAt j.cell j.exit.0)
      → (these exit_has_the_units → 2 ≤ capacity_of j.cell j.exit.0) → (these no_cell_follows_on_itself → GoesOn plant.above 2)
      → KeepsRules these plant
  keeps these j_ends j_units goes_on = record {
    above = above_fits;
    cells = cells_fit;
    each = refl;
    holds = λ s is. holds_at s.kind s.place is;
    visits = visits_at;
    rules = rules;
  }
    where
      rules : (rule : Rule) → these rule → Keeps plant rule
      rules routes_end_at_the_exit h = ends (j_ends h)
      rules exit_has_the_units h = units (j_units h)
      rules no_cell_follows_on_itself h = λ s t is c. apart_at (goes_on h) s.kind s.place t is c

pub small_plant-fits : PlantFits small_plant
small_plant-fits =
    keeps (cell_below 2) there_and_back (below_fits 2 (omega arith, omega arith)) refl there_and_back-fits refl back_holds (λ rule. ⊤)
    (λ h s is last. below_ends 2 s.kind s.place is last) (λ h. omega arith) (λ h. back_goes_on (cell_below 2))

-- whatever the resource on which the routes of J end, the units of its exit, and the resources of the third type
pub ends_on-keeps : (r : ℕ) → r < 2 → KeepsAllBut routes_end_at_the_exit (plant_with (ends_on r) there_and_back)
ends_on-keeps r within =
    keeps (ends_on r) there_and_back (ends_on-fits r within) refl there_and_back-fits refl back_holds
    (λ rule. rule ≢ routes_end_at_the_exit) (λ h. absurd (h refl)) (λ h. omega arith) (λ h. back_goes_on (ends_on r))

pub units-keep : (units : ℕ) → (1 ≤ units) × (units ≤ 1000)
    → KeepsAllBut exit_has_the_units (plant_with (cell_below units) there_and_back)
units-keep units few =
    keeps (cell_below units) there_and_back (below_fits units few) refl there_and_back-fits refl back_holds
    (λ rule. rule ≢ exit_has_the_units) (λ h s is last. below_ends units s.kind s.place is last) (λ h. absurd (h refl))
    (λ h. back_goes_on (cell_below units))

pub two_places-keep : (a b : ℕ) → a < 2 → b < 2
    → KeepsAllBut no_cell_follows_on_itself (plant_with (cell_below 2) (two_places name_r (hold_on a) (hold_on b)))
two_places-keep a b a_within b_within =
    keeps (cell_below 2) (two_places name_r (hold_on a) (hold_on b)) (below_fits 2 (omega arith, omega arith)) refl
    (two_places-fits name_r (hold_on a) (hold_on b) a_within b_within) refl (two_hold name_r a b)
    (λ rule. rule ≢ no_cell_follows_on_itself) (λ h s is last. below_ends 2 s.kind s.place is last) (λ h. omega arith)
    (λ h. absurd (h refl))

pub crossing_row : CrossingRow
crossing_row = refl

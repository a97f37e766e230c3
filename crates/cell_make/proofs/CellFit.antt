-- The drawn cell fits.
use Rattle.std.proofs.Common.{◌≡◌, ℕ, ◌+◌, ◌*◌, ◌<◌, ◌≤◌, [], length, ap, sym, subst, ◌∙◌, inl, inr, arith, rules, refl}
use Rattle.std.specs.List.{All}
use Rattle.std.proofs.lemmas.Bool.{cases_lt, lt-ltb, le-ltb}
use Rattle.std.proofs.lemmas.List.Elements.{All-nil, All-cons}
use Rattle.std.proofs.lemmas.List.FromFn.{length-map-range_with_len, get_or-map-range_with_len}
use Rattle.std.proofs.lemmas.List.Sums.{sum_by-le}
use Rattle.cell_base.specs.declared.cells.JobType.{JobType}
use Rattle.cell_base.specs.declared.cells.Resource.{Resource}
use Rattle.cell_base.specs.declared.cells.Step.{Step}
use Rattle.cell_base.specs.Names.{IsName}
use Rattle.cell_base.specs.Successors.{place_after, default_next}
use Rattle.cell_base.specs.Fits.{ResourceFits, NextFits, EachNextFits, TypeFits, CellFits}
use Rattle.cell_make.specs.Draws.{number_after, draw}
use Rattle.cell_make.specs.Cells.{drawn_resource, drawn_resources, drawn_steps, drawn_length, drawn_type, drawn_types}
use Rattle.cell_make.specs.Cells.{number_after_types, drawn_cell}
use Rattle.cell_make.proofs.Spelling.{is_name, different}
use Rattle.cell_make.proofs.Lists.{length-resources, resource-at, length-steps, step-at, length-types, type-at}

each_resource : (P : Resource → Type 0) (x n : ℕ) → ((y r : ℕ) → r < n → P (drawn_resource y r)) → All P (drawn_resources x n)
each_resource P x n each = λ k d within.
    let below : k < n = omega (arith, length-resources x n, within) in
    subst P (sym (resource-at x n k d below)) (each (number_after x (2 * k)) k below)

pub each_type : (P : JobType → Type 0) (x n : ℕ) → ((y t : ℕ) → t < n → P (drawn_type y t)) → All P (drawn_types x n)
each_type P x n each = λ k d within.
    let below : k < n = omega (arith, length-types x n, within) in
    subst P (sym (type-at x n k d below)) (each (number_after_types x k) k below)

resource_fits : (y r : ℕ) → ResourceFits (drawn_resource y r)
resource_fits y r = ((omega arith, omega arith), omega arith)

step_within : (y : ℕ) → draw y 16 < 16
step_within y = omega arith

steps_within : (y n : ℕ) → All (λ (step : Step). step.on.0 < 16) (drawn_steps y n)
steps_within y n = λ k d within.
    let below : k < n = omega (arith, length-steps y n, within) in
    subst (λ (step : Step). step.on.0 < 16) (sym (step-at y n k d below)) (step_within (number_after y (1 + 2 * k)))

after_fits : (n p : ℕ) → NextFits n p (place_after n p)
after_fits n p =
    let IsLater : ℕ → Type 0 = λ place. (p < place) × (place < n) in
    elim (cases_lt (p + 1) n) [
      | inl more ↦ rw (lt-ltb (p + 1) n more) (record {
        branches = omega arith;
        later = All-cons IsLater (p + 1) [] (omega arith, more) (All-nil IsLater);
        rising = search rules;
      })
      | inr last ↦ rw (le-ltb (p + 1) n last) (record {
        branches = omega arith;
        later = All-nil IsLater;
        rising = search rules;
      })
    ]

length-default_next : (n : ℕ) → length (default_next n) ≡ n
length-default_next n = length-map-range_with_len (place_after n) 0 n

default_next_fits : (n : ℕ) → EachNextFits n (default_next n)
default_next_fits n p within =
    let below : p < n = omega (arith, length-default_next n, within) in
    subst (NextFits n p) (sym (get_or-map-range_with_len (place_after n) 0 n p p [] below (omega arith))) (after_fits n p)

type_fits : (y t : ℕ) → TypeFits 16 (drawn_type y t)
type_fits y t =
    let n = drawn_length y in
    let long : length (drawn_steps y n) ≡ n = length-steps y n in
    record {
      places = (omega (arith, long), omega (arith, long));
      steps = steps_within y n;
      complete = length-default_next n ∙ sym long;
      next = subst (λ (m : ℕ). EachNextFits m (default_next n)) (sym long) (default_next_fits n);
    }

pub cell_fits : (x : ℕ) → CellFits (drawn_cell x)
cell_fits x =
    let y = number_after x 32 in
    let resources = drawn_resources x 16 in
    let types = drawn_types y 8 in
    let sixteen = length-resources x 16 in
    let eight = length-types y 8 in
    record {
      resource_count = (omega (arith, sixteen), omega (arith, sixteen));
      type_count = (omega (arith, eight), omega (arith, eight));
      resources = each_resource ResourceFits x 16 (λ z r below. resource_fits z r);
      units = omega (
        arith,
        sixteen,
        sum_by-le (λ (r : Resource). r.capacity) 4 resources
            (each_resource (λ r. r.capacity ≤ 4) x 16 (λ z r below. omega arith)),
      );
      named = record {
        resources = each_resource (λ r. IsName r.name) x 16 (λ z r below. is_name 82 r refl (omega arith));
        types = each_type (λ t. IsName t.name) y 8 (λ z t below. is_name 84 t refl (omega arith));
      };
      resource_names = λ i j d less within same.
          let below : j < 16 = omega (arith, sixteen, within) in
          different 82 i j less
          (sym (ap (λ (r : Resource). r.name) (resource-at x 16 i d (omega arith))) ∙ same
          ∙ ap (λ (r : Resource). r.name) (resource-at x 16 j d below));
      type_names = λ i j d less within same.
          let below : j < 8 = omega (arith, eight, within) in
          different 84 i j less
          (sym (ap (λ (t : JobType). t.name) (type-at y 8 i d (omega arith))) ∙ same
          ∙ ap (λ (t : JobType). t.name) (type-at y 8 j d below));
      types = subst (λ (n : ℕ). All (TypeFits n) types) (sym sixteen) (each_type (TypeFits 16) y 8 (λ z t below. type_fits z t));
    }

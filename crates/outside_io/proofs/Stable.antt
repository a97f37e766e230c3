-- A crash may leave what was there at the last sync that succeeded.
use Rattle.std.proofs.Common.{◌≡◌, ◌⊎◌, inl, inr, ℕ, ◌+◌, ◌-◌, ◌<◌, ◌≤◌, false, List, [], ◌∷◌, length, refl, sym, ◌∙◌, arith}
use Rattle.std.proofs.lemmas.Bool.{cases_lt}
use Rattle.std.proofs.lemmas.Bool.Decides.{nat_tests}
use Rattle.outside_io.specs.Images.{Span, DiskState, is_written, IsImage, at_rest}
use Rattle.outside_io.specs.DiskSteps.{after_step, after_steps}
use Rattle.outside_io.specs.ImageLaws.{IsGrown, rest_is_grown, step_grows}
use Rattle.outside_io.specs.declared.disk_steps.DiskStep.{DiskStep}
use Rattle.outside_io.specs.declared.disk_steps.DiskStep.TheVariants.{Wrote, Lost, Synced}
use Rattle.outside_io.proofs.Overwriting.{get_or-overwritten}

-- an offset that no span has is below the first or after it
apart : (span : Span) (spans : List Span) (k : ℕ) → is_written (span ∷ spans) k ≡ false
    → ((k < span.at) ⊎ (span.at + span.size ≤ k)) × (is_written spans k ≡ false)
apart span spans k none = elim (cases_lt k span.at) [
  | inl below ↦ (inl below, grind (arith, nat_tests))
  | inr from ↦ elim (cases_lt k (span.at + span.size)) [
    | inl within ↦ absurd (grind (arith, nat_tests))
    | inr above ↦ (inr above, grind (arith, nat_tests))
  ]
]

step_stable : (state : DiskState) (step : DiskStep) → IsGrown state → IsImage state state.stable
    → IsImage (after_step state step) (after_step state step).stable
step_stable state (Wrote at bytes) grown left = record {
  no_shorter = omega arith;
  no_longer = omega (arith, left.no_longer);
  kept = λ k lt none.
      let out = apart (record { at = at; size = length bytes.items }) state.written k none in
      left.kept k lt out.1 ∙ sym (get_or-overwritten state.seen at bytes.items k out.0 (omega (arith, lt, grown.stable)));
}
step_stable state (Lost at end) grown left = record {
  no_shorter = omega arith;
  no_longer = omega (arith, left.no_longer);
  kept = λ k lt none. left.kept k lt (apart (record { at = at; size = end - at }) state.written k none).1;
}
step_stable state Synced grown left = record { no_shorter = omega arith; no_longer = omega arith; kept = λ k lt none. refl }

steps_stable : (state : DiskState) (steps : List DiskStep) → IsGrown state → IsImage state state.stable
    → IsImage (after_steps state steps) (after_steps state steps).stable
steps_stable state [] grown left = left
steps_stable state (step ∷ steps) grown left =
    steps_stable (after_step state step) steps (step_grows state step grown) (step_stable state step grown left)

pub stable_left : (first : List ℕ) (steps : List DiskStep)
    → IsImage (after_steps (at_rest first) steps) (after_steps (at_rest first) steps).stable
stable_left first steps =
    steps_stable (at_rest first) steps (rest_is_grown first)
    (record { no_shorter = omega arith; no_longer = omega arith; kept = λ k lt none. refl })

-- The counts and capacities are those of the cell.
use Rattle.std.proofs.Common.{◌≡◌, ℕ, ◌<◌, length, nat_le, subst, ap, ◌∙◌, arith}
use Rattle.std.specs.Prelude.{slice_index}
use Rattle.cell_base.specs.Masks.{has_bit}
use Rattle.cell_base.specs.Stages.{capacity_of}
use Rattle.cell_base.specs.Neighborhoods.{count}
use Rattle.admission_core.specs.CoreState.{CoreState}
use Rattle.admission_core.proofs.admission.Core.full.Goals as goal

pub returns : goal.returns
returns c =
    let held = c.self.inside.tally.counts in let are = c.self.invariant.0.tallied.counts in
    subst (λ (state : CoreState). (r : ℕ) → r < length state.cell.resources
    → has_bit c.full.result r ≡ nat_le (capacity_of state.cell r) (count state.cell state.parts r)) c.self.view_is
    (λ r within.
    c.full.ensures r (omega (arith, are.complete, within))
    ∙ ap (λ n. nat_le n (slice_index held.counts r)) (are.capacities r within)
    ∙ ap (λ n. nat_le (capacity_of c.self.inside.table r) n) (are.each r within))

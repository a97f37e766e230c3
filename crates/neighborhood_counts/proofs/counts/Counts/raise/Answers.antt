-- The count stays within the capacity, and the mask shows whether it is there.
use Rattle.std.proofs.Common.{◌≡◌, ◌<◌, length, get_or, arith, ◌∙◌}
use Rattle.std.proofs.lemmas.List.{get_or_default}
use Rattle.neighborhood_counts.proofs.Full.{counted, filled}
use Rattle.neighborhood_counts.proofs.counts.Counts.raise.Goals as goal

pub overflow_add-count : goal.overflow_add-count
overflow_add-count c =
    let counts = c.self.inside.counts.items in
    let capacities = c.self.inside.capacities.items in
    let r = c.args.r in
    let within : r < length counts = rw (← c.self.view_is) at c.requires.within in
    let room : get_or counts r 0 < get_or capacities r 0 = rw (← c.self.view_is) at c.requires.room in
    let capacity : c.index-capacity.result.now ≡ get_or capacities r 0 =
    c.index-capacity.ensures
    ∙ get_or_default capacities r c.index-capacity.result.now 0 (omega (arith, within, c.self.invariant.0.complete)) in
    let count : c.index.result.now ≡ get_or counts r 0 =
    c.index.ensures ∙ get_or_default counts r c.index.result.now 0 within in
    omega (arith, room, capacity, count)

pub invariant_of-self : goal.invariant_of-self
invariant_of-self c =
    let counts = c.self.inside.counts.items in
    let capacities = c.self.inside.capacities.items in
    let r = c.args.r in
    let within : r < length counts = rw (← c.self.view_is) at c.requires.within in
    let capacity : c.index-capacity.result.now ≡ get_or capacities r 0 =
    c.index-capacity.ensures
    ∙ get_or_default capacities r c.index-capacity.result.now 0 (omega (arith, within, c.self.invariant.0.complete)) in (
      counted counts capacities c.self.inside.full r c.self.invariant.0 c.self.invariant.1 within _ (omega arith),
      filled counts capacities c.self.inside.full r c.self.invariant.0 c.self.invariant.1 within _ (omega arith),
    )

-- The count is below the capacity.
use Rattle.std.proofs.Common.{◌≡◌, ◌-◌, ◌<◌, length, get_or, arith, ◌∙◌}
use Rattle.std.proofs.lemmas.List.{get_or_default}
use Rattle.neighborhood_counts.proofs.Full.{counted, opened}
use Rattle.neighborhood_counts.proofs.counts.Counts.lower.Goals as goal

pub invariant_of-self : goal.invariant_of-self
invariant_of-self c =
    let counts = c.self.inside.counts.items in
    let capacities = c.self.inside.capacities.items in
    let r = c.args.r in
    let within : r < length counts = rw (← c.self.view_is) at c.requires.within in
    let held : 0 < get_or counts r 0 = rw (← c.self.view_is) at c.requires.held in
    let count : c.index_mut.result.now ≡ get_or counts r 0 =
    c.index_mut.ensures.value ∙ get_or_default counts r c.index_mut.result.now 0 within in
    let less : c.index_mut.result.now - 1 < get_or capacities r 0 = omega (arith, held, count, c.self.invariant.0.within r within) in (
      counted counts capacities c.self.inside.full r c.self.invariant.0 c.self.invariant.1 within _ (omega (arith, less)),
      opened counts capacities c.self.inside.full r c.self.invariant.0 c.self.invariant.1 within _ less,
    )

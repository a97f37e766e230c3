-- The lowest bit of the mask among those of the full resources.
use Rattle.std.proofs.Common.{◌<◌, ◌^◌, bit_and, arith}
use Rattle.std.proofs.lemmas.Nat.{and_le_l}
use Rattle.neighborhood_counts.proofs.Full.{none_full, lowest_full}
use Rattle.neighborhood_counts.proofs.counts.Counts.first_full.Goals as goal

pub returns-then-full-eq0 : goal.returns-then-full-eq0
returns-then-full-eq0 c =
    let of = rw (← c.self.view_is) at c.requires in
    rw (← c.self.view_is) (rw (none_full _ c.self.inside.full c.args.enter c.self.invariant.1 of c.if-full-eq0.true))

pub returns-else-full-eq0 : goal.returns-else-full-eq0
returns-else-full-eq0 c =
    let of = rw (← c.self.view_is) at c.requires in
    let fits : bit_and c.args.enter c.self.inside.full < 2 ^ 64 = omega (arith, and_le_l c.args.enter c.self.inside.full, c.ranges.enter) in
    let some : 0 < bit_and c.args.enter c.self.inside.full = omega (arith, c.if-full-eq0.false) in
    rw (← c.self.view_is) (rw (lowest_full _ c.self.inside.full c.args.enter c.self.invariant.1 of some fits))

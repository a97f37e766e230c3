-- The bits of the resource are set.
use Rattle.std.proofs.Common.{◌≡◌, ◌<◌, length, get_or, ◌∙◌}
use Rattle.std.proofs.lemmas.List.{get_or_default}
use Rattle.admission_core.proofs.Marking.{bits_set, set_of_ranks}
use Rattle.admission_core.proofs.occupied.Occupied.mark.Goals as goal

pub invariant_of-self : goal.invariant_of-self
invariant_of-self c =
    let bits = c.self.inside.bits.items in
    let within : c.args.on.0 < length c.self.inside.bits.items = rw (← c.self.view_is) at c.requires in
    let read : c.index.result.now ≡ get_or c.self.inside.bits.items c.args.on.0 0 =
    c.index.ensures ∙ get_or_default bits c.args.on.0 c.index.result.now 0 within in
    rw read (record {
      few = c.self.invariant.few;
      each = c.self.invariant.each;
      within = set_of_ranks c.self.inside.ranks.items bits c.self.inside.mask c.args.on.0 c.self.invariant within;
    })

pub returns-clause-marks : goal.returns-clause-marks
returns-clause-marks c =
    let bits = c.self.inside.bits.items in
    let within : c.args.on.0 < length c.self.inside.bits.items = rw (← c.self.view_is) at c.requires in
    let read : c.index.result.now ≡ get_or c.self.inside.bits.items c.args.on.0 0 =
    c.index.ensures ∙ get_or_default bits c.args.on.0 c.index.result.now 0 within in
    rw (← c.self.view_is, read) (bits_set c.self.inside.ranks.items bits c.self.inside.mask c.args.on.0 c.self.invariant within)

-- What leaves first does not touch the counts that rise then.
use Rattle.std.proofs.Common.{arith, sym, ◌∙◌}
use Rattle.std.proofs.lemmas.Bool.{and_parts}
use Rattle.std.proofs.lemmas.Nat.Bits.{bit_at-lt}
use Rattle.cell_base.specs.Masks.{bits_only_of}
use Rattle.cell_base.proofs.Bits.{has_bit-and, bit_at-of_set, bit_at-only}
use Rattle.neighborhood_counts.proofs.Full.{room_of_none, none_of_room}
use Rattle.neighborhood_counts.proofs.counts.Counts.shift.Goals as goal

pub enter-requires-clause-mask : goal.enter-requires-clause-mask
enter-requires-clause-mask c r set_here =
    rw c.leave.ensures.length (c.requires.to_mask r (and_parts _ _ (sym (has_bit-and c.args.to _ r) ∙ set_here)).0)

pub enter-requires-clause-room : goal.enter-requires-clause-room
enter-requires-clause-room c =
    none_of_room c.leave.new.self (bits_only_of c.args.to c.args.from) (λ r within set_here.
    let there = rw c.leave.ensures.length at within in
    let room = room_of_none c.args.self.now _ c.requires.room r there set_here in
    let to = bit_at-of_set c.args.to r (and_parts _ _ (sym (has_bit-and c.args.to _ r) ∙ set_here)).0 in
    let only = bit_at-only c.args.from c.args.to r (omega arith) (omega arith) in
    rw c.leave.ensures.capacities (omega (arith, room, to, only, bit_at-lt c.args.from r, c.leave.ensures.counts r)))

pub returns-clause-counts : goal.returns-clause-counts
returns-clause-counts c r =
    let left = bit_at-only c.args.from c.args.to r (omega arith) (omega arith) in
    let entered = bit_at-only c.args.to c.args.from r (omega arith) (omega arith) in
    omega (arith, left, entered, c.leave.ensures.counts r, c.enter.ensures.counts r)

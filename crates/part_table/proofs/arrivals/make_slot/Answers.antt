-- What stays is the same, and nothing else is there.
use Rattle.std.proofs.Common.{◌≡◌, ◌∙◌}
use Rattle.std.proofs.lemmas.List.Elements.{filter_passes}
use Rattle.part_table.specs.Logs.{staying}
use Rattle.part_table.proofs.Staying.{is_staying, staying_kept}
use Rattle.part_table.proofs.arrivals.make_slot.Goals as goal

pub reassign_slots-requires-clause-stay : goal.reassign_slots-requires-clause-stay
reassign_slots-requires-clause-stay c = rw c.compact.ensures.entries (filter_passes is_staying c.args.log.now.entries)

pub reassign_slots-requires-clause-distinct : goal.reassign_slots-requires-clause-distinct
reassign_slots-requires-clause-distinct c =
    let same : staying c.compact.new.self.entries ≡ staying c.args.log.now.entries =
    rw c.compact.ensures.entries (staying_kept c.args.log.now.entries) in
    rw same c.requires.distinct

pub returns-then-has_no_slot-clause-items : goal.returns-then-has_no_slot-clause-items
returns-then-has_no_slot-clause-items c =
    let same : staying c.compact.new.self.entries ≡ staying c.args.log.now.entries =
    rw c.compact.ensures.entries (staying_kept c.args.log.now.entries) in
    c.reassign_slots.ensures.items ∙ same

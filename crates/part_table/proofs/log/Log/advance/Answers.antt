-- The entry at the place of the job is gone, and the one after all others is found by the job.
use Rattle.std.proofs.Common.{◌≡◌, cond, Some, length, length-set, nat_eq, ap, ◌∙◌}
use Rattle.part_table.specs.Slots.{place_at}
use Rattle.part_table.specs.Logs.{gone_entry, IsPlaceOf}
use Rattle.part_table.proofs.Advancing.{places_advanced, staying_advanced}
use Rattle.part_table.proofs.log.Log.advance.Goals as goal

pub invariant_of-self : goal.invariant_of-self
invariant_of-self c =
    let entries = c.self.inside.chain.entries in
    let is : IsPlaceOf c.self.inside.chain.entries c.args.job c.args.at = rw (← c.self.view_is) at c.requires.at in
    let end : c.len.result ≡ length c.self.inside.chain.entries =
    c.len.ensures ∙ ap length c.take_out-entry.ensures.entries ∙ length-set entries c.args.at (gone_entry c.take_out-entry.result) in
    rw (c.push.ensures.entries, c.take_out-entry.ensures.entries)
    (places_advanced entries c.args.job c.args.at c.take_out-entry.result c.args.place c.args.done c.args.on
    c.take_out-entry.ensures.entry is c.self.inside.slots c.move_job.new.self c.self.invariant
    (λ q. c.move_job.ensures.place q ∙ ap (λ n. cond (nat_eq c.args.job.0 q) (Some n) (place_at c.self.inside.slots q)) end)
    c.move_job.ensures.slots)

pub returns-clause-items : goal.returns-clause-items
returns-clause-items c =
    let entries = c.self.inside.chain.entries in
    let is : IsPlaceOf c.self.inside.chain.entries c.args.job c.args.at = rw (← c.self.view_is) at c.requires.at in
    rw (← c.self.view_is, c.push.ensures.entries, c.take_out-entry.ensures.entries)
    (staying_advanced entries c.args.job c.args.at c.take_out-entry.result c.args.place c.args.done c.args.on
    c.take_out-entry.ensures.entry is)

-- Each part is found as if it came anew.
use Rattle.std.proofs.Common.{ℕ, List, nat_eq, ap, ◌∙◌}
use Rattle.std.specs.Map.{lookup}
use Rattle.part_table.specs.Logs.{HaveSlots, entry_job}
use Rattle.part_table.proofs.Listing.{placed_more}
use Rattle.part_table.proofs.log.place_again.Goals as goal

pub loop-at-preserved : goal.loop-at-preserved
loop-at-preserved c =
    let slotted : HaveSlots c.args.chain.now.entries c.move_job.new.self = λ k entry e stays.
    ap (λ (slots : List (ℕ × ℕ)). lookup (nat_eq (entry_job entry)) slots) (c.move_job.ensures.slots ∙ c.loop-at.invariant.same)
    ∙ c.requires.slotted k entry e stays in record {
      placed = placed_more c.args.chain.now.entries c.loop-at.at c.get-entry.result c.loop-at.slots c.move_job.new.self c.get-entry.ensures
          c.requires.stay c.requires.distinct slotted c.loop-at.invariant.placed c.move_job.ensures.place;
      same = c.move_job.ensures.slots ∙ c.loop-at.invariant.same;
      given = c.move_job.ensures.given ∙ c.loop-at.invariant.given;
      slots = c.move_job.ensures.room ∙ c.loop-at.invariant.slots;
    }

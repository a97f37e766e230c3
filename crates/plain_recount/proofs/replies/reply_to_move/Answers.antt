-- The tests before the last one did not refuse.
use Rattle.std.proofs.Common.{◌≡◌, false, not, rules, sym, ◌∙◌}
use Rattle.cell_base.specs.Stages.{is_last, stage_of}
use Rattle.plain_recount.proofs.replies.reply_to_move.Goals as goal

pub returns-in-Some : goal.returns-in-Some
returns-in-Some c =
    let undone : not c.args.part.done ≡ false = search rules in
    let last : is_last c.args.table.now (stage_of c.args.part) ≡ false = sym c.is_last.ensures ∙ c.if-is_last.false in
    rw (undone, last, ← c.in-Some.ensures.successor) (rw c.arrival.ensures at c.reply_to_arrival.ensures)

-- A part of the state is that of its job, and stands at a stage.
use Rattle.std.proofs.Common.{sym, ◌∙◌}
use Rattle.part_table.proofs.Finding.{found_of_job}
use Rattle.admission_core.proofs.Moving.{part_known}
use Rattle.admission_core.proofs.replies.reply_to.Goals as goal

pub reply_to_move-requires-clause-found : goal.reply_to_move-requires-clause-found
reply_to_move-requires-clause-found c =
    found_of_job c.args.tally.now.parts.parts c.in-Move.job c.in-Some.part (sym c.get.ensures.part ∙ c.in-Some.is)

pub reply_to_unload-requires : goal.reply_to_unload-requires
reply_to_unload-requires c =
    (part_known c.args.table.now c.args.tally.now.parts.parts c.in-Unload.job c.in-Some-get.part c.requires.sound.admitted
    (sym c.get-in-Unload.ensures.part ∙ c.in-Some-get.is)).stage

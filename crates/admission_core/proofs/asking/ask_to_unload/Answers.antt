-- The part stands at a stage.
use Rattle.admission_core.proofs.Moving.{part_known}
use Rattle.admission_core.proofs.asking.ask_to_unload.Goals as goal

pub reply_to_unload-reply-requires : goal.reply_to_unload-reply-requires
reply_to_unload-reply-requires c =
    (part_known c.args.table.now c.args.tally.now.parts.parts c.args.found.part.job c.args.found.part c.requires.sound.admitted
    c.requires.found).stage

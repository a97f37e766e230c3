-- The answers, and what is told after them.
use Rattle.std.proofs.Common.{List, ℕ, ap, map}
use Rattle.printer.proofs.Sequences.{prints_as, prints_more}
use Rattle.standby_commands.specs.Lines.{ack_line}
use Rattle.standby_commands.proofs.follow.FollowCommand.print.Goals as goal

pub returns-clause-printed : goal.returns-clause-printed
returns-clause-printed g c =
    prints_more (prints_as (ap (λ (acks : List ℕ). map ack_line acks) c.as_slice.ensures) c.print_acks.ensures) c.print_end.ensures.printed

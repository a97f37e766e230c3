-- The part that is found is that of its job, and work moves none.
use Rattle.std.proofs.Common.{List, ap, sym, ◌∙◌, subst}
use Rattle.cell_base.specs.declared.requests.Part.{Part}
use Rattle.cell_base.specs.Outcomes.{is_waiting_on}
use Rattle.std.specs.Option.{option_map}
use Rattle.part_table.specs.declared.found.Found.{Found}
use Rattle.part_table.proofs.Finding.{found_of_job}
use Rattle.admission_core.specs.Occupied.{IsMarked}
use Rattle.admission_core.proofs.Marking.{marked_finished}
use Rattle.admission_core.proofs.asking.ask.Goals as goal

pub ask_to_move-requires-clause-found : goal.ask_to_move-requires-clause-found
ask_to_move-requires-clause-found c =
    found_of_job c.args.tally.now.parts.parts c.in-Move.job c.in-Some.found.part
    (sym c.find.ensures.part ∙ ap (option_map (λ (found : Found). found.part)) c.in-Some.is)

pub ask_to_unload-requires-clause-found : goal.ask_to_unload-requires-clause-found
ask_to_unload-requires-clause-found c =
    found_of_job c.args.tally.now.parts.parts c.in-Unload.job c.in-Some-find.found.part
    (sym c.find-in-Unload.ensures.part ∙ ap (option_map (λ (found : Found). found.part)) c.in-Some-find.is)

pub returns-in-Process-clause-marked : goal.returns-in-Process-clause-marked
returns-in-Process-clause-marked c =
    subst (λ (parts : List Part). IsMarked c.args.table.now parts c.args.occupied.now) (sym c.ask_to_process.ensures.finished)
    (marked_finished c.args.table.now c.args.tally.now.parts.parts c.args.occupied.now c.requires.marked
    (is_waiting_on c.args.table.now c.in-Process.machine.0))

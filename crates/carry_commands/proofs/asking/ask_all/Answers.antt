-- Every request is asked under number 0, and the record is that of what was asked.
use Rattle.std.proofs.lemmas.List.Elements.{All-weaker}
use Rattle.cell_base.specs.Fits.{RequestFits}
use Rattle.durable_cell.specs.DurableState.{DurableState}
use Rattle.cell_walks.specs.Allowed.{StandsForAdded}
use Rattle.cell_walks.specs.DiskTold.{disk_told}
use Rattle.journal_texts.specs.Recorded.{recorded_outcome}
use Rattle.journal_texts.proofs.AskedSteps.{asked_so, asked_under, same_opening}
use Rattle.record_text.specs.StartFiles.{IsPlacing}
use Rattle.carry_commands.proofs.Granting.{placing_fits}
use Rattle.carry_commands.proofs.asking.ask_all.Goals as goal

pub record_of-requires : goal.record_of-requires
record_of-requires g c =
    let cell = c.args.durable.cell in
    asked_under c.args.requests.now c.args.durable c.ask_each.new.durable c.ask_each.ensures.kept.fits
    (All-weaker (IsPlacing cell) (RequestFits cell) (placing_fits cell) c.args.requests.now c.requires.placing) c.ask_each.ensures.asked

pub returns-clause-begun : goal.returns-clause-begun
returns-clause-begun g c =
    asked_so c.args.requests.now c.args.durable c.ask_each.new.durable c.ask_each.ensures.asked
    (recorded_outcome c.record_of.result.made)
    c.record_of.ensures.recorded

pub returns-clause-stands : goal.returns-clause-stands
returns-clause-stands g c =
    let outcome = recorded_outcome c.record_of.result.made in
    same_opening c.args.requests.now c.args.durable c.ask_each.new.durable c.ask_each.ensures.asked
    (λ (durable : DurableState _). StandsForAdded
    (disk_told g.D.Disk.reads_as g.D.Disk.may_leave g.D.Disk.moment g.D.Disk.left_since g.D.Disk.faults durable.entry
    c.record_of.result.disk) durable.text durable.opening outcome.added outcome.unsure)
    (λ disk history added unsure stands. stands) c.record_of.ensures.stands

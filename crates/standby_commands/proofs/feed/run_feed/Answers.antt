-- The word is read, and then the command is driven.
use Rattle.std.specs.Prelude.{◌-◌, ◌^◌}
use Rattle.std.proofs.Common.{◌∙◌, ap, sym}
use Rattle.cell_walks.specs.DiskTold.{disk_seen}
use Rattle.cell_walks.specs.Observed.{files_seen, observed}
use Rattle.cell_walks.specs.Outcomes.{early}
use Rattle.cell_walks.specs.Walks.{refusal_of}
use Rattle.cell_walks.specs.declared.early_end.EarlyEnd.TheVariants.{Refused}
use Rattle.step_text.specs.Words.{number_of}
use Rattle.cell_texts.specs.Numbers.{number}
use Rattle.cell_driver.proofs.Driven.{untouched_by}
use Rattle.standby_commands.proofs.FeedWalk.{feed_no_number, feed_numbered}
use Rattle.standby_commands.proofs.feed.run_feed.Goals as goal

pub returns-in-Some : goal.returns-in-Some
returns-in-Some g c =
    let ends = c.drive.ensures.ends in
    record {
      outcome = ends.outcome;
      allowed = feed_numbered
          (observed (files_seen g.F.Files c.args.files.now c.drive.new.files) (disk_seen g.D.Disk c.args.disk c.drive.result.disk))
          c.args.usage.now c.args.cell.now c.args.from.now c.in-Some.first ends.outcome
          (ap (number_of 0 (2 ^ 64 - 1)) (sym c.as_bytes.ensures.value) ∙ sym c.in-Some.ensures.value) ends.allowed;
      delivered = ends.delivered;
    }

pub returns-in-None : goal.returns-in-None
returns-in-None g c = record {
  outcome = early (Refused (refusal_of (number c.args.usage.now c.args.from.now) c.args.usage.now));
  allowed = feed_no_number
      (observed (files_seen g.F.Files c.args.files.now c.args.files.now) (disk_seen g.D.Disk c.args.disk c.args.disk))
      c.args.usage.now c.args.cell.now c.args.from.now
      (ap (number_of 0 (2 ^ 64 - 1)) (sym c.as_bytes.ensures.value) ∙ sym c.in-None.ensures.value)
      (untouched_by g.D.Disk c.args.disk (g.met.D.Disk.only_now c.args.disk));
  delivered = c.print_usage.ensures;
}

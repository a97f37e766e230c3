-- The word is read, and then its shift runs.
use Rattle.std.proofs.Common.{◌∙◌, ap, sym}
use Rattle.std.specs.Prelude.{◌-◌, ◌^◌}
use Rattle.cell_walks.specs.Observed.{files_seen}
use Rattle.cell_walks.specs.Outcomes.{done, early}
use Rattle.cell_walks.specs.Walks.{refusal_of}
use Rattle.cell_walks.specs.declared.early_end.EarlyEnd.TheVariants.{Refused, WantOfMemory}
use Rattle.step_text.specs.Words.{number_of}
use Rattle.cell_texts.specs.Numbers.{number}
use Rattle.make_command.specs.Summaries.{summary_lines}
use Rattle.make_command.proofs.Making.{make_done, make_starved, make_unread}
use Rattle.make_command.proofs.make.make_of_word.Goals as goal

pub returns-in-Ok : goal.returns-in-Ok
returns-in-Ok g c = record {
  outcome = done (summary_lines c.in-Ok.summary);
  allowed = make_done (files_seen g.F.Files c.args.files.now c.args.files.now) c.args.usage.now
      c.args.number.now c.in-Some.number c.in-Ok.summary
      (ap (number_of 0 (2 ^ 64 - 1)) (sym c.as_bytes.ensures.value) ∙ sym c.in-Some.ensures.value) c.in-Ok.ensures;
  delivered = c.print_summary.ensures;
}

pub returns-in-Err : goal.returns-in-Err
returns-in-Err g c = record {
  outcome = early WantOfMemory;
  allowed = make_starved (files_seen g.F.Files c.args.files.now c.args.files.now)
      c.args.usage.now c.args.number.now;
  delivered = c.finish_early.ensures;
}

pub returns-in-None : goal.returns-in-None
returns-in-None g c = record {
  outcome = early (Refused (refusal_of (number c.args.usage.now c.args.number.now) c.args.usage.now));
  allowed = make_unread (files_seen g.F.Files c.args.files.now c.args.files.now) c.args.usage.now
      c.args.number.now (ap (number_of 0 (2 ^ 64 - 1)) (sym c.as_bytes.ensures.value) ∙ sym c.in-None.ensures.value);
  delivered = c.print_usage.ensures;
}

-- The head is printed, then the line of one more entry, and at last all sessions have ended.
use Rattle.std.proofs.Common.{ℕ, List, ◌∷◌, [], ◌++◌, ap, refl, subst, sym, ◌∙◌}
use Rattle.cell_base.specs.declared.cells.Cell.{Cell}
use Rattle.cell_base.specs.declared.requests.Part.{Part}
use Rattle.cell_base.specs.Histories.{after}
use Rattle.cell_base.specs.Rounds.{IsRoundRobin}
use Rattle.record_text.specs.Fitting.{EntryFits}
use Rattle.record_printer.specs.Blocks.{entry_line}
use Rattle.printer.proofs.Sequences.{prints_as}
use Rattle.solo_rounds.specs.Asking.{AreAsking}
use Rattle.solo_command.proofs.Printing.{one_more}
use Rattle.solo_command.proofs.Rounds.{last_fits}
use Rattle.solo_command.proofs.playing.print_rounds.Goals as goal

pub loop-entry-init : goal.loop-entry-init
loop-entry-init g c =
    let core = c.args.core.now in
    let shift = c.args.shift.now in
    record {
      cell = refl;
      ready = c.begin-rounds.ensures.ready core.cell shift c.requires.shift_fits;
      history = [];
      asking = subst (λ (parts : List Part). AreAsking shift core parts [] c.begin-rounds.result) c.requires.empty
          (c.begin-rounds.ensures.begun core shift);
      prints = prints_as (ap (λ (line : List ℕ). line ∷ []) c.head_line.ensures) c.line.ensures;
    }

pub write_entry-requires : goal.write_entry-requires
write_entry-requires g c =
    let known = c.loop-entry.invariant in
    let on = c.in-Some.ensures.cell ∙ known.cell in
    subst (λ (cell : Cell). EntryFits cell c.in-Some.entry) (sym (c.cell.ensures.cell ∙ on))
    (last_fits c.args.core.now.cell c.requires.cell_fits c.args.shift.now c.requires.shift_fits c.ask.new.core known.history
    c.in-Some.entry c.ask.new.self on (c.in-Some.ensures.asked [] known.history known.asking))

pub loop-entry-preserved : goal.loop-entry-preserved
loop-entry-preserved g c =
    let known = c.loop-entry.invariant in
    let on = c.in-Some.ensures.cell ∙ known.cell in
    record {
      cell = on;
      ready = c.in-Some.ensures.ready;
      history = known.history ++ c.in-Some.entry ∷ [];
      asking = c.in-Some.ensures.asked [] known.history known.asking;
      prints = one_more c.args.core.now.cell c.args.shift.now.number 0 known.history c.in-Some.entry
          (c.write_entry.ensures ∙ ap (λ (cell : Cell). entry_line cell c.in-Some.entry) (c.cell.ensures.cell ∙ on))
          known.prints c.line-in-Some.ensures;
    }

pub returns : goal.returns
returns g c =
    let known = c.loop-entry.invariant in
    let shift = c.args.shift.now in
    let over = c.in_default.ensures.ended [] known.history known.asking in
    record {
      history = known.history;
      rounds = subst (λ (cell : Cell). IsRoundRobin cell [] shift known.history) known.cell over.0;
      left = over.1 ∙ (λ i. record {
        cell = known.cell i;
        parts = (known.asking.underway.state ∙ ap (λ (cell : Cell). after cell [] known.history) known.cell) i;
      });
      prints = known.prints;
    }

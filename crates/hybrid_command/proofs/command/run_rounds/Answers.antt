-- The entries of a history in rounds fit, and the state after it is hybrid.
use Rattle.std.proofs.Common.{◌≡◌, [], All, refl, subst, sym, ap, ◌∙◌}
use Rattle.cell_base.specs.declared.cells.Cell.{Cell}
use Rattle.cell_base.specs.Fits.{RequestFits}
use Rattle.banker_check.specs.HybridState.{HybridState}
use Rattle.hybrid_rounds.specs.declared.entries.HybridEntry.{HybridEntry}
use Rattle.hybrid_rounds.specs.Histories.{after_h}
use Rattle.hybrid_rounds.specs.Rounds.{IsHybridRoundRobin}
use Rattle.hybrid_command.specs.Lines.{HistoryFits}
use Rattle.hybrid_command.proofs.Fitting.{history_fits, hybrid-empty, hybrid_after}
use Rattle.hybrid_command.proofs.command.run_rounds.Goals as goal

pub returns-clause-run : goal.returns-clause-run
returns-clause-run c =
    let cell = c.args.cell in
    let history = c.ask_in_rounds.new.history.items in
    let begun = c.in_ok-hybrid.ensures in
    let rounds : IsHybridRoundRobin cell [] c.args.shift.now history =
    subst (λ (state : HybridState). IsHybridRoundRobin state.cell state.parts c.args.shift.now history) begun
    c.ask_in_rounds.ensures.rounds in
    let requests : All (λ (entry : HybridEntry). RequestFits cell entry.request) history =
    subst (λ (state : HybridState). All (λ (entry : HybridEntry). RequestFits state.cell entry.request) history) begun
    c.ask_in_rounds.ensures.requests in
    record {
      on = ap (λ (state : HybridState). state.cell) c.ask_in_rounds.ensures.state ∙ ap (λ (state : HybridState). state.cell) begun;
      numbered = refl;
      rounds = rounds;
      left = ap (λ (state : HybridState). state.parts) c.ask_in_rounds.ensures.state
          ∙ ap (λ (state : HybridState). after_h state.cell state.parts history) begun;
      kept = hybrid_after cell c.requires.cell [] history (hybrid-empty cell) requests;
    }

pub returns-clause-fits : goal.returns-clause-fits
returns-clause-fits c =
    let cell = c.args.cell in
    let history = c.ask_in_rounds.new.history.items in
    let begun = c.in_ok-hybrid.ensures in
    let rounds : IsHybridRoundRobin cell [] c.args.shift.now history =
    subst (λ (state : HybridState). IsHybridRoundRobin state.cell state.parts c.args.shift.now history) begun
    c.ask_in_rounds.ensures.rounds in
    let requests : All (λ (entry : HybridEntry). RequestFits cell entry.request) history =
    subst (λ (state : HybridState). All (λ (entry : HybridEntry). RequestFits state.cell entry.request) history) begun
    c.ask_in_rounds.ensures.requests in
    let same : c.ask_in_rounds.new.hybrid.cell ≡ cell =
    ap (λ (state : HybridState). state.cell) c.ask_in_rounds.ensures.state ∙ ap (λ (state : HybridState). state.cell) begun in
    subst (λ (on : Cell). HistoryFits on history) (sym same)
    (history_fits cell c.requires.cell [] history (hybrid-empty cell) rounds.legal requests)

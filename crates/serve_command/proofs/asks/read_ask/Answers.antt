-- What the words of a line ask, it says.
use Rattle.std.proofs.Common.{subst, sym, arith}
use Rattle.serve_command.specs.Asks.{SaysAsk}
use Rattle.serve_command.specs.declared.asks.Ask.{Ask}
use Rattle.serve_command.proofs.AskTexts.{says_ask}
use Rattle.serve_command.proofs.asks.read_ask.Goals as goal

pub returns-clause-says : goal.returns-clause-says
returns-clause-says c =
    let cell = c.args.cell.now in
    let line = c.args.line.now in
    subst (λ (ask : Ask). SaysAsk cell line ask) (sym c.ask_of_words.ensures.ask) (says_ask cell line (omega arith))

-- There are several words where a text stands after the first.
use Rattle.std.proofs.Common.{sym, ◌∙◌}
use Rattle.serve_command.proofs.Asking.{several_asked}
use Rattle.serve_command.proofs.asks.ask_of_words.Goals as goal

pub returns-in-Some-clause-ask : goal.returns-in-Some-clause-ask
returns-in-Some-clause-ask c =
    c.ask_of_several.ensures.ask
    ∙ sym (several_asked (λ r. r.now) _ _ c.cut.result.1 c.cut.ensures c.in-Some.rest c.in-Some.is c.args.cell.now)

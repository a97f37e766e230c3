-- The places that have been left stay, and those behind the value close up.
use Rattle.std.proofs.Common.{◌≡◌, ◌<◌, List, drop, length, ap, subst, sym, ◌∙◌}
use Rattle.std.specs.List.{remove}
use Rattle.lists.specs.Shelves.{Shelved}
use Rattle.wait_queue.proofs.Turns.{taken-behind}
use Rattle.wait_queue.proofs.in_turn.InTurn.take.Goals as goal

pub returns-clause-items : goal.returns-clause-items
returns-clause-items g c =
    let i = c.self.inside in let at = c.args.at in
    let within : at < length (drop i.gone i.places.items) =
    subst (λ (s : Shelved g.row.T.Denot). at < length s.items) (sym c.self.view_is) c.requires in
    subst (λ (s : Shelved g.row.T.Denot). drop i.gone c.remove.new.self.items ≡ remove s.items at) c.self.view_is
    (ap (λ (xs : List g.row.T.Denot). drop i.gone xs) c.remove.ensures.items ∙ taken-behind i.places.items i.gone at within)

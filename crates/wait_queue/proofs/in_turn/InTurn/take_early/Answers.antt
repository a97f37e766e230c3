-- Those before the value are one place further on, and one place more has been left.
use Rattle.std.proofs.Common.{◌≡◌, ◌+◌, ◌<◌, List, drop, length, ap, subst, sym, ◌∙◌}
use Rattle.std.specs.List.{remove}
use Rattle.lists.specs.Shelves.{Shelved}
use Rattle.wait_queue.proofs.Turns.{moved-up}
use Rattle.wait_queue.proofs.in_turn.InTurn.take_early.Goals as goal

pub returns-else-self-clause-items : goal.returns-else-self-clause-items
returns-else-self-clause-items g c =
    let i = c.self.inside in let at = c.args.at in
    let within : at < length (drop i.gone i.places.items) =
    subst (λ (s : Shelved g.row.T.Denot). at < length s.items) (sym c.self.view_is) c.requires in
    subst (λ (s : Shelved g.row.T.Denot). drop (i.gone + 1) c.copy_within.new.self.items ≡ remove s.items at) c.self.view_is
    (ap (λ (xs : List g.row.T.Denot). drop (i.gone + 1) xs) c.copy_within.ensures.items ∙ moved-up i.places.items i.gone at within)

pub returns-then-self-clause-items : goal.returns-then-self-clause-items
returns-then-self-clause-items g c =
    let i = c.self.inside in let at = c.args.at in
    let within : at < length (drop i.gone i.places.items) =
    subst (λ (s : Shelved g.row.T.Denot). at < length s.items) (sym c.self.view_is) c.requires in
    subst (λ (s : Shelved g.row.T.Denot). c.drop_first.new.values.items ≡ remove s.items at) c.self.view_is
    (c.drop_first.ensures.items ∙ ap (λ (xs : List g.row.T.Denot). drop (i.gone + 1) xs) c.copy_within.ensures.items
    ∙ moved-up i.places.items i.gone at within)

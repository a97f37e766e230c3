-- The place of a value is as far behind those that have left as the value is behind the first.
use Rattle.std.proofs.Common.{◌≡◌, ◌+◌, drop, set, subst}
use Rattle.std.proofs.lemmas.List.{drop-set-add}
use Rattle.lists.specs.Shelves.{Shelved}
use Rattle.wait_queue.proofs.in_turn.InTurn.set.Goals as goal

pub returns-clause-items : goal.returns-clause-items
returns-clause-items g c =
    let i = c.self.inside in
    subst (λ (s : Shelved g.row.T.Denot). drop i.gone (set i.places.items (i.gone + c.args.at) c.args.value) ≡ set s.items c.args.at c.args.value)
    c.self.view_is (drop-set-add i.gone i.places.items c.args.at c.args.value)

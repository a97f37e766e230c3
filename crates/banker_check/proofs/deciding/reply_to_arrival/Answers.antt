-- The next state is ordered where it is within the units and none of its parts are stuck.
use Rattle.std.proofs.Common.{◌≡◌, true, List, ◌++◌, ◌∷◌, [], ap, sym, ◌∙◌}
use Rattle.cell_base.specs.declared.requests.Part.{Part}
use Rattle.cell_base.specs.Outcomes.{without}
use Rattle.banker_check.specs.StuckSets.{stuck}
use Rattle.banker_check.specs.Orders.{is_within_units}
use Rattle.banker_check.proofs.Tested.{in_place-granted}
use Rattle.banker_check.proofs.deciding.reply_to_arrival.Goals as goal

pub returns-then-is_within_units : goal.returns-then-is_within_units
returns-then-is_within_units c =
    let cell = c.args.table.now in
    let next : List Part = without c.args.tally.now.parts.items c.args.arrival.part.job ++ c.args.arrival.part ∷ [] in
    let within : is_within_units cell next ≡ true =
    ap (λ parts. is_within_units cell (without parts c.args.arrival.part.job ++ c.args.arrival.part ∷ []))
    (sym c.as_slice-parts.ensures.value)
    ∙ sym c.is_within_units.ensures ∙ c.if-is_within_units.true in
    let none : stuck cell next ≡ 0 =
    ap (λ parts. stuck cell (without parts c.args.arrival.part.job ++ c.args.arrival.part ∷ [])) (sym c.as_slice-parts.ensures.value)
    ∙ sym c.stuck-stuck.ensures ∙ c.if-stuck-eq0.true in
    sym (in_place-granted cell c.args.tally.now.parts.items c.args.arrival.part
    c.requires.tallied.state.distinct c.requires.tallied.state.standing c.requires.arrival.stage within none)

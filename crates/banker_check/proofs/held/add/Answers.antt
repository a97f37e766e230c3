-- One part more stands on its resource.
use Rattle.std.proofs.Common.{◌++◌, ◌∷◌, [], ◌+◌, ◌<◌, length, set, get_or, subst, sym, arith}
use Rattle.cell_base.specs.Stages.{stage_of, resource_at}
use Rattle.policy_laws.proofs.Stages.{resource_within}
use Rattle.banker_check.specs.Counts.{AreUnitsHeld}
use Rattle.banker_check.proofs.Counting.{AreHeld-push}
use Rattle.banker_check.proofs.held.add.Goals as goal

pub returns : goal.returns
returns c parts are =
    let cell = c.args.table.now in
    let counts = c.args.held.now in
    let within : resource_at cell (stage_of c.args.part) < length cell.resources = resource_within cell c.table_law.ensures
    (stage_of c.args.part) c.requires.stage in
    subst (λ r. AreUnitsHeld cell (parts ++ c.args.part ∷ []) (record {
      on = set counts.on r
          (get_or counts.on r 0 + 1);
      parts = counts.parts + 1;
    }))
    (sym c.resource_at-r.ensures.value) (AreHeld-push cell parts c.args.part counts
    (omega (arith, within, c.table_law.ensures.resource_count.1)) are)

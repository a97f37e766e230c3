-- One part more is placed, or it can't be.
use Rattle.std.proofs.Common.{◌≡◌, ◌+◌, List, [], ◌∷◌, ◌++◌, length, drop, Ok, sym, ap, ◌∙◌, subst, arith, append-nil}
use Rattle.std.specs.List.{All}
use Rattle.std.proofs.lemmas.List.{drop_all, drop_more, length-append}
use Rattle.std.proofs.lemmas.List.Elements.{All-append, All-cons, All-nil}
use Rattle.admission_core.specs.CoreState.{CoreState}
use Rattle.cell_base.specs.declared.cells.Cell.{Cell}
use Rattle.cell_base.specs.declared.requests.Part.{Part}
use Rattle.cell_base.specs.declared.requests.Request.{Request}
use Rattle.policy_laws.proofs.Units.{units_law}
use Rattle.record_text.specs.StartFiles.{IsPlacing}
use Rattle.carry_commands.specs.Carried.{carried_after}
use Rattle.carry_commands.proofs.CarriedParts.{behind, none_more, one_more}
use Rattle.carry_commands.proofs.CarryWalk.{refused_at}
use Rattle.carry_commands.proofs.carrying.place_parts.Goals as goal

pub returns-in-Err-clause-ended : goal.returns-in-Err-clause-ended
returns-in-Err-clause-ended c =
    let loop = c.loop-part in
    let old = c.args.old.now.cell in
    let parts = c.args.parts.now in
    refused_at old _ c.args.core.now.cell c.args.old.now.parts c.core_law.ensures.admitted.state.distinct _ c.at_carry_fault.result
    (loop.invariant.so_far
    ∙ ap (λ (ps : List Part). behind loop.requests (carried_after old loop.core.cell loop.core.parts ps))
    (drop_more parts loop.part-index _ (omega (arith, c.loop-part-test.true)))
    ∙ none_more old loop.core.cell loop.core.parts _ (drop (loop.part-index + 1) parts) loop.requests c.in-Err.why
    (rw c.cell.ensures.cell at c.in-Err.ensures.is))
    c.at_carry_fault.ensures (c.cell-in-Err.ensures.cell ∙ loop.invariant.cell)

pub loop-part-preserved : goal.loop-part-preserved
loop-part-preserved c =
    let loop = c.loop-part in
    let old = c.args.old.now.cell in
    let new = c.args.core.now.cell in
    let parts = c.args.parts.now in
    let request = c.in-Ok.request in
    let rest = drop (loop.part-index + 1) parts in
    let grown : c.try_push.new.self ≡ loop.requests ++ request ∷ [] = c.in-Ok-try_push.ensures.ok in
    record {
      cell = ap (λ (core : CoreState). core.cell) c.apply.ensures ∙ loop.invariant.cell;
      so_far = loop.invariant.so_far
          ∙ ap (λ (ps : List Part). behind loop.requests (carried_after old loop.core.cell loop.core.parts ps))
          (drop_more parts loop.part-index _ (omega (arith, c.loop-part-test.true)))
          ∙ one_more old loop.core.cell loop.core.parts _ rest loop.requests request (rw c.cell.ensures.cell at c.in-Ok.ensures.is)
          ∙ ap (λ (core : CoreState). behind (loop.requests ++ request ∷ []) (carried_after old core.cell core.parts rest))
          (sym c.apply.ensures)
          ∙ ap (λ (rs : List Request). behind rs (carried_after old c.apply.new.self.cell c.apply.new.self.parts rest)) (sym grown);
      placing = subst (All (IsPlacing new)) (sym grown)
          (All-append (IsPlacing new) loop.requests (request ∷ []) loop.invariant.placing
          (All-cons (IsPlacing new) request [] (subst (λ (cell : Cell). IsPlacing cell request) loop.invariant.cell c.in-Ok.ensures.placing)
          (All-nil (IsPlacing new))));
      count = omega (arith, ap (λ (rs : List Request). length rs) grown, length-append loop.requests (request ∷ []), loop.invariant.count);
      within = omega (arith, c.loop-part-test.true);
    }

pub returns-clause-carried : goal.returns-clause-carried
returns-clause-carried c =
    let loop = c.loop-part in
    let old = c.args.old.now in
    record {
      is = loop.invariant.so_far
          ∙ ap (λ (ps : List Part). behind loop.requests (carried_after old.cell loop.core.cell loop.core.parts ps))
          (drop_all loop.part-index c.args.parts.now (omega (arith, c.loop-part-test.false)))
          ∙ ap (λ (rs : List Request). Ok rs) (append-nil loop.requests);
      placing = loop.invariant.placing;
      few = omega (
        arith,
        loop.invariant.count,
        loop.invariant.within,
        ap (λ (ps : List Part). length ps) c.requires.parts,
        units_law old.cell c.core_law.ensures.fits old.parts c.core_law.ensures.admitted,
        c.core_law.ensures.fits.units,
      );
    }

-- Each round takes out what could be first; where it takes out none, all are out, or there is no order.
use Rattle.std.proofs.Common.{◌++◌, Bool, not, length, map, filter, ap, sym, subst, arith, ◌∙◌}
use Rattle.std.proofs.lemmas.Bool.{eqb-true, eqb-false}
use Rattle.std.proofs.lemmas.List.{nil_from_length}
use Rattle.cell_base.specs.declared.requests.Part.{Part}
use Rattle.banker_check.specs.HybridPlans.{goes_first}
use Rattle.banker_check.proofs.Within.{length-filter_most}
use Rattle.banker_check.proofs.TakingOut.{IsTakenOut, round_taken, all_taken, none_orders}
use Rattle.banker_check.proofs.ordering.order.Goals as goal

pub returns-then-is_empty-clause-some : goal.returns-then-is_empty-clause-some
returns-then-is_empty-clause-some c =
    all_taken c.args.table.now c.args.parts.now c.loop.jobs c.loop.left.items c.loop.invariant.0
    (nil_from_length c.loop.left.items (omega (arith, c.loop.left.ok.0, eqb-true _ _ (sym c.if-is_empty.ensures))))

pub returns-then-len-clause-none : goal.returns-then-len-clause-none
returns-then-len-clause-none c =
    let cell = c.args.table.now in
    let left = c.loop.left.items in
    let others = c.in_ok-others.ensures.others
    ∙ ap (λ parts. filter (λ part. not (goes_first cell parts part)) parts) c.as_slice.ensures.value in
    none_orders cell c.args.parts.now c.loop.jobs left c.loop.invariant.0 c.requires.distinct
    (omega (arith, ap length others, c.if-len.true, c.len.ensures, c.len-in-loop.ensures, c.in_ok-others.others.ok.0, c.loop.left.ok.0))
    (λ e. eqb-false _ _ (sym c.if-is_empty.ensures) (omega (arith, c.loop.left.ok.0, ap length e)))

pub loop-preserved : goal.loop-preserved
loop-preserved c =
    let cell = c.args.table.now in
    let left = c.loop.left.items in
    let waits : Part → Bool = λ part. not (goes_first cell left part) in
    let others = c.in_ok-others.ensures.others
    ∙ ap (λ parts. filter (λ part. not (goes_first cell parts part)) parts) c.as_slice.ensures.value in
    let jobs = c.in_ok-others.ensures.jobs
    ∙ ap (λ parts. c.loop.jobs ++ map (λ (part : Part). part.job) (filter (goes_first cell parts) parts)) c.as_slice.ensures.value in (
      subst (λ parts. IsTakenOut cell c.args.parts.now c.take_out.new.jobs parts) (sym others)
          (subst (λ jobs. IsTakenOut cell c.args.parts.now jobs (filter waits left)) (sym jobs)
          (round_taken cell c.args.parts.now c.loop.jobs left c.loop.invariant.0)),
      omega (
        arith,
        c.loop.invariant.1,
        ap length others,
        length-filter_most waits left,
        c.if-len.false,
        c.len.ensures,
        c.len-in-loop.ensures,
        c.in_ok-others.others.ok.0,
        c.loop.left.ok.0,
      ),
    )

-- One job more, with at most as much work as a route has places.
use Rattle.std.proofs.Common.{◌≡◌, ◌+◌, length, get_or, count_by, List, ap, ap₂, sym, ◌∙◌, arith}
use Rattle.std.proofs.lemmas.List.Sums.{sum_by_more}
use Rattle.cell_base.specs.declared.cells.Step.{Step}
use Rattle.policy_laws.proofs.Limits.{length-route_of}
use Rattle.cell_make.specs.Shifts.{is_work_on, work_of_type}
use Rattle.cell_make.proofs.shifts.work_of_jobs.Goals as goal

pub loop-kind-preserved : goal.loop-kind-preserved
loop-kind-preserved c =
    let cell = c.args.cell.now in
    let kinds = c.args.kinds.now in
    let i = c.loop-kind.kind-index in
    let kind = get_or kinds i (record { 0 = 0 }) in
    let kept = c.loop-kind.invariant in
    let value : c.work_on-work.result ≡ work_of_type cell c.args.machine.0 kind =
    c.work_on-work.ensures.value ∙ ap (count_by (is_work_on c.args.machine.0)) c.route_of.ensures in
    record {
      so_far =
          ap₂ ◌+◌ kept.so_far value
          ∙ sym (sum_by_more (work_of_type cell c.args.machine.0) kinds i (record { 0 = 0 }) c.loop-kind-test.true);
      few =
          omega (
            arith,
            kept.few,
            c.work_on-work.ensures.few,
            ap (λ (route : List Step). length route) c.route_of.ensures,
            length-route_of cell c.requires.fits kind.0,
          );
    }

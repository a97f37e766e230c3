-- One more value.
use Rattle.cell_base.specs.Named.{resource_names}
use Rattle.cell_file.specs.Printing.{step_data}
use Rattle.cell_file.proofs.Views.{values_more_at, values_all}
use Rattle.cell_file.proofs.values.route_value.Goals as goal

pub loop-step-preserved : goal.loop-step-preserved
loop-step-preserved c =
    let data_of = step_data (resource_names c.args.resources.now) in
    let values = c.loop-step.values.items in
    let more = c.push.new.self.items in
    let v = c.in_ok-step_value.field-0 in
    values_more_at data_of c.args.route.now c.loop-step.step-index _ values more v c.loop-step-test.true
    c.loop-step.invariant c.in_ok-push.ensures.items c.in_ok-step_value.ensures

pub returns : goal.returns
returns c =
    let data_of = step_data (resource_names c.args.resources.now) in
    let values = c.loop-step.values in
    values_all data_of c.args.route.now c.loop-step.step-index values c.loop-step-test.false c.loop-step.invariant

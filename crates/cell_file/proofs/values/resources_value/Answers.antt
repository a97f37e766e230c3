-- One more value.
use Rattle.cell_file.specs.Printing.{resource_data}
use Rattle.cell_file.proofs.Views.{values_more, values_all}
use Rattle.cell_file.proofs.values.resources_value.Goals as goal

pub loop-resource-preserved : goal.loop-resource-preserved
loop-resource-preserved c =
    let values = c.loop-resource.values.items in
    let more = c.push.new.self.items in
    let v = c.in_ok-resource_value.field-0 in
    let i = c.loop-resource.resource-index in
    let r = c.resource-item.result in
    values_more resource_data c.args.resources.now i r values more v c.loop-resource-test.true c.resource-item.is
    c.loop-resource.invariant c.in_ok-push.ensures.items c.in_ok-resource_value.ensures

pub returns : goal.returns
returns c =
    let values = c.loop-resource.values in
    values_all resource_data c.args.resources.now c.loop-resource.resource-index values c.loop-resource-test.false c.loop-resource.invariant

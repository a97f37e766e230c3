-- One more value.
use Rattle.cell_base.specs.Named.{resource_names}
use Rattle.cell_file.specs.Printing.{job_type_data}
use Rattle.cell_file.proofs.Views.{values_more, values_all}
use Rattle.cell_file.proofs.values.job_types_value.Goals as goal

pub loop-job_type-preserved : goal.loop-job_type-preserved
loop-job_type-preserved c =
    let data_of = job_type_data c.args.version (resource_names c.args.resources.now) in
    let values = c.loop-job_type.values.items in
    let more = c.push.new.self.items in
    let v = c.in_ok-job_type_value.field-0 in
    let i = c.loop-job_type.job_type-index in
    let t = c.job_type-item.result in
    values_more data_of c.args.types.now i t values more v c.loop-job_type-test.true c.job_type-item.is
    c.loop-job_type.invariant c.in_ok-push.ensures.items c.in_ok-job_type_value.ensures

pub returns : goal.returns
returns c =
    let data_of = job_type_data c.args.version (resource_names c.args.resources.now) in
    let values = c.loop-job_type.values in
    values_all data_of c.args.types.now c.loop-job_type.job_type-index values c.loop-job_type-test.false c.loop-job_type.invariant

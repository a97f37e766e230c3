-- One more value.
use Rattle.std.proofs.Common.{ap, ◌∙◌}
use Rattle.cell_file.specs.Printing.{number_data, array_data}
use Rattle.cell_file.proofs.Views.{values_more, values_all}
use Rattle.cell_file.proofs.values.next_value.Goals as goal

pub loop-numbers-preserved : goal.loop-numbers-preserved
loop-numbers-preserved c =
    let values = c.loop-numbers.values.items in
    let more = c.push.new.self.items in
    let v = c.in_ok-numbers_value.field-0 in
    let i = c.loop-numbers.numbers-index in
    let ns = c.numbers-item.result in
    let gives = c.in_ok-numbers_value.ensures ∙ ap (array_data number_data) c.as_slice.ensures in
    values_more (array_data number_data) c.args.next.now i ns values more v c.loop-numbers-test.true c.numbers-item.is
    c.loop-numbers.invariant c.in_ok-push.ensures.items gives

pub returns : goal.returns
returns c =
    let values = c.loop-numbers.values in
    let i = c.loop-numbers.numbers-index in
    values_all (array_data number_data) c.args.next.now i values c.loop-numbers-test.false c.loop-numbers.invariant

-- The document, and then the table.
use Rattle.std.proofs.Common.{Err, ap, ◌∙◌}
use Rattle.std.proofs.lemmas.Result.{err_from_is_err_and}
use Rattle.toml_walk.specs.Documents.{document_of}
use Rattle.toml_walk.proofs.Whole.{refused, walked}
use Rattle.shift_file.specs.Faults.{shift_fault}
use Rattle.shift_file.specs.Walk.{top_keys, shift_of_table, shift_of_text}
use Rattle.shift_file.proofs.reading.shift_of_text.Goals as goal

pub returns-in_err-table-clause-shift : goal.returns-in_err-table-clause-shift
unfolding shift_of_text
returns-in_err-table-clause-shift c =
    let out = err_from_is_err_and c.from_residual.result c.from_residual.ensures.1 in
    let document = document_of top_keys c.args.bytes.now in
    let result = c.from_residual.result in
    let shows = c.in_err-table.ensures.table in
    refused shift_fault (shift_of_table c.args.cell.now) document result c.in_err-table.field-0.0 shows (out.1 ∙ ap Err out.2)

pub returns-clause-shift : goal.returns-clause-shift
unfolding shift_of_text
returns-clause-shift c =
    let document = document_of top_keys c.args.bytes.now in
    let result = c.shift_of_table.result in
    let shows = c.in_ok-table.ensures.table in
    walked shift_fault (shift_of_table c.args.cell.now) document result c.in_ok-table.table shows c.shift_of_table.ensures.shift

-- The document, and then the table.
use Rattle.std.proofs.Common.{Err, ap, ◌∙◌}
use Rattle.std.proofs.lemmas.Result.{err_from_is_err_and}
use Rattle.toml_walk.specs.Documents.{document_of}
use Rattle.toml_walk.proofs.Whole.{refused, walked}
use Rattle.cell_file.specs.Faults.{cell_fault}
use Rattle.cell_file.specs.Walk.{top_keys, cell_of_table, cell_of_text}
use Rattle.cell_file.proofs.reading.cell_of_text.Goals as goal

pub returns-in_err-table-clause-cell : goal.returns-in_err-table-clause-cell
unfolding cell_of_text
returns-in_err-table-clause-cell c =
    let out = err_from_is_err_and c.from_residual.result c.from_residual.ensures.1 in
    let document = document_of top_keys c.args.bytes.now in
    let result = c.from_residual.result in
    let shows = c.in_err-table.ensures.table in
    refused cell_fault cell_of_table document result c.in_err-table.field-0.0 shows (out.1 ∙ ap Err out.2)

pub returns-clause-cell : goal.returns-clause-cell
unfolding cell_of_text
returns-clause-cell c =
    let document = document_of top_keys c.args.bytes.now in
    let result = c.cell_of_table.result in
    let shows = c.in_ok-table.ensures.table in
    walked cell_fault cell_of_table document result c.in_ok-table.table shows c.cell_of_table.ensures.cell

-- The table has the last grant, which fits.
use Rattle.std.specs.Prelude.{IfSome, None, Option}
use Rattle.std.proofs.Common.{◌≡◌, ◌<◌, ap, subst, sym, ◌∙◌}
use Rattle.std.proofs.lemmas.Option.{get_or_from_slice_get}
use Rattle.admission_core.specs.CoreState.{CoreState}
use Rattle.cell_base.specs.declared.cells.Cell.{Cell}
use Rattle.cell_base.specs.declared.requests.Request.{Request}
use Rattle.cell_base.specs.Fits.{RequestFits}
use Rattle.record_text.specs.Lines.{line_of}
use Rattle.serve_command.specs.Answers.{last_of, last_words}
use Rattle.serve_command.proofs.Counting.{last_fits}
use Rattle.serve_command.proofs.server.Server.look_back.Goals as goal

pub returns : goal.returns
returns g c = λ talk at.
    let grants = talk.granted in
    let server = c.args.self.now in
    let session = c.args.session in
    let within : session < 65536 = c.ranges.session.fits in
    let cell_is : c.cell-cell.result.now ≡ server.live.cell =
    c.cell-cell.ensures.cell ∙ ap (λ (core : CoreState). core.cell) c.core.ensures.core in
    let found : c.last_of.result ≡ last_of session grants =
    sym (get_or_from_slice_get server.counts.last session c.last_of.result None c.last_of.ensures)
    ∙ get_or_from_slice_get server.counts.last session (last_of session grants) None (at.counts.last session within) in
    let fits : IfSome c.last_of.result (RequestFits c.cell-cell.result.now) =
    subst (λ (last : Option Request). IfSome last (RequestFits c.cell-cell.result.now)) (sym found)
    (subst (λ (cell : Cell). IfSome (last_of session grants) (RequestFits cell)) (sym cell_is)
    (last_fits server.live.cell session grants at.fit)) in
    let last_is = c.fitting-last.ensures.same fits ∙ found in
    let count_is = c.of.ensures ∙ at.counts.count session within in
    c.last_line.ensures ∙ (λ i. line_of (last_words (cell_is i) session (count_is i) (last_is i)))

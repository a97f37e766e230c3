-- That one line more keeps it.
use Rattle.std.proofs.Common.{◌≡◌, List, [], ◌∷◌, ◌++◌, length, None, Some, ◌∙◌, ap, sym, arith, rules}
use Rattle.std.proofs.lemmas.List.{length-append}
use Rattle.cell_base.specs.declared.requests.Request.{Request}
use Rattle.record_text.specs.BadLines.{pieces}
use Rattle.record_text.specs.StartLines.{read_from}
use Rattle.record_text.proofs.StartLines.{read_line}
use Rattle.record_text.proofs.start.read_lines.Goals as goal

pub returns-in-None-next_request : goal.returns-in-None-next_request
returns-in-None-next_request c =
    let loop = c.loop-more in
    sym loop.invariant.read
    ∙ read_line c.args.cell.now loop.found loop.rest.now c.cut_line.result.0.now c.in-Some.more.now None
    (rw c.in-Some.is at c.cut_line.ensures.pieces) (sym c.in-None-next_request.ensures.request)
    ∙ search rules

pub loop-more-preserved : goal.loop-more-preserved
loop-more-preserved c =
    let loop = c.loop-more in
    let request = c.in-Some-next_request.request in
    let grown : c.try_push.new.self ≡ loop.found ++ request ∷ [] = c.in_ok-try_push-in-Some-next_request.ensures.ok in
    record {
      few = omega (arith, ap length grown, length-append loop.found (request ∷ []), c.in-Some-next_request.ensures.room);
      read = ap (λ (found : List Request). read_from c.args.cell.now found (pieces c.in-Some.more.now)) grown
          ∙ sym (read_line c.args.cell.now loop.found loop.rest.now c.cut_line.result.0.now c.in-Some.more.now (Some request)
          (rw c.in-Some.is at c.cut_line.ensures.pieces) (sym c.in-Some-next_request.ensures.request))
          ∙ loop.invariant.read;
    }

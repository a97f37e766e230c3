-- Each request is granted, or the writing of one fails.
use Rattle.std.proofs.Common.{◌+◌, List, ◌++◌, take, drop, inr, sym, ap, ◌∙◌, arith}
use Rattle.std.proofs.lemmas.List.{drop_more, take-append-drop, take_more}
use Rattle.cell_base.specs.declared.requests.Request.{Request}
use Rattle.journal_texts.specs.AskedSteps.{after_plan_steps}
use Rattle.carry_commands.proofs.Askings.{goes_on, halts}
use Rattle.carry_commands.proofs.asking.ask_each.Goals as goal

pub returns-in-Err-clause-asked : goal.returns-in-Err-clause-asked
returns-in-Err-clause-asked g c =
    let requests = c.args.requests.now in
    let k = c.loop-request.request-index in
    inr (halts c.args.durable.now c.loop-request.durable c.ask.new.self requests (take k requests) (drop (k + 1) requests) _
    (sym (take-append-drop k requests) ∙ ap (λ (rs : List Request). take k requests ++ rs)
    (drop_more requests k _ (omega (arith, c.loop-request-test.true))))
    c.loop-request.invariant.so_far c.requires.limit c.in-Err.field-0 c.in-Err.ensures.answer)

pub loop-request-preserved : goal.loop-request-preserved
loop-request-preserved g c =
    let requests = c.args.requests.now in
    let k = c.loop-request.request-index in
    record {
      so_far = goes_on c.args.durable.now c.loop-request.durable c.ask.new.self requests (take k requests) (drop (k + 1) requests) _
          (sym (take-append-drop k requests) ∙ ap (λ (rs : List Request). take k requests ++ rs)
          (drop_more requests k _ (omega (arith, c.loop-request-test.true))))
          c.loop-request.invariant.so_far c.requires.granted c.in-Ok.field-0 c.in-Ok.ensures.answer
          ∙ ap (after_plan_steps c.args.durable.now c.ask.new.self.disk)
          (sym (take_more requests k _ (omega (arith, c.loop-request-test.true))));
    }
